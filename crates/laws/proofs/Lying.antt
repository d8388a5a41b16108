-- What lies in a file's buffers: each change of a request fills one buffer anew, and nothing else touches them.
use mathlib.Core.Path.{◌≡◌, refl, sym, subst, ◌∙◌}
use mathlib.Core.Logic.{◌⊎◌, inl, inr}
use mathlib.Core.List.{List, []}
use mathlib.Core.Bool.{true, false}
use mathlib.Core.Option.{none, some}
use Prim.Native.Nat.{ℕ, ◌*◌, ◌≤◌, ◌<◌}
use native.Mathlib.Omega.{arith}
use native.Mathlib.Decide.{dec_lt}
use lib.ListN.{length, take, replicate}
use lib.Seq.{length-sets}
use Rattle.words.specs.Word.{zeros, part}
use Rattle.words.proofs.Runs.{length-zeros, part-zeros}
use Rattle.words.proofs.Parts.{part-own, part-other}
use Rattle.rules.specs.Limits.{places, buffer_bytes}
use Rattle.rules.specs.State.{Req, idle, reading, writing, Acc, Built}
use Rattle.rules.specs.Buffers.{lies, filled, refilled}
use Rattle.rules.specs.Requests.{writers, acc_at, alter_acc, alter, with_accs, with_store, with_queues, with_timers, with_buffers, say, put_rec, behind, with_req, request, requeue, leave, finish, cancel, freed}
use Rattle.rules.specs.Reply.{hushed}
use Rattle.rules.specs.Open.{new_file, new_acc}
use Rattle.rules.specs.Time.{lessen, lapse}
use Rattle.rules.specs.Sheet.{loaded}
use Rattle.rules.specs.Desk.{Call, fresh_desk, file_of, after}
use Rattle.rules.proofs.Buffers.{length-filled, filled-start}
use Rattle.laws.specs.Runs.{OnFile}
use Rattle.laws.specs.Changes.{Ends, read_ends, write_ends, Walks, Starts}
use Rattle.laws.specs.Outstanding.{req_at}
use Rattle.laws.specs.Bounds.{Bounded}
use Rattle.laws.specs.Lying.{Buffered, Lying, OtherwiseZero}
use Rattle.laws.proofs.Files.{on-file}
use Rattle.laws.proofs.Accessors.{wait-keeps, purged-keeps}
use Rattle.laws.proofs.Outstanding.{reqs-none, ByRequests, mild-keeps, enter-keeps, vacate-keeps, reqs-each}
use Rattle.laws.proofs.Bounds.{bounds-at, bounds-lessen, bounds-hushed}
use Rattle.laws.proofs.Room.{Sound, Owed, sound-walks, sound-starts}
use Rattle.laws.proofs.Walk.{lapsed}
use Rattle.laws.proofs.Lift.{lifted}

-- what a request brings when it completes fits its buffer
pub ends-fit : {st : ℕ} {r q : Req} (words : ℕ) → Ends st r q → Bounded words r → length (lies q) ≤ buffer_bytes
unfolding Bounded lies
ends-fit words (read_ends e h n) k = omega (arith, h, k)
ends-fit words (write_ends e n) k = omega arith

-- two numbers that are not the same
beside : (i j : ℕ) → (i ≡ j → ⊥) → (i < j) ⊎ (j < i)
beside i j n = go (dec_lt i j)
  where
    go : Dec (i < j) → (i < j) ⊎ (j < i)
    go (yes h) = inl h
    go (no h) = inr (omega arith)

module _ (P : List ℕ → List ℕ → Type 0) (fill : (d : List ℕ) → length d ≤ buffer_bytes → P d (filled d)) where
  abbrev Holds : Built → Type 0
  Holds b = Buffered P b.accs b.buffers

  holds-alike : ByRequests Holds
  unfolding with_accs
  holds-alike l b _ h s = record { size = s.size; each = λ p k. rw (h p) (s.each p k) }

  -- the request at p is q now, and its buffer is filled anew
  refills : (q : Req) (p : ℕ) (a : Acc) (b : Built) → acc_at b p ≡ some a → length (lies q) ≤ buffer_bytes → Holds b → Buffered P (alter (with_req q) b.accs p) (refilled p q b.buffers)
  unfolding acc_at refilled
  refills q p a b e h s = record {
    size = length-sets b.buffers (buffer_bytes * p) (filled (lies q)) ∙ s.size;
    each = reqs-each q a b.accs p e (λ x r. x < places → P (lies r) (part buffer_bytes x (refilled p q b.buffers)))
        (λ k. subst (P (lies q)) (sym (part-own b.buffers (filled (lies q)) buffer_bytes places p s.size k (length-filled (lies q) h))) (fill (lies q) h))
        (λ x n k. subst (P (lies (req_at b.accs x))) (sym (part-other b.buffers (filled (lies q)) buffer_bytes p x (length-filled (lies q) h) (beside p x n))) (s.each x k));
  }

  -- with bounds and room, which say that what lies in a buffer fits it

  abbrev pub Lain : Built → Type 0
  Lain b = Sound b × Holds b

  abbrev pub Parting : ℕ → Built → Type 0
  Parting n b = Owed n b × Holds b

  -- where its queues and timers may have changed
  refills-end : (words st p : ℕ) (q r : Req) (a : Acc) (b : Built) → acc_at b p ≡ some a → Ends st r q → Bounded words r → Holds b → Holds (finish p st q b)
  unfolding finish leave requeue request with_buffers say with_timers with_queues alter_acc with_accs
  refills-end words st p q r a b e k h s = refills q p a b e (ends-fit words k h) s

  lain-walks : Walks Lain Parting
  unfolding finish cancel freed leave requeue request with_buffers say with_timers with_queues with_store alter_acc with_accs behind put_rec new_acc lies
  lain-walks = record {
    mild = λ p f b m s. (sound-walks.mild p f b m s.0, mild-keeps Holds holds-alike p f b m s.1);
    finishes = λ p st q a r b e i k s. (sound-walks.finishes p st q a r b e i k s.0, refills-end b.geo.words st p q r a b e k (bounds-at p a r b e i s.0.0) s.1);
    cancels = λ p a b e i s. (sound-walks.cancels p a b e i s.0, refills idle p a b e (omega arith) s.1);
    read_waits = λ p n q a b e i w h s. (sound-walks.read_waits p n q a b e i w h s.0, wait-keeps Holds false p n _ b (λ _ _ _ _. refills (reading q) p a b e (omega arith) s.1));
    write_waits = λ p n q a b e i w h s. (sound-walks.write_waits p n q a b e i w h s.0, wait-keeps Holds true p n _ b (λ _ _ _ _. refills (writing q) p a b e (omega (arith, h, s.0.1.geo.words-high)) s.1));
    frees = λ p a b e i s. (sound-walks.frees p a b e i s.0, refills idle p a b e (omega arith) s.1);
    fetches = λ p typed keep b s. (sound-walks.fetches p typed keep b s.0, s.1);
    writes = λ p a d b e w l f s. (sound-walks.writes p a d b e w l f s.0, s.1);
    serves = λ p a q b e i f s. (sound-walks.serves p a q b e i f s.0, s.1);
    enters = λ k b s. (sound-walks.enters k b s.0, enter-keeps Holds holds-alike _ b refl s.1);
    joins = λ access n k b h e s. (sound-walks.joins access n k b h e s.0, enter-keeps Holds holds-alike _ _ refl (purged-keeps Holds access b (λ _. s.1) s.1));
    leaves = λ p a b e i w s. (sound-walks.leaves p a b e i w s.0, vacate-keeps Holds holds-alike p a b e i s.1);
    parts = λ p a b e i w s. (sound-walks.parts p a b e i w s.0, vacate-keeps Holds holds-alike p a b e i s.1);
    endings = λ n p st q a r b e i k s. (sound-walks.endings n p st q a r b e i k s.0, refills-end b.geo.words st p q r a b e k (bounds-at p a r b e i s.0.0) s.1);
    closes = λ n b s. (sound-walks.closes n b s.0, s.1);
  }

  -- the eight buffers of a new file are zero
  holds-new : Buffered P (replicate places none) (zeros (places * buffer_bytes))
  unfolding filled lies
  holds-new = record {
    size = length-zeros (places * buffer_bytes);
    each = λ p k. rw (reqs-none p) (subst (P []) (sym (part-zeros buffer_bytes (buffer_bytes * p) (places * buffer_bytes) (omega arith))) (fill [] (omega arith)));
  }

  lain-starts : Starts Lain
  unfolding new_file loaded say
  lain-starts = record { built = λ g k. (sound-starts.built g k, holds-new); loads = λ s k. (sound-starts.loads s k, holds-new) }

  lain-lapse : (e : ℕ) (b : Built) → Lain b → Lain (lapse e b)
  lain-lapse = lapsed Lain Parting lain-walks (λ e b s. ((bounds-lessen e b s.0.0, unfold lessen with_timers writers in s.0.1), unfold lessen with_timers in s.1))

  lain-hushed : (b : Built) → Lain b → Lain (hushed b)
  lain-hushed b s = ((bounds-hushed b s.0.0, unfold hushed writers in s.0.1), unfold hushed in s.1)

  lain : (f : ℕ) (cs : List Call) → OnFile Holds (file_of (after fresh_desk cs) f)
  lain f cs = on-file Lain Holds (λ b s. s.1) (file_of (after fresh_desk cs) f) (lifted Lain Parting lain-walks lain-lapse lain-starts lain-hushed f cs)

-- what a request says lies in its buffer does lie there

abbrev AtStart : List ℕ → List ℕ → Type 0
AtStart d xs = take (length d) xs ≡ d

starts : (d : List ℕ) → length d ≤ buffer_bytes → AtStart d (filled d)
starts d h = filled-start d

pub lying-walks : Walks (λ b. Sound b × Lying b) (λ n b. Owed n b × Lying b)
lying-walks = lain-walks AtStart starts

pub lying-starts : Starts (λ b. Sound b × Lying b)
lying-starts = lain-starts AtStart starts

pub lying-lapse : (e : ℕ) (b : Built) → Sound b × Lying b → Sound (lapse e b) × Lying (lapse e b)
lying-lapse = lain-lapse AtStart starts

pub lying-hushed : (b : Built) → Sound b × Lying b → Sound (hushed b) × Lying (hushed b)
lying-hushed = lain-hushed AtStart starts

pub lying : (f : ℕ) (cs : List Call) → OnFile Lying (file_of (after fresh_desk cs) f)
lying = lain AtStart starts

-- "A completed read's record, or a waiting write's data, lies at the start of the accessor's buffer, which is otherwise zero."
pub otherwise-zero : (f : ℕ) (cs : List Call) → OnFile OtherwiseZero (file_of (after fresh_desk cs) f)
otherwise-zero = lain (λ d xs. xs ≡ filled d) (λ d h. refl)
