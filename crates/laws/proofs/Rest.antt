-- Each file is at rest after any run from a fresh desk: settling it again, also right after time, control and collect, changes nothing.
use mathlib.Core.Path.{◌≡◌, refl, sym, ap, ◌∙◌}
use mathlib.Core.Bool.{Bool, false, true≢false}
use mathlib.Core.List.{List, [], ◌∷◌, nil≢cons}
use mathlib.Core.Option.{Option, none, some}
use Prim.Native.Nat.{ℕ, ◌≤◌}
use native.Mathlib.Omega.{arith}
use Rattle.rules.specs.State.{Rec, Req, idle, Acc, Built}
use Rattle.rules.specs.Requests.{is_writer, writers, acc_at, capacity_of, fits, with_accs, with_queues, with_timers, with_store, alter_acc, say, behind, without, requeue, leave, finish, cancel, freed, with_buffers, request}
use Rattle.rules.specs.Settle.{Turn, still, onward, serve_reader, serve_writer, at_head, turn, settle}
use Rattle.rules.specs.Reply.{hushed}
use Rattle.rules.specs.Open.{new_file}
use Rattle.rules.specs.Time.{lessen, lapse}
use Rattle.rules.specs.Sheet.{loaded}
use Rattle.rules.specs.Desk.{Call, fresh_desk, file_of, after}
use Rattle.rules.proofs.Split.{by_cases}
use Rattle.laws.specs.Runs.{OnFile}
use Rattle.laws.specs.Changes.{Mild, Settles, Starts}
use Rattle.laws.specs.Outstanding.{req_of, waits_read, waits_write}
use Rattle.occurrences.specs.Count.{count}
use Rattle.laws.specs.Queues.{Agree}
use Rattle.laws.specs.Rest.{Resting, Rest}
use Rattle.laws.proofs.Files.{on-file}
use Rattle.laws.proofs.Stores.{recs-fetch-none}
use Rattle.laws.proofs.Accessors.{count_acc-alter, writers-with_req}
use Rattle.occurrences.proofs.Counts.{count_head}
use Rattle.laws.proofs.Queues.{agree-walks, agree-starts, agree-lapse, agree-hushed}
use Rattle.laws.proofs.Cases.{reader-cases, writer-cases, head-cases, at_head-some, turn-reader, turn-writer, turn-still}
use Rattle.laws.proofs.Settled.{reader-empty, writer-head, settled, settle_for-still}
use Rattle.laws.proofs.Walk.{lapses-rest}
use Rattle.laws.proofs.Lift.{lifted-both}

-- a file at rest makes no move

rest-still : (b : Built) → Rest b → turn b ≡ still b
rest-still b r =
    turn-still b
    (head-cases (λ m. m ≡ still b) serve_reader b.rq b (λ _. refl) (λ p l a e _. reader-empty p a a.req b (r.reads p l e)))
    (head-cases (λ m. m ≡ still b) serve_writer b.wq b (λ _. refl)
    (λ p l a e _. writer-cases (λ m. m ≡ still b) p a a.req b (λ _. refl) (λ _. refl) (λ _ _ f. absurd (true≢false (sym f ∙ r.writes p l e)))))

rest-settle : (b : Built) → Rest b → settle b ≡ b
unfolding settle
rest-settle b r = settle_for-still _ b (rest-still b r)

-- and one that makes no move is at rest

calm : (m : Turn) → m.moved ≡ false → m ≡ still m.file
unfolding still
calm m e = ap {B = Turn} (λ (v : Bool). record { file = m.file; moved = v }) e

heads-still : (b : Built) → turn b ≡ still b → (at_head serve_reader b.rq b ≡ still b) × (at_head serve_writer b.wq b ≡ still b)
unfolding still
heads-still b t = by_cases m.moved (λ k. absurd (true≢false (sym k ∙ ap (λ (n : Turn). n.moved) (sym (turn-reader b k) ∙ t)))) stays
  where
    m : Turn
    m = at_head serve_reader b.rq b

    stays : m.moved ≡ false → (m ≡ still b) × (at_head serve_writer b.wq b ≡ still b)
    stays k =
        let w : at_head serve_writer b.wq m.file ≡ still b = sym (turn-writer b k) ∙ t in
        let f : m.file ≡ b = ap (λ (n : Turn). n.file) (sym (writer-head b.wq m.file (ap (λ (n : Turn). n.moved) w)) ∙ w) in
        (calm m k ∙ ap still f, ap (λ (c : Built). at_head serve_writer b.wq c) (sym f) ∙ w)

-- the head of a queue waits in it
head-waits : (waits : Req → ℕ) → waits idle ≡ 0 → (p : ℕ) (q l : List ℕ) (o : Option Acc) → q ≡ p ∷ l → count p q ≡ waits (req_of o) → (a : Acc) × (o ≡ some a) × (1 ≤ waits a.req)
unfolding req_of
head-waits waits z p q l none e c = let h : 1 ≤ count p q = rw e (count_head p l) in absurd (omega (arith, c, z))
head-waits waits z p q l (some a) e c = let h : 1 ≤ count p q = rw e (count_head p l) in (a, refl, omega (arith, c))

still-rest : (b : Built) → Agree b → turn b ≡ still b → Rest b
unfolding acc_at
still-rest b s t = record {
  reads = λ p l e. let w = head-waits waits_read (unfold waits_read in refl) p b.rq l (acc_at b p) e (s p).reads in
      no_read p w.0 w.2 (sym (at_head-some serve_reader p l w.0 b w.1) ∙ ap (λ (q : List ℕ). at_head serve_reader q b) (sym e) ∙ (heads-still b t).0);
  writes = λ p l e. let w = head-waits waits_write (unfold waits_write in refl) p b.wq l (acc_at b p) e (s p).writes in
      no_write p w.0 w.2 (sym (at_head-some serve_writer p l w.0 b w.1) ∙ ap (λ (q : List ℕ). at_head serve_writer q b) (sym e) ∙ (heads-still b t).1);
}
  where
    moves : (c : Built) → onward c ≡ still b → ⊥
    moves c e = true≢false (unfold onward still in ap (λ (m : Turn). m.moved) e)

    no_read : (p : ℕ) (a : Acc) → 1 ≤ waits_read a.req → serve_reader p a a.req b ≡ still b → b.store.recs ≡ []
    no_read p a h = reader-cases (λ m. m ≡ still b → b.store.recs ≡ []) p a a.req b
        (λ z _ _. absurd (omega arith))
        (λ x _ g e. unfold still behind say with_store in (sym (ap (λ (m : Turn). m.file.store.recs) e) ∙ recs-fetch-none b.geo a.typed x.keep b.store g))
        (λ _ _ _ _ e. absurd (moves _ e))

    no_write : (p : ℕ) (a : Acc) → 1 ≤ waits_write a.req → serve_writer p a a.req b ≡ still b → fits b ≡ false
    no_write p a h = writer-cases (λ m. m ≡ still b → fits b ≡ false) p a a.req b (λ z _. absurd (omega arith)) (λ f _. f) (λ _ _ _ e. absurd (moves _ e))

-- a change of an accessor on its side, and a request that leaves its queue, leave the file at rest

rest-mild : (p : ℕ) (f : Acc → Acc) (b : Built) → Mild f → Rest b → Rest (alter_acc p f b)
unfolding Mild alter_acc with_accs fits writers capacity_of
rest-mild p f b h r = rw (count_acc-alter is_writer f (λ a. (h a).0) b.accs p) r

rest-freed : (p : ℕ) (b : Built) → Rest b → Rest (freed p b)
unfolding freed request with_buffers say alter_acc with_accs fits writers capacity_of
rest-freed p b r = rw (writers-with_req idle b p) r

before : (p x : ℕ) (l m : List ℕ) → without p l ≡ x ∷ m → (y : ℕ) × (k : List ℕ) × (l ≡ y ∷ k)
unfolding without
before p x [] m e = absurd (nil≢cons e)
before p x (y ∷ k) m e = (y, k, refl)

rest-leave : (p : ℕ) (q : Req) (b : Built) → Rest b → Rest (leave p q b)
unfolding leave with_timers requeue request with_buffers alter_acc with_accs with_queues fits writers capacity_of
rest-leave p q b r = record {
  reads = λ x l e. let y = before p x b.rq l e in r.reads y.0 y.1 y.2;
  writes = λ x l e. let y = before p x b.wq l e in rw (writers-with_req q b p) (r.writes y.0 y.1 y.2);
}

rest-lessen : (e : ℕ) (b : Built) → Rest b → Rest (lessen e b)
unfolding lessen with_timers fits writers capacity_of
rest-lessen e b r = r

rest-settles : Settles Agree Rest
unfolding finish cancel say fits writers capacity_of
rest-settles = record {
  rests = λ b s. still-rest (settle b) s (settled b);
  milds = rest-mild;
  finishes = λ p st q b r. rest-leave p q b r;
  cancels = λ p b r. rest-leave p idle b r;
  frees = rest-freed;
  lessens = rest-lessen;
}

-- a new file

nobody : (recs : List Rec) (fit : Bool) → Resting [] [] recs fit
nobody recs fit = record { reads = λ p l e. absurd (nil≢cons e); writes = λ p l e. absurd (nil≢cons e) }

rest-starts : Starts Rest
unfolding new_file loaded say
rest-starts = record { built = λ g _. nobody _ _; loads = λ s _. nobody _ _ }

rest-hushed : (b : Built) → Rest b → Rest (hushed b)
unfolding hushed fits writers capacity_of
rest-hushed b r = r

-- after any run
pub at_rest : (f : ℕ) (cs : List Call) → OnFile (λ b. Agree b × Rest b) (file_of (after fresh_desk cs) f)
at_rest f cs = lifted-both Agree Rest (λ n. Agree) agree-walks agree-lapse rest-settles agree-starts rest-starts (λ b s r. (agree-hushed b s, rest-hushed b r)) f cs

-- nothing can be done, and settling changes nothing
pub at-rest-still : (f : ℕ) (cs : List Call) → OnFile (λ b. (turn b ≡ still b) × (settle b ≡ b)) (file_of (after fresh_desk cs) f)
at-rest-still f cs =
    on-file (λ b. Agree b × Rest b) (λ b. (turn b ≡ still b) × (settle b ≡ b)) (λ b h. (rest-still b h.1, rest-settle b h.1)) (file_of (after fresh_desk cs) f) (at_rest f cs)

-- so time, an abort, a collection and a control do as if they settled the file

pub settle-cancel : (p : ℕ) (b : Built) → Rest b → settle (cancel p b) ≡ cancel p b
settle-cancel p b r = rest-settle (cancel p b) (rest-settles.cancels p b r)

pub settle-freed : (p : ℕ) (b : Built) → Rest b → settle (freed p b) ≡ freed p b
settle-freed p b r = rest-settle (freed p b) (rest-freed p b r)

pub settle-mild : (p : ℕ) (f : Acc → Acc) (b : Built) → Mild f → Rest b → settle (alter_acc p f b) ≡ alter_acc p f b
settle-mild p f b h r = rest-settle (alter_acc p f b) (rest-mild p f b h r)

pub settle-lapse : (e : ℕ) (b : Built) → Rest b → settle (lapse e b) ≡ lapse e b
settle-lapse e b r = rest-settle (lapse e b) (lapses-rest Agree Rest rest-settles e b r)
