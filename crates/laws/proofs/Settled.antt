-- Settling ends by itself: as many turns as requests wait are enough, and after them nothing can be done.
use mathlib.Core.Path.{◌≡◌, refl, sym, ap, ap₂, ◌∙◌}
use mathlib.Core.Bool.{true, false, true≢false}
use mathlib.Core.List.{List, [], ◌∷◌, append-nil}
use mathlib.Core.Option.{none, some, some-ne-none}
use Prim.Native.Nat.{ℕ, zero, suc, ◌+◌, ◌≤◌, ◌<◌}
use native.Mathlib.Omega.{arith}
use native.Mathlib.Nat.{suc-add}
use lib.ListN.{length}
use Rattle.rules.specs.State.{Req, Acc, Hap, Built}
use Rattle.rules.specs.Store.{Found}
use Rattle.rules.specs.Requests.{acc_at, with_store, with_accs, with_timers, with_queues, alter_acc, say, put_rec, took_by, behind, without, requeue, leave, finish, with_buffers, request}
use Rattle.rules.specs.Settle.{Turn, still, onward, serve_reader, serve_writer, at_head, turn, settle_for, settle}
use Rattle.rules.proofs.Split.{by_cases, both, pick_true, pick-false}
use Rattle.occurrences.specs.Count.{count}
use Rattle.laws.proofs.Stores.{fetch-empty, recs-fetch-none}
use Rattle.occurrences.proofs.Counts.{count_head}
use Rattle.laws.proofs.Counts.{length_without}
use Rattle.laws.proofs.Cases.{reader-cases, writer-cases, head-cases, at_head-some, turn-reader, turn-writer, turn-still}

-- how many requests wait
abbrev pub many : Built → ℕ
many b = length b.rq + length b.wq

-- a turn that moves serves one of them

abbrev pub Shrunk : Built → Turn → Type 0
Shrunk b m = m.moved ≡ true → many m.file < many b

shrunk-still : (b c : Built) → Shrunk b (still c)
unfolding still
shrunk-still b c e = absurd (true≢false (sym e))

-- who was served was in a queue, and has left it
shrunk-left : (p : ℕ) (b c : Built) → c.rq ≡ without p b.rq → c.wq ≡ without p b.wq → 1 ≤ count p b.rq + count p b.wq → Shrunk b (onward c)
unfolding onward
shrunk-left p b c r w h _ = omega (arith, ap length r, ap length w, length_without p b.rq, length_without p b.wq)

shrunk-reader : (p : ℕ) (a : Acc) (q : Req) (b : Built) → 1 ≤ count p b.rq → Shrunk b (serve_reader p a q b)
unfolding finish say leave with_timers requeue request with_buffers alter_acc with_accs with_queues behind with_store
shrunk-reader p a q b h = reader-cases (Shrunk b) p a q b (λ _ _. shrunk-still b b) (λ _ _ _. shrunk-still b _) (λ _ _ _ _. shrunk-left p b _ refl refl (omega arith))

shrunk-writer : (p : ℕ) (a : Acc) (q : Req) (b : Built) → 1 ≤ count p b.wq → Shrunk b (serve_writer p a q b)
unfolding finish say leave with_timers requeue request with_buffers alter_acc with_accs with_queues put_rec with_store
shrunk-writer p a q b h = writer-cases (Shrunk b) p a q b (λ _. shrunk-still b b) (λ _. shrunk-still b b) (λ _ _ _. shrunk-left p b _ refl refl (omega arith))

shrunk-head : (serve : ℕ → Acc → Req → Built → Turn) (l : List ℕ) (b : Built) → ((p : ℕ) (a : Acc) → 1 ≤ count p l → Shrunk b (serve p a a.req b)) → Shrunk b (at_head serve l b)
shrunk-head serve l b h = head-cases (Shrunk b) serve l b (λ _. shrunk-still b b) (λ p rest a e _. h p a (rw e (count_head p rest)))

-- a turn that does not move: open and close records at the head may have gone, and a second one changes nothing

behind-nothing : (p : ℕ) (b : Built) → behind p (record { store = b.store; got = none; went = []; took = none }) b ≡ b
unfolding behind took_by say with_store
behind-nothing p b = ap {B = Built} (λ (l : List Hap). record { geo = b.geo; store = b.store; accs = b.accs; buffers = b.buffers; rq = b.rq; wq = b.wq; timers = b.timers; past = l }) (append-nil b.past)

pub reader-empty : (p : ℕ) (a : Acc) (q : Req) (b : Built) → b.store.recs ≡ [] → serve_reader p a q b ≡ still b
reader-empty p a q b e =
    reader-cases (λ m. m ≡ still b) p a q b (λ _ _. refl)
    (λ x _ _. ap still (ap (λ (f : Found). behind p f b) (fetch-empty b.geo a.typed x.keep b.store e) ∙ behind-nothing p b))
    (λ x r _ g. absurd (some-ne-none r (sym g ∙ ap (λ (f : Found). f.got) (fetch-empty b.geo a.typed x.keep b.store e))))

-- what the first reader's turn leaves
pub record Stays (l : List ℕ) (b c : Built) : Type 0 where
  pub rq : c.rq ≡ b.rq
  pub wq : c.wq ≡ b.wq
  pub again : at_head serve_reader l c ≡ still c

reader-stays : (p : ℕ) (l : List ℕ) (a : Acc) (b : Built) → acc_at b p ≡ some a → (serve_reader p a a.req b).moved ≡ false → Stays (p ∷ l) b (serve_reader p a a.req b).file
reader-stays p l a b e = reader-cases (λ m. m.moved ≡ false → Stays (p ∷ l) b m.file) p a a.req b
    (λ _ s _. unfold still in record { rq = refl; wq = refl; again = at_head-some serve_reader p l a b e ∙ s })
    (λ x _ g _. unfold still behind say with_store acc_at in record {
      rq = refl;
      wq = refl;
      again = at_head-some serve_reader p l a _ e ∙ reader-empty p a a.req _ (recs-fetch-none b.geo a.typed x.keep b.store g);
    })
    (λ _ _ _ _ m. absurd (true≢false (unfold onward in m)))

pub reader-head : (l : List ℕ) (b : Built) → (at_head serve_reader l b).moved ≡ false → Stays l b (at_head serve_reader l b).file
reader-head l b =
    head-cases (λ m. m.moved ≡ false → Stays l b m.file) serve_reader l b (λ s _. unfold still in record { rq = refl; wq = refl; again = s })
    (λ p rest a q e m. rw q (reader-stays p rest a b e m))

pub writer-head : (l : List ℕ) (b : Built) → (at_head serve_writer l b).moved ≡ false → at_head serve_writer l b ≡ still b
writer-head l b =
    head-cases (λ m. m.moved ≡ false → m ≡ still b) serve_writer l b (λ _ _. refl)
    (λ p rest a _ _. writer-cases (λ m. m.moved ≡ false → m ≡ still b) p a a.req b (λ _ _. refl) (λ _ _. refl) (λ _ _ _ m. absurd (true≢false (unfold onward in m))))

pub shrunk-turn : (b : Built) → Shrunk b (turn b)
shrunk-turn b = by_cases m.moved (λ e. rw (turn-reader b e) first) (λ e. rw (turn-writer b e) (second e))
  where
    m : Turn
    m = at_head serve_reader b.rq b

    first : Shrunk b m
    first = shrunk-head serve_reader b.rq b (λ p a h. shrunk-reader p a a.req b h)

    second : m.moved ≡ false → Shrunk b (at_head serve_writer b.wq m.file)
    second e =
        let s = reader-head b.rq b e in
        let h : Shrunk m.file (at_head serve_writer b.wq m.file) = shrunk-head serve_writer b.wq m.file (λ p a c. shrunk-writer p a a.req m.file (rw s.wq c)) in
        let z : many m.file ≡ many b = ap₂ {C = ℕ} (λ (l r : List ℕ). length l + length r) s.rq s.wq in
        λ t. omega (arith, z, h t)

turn-again : (b : Built) → (turn b).moved ≡ false → turn (turn b).file ≡ still (turn b).file
unfolding still
turn-again b e = by_cases m.moved (λ k. absurd (true≢false (sym k ∙ ap (λ (n : Turn). n.moved) (sym (turn-reader b k)) ∙ e))) stays
  where
    m : Turn
    m = at_head serve_reader b.rq b

    stays : m.moved ≡ false → turn (turn b).file ≡ still (turn b).file
    stays k =
        let s = reader-head b.rq b k in
        let w : at_head serve_writer b.wq m.file ≡ still m.file = writer-head b.wq m.file (ap (λ (n : Turn). n.moved) (sym (turn-writer b k)) ∙ e) in
        let f : (turn b).file ≡ m.file = ap (λ (n : Turn). n.file) (turn-writer b k ∙ w) in
        rw f (turn-still m.file (rw s.rq s.again) (rw s.wq w))

-- settling

pub idle-turn : (b : Built) → many b ≤ 0 → turn b ≡ still b
idle-turn b h = turn-still b (nobody serve_reader b.rq (omega arith)) (nobody serve_writer b.wq (omega arith))
  where
    nobody : (serve : ℕ → Acc → Req → Built → Turn) (l : List ℕ) → length l ≤ 0 → at_head serve l b ≡ still b
    nobody serve [] h = unfold at_head in refl
    nobody serve (p ∷ l) h = absurd (omega arith)

settle_for-enough : (n : ℕ) (b : Built) → many b ≤ n → turn (settle_for n b) ≡ still (settle_for n b)
unfolding settle_for
settle_for-enough zero b h = idle-turn b h
settle_for-enough (suc n) b h =
    both (λ (c : Built). turn c ≡ still c) (turn b).moved
    (λ e. settle_for-enough n (turn b).file (omega (arith, shrunk-turn b e)))
    (λ e. turn-again b e)

-- nothing is left that could be done
pub settled : (b : Built) → turn (settle b) ≡ still (settle b)
unfolding settle
settled b = settle_for-enough _ b (omega arith)

pub settle_for-still : (n : ℕ) (b : Built) → turn b ≡ still b → settle_for n b ≡ b
unfolding settle_for still
settle_for-still zero b e = refl
settle_for-still (suc n) b e = pick-false (turn b).moved _ _ (ap (λ (m : Turn). m.moved) e) ∙ ap (λ (m : Turn). m.file) e

-- more turns change nothing
settle_for-more : (n k : ℕ) (b : Built) → many b ≤ n → settle_for (n + k) b ≡ settle_for n b
settle_for-more zero k b h = let t = idle-turn b h in settle_for-still (0 + k) b t ∙ sym (settle_for-still 0 b t)
settle_for-more (suc n) k b h = rw (suc-add n k) (by_cases (turn b).moved
    (λ e. step (n + k) e ∙ settle_for-more n k (turn b).file (omega (arith, shrunk-turn b e)) ∙ sym (step n e))
    (λ e. stop (n + k) e ∙ sym (stop n e)))
  where
    step : (i : ℕ) → (turn b).moved ≡ true → settle_for (suc i) b ≡ settle_for i (turn b).file
    step i e = unfold settle_for in pick_true (turn b).moved _ _ e

    stop : (i : ℕ) → (turn b).moved ≡ false → settle_for (suc i) b ≡ (turn b).file
    stop i e = unfold settle_for in pick-false (turn b).moved _ _ e

pub settle-more : (k : ℕ) (b : Built) → settle_for (length b.rq + length b.wq + k) b ≡ settle b
unfolding settle
settle-more k b = settle_for-more (length b.rq + length b.wq) k b (omega arith)
