-- W, the number of open writers: no turn changes it, and none lets a writer begin to wait.
use Prim.Native.Nat.{ℕ, zero, suc, ◌*◌, ◌≤◌, ◌<◌}
use mathlib.Core.Path.{◌≡◌, refl, sym, ap, ◌∙◌, subst}
use mathlib.Core.Bool.{Bool, true, cond}
use mathlib.Core.List.{List, [], ◌∷◌}
use native.Mathlib.Omega.{arith}
use lib.Dec.{eqb}
use Rattle.occurrences.proofs.Counts.{bit_le}
use Rattle.rules.specs.Limits.{places}
use Rattle.rules.specs.State.{Rec, Req, Built}
use Rattle.rules.specs.Store.{Found}
use Rattle.rules.specs.Requests.{is_writer, writers, acc_at, with_store, with_accs, with_queues, with_timers, alter_acc, say, put_rec, behind, without, requeue, leave, finish, with_buffers, request}
use Rattle.rules.specs.Settle.{Turn, still, onward, serve_reader, serve_writer, at_head}
use Rattle.laws.specs.Queues.{Agree}
use Rattle.laws.specs.Sides.{Sides, Fitting}
use Rattle.laws.proofs.Accessors.{writers-with_req, count_acc-vacate}
use Rattle.laws.proofs.Cases.{reader-cases, writer-cases, head-cases}
use Rattle.segment.specs.Fields.{place_at}
use Rattle.accessors.specs.Sides.{count_side, sides_from}
use Rattle.accessors.proofs.Counted.{count-writers}
use Rattle.memory.specs.Memories.{Memories}
use Rattle.midst.specs.declared.File as hand
use Rattle.midst.specs.Mid.{Start, Mid}
use Rattle.midst.proofs.Begins.{mid_row}
use Rattle.midst.proofs.Heads.{writes_at, head-none, head-some}
use Rattle.settling.specs.Turns.{Beside, Counts}

-- at most n of n places have the given side
sides-most : (xs : List ℕ) (side i n : ℕ) → sides_from xs side i n ≤ n
unfolding sides_from
sides-most xs side i zero = omega arith
sides-most xs side i (suc n) = omega (arith, bit_le (eqb (place_at xs i).side side), sides-most xs side (suc i) n)

pub count_most : (xs : List ℕ) (f side : ℕ) → count_side xs f side ≤ places
count_most xs f side = sides-most xs side (places * f) places

-- the rules' turns

abbrev Kept : Built → Built → Type 0
Kept b c = (writers c ≡ writers b) × (b.wq ≡ [] → c.wq ≡ [])

kept_same : (b : Built) → Kept b b
kept_same b = (refl, λ e. e)

kept-behind : (p : ℕ) (f : Found) (b : Built) → Kept b (behind p f b)
unfolding behind say with_store writers
kept-behind p f b = (refl, λ e. e)

kept_put : (r : Rec) (b : Built) → Kept b (put_rec r b)
unfolding put_rec say with_store writers
kept_put r b = (refl, λ e. e)

kept-finish : (p st : ℕ) (q : Req) (b : Built) → Kept b (finish p st q b)
unfolding finish leave say with_timers requeue request with_buffers alter_acc with_accs with_queues writers without
kept-finish p st q b = (writers-with_req q b p, λ e. ap (without p) e)

kept_on : (b c d : Built) → Kept b c → Kept c d → Kept b d
kept_on b c d k l = (l.0 ∙ k.0, λ e. l.1 (k.1 e))

pub kept-reader : (b : Built) → Kept b (at_head serve_reader b.rq b).file
unfolding still onward
kept-reader b =
    head-cases (λ (m : Turn). Kept b m.file) serve_reader b.rq b (λ _. kept_same b)
    (λ p _ a _ _. reader-cases (λ (m : Turn). Kept b m.file) p a a.req b (λ _ _. kept_same b) (λ _ _ _. kept-behind p _ b)
    (λ _ _ _ _. kept_on b _ _ (kept-behind p _ b) (kept-finish p 0 _ _)))

pub kept_writer : (b : Built) → Kept b (at_head serve_writer b.wq b).file
unfolding still onward
kept_writer b =
    head-cases (λ (m : Turn). Kept b m.file) serve_writer b.wq b (λ _. kept_same b)
    (λ p _ a _ _. writer-cases (λ (m : Turn). Kept b m.file) p a a.req b (λ _. kept_same b) (λ _. kept_same b)
    (λ _ _ _. kept_on b _ _ (kept_put _ b) (kept-finish p 0 _ _)))

-- as the segment has it

module _ {I : Built → Type 0} {f : ℕ} {o : Start} {m : Memories} {x : hand.File} {b : Built} (M : Mid I f o m x b) where
  pub mid-writers : count_side m.segment f 2 ≡ writers b
  mid-writers = count-writers m.segment f b M.allots.matches.agrees.eight (mid_row M)

  -- a writer that waits is open
  pub mid-counts : Agree b → Sides b → Counts f m.segment
  unfolding Fitting is_writer writers acc_at
  mid-counts A S h = go b.wq refl
    where
      go : (l : List ℕ) → b.wq ≡ l → 0 < count_side m.segment f 2
      go [] e = absurd (omega (arith, head-none M true e))
      go (p ∷ rest) e =
          let (a, w, at, asks) = writes_at b p rest A e in
          let is : a.writer ≡ true = subst (Fitting a.writer) asks (S p a at).request in
          omega (arith, mid-writers, count_acc-vacate is_writer a b.accs p at, ap (λ (t : Bool). cond {A = ℕ} t 1 0) is)

module _ {I J : Built → Type 0} {f : ℕ} {o : Start} {m m' : Memories} {x x' : hand.File} {b c : Built}
    (M : Mid I f o m x b) (N : Mid J f o m' x' c) where
  pub beside-on : {w : ℕ} → Kept b c → Beside w f m.segment → Beside w f m'.segment
  beside-on {w} k B h = go b.wq refl
    where
      go : (l : List ℕ) → b.wq ≡ l → w ≡ count_side m'.segment f 2
      go [] e = absurd (omega (arith, head-none N true (k.1 e)))
      go (p ∷ rest) e = B (head-some M true p rest e).0 ∙ mid-writers M ∙ sym k.0 ∙ sym (mid-writers N)
