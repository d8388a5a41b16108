-- Walks one after another: a walk goes well exactly where it finds what it should, with the marks that those before it left.
use Prim.Native.Nat.{ℕ}
use mathlib.Core.Bool.{true}
use mathlib.Core.Path.{◌≡◌, sym, ap, ◌∙◌}
use mathlib.Core.List.{List, ◌++◌}
use Rattle.rules.proofs.Split.{by_cases, pick-false}
use Rattle.sound.specs.Walks.{Walked, walked, and_then}
use Rattle.decision.proofs.lists.Marks.{marks, Met, marks-append, met-append, append-met}

-- what a walk w found that went well: its entries were met for the first time, Ok holds of it and of the places' marks, and `post` are the marks after it
pub record Found {X : Type 0} (all : X → List ℕ) (Ok : List ℕ → X → Type 0) (post : List ℕ → X → List ℕ) (seen busy : List ℕ) (w : Walked) : Type 0 where
  pub it : X
  pub holds : Ok busy it
  pub fresh : Met 0 1 seen (all it)
  pub is : w ≡ walked true (marks 1 seen (all it)) (post busy it)

pub record Stage {X : Type 0} (walk : List ℕ → List ℕ → Walked) (all : X → List ℕ) (Ok : List ℕ → X → Type 0) (post : List ℕ → X → List ℕ) : Type 0 where
  pub found : (seen busy : List ℕ) → (walk seen busy).ok ≡ true → Found all Ok post seen busy (walk seen busy)
  pub well : (x : X) (seen busy : List ℕ) → Ok busy x → Met 0 1 seen (all x) → walk seen busy ≡ walked true (marks 1 seen (all x)) (post busy x)

-- a stage, with Ok and `post` said otherwise
pub stage-as : {X : Type 0} (walk : List ℕ → List ℕ → Walked) (all : X → List ℕ) (Ok Ok' : List ℕ → X → Type 0) (post post' : List ℕ → X → List ℕ)
    → ((busy : List ℕ) (x : X) → Ok busy x → Ok' busy x) → ((busy : List ℕ) (x : X) → Ok' busy x → Ok busy x)
    → ((busy : List ℕ) (x : X) → post busy x ≡ post' busy x)
    → Stage walk all Ok post → Stage walk all Ok' post'
stage-as walk all Ok Ok' post post' to from same st = record {
  found = λ seen busy h. go seen busy (st.found seen busy h);
  well = λ x seen busy o m. st.well x seen busy (from busy x o) m ∙ ap (λ (b : List ℕ). walked true (marks 1 seen (all x)) b) (same busy x);
}
  where
    go : (seen busy : List ℕ) → Found all Ok post seen busy (walk seen busy) → Found all Ok' post' seen busy (walk seen busy)
    go seen busy r = record {
      it = r.it;
      holds = to busy r.it r.holds;
      fresh = r.fresh;
      is = r.is ∙ ap (λ (b : List ℕ). walked true (marks 1 seen (all r.it)) b) (same busy r.it);
    }

pub then-on : (w : Walked) (next : List ℕ → List ℕ → Walked) (seen busy : List ℕ) → w ≡ walked true seen busy → and_then w next ≡ next seen busy
unfolding and_then walked
then-on w next seen busy e = rw e

pub then-well : (w : Walked) (next : List ℕ → List ℕ → Walked) → (and_then w next).ok ≡ true → w.ok ≡ true
unfolding and_then
then-well w next h = by_cases w.ok (λ t. t) (λ t. sym (ap (λ (u : Walked). u.ok) (pick-false w.ok (next w.seen w.busy) w t)) ∙ h)

-- two after one another
module _ {X Y : Type 0} (walk : List ℕ → List ℕ → Walked) (all : X → List ℕ) (Ok : List ℕ → X → Type 0) (post : List ℕ → X → List ℕ) (next : List ℕ → List ℕ → Walked)
    (all' : Y → List ℕ) (Ok' : List ℕ → Y → Type 0) (post' : List ℕ → Y → List ℕ) where
  abbrev all_both : X × Y → List ℕ
  all_both r = all r.0 ++ all' r.1

  abbrev OkBoth : List ℕ → X × Y → Type 0
  OkBoth busy r = Ok busy r.0 × Ok' (post busy r.0) r.1

  abbrev post_both : List ℕ → X × Y → List ℕ
  post_both busy r = post' (post busy r.0) r.1

  both_found : (seen busy : List ℕ) (w u : Walked) (a : Found all Ok post seen busy u)
      → Found all' Ok' post' (marks 1 seen (all a.it)) (post busy a.it) w → Found all_both OkBoth post_both seen busy w
  both_found seen busy w u a b = record {
    it = (a.it, b.it);
    holds = (a.holds, b.holds);
    fresh = met-append 0 1 seen (all a.it) (all' b.it) a.fresh b.fresh;
    is =
        b.is
        ∙ ap (λ (t : List ℕ). walked true t (post' (post busy a.it) b.it)) (sym (marks-append 0 1 seen (all a.it) (all' b.it)));
  }

  pair : Stage walk all Ok post → Stage next all' Ok' post' → Stage (λ seen busy. and_then (walk seen busy) next) all_both OkBoth post_both
  pair s t = record {
    found = λ seen busy h. go seen busy h (s.found seen busy (then-well (walk seen busy) next h));
    well = λ r seen busy o m. on r.0 r.1 seen busy o (append-met 0 1 seen (all r.0) (all' r.1) m);
  }
    where
      come : (seen busy : List ℕ) → (and_then (walk seen busy) next).ok ≡ true → (a : Found all Ok post seen busy (walk seen busy))
          → and_then (walk seen busy) next ≡ next (marks 1 seen (all a.it)) (post busy a.it) → Found all_both OkBoth post_both seen busy (and_then (walk seen busy) next)
      come seen busy h a e =
          rw e
          (both_found seen busy (next (marks 1 seen (all a.it)) (post busy a.it)) (walk seen busy) a
          (t.found (marks 1 seen (all a.it)) (post busy a.it) (rw e at h)))

      go : (seen busy : List ℕ) → (and_then (walk seen busy) next).ok ≡ true → Found all Ok post seen busy (walk seen busy)
          → Found all_both OkBoth post_both seen busy (and_then (walk seen busy) next)
      go seen busy h a = come seen busy h a (then-on (walk seen busy) next (marks 1 seen (all a.it)) (post busy a.it) a.is)

      on : (x : X) (y : Y) (seen busy : List ℕ) → Ok busy x × Ok' (post busy x) y → Met 0 1 seen (all x) × Met 0 1 (marks 1 seen (all x)) (all' y)
          → and_then (walk seen busy) next ≡ walked true (marks 1 seen (all x ++ all' y)) (post' (post busy x) y)
      on x y seen busy o m =
          then-on (walk seen busy) next (marks 1 seen (all x)) (post busy x) (s.well x seen busy o.0 m.0)
          ∙ (t.well y (marks 1 seen (all x)) (post busy x) o.1 m.1
          ∙ ap (λ (l : List ℕ). walked true l (post' (post busy x) y)) (sym (marks-append 0 1 seen (all x) (all' y))))

pub stage_then : {X Y : Type 0} {walk : List ℕ → List ℕ → Walked} {all : X → List ℕ} {Ok : List ℕ → X → Type 0} {post : List ℕ → X → List ℕ}
    {next : List ℕ → List ℕ → Walked} {all' : Y → List ℕ} {Ok' : List ℕ → Y → Type 0} {post' : List ℕ → Y → List ℕ}
    → Stage walk all Ok post → Stage next all' Ok' post'
    → Stage (λ seen busy. and_then (walk seen busy) next) (λ (r : X × Y). all r.0 ++ all' r.1) (λ busy r. Ok busy r.0 × Ok' (post busy r.0) r.1)
    (λ busy r. post' (post busy r.0) r.1)
stage_then {walk} {all} {Ok} {post} {next} {all'} {Ok'} {post'} = pair walk all Ok post next all' Ok' post'
