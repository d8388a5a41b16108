-- The walks of lists that lie one after the other.
use Prim.Native.Nat.{ℕ, zero, suc, ◌+◌, ◌<◌}
use mathlib.Core.Bool.{true}
use mathlib.Core.Path.{◌≡◌, refl, ap, ◌∙◌}
use mathlib.Core.List.{List, [], ◌∷◌, ◌++◌}
use native.Mathlib.Omega.{arith}
use lib.ListN.{length, get_or}
use Rattle.sound.specs.Walks.{Walked, walked, and_then}
use Rattle.decision.proofs.lists.Flat.{flat}
use Rattle.decision.proofs.lists.Marks.{marks, Met}
use Rattle.decision.proofs.lists.Stage.{Found, Stage, stage_then}

-- what holds of each list, by its number, starting at j
unfoldable pub Lists : (ℕ → List ℕ → Type 0) → ℕ → List (List ℕ) → Type 0
Lists P j [] = Unit {0}
Lists P j (xs ∷ ls) = P j xs × Lists P (suc j) ls

lists-from : (P : ℕ → List ℕ → Type 0) (j : ℕ) (ls : List (List ℕ)) → Lists P j ls → (l : ℕ) → l < length ls → P (j + l) (get_or ls l [])
unfolding Lists
lists-from P j [] a l h = absurd (omega arith)
lists-from P j (xs ∷ ls) a zero h = let e : j + 0 ≡ j = omega arith in rw e a.0
lists-from P j (xs ∷ ls) a (suc l) h = let e : j + suc l ≡ suc j + l = omega arith in rw e (lists-from P (suc j) ls a.1 l (omega arith))

from-lists : (P : ℕ → List ℕ → Type 0) (j : ℕ) (ls : List (List ℕ)) → ((l : ℕ) → l < length ls → P (j + l) (get_or ls l [])) → Lists P j ls
unfolding Lists
from-lists P j [] f = tt
from-lists P j (xs ∷ ls) f =
    let e : j + 0 ≡ j = omega arith in
    (rw e at (f 0 (omega arith)), from-lists P (suc j) ls (λ l h. let d : suc j + l ≡ j + suc l = omega arith in rw d (f (suc l) (omega arith))))

-- what holds of n lists, starting at the first
module _ (P : ℕ → List ℕ → Type 0) (n : ℕ) (ls : List (List ℕ)) (size : length ls ≡ n) where
  pub lists_at : Lists P 0 ls → (l : ℕ) → l < n → P l (get_or ls l [])
  lists_at a l h = let e : 0 + l ≡ l = omega arith in rw e at (lists-from P 0 ls a l (rw size h))

  pub at-lists : ((l : ℕ) → l < n → P l (get_or ls l [])) → Lists P 0 ls
  at-lists f = from-lists P 0 ls (λ l h. let e : 0 + l ≡ l = omega arith in rw e (f l (rw size at h)))

-- the lists starting at list j: Ok j of list j with the marks before it, `post j` the marks after it
module _ (Ok : ℕ → List ℕ → List ℕ → Type 0) (post : ℕ → List ℕ → List ℕ → List ℕ) where
  unfoldable pub OkRow : ℕ → List ℕ → List (List ℕ) → Type 0
  OkRow j busy [] = Unit {0}
  OkRow j busy (xs ∷ ls) = Ok j busy xs × OkRow (suc j) (post j busy xs) ls

  unfoldable pub post_row : ℕ → List ℕ → List (List ℕ) → List ℕ
  post_row j busy [] = busy
  post_row j busy (xs ∷ ls) = post_row (suc j) (post j busy xs) ls

  -- n of them
  abbrev pub OkLists : ℕ → ℕ → List ℕ → List (List ℕ) → Type 0
  OkLists n j busy ls = (length ls ≡ n) × OkRow j busy ls

  module _ (walk : ℕ → List ℕ → List ℕ → Walked) (stages : (j : ℕ) → Stage (walk j) (λ xs. xs) (Ok j) (post j)) (W : ℕ → List ℕ → List ℕ → ℕ → Walked)
      (none : (j : ℕ) (seen busy : List ℕ) → W j seen busy 0 ≡ walked true seen busy)
      (turn : (j : ℕ) (seen busy : List ℕ) (n : ℕ) → W j seen busy (suc n) ≡ and_then (walk j seen busy) (λ seen' busy'. W (suc j) seen' busy' n)) where
    row-none : (j : ℕ) → Stage (λ seen busy. W j seen busy 0) flat (OkLists 0 j) (post_row j)
    unfolding flat OkRow post_row marks Met
    row-none j = record { found = λ seen busy h. record { it = []; holds = (refl, tt); fresh = tt; is = none j seen busy }; well = go }
      where
        go : (ls : List (List ℕ)) (seen busy : List ℕ) → OkLists 0 j busy ls → Met 0 1 seen (flat ls) → W j seen busy 0 ≡ walked true (marks 1 seen (flat ls)) (post_row j busy ls)
        go [] seen busy o m = none j seen busy
        go (xs ∷ ls) seen busy o m = absurd (omega (arith, o.0))

    abbrev OkCons : ℕ → ℕ → List ℕ → List ℕ × List (List ℕ) → Type 0
    OkCons n j busy r = Ok j busy r.0 × OkLists n (suc j) (post j busy r.0) r.1

    abbrev post_cons : ℕ → List ℕ → List ℕ × List (List ℕ) → List ℕ
    post_cons j busy r = post_row (suc j) (post j busy r.0) r.1

    row_cons : (n j : ℕ) → Stage (λ seen busy. and_then (walk j seen busy) (λ seen' busy'. W (suc j) seen' busy' n)) (λ r. r.0 ++ flat r.1) (OkCons n j) (post_cons j)
        → Stage (λ seen busy. W j seen busy (suc n)) flat (OkLists (suc n) j) (post_row j)
    unfolding flat OkRow post_row
    row_cons n j st = record { found = λ seen busy h. rw (turn j seen busy n) (cons seen busy (st.found seen busy (rw (turn j seen busy n) at h))); well = on }
      where
        both : List ℕ → List ℕ → Walked
        both seen busy = and_then (walk j seen busy) (λ seen' busy'. W (suc j) seen' busy' n)

        cons : (seen busy : List ℕ) → Found (λ r. r.0 ++ flat r.1) (OkCons n j) (post_cons j) seen busy (both seen busy)
            → Found flat (OkLists (suc n) j) (post_row j) seen busy (both seen busy)
        cons seen busy r = record {
          it = r.it.0 ∷ r.it.1;
          holds = (ap suc r.holds.1.0, (r.holds.0, r.holds.1.1));
          fresh = r.fresh;
          is = r.is;
        }

        on : (ls : List (List ℕ)) (seen busy : List ℕ) → OkLists (suc n) j busy ls → Met 0 1 seen (flat ls) → W j seen busy (suc n) ≡ walked true (marks 1 seen (flat ls)) (post_row j busy ls)
        on [] seen busy o m = absurd (omega (arith, o.0))
        on (xs ∷ ls) seen busy o m = turn j seen busy n ∙ st.well (xs, ls) seen busy (o.1.0, (omega (arith, o.0), o.1.1)) m

    pub stage-row : (n j : ℕ) → Stage (λ seen busy. W j seen busy n) flat (OkLists n j) (post_row j)
    stage-row zero j = row-none j
    stage-row (suc n) j =
        row_cons n j
        (stage_then (stages j) (stage-row n (suc j)))
