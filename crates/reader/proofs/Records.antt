-- Laws of the frames that are a sheet's records.
use Prim.Native.Nat.{ℕ, zero, suc, ◌-◌, ◌≤◌, ◌<◌}
use mathlib.Core.Bool.{Bool, true, false, ◌&&◌}
use mathlib.Core.List.{List, [], ◌∷◌}
use mathlib.Core.Path.{◌≡◌, refl, sym, ap, ◌∙◌}
use native.Mathlib.Omega.{arith}
use lib.Dec.{leb, eqb}
use lib.ListN.{length}
use borrow.Author.Tests.{leb-true}
use Rattle.words.specs.Word.{word_at}
use Rattle.rules.specs.Limits.{most_type}
use Rattle.rules.specs.Sheet.{good_rec, rec_of}
use Rattle.rules.proofs.Split.{pick_true, pick-false, pass-true, and-true}
use Rattle.reader.specs.Frames.{frame_at, next_at}
use Rattle.reader.specs.Sheets.{most_size, recs_from, good_from}

-- a good one
pub rec-good : (r : ℕ) (fr : List ℕ) → good_rec r fr ≡ true → (4 ≤ length fr) × (word_at fr 0 ≤ most_type) × (1 ≤ word_at fr 2) × (length fr ≤ most_size r (word_at fr 0))
unfolding good_rec most_size
rec-good r fr e =
    let p = and-true (leb 4 (length fr) && leb (word_at fr 0) most_type && leb 1 (word_at fr 2)) (leb (length fr) (most_size r (word_at fr 0))) e in
    let q = and-true (leb 4 (length fr) && leb (word_at fr 0) most_type) (leb 1 (word_at fr 2)) p.0 in
    let s = and-true (leb 4 (length fr)) (leb (word_at fr 0) most_type) q.0 in
    (leb-true 4 (length fr) s.0, leb-true (word_at fr 0) most_type s.1, leb-true 1 (word_at fr 2) q.1, leb-true (length fr) (most_size r (word_at fr 0)) p.1)

-- record after record, as loops take them

pub recs-step : (t : List ℕ) (at n : ℕ) → 0 < n → recs_from t at n ≡ rec_of (frame_at t at) ∷ recs_from t (next_at t at) (n - 1)
unfolding recs_from
recs-step t at zero h = absurd (omega arith)
recs-step t at (suc n) h = let z : suc n - 1 ≡ n = omega arith in rw z

pub recs-end : (t : List ℕ) (at n : ℕ) → n ≤ 0 → recs_from t at n ≡ []
unfolding recs_from
recs-end t at zero h = refl
recs-end t at (suc n) h = absurd (omega arith)

pub length-recs : (t : List ℕ) (n at : ℕ) → length (recs_from t at n) ≡ n
unfolding recs_from
length-recs t zero at = refl
length-recs t (suc n) at = ap suc (length-recs t n (next_at t at))

from_suc : (r : ℕ) (t : List ℕ) (at n : ℕ) → good_from r t at (suc n) ≡ elim (good_rec r (frame_at t at)) as (λ (b : Bool). Bool) [ true ↦ good_from r t (next_at t at) n | false ↦ false ]
unfolding good_from
from_suc r t at n = refl

pub from_on : (r : ℕ) (t : List ℕ) (at n : ℕ) → good_rec r (frame_at t at) ≡ true → good_from r t at (suc n) ≡ good_from r t (next_at t at) n
from_on r t at n e = from_suc r t at n ∙ pick_true (good_rec r (frame_at t at)) _ _ e

pub from_cons : (r : ℕ) (t : List ℕ) (at n : ℕ) → good_from r t at (suc n) ≡ true → (good_rec r (frame_at t at) ≡ true) × (good_from r t (next_at t at) n ≡ true)
from_cons r t at n e = pass-true (good_rec r (frame_at t at)) (good_from r t (next_at t at) n) (sym (from_suc r t at n) ∙ e)

pub from_step : (r : ℕ) (t : List ℕ) (at n : ℕ) → 0 < n → good_rec r (frame_at t at) ≡ true → good_from r t at n ≡ good_from r t (next_at t at) (n - 1)
from_step r t at zero h e = absurd (omega arith)
from_step r t at (suc n) h e = let z : suc n - 1 ≡ n = omega arith in rw z (from_on r t at n e)

pub from-bad : (r : ℕ) (t : List ℕ) (at n : ℕ) → 0 < n → good_rec r (frame_at t at) ≡ false → good_from r t at n ≡ false
from-bad r t at zero h e = absurd (omega arith)
from-bad r t at (suc n) h e = from_suc r t at n ∙ pick-false (good_rec r (frame_at t at)) _ _ e

pub from_end : (r : ℕ) (t : List ℕ) (at n : ℕ) → n ≤ 0 → good_from r t at n ≡ eqb at (length t)
unfolding good_from
from_end r t at zero h = refl
from_end r t at (suc n) h = absurd (omega arith)

-- the next of good records, and those after it
pub good-step : (r : ℕ) (t : List ℕ) (at n : ℕ) → 0 < n → good_from r t at n ≡ true → (good_rec r (frame_at t at) ≡ true) × (good_from r t (next_at t at) (n - 1) ≡ true)
good-step r t at zero h e = absurd (omega arith)
good-step r t at (suc n) h e = let z : suc n - 1 ≡ n = omega arith in rw z (from_cons r t at n e)
