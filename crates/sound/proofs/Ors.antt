-- An `or` of differences, made with no early exit: it is 0 exactly if all are as they should be.
use Prim.Native.Nat.{ℕ, zero, suc, ◌+◌, ◌-◌, ◌≤◌, ◌<◌}
use mathlib.Core.Path.{◌≡◌, refl, sym, ap, ◌∙◌}
use mathlib.Core.Bool.{Bool, true, ◌&&◌, and-true, and-false}
use mathlib.Core.List.{List}
use native.Mathlib.Omega.{arith}
use native.Mathlib.Numerals.{add-one}
use borrow.Author.Tests.{eqb-true, eqb-false, eq-eqb, ne_eqb}
use lib.Dec.{eqb}
use lib.Bits.{bit_or, bit_xor}
use lib.ListN.{length, get_or, take, drop, length-take, length-drop}
use lib.Seq.{length-take-le, get_or-take, get_or-drop}
use Rattle.rules.proofs.Split.{by_cases}
use Rattle.words.proofs.Ors.{or_left, or_right, xor_same}
use Rattle.sound.specs.Walks.{all_met}
use Rattle.sound.specs.quick.Ones.{ones}

pub or-zero : (a b : ℕ) → eqb (bit_or a b) 0 ≡ (eqb a 0 && eqb b 0)
or-zero a b =
    by_cases (eqb a 0)
    (λ t.
    let x : a ≡ 0 = eqb-true a 0 t in
    by_cases (eqb b 0)
    (λ u. let y : b ≡ 0 = eqb-true b 0 u in let z : bit_or a b ≡ 0 = rw (x, y) in eq-eqb (bit_or a b) 0 z ∙ sym (rw (t, u)))
    (λ u. ne_eqb (bit_or a b) 0 (λ q. eqb-false b 0 u (or_right a b q)) ∙ sym (rw (t, u))))
    (λ t. ne_eqb (bit_or a b) 0 (λ q. eqb-false a 0 t (or_left a b q)) ∙ sym (rw t))

-- one more number x, which is to be c
more : (all x c : ℕ) (so : Bool) → bit_xor c c ≡ 0 → eqb all 0 ≡ so → eqb (bit_or all (bit_xor x c)) 0 ≡ (so && eqb x c)
more all x c so z e = or-zero all (bit_xor x c) ∙ ap (λ (t : Bool). t && eqb (bit_xor x c) 0) e ∙ ap (λ (t : Bool). so && t) differs
  where
    differs : eqb (bit_xor x c) 0 ≡ eqb x c
    differs =
        by_cases (eqb x c)
        (λ t. let y : x ≡ c = eqb-true x c t in let w : bit_xor x c ≡ 0 = rw y z in eq-eqb (bit_xor x c) 0 w ∙ sym t)
        (λ t. ne_eqb (bit_xor x c) 0 (λ q. eqb-false x c t (xor_same x c q)) ∙ sym t)

-- the marks of the first entries

pub met_none : (seen : List ℕ) → true ≡ all_met seen 0
unfolding all_met
met_none seen = refl

met-suc : (seen : List ℕ) (n : ℕ) → all_met seen (suc n) ≡ (all_met seen n && eqb (get_or seen n 0) 1)
unfolding all_met
met-suc seen n = by_cases (eqb (get_or seen n 0) 1) (λ t. rw (t, all_met) (sym (and-true (all_met seen n)))) (λ t. rw (t, all_met) (sym (and-false (all_met seen n))))

pub met_more : (seen : List ℕ) (n all : ℕ) → eqb all 0 ≡ all_met seen n → eqb (bit_or all (bit_xor (get_or seen n 0) 1)) 0 ≡ all_met seen (n + 1)
met_more seen n all e = more all (get_or seen n 0) 1 (all_met seen n) refl e ∙ sym (rw (add-one n) (met-suc seen n))

-- the bytes from p

pub ones_none : (xs : List ℕ) (p : ℕ) → true ≡ ones xs p 0
unfolding ones
ones_none xs p = refl

ones-suc : (xs : List ℕ) (n p : ℕ) → ones xs p (suc n) ≡ (ones xs p n && eqb (get_or xs (p + n) 0) 255)
unfolding ones
ones-suc xs zero p =
    let z : p + 0 ≡ p = omega arith in
    rw z (by_cases (eqb (get_or xs p 0) 255) (λ t. rw (t, ones)) (λ t. rw (t, ones)))
ones-suc xs (suc n) p =
    let z : p + suc n ≡ suc p + n = omega arith in
    rw z (by_cases (eqb (get_or xs p 0) 255) (λ t. rw (t, ones) (ones-suc xs n (suc p))) (λ t. rw (t, ones)))

-- byte k of the n from p that are looked at
pub ones_more : (xs : List ℕ) (p n k all : ℕ) → k < length (take (p + n - p) (drop p xs)) → eqb all 0 ≡ ones xs p k
    → eqb (bit_or all (bit_xor (get_or (take (p + n - p) (drop p xs)) k 0) 255)) 0 ≡ ones xs p (k + 1)
ones_more xs p n k all h e =
    let o : k < p + n - p = omega (arith, h, length-take (p + n - p) (drop p xs)) in
    let b : get_or (take (p + n - p) (drop p xs)) k 0 ≡ get_or xs (p + k) 0 = get_or-take (p + n - p) (drop p xs) k 0 o ∙ get_or-drop p xs k 0 in
    rw b (more all (get_or xs (p + k) 0) 255 (ones xs p k) refl e ∙ sym (rw (add-one k) (ones-suc xs k p)))

-- all of them
pub ones_all : (xs : List ℕ) (p n k : ℕ) → p + n ≤ length xs → k ≤ length (take (p + n - p) (drop p xs)) → length (take (p + n - p) (drop p xs)) ≤ k → ones xs p k ≡ ones xs p n
ones_all xs p n k r a b =
    let l : length (take (p + n - p) (drop p xs)) ≡ p + n - p = length-take-le (p + n - p) (drop p xs) (rw length-drop (omega arith)) in
    let q : k ≡ n = omega (arith, l) in
    rw q
