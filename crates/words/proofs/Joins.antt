-- Several bytes as one number, and runs of zero bytes in two parts.
use Prim.Native.Nat.{ℕ, zero, suc, ◌+◌, ◌*◌, ◌/◌, ◌-◌, ◌≤◌, ◌<◌}
use mathlib.Core.Path.{◌≡◌, refl, sym, ap, ◌∙◌}
use mathlib.Core.Bool.{Bool, true, false, ◌&&◌, and-false, false≢true}
use mathlib.Core.List.{List}
use native.Mathlib.Omega.{arith}
use borrow.Author.Tests.{eqb-true, eqb-false, eq-eqb, ne_eqb}
use lib.Dec.{eqb}
use lib.ListN.{get_or}
use Rattle.words.specs.Word.{quiet}
use Rattle.words.proofs.Zeros.{quiet_step, quiet-bad, quiet-end}

and_right : (a b : Bool) → (a && b) ≡ true → b ≡ true
and_right true b e = e
and_right false b e = absurd (false≢true e)

-- a run of zero bytes in two parts
pub quiet-join : (xs : List ℕ) (n m k p q : ℕ) → k ≡ m + n → q ≡ p + m → quiet xs p k ≡ (quiet xs p m && quiet xs q n)
quiet-join xs n zero k p q e f =
    let e' : k ≡ n = omega arith in
    let f' : q ≡ p = omega arith in
    rw (e', f', quiet-end xs p 0 (omega arith))
quiet-join xs n (suc m) k p q e f = go (eqb (get_or xs p 0) 0) refl (quiet-join xs n m (k - 1) (p + 1) q (omega arith) (omega arith))
  where
    go : (t : Bool) → eqb (get_or xs p 0) 0 ≡ t → quiet xs (p + 1) (k - 1) ≡ (quiet xs (p + 1) m && quiet xs q n) → quiet xs p k ≡ (quiet xs p (suc m) && quiet xs q n)
    go true h ih =
        let z : get_or xs p 0 ≡ 0 = eqb-true (get_or xs p 0) 0 h in
        let s : quiet xs p (suc m) ≡ quiet xs (p + 1) (suc m - 1) = quiet_step xs p (suc m) (omega arith) z in
        let o : suc m - 1 ≡ m = omega arith in
        let s' : quiet xs p (suc m) ≡ quiet xs (p + 1) m = rw o at s in
        quiet_step xs p k (omega arith) z ∙ ih ∙ sym (ap (λ (b : Bool). b && quiet xs q n) s')
    go false h ih =
        let d : get_or xs p 0 ≡ 0 → ⊥ = eqb-false (get_or xs p 0) 0 h in
        quiet-bad xs p k (omega arith) d ∙ sym (ap (λ (b : Bool). b && quiet xs q n) (quiet-bad xs p (suc m) (omega arith) d))

pub both-quiet : (xs : List ℕ) (m n k p q : ℕ) → k ≡ m + n → q ≡ p + m → quiet xs p m ≡ true → quiet xs q n ≡ true → quiet xs p k ≡ true
both-quiet xs m n k p q e f a b = quiet-join xs n m k p q e f ∙ rw (a, b)

pub one_byte : (xs : List ℕ) (p a : ℕ) → a ≡ get_or xs p 0 → eqb a 0 ≡ quiet xs p 1
one_byte xs p a e = go (eqb a 0) refl
  where
    go : (t : Bool) → eqb a 0 ≡ t → eqb a 0 ≡ quiet xs p 1
    go true h = h ∙ sym (quiet_step xs p 1 (omega arith) (sym e ∙ eqb-true a 0 h) ∙ quiet-end xs (p + 1) (1 - 1) (omega arith))
    go false h = h ∙ sym (quiet-bad xs p 1 (omega arith) (λ q. eqb-false a 0 h (e ∙ q)))

sum-zero : (a b x : ℕ) → (b ≡ 0 → x ≡ 0) → (x ≡ 0 → b ≡ 0) → eqb (a + x) 0 ≡ (eqb a 0 && eqb b 0)
sum-zero a b x f g = go (eqb a 0) refl (eqb b 0) refl
  where
    go : (t : Bool) → eqb a 0 ≡ t → (u : Bool) → eqb b 0 ≡ u → eqb (a + x) 0 ≡ (eqb a 0 && eqb b 0)
    go true h true k = let y : a + x ≡ 0 = omega (arith, eqb-true a 0 h, f (eqb-true b 0 k)) in eq-eqb (a + x) 0 y ∙ sym (rw (h, k))
    go true h false k = ne_eqb (a + x) 0 (λ q. eqb-false b 0 k (g (omega arith))) ∙ sym (rw (h, k))
    go false h u k = ne_eqb (a + x) 0 (λ q. eqb-false a 0 h (omega arith)) ∙ sym (rw h)

-- a number made of two, the second raised to x
join-zero : (xs : List ℕ) (m n k p q a b x : ℕ) → k ≡ m + n → q ≡ p + m → eqb a 0 ≡ quiet xs p m → eqb b 0 ≡ quiet xs q n
    → (b ≡ 0 → x ≡ 0) → (x ≡ 0 → b ≡ 0) → eqb (a + x) 0 ≡ quiet xs p k
join-zero xs m n k p q a b x e f ea eb g h = sum-zero a b x g h ∙ rw (ea, eb) (sym (quiet-join xs n m k p q e f))

-- two bytes, four and eight

pub join-two : (xs : List ℕ) (p a b : ℕ) → eqb a 0 ≡ quiet xs p 1 → eqb b 0 ≡ quiet xs (p + 1) 1 → eqb (a + b * 256) 0 ≡ quiet xs p 2
join-two xs p a b ea eb = join-zero xs 1 1 2 p (p + 1) a b (b * 256) refl refl ea eb (λ h. omega arith) (λ h. omega arith)

pub join-four : (xs : List ℕ) (p a b : ℕ) → eqb a 0 ≡ quiet xs p 2 → eqb b 0 ≡ quiet xs (p + 2) 2 → eqb (a + b * 65536) 0 ≡ quiet xs p 4
join-four xs p a b ea eb = join-zero xs 2 2 4 p (p + 2) a b (b * 65536) refl refl ea eb (λ h. omega arith) (λ h. omega arith)

pub join-eight : (xs : List ℕ) (p a b : ℕ) → eqb a 0 ≡ quiet xs p 4 → eqb b 0 ≡ quiet xs (p + 4) 4 → eqb (a + b * 4294967296) 0 ≡ quiet xs p 8
join-eight xs p a b ea eb = join-zero xs 4 4 8 p (p + 4) a b (b * 4294967296) refl refl ea eb (λ h. omega arith) (λ h. omega arith)

-- the same without the first two bytes

pub after_two : (xs : List ℕ) (p a b : ℕ) → a < 65536 → eqb b 0 ≡ quiet xs (p + 2) 2 → eqb ((a + b * 65536) / 65536) 0 ≡ quiet xs (p + 2) 2
after_two xs p a b l eb = let e : (a + b * 65536) / 65536 ≡ b = omega arith in ap (λ (k : ℕ). eqb k 0) e ∙ eb

pub after-four : (xs : List ℕ) (p a b : ℕ) → a < 4294967296 → eqb (a / 65536) 0 ≡ quiet xs (p + 2) 2 → eqb b 0 ≡ quiet xs (p + 4) 4
    → eqb ((a + b * 4294967296) / 65536) 0 ≡ quiet xs (p + 2) 6
after-four xs p a b l ea eb =
    let e : (a + b * 4294967296) / 65536 ≡ a / 65536 + b * 65536 = omega arith in
    ap (λ (k : ℕ). eqb k 0) e ∙ join-zero xs 2 4 6 (p + 2) (p + 4) (a / 65536) b (b * 65536) refl (omega arith) ea eb (λ h. omega arith) (λ h. omega arith)

-- part of a run of n bytes, as one number a: its first m bytes, or its last m

module _ (xs : List ℕ) (p n m a : ℕ) (l : m ≤ n) where
  pub part_step : eqb a 0 ≡ quiet xs p m → a ≡ 0 → quiet xs p n ≡ quiet xs (p + m) (n - m)
  part_step e z = quiet-join xs (n - m) m n p (p + m) (omega arith) refl ∙ rw (sym e ∙ eq-eqb a 0 z)

  pub part-bad : eqb a 0 ≡ quiet xs p m → (a ≡ 0 → ⊥) → quiet xs p n ≡ false
  part-bad e d = quiet-join xs (n - m) m n p (p + m) (omega arith) refl ∙ rw (sym e ∙ ne_eqb a 0 d)

  last : quiet xs p n ≡ (quiet xs p (n - m) && quiet xs (p + (n - m)) m)
  last = quiet-join xs m (n - m) n p (p + (n - m)) (omega arith) refl

  pub last-bad : eqb a 0 ≡ quiet xs (p + (n - m)) m → (a ≡ 0 → ⊥) → quiet xs p n ≡ false
  last-bad e d = last ∙ rw (sym e ∙ ne_eqb a 0 d) (and-false (quiet xs p (n - m)))

  -- what is left at i lies in the last m bytes
  pub last-holds : (i : ℕ) → eqb a 0 ≡ quiet xs (p + (n - m)) m → a ≡ 0 → n - m ≤ i → i ≤ n → quiet xs (p + i) (n - i) ≡ true
  last-holds i e z o h =
      and_right (quiet xs (p + (n - m)) (i - (n - m))) (quiet xs (p + i) (n - i))
      (sym (quiet-join xs (n - i) (i - (n - m)) m (p + (n - m)) (p + i) (omega arith) (omega arith)) ∙ sym e ∙ eq-eqb a 0 z)

-- eight bytes at a time: what is left at the start, and the next eight bytes at i

pub eight-start : (xs : List ℕ) (p n : ℕ) → quiet xs p n ≡ quiet xs (p + 0) (n - 0)
eight-start xs p n =
    let at : p + 0 ≡ p = omega arith in
    let left : n - 0 ≡ n = omega arith in
    rw (at, left)

pub eight-step : (xs : List ℕ) (p n i j a : ℕ) → j ≡ i + 8 → j ≤ n → eqb a 0 ≡ quiet xs (p + i) 8 → a ≡ 0 → quiet xs (p + i) (n - i) ≡ quiet xs (p + j) (n - j)
eight-step xs p n i j a f l e z =
    let at : p + i + 8 ≡ p + j = omega arith in
    let left : n - i - 8 ≡ n - j = omega arith in
    part_step xs (p + i) (n - i) 8 a (omega arith) e z ∙ rw (at, left)
