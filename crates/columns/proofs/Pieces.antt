-- Pieces of a line, and the end of one.
use Prim.Native.Nat.{ℕ, zero, suc, ◌+◌, ◌/◌, ◌%◌, ◌≤◌}
use Prim.Native.String.{String}
use mathlib.Core.Path.{◌≡◌, refl, sym, ap, ◌∙◌}
use mathlib.Core.Bool.{Bool, true, false, cond, not, ◌&&◌}
use mathlib.Core.List.{List, [], ◌∷◌, ◌++◌, append_assoc}
use native.Mathlib.Omega.{arith}
use borrow.Author.Tests.{lt-ltb, ne_eqb}
use lib.Dec.{eqb}
use lib.ListN.{length, drop, length-append}
use Rattle.rules.proofs.Split.{and-true, true-and}
use Rattle.texts.specs.Spell.{spell}
use Rattle.texts.specs.Numbers.{most_digits, five_digits, leading, decimal, one_digit, ending, counted}
use Rattle.texts.proofs.Numbers.{decimal-short}
use Rattle.notices.specs.Lines.{lf}
use Rattle.columns.specs.Columns.{most_columns, narrow}

-- no LF
unfoldable pub plain : List ℕ → Bool
plain [] = true
plain (x ∷ t) = not (eqb x 10) && plain t

plain-append : (x y : List ℕ) → plain x ≡ true → plain y ≡ true → plain (x ++ y) ≡ true
unfolding plain
plain-append [] y h k = k
plain-append (a ∷ x) y h k = let (u, v) = and-true (not (eqb a 10)) (plain x) h in true-and (not (eqb a 10)) (plain (x ++ y)) u (plain-append x y v k)

plain-drop : (n : ℕ) (x : List ℕ) → plain x ≡ true → plain (drop n x) ≡ true
unfolding plain
plain-drop zero x h = h
plain-drop (suc n) [] h = h
plain-drop (suc n) (a ∷ x) h = plain-drop n x (and-true (not (eqb a 10)) (plain x) h).1

-- a piece of at most k columns of a line
pub record Piece (k : ℕ) (x : List ℕ) : Type 0 where
  pub bare : plain x ≡ true
  pub short : length x ≤ k

-- a piece of at most k columns, with the LF that ends it
pub record Ending (k : ℕ) (x : List ℕ) : Type 0 where
  pub body : List ℕ
  pub is : x ≡ body ++ lf
  pub piece : Piece k body

-- a piece that is a text in quotes
pub text : (s : String) → plain (spell s) ≡ true → Piece (length (spell s)) (spell s)
text s h = record { bare = h; short = omega arith }

infixr 30 ◌next◌
pub ◌next◌ : {j k : ℕ} {x y : List ℕ} → Piece j x → Piece k y → Piece (j + k) (x ++ y)
◌next◌ {x = x} {y = y} p q = record { bare = plain-append x y p.bare q.bare; short = omega (arith, p.short, q.short, length-append x y) }

infixr 30 ◌last◌
pub ◌last◌ : {j k : ℕ} {x y : List ℕ} → Piece j x → Ending k y → Ending (j + k) (x ++ y)
◌last◌ {x = x} p e = record { body = x ++ e.body; is = ap (λ z. x ++ z) e.is ∙ sym (append_assoc x e.body lf); piece = p next e.piece }

pub ends-here : Ending 0 lf
unfolding plain
ends-here = record { body = []; is = refl; piece = record { bare = refl; short = omega arith } }

pub piece-if : {k : ℕ} {x : List ℕ} (t : Bool) → Piece k x → Piece k (cond t x [])
unfolding plain
piece-if true p = p
piece-if false p = record { bare = refl; short = omega arith }

pub piece-either : {k : ℕ} {x y : List ℕ} (t : Bool) → Piece k x → Piece k y → Piece k (cond t x y)
piece-either true p q = p
piece-either false p q = q

pub piece-within : {j : ℕ} {x : List ℕ} (k : ℕ) → j ≤ k → Piece j x → Piece k x
piece-within k h p = record { bare = p.bare; short = omega (arith, p.short) }

-- digits
digit-bare : (n : ℕ) → not (eqb (48 + n) 10) ≡ true
digit-bare n = ap not (ne_eqb (48 + n) 10 (λ e. omega arith))

five-bare : (n : ℕ) → plain (five_digits n) ≡ true
unfolding plain five_digits
five-bare n =
    rw (digit-bare (n / 10000 % 10), digit-bare (n / 1000 % 10), digit-bare (n / 100 % 10), digit-bare (n / 10 % 10), digit-bare (n % 10))

pub number-piece : (n : ℕ) → Piece most_digits (decimal n)
unfolding decimal
number-piece n = record { bare = plain-drop (leading n) (five_digits n) (five-bare n); short = unfold decimal in decimal-short n }

pub digit-piece : (n : ℕ) → Piece 1 (one_digit n)
unfolding one_digit plain
digit-piece n = record { bare = rw (digit-bare n); short = omega arith }

ending-piece : (n : ℕ) → Piece 1 (ending n)
unfolding ending plain
ending-piece n = piece-either (eqb n 1) (record { bare = refl; short = omega arith }) (record { bare = refl; short = omega arith })

pub counted-piece : {k : ℕ} {noun : List ℕ} (n : ℕ) → Piece k noun → Piece (most_digits + (k + 1)) (counted n noun)
unfolding counted
counted-piece n p = number-piece n next p next ending-piece n

-- a text of whole lines
pub record Ruled (t : List ℕ) : Type 0 where
  pub whole : (s : List ℕ) → narrow 0 (t ++ s) ≡ narrow 0 s

narrow-on : (x s : List ℕ) (n : ℕ) → plain x ≡ true → n + length x ≤ most_columns → narrow n (x ++ (lf ++ s)) ≡ narrow 0 s
unfolding plain narrow lf
narrow-on [] s n h k = refl
narrow-on (a ∷ x) s n h k =
    let (u, v) = and-true (not (eqb a 10)) (plain x) h in
    rw (not-ten a u, lt-ltb n most_columns (omega arith)) (narrow-on x s (suc n) v (omega arith))
  where
    not-ten : (a : ℕ) → not (eqb a 10) ≡ true → eqb a 10 ≡ false
    not-ten a u = go (eqb a 10) refl u
      where
        go : (t : Bool) → eqb a 10 ≡ t → not t ≡ true → t ≡ false
        go true e w = sym w
        go false e w = refl

pub ruled-line : {k : ℕ} {x : List ℕ} → k ≤ most_columns → Ending k x → Ruled x
ruled-line h e = record {
  whole = λ s. ap (λ z. narrow 0 (z ++ s)) e.is ∙ ap (narrow 0) (append_assoc e.body lf s)
      ∙ narrow-on e.body s 0 e.piece.bare (omega (arith, e.piece.short));
}

pub ruled-none : Ruled []
ruled-none = record { whole = λ s. refl }

pub ruled-append : {x y : List ℕ} → Ruled x → Ruled y → Ruled (x ++ y)
ruled-append {x} {y} p q = record { whole = λ s. ap (narrow 0) (append_assoc x y s) ∙ p.whole (y ++ s) ∙ q.whole s }
