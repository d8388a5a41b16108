-- Texts put one after another.
use Prim.Native.Nat.{ℕ, ◌+◌, ◌≤◌}
use mathlib.Core.Path.{◌≡◌, refl, sym, ap, ◌∙◌}
use mathlib.Core.List.{List, [], ◌++◌}
use native.Mathlib.Omega.{arith}
use lib.ListN.{length, length-append}
use lib.Seq.{sets, length-sets}
use Rattle.words.proofs.Runs.{sets-at}
use Rattle.texts.specs.Put.{Put}

-- nothing
pub put-none : {out : List ℕ} {at : ℕ} (m : ℕ) → Put m out at [] out at
put-none m = record { bytes = refl; size = omega arith; low = omega arith; long = refl }

-- a text, whole
pub put_all : {before out text : List ℕ} {at end : ℕ} → out ≡ sets before at text → end ≡ at + length text → Put (length text) before at text out end
put_all {before} {text = text} {at = at} e n = record { bytes = e; size = n; low = omega arith; long = ap length e ∙ length-sets before at text }

-- in more room, and under another name
pub put-within : {m : ℕ} {before out text : List ℕ} {at end : ℕ} (n : ℕ) → m ≤ n → Put m before at text out end → Put n before at text out end
put-within n h p = record { bytes = p.bytes; size = p.size; low = omega (arith, p.low); long = p.long }

pub put_as : {m : ℕ} {before out text text' : List ℕ} {at end : ℕ} → text ≡ text' → Put m before at text out end → Put m before at text' out end
put_as e p = rw (← e) p

-- one text put after another
infixr 30 ◌then◌
pub ◌then◌ : {m n : ℕ} {before out out' text text' : List ℕ} {at end end' : ℕ} → Put m before at text out end → Put n out end text' out' end' → Put (m + n) before at (text ++ text') out' end'
◌then◌ {before = before} {text = text} {text' = text'} {at = at} {end = end} p q = record {
  bytes = q.bytes ∙ ap (λ x. sets x end text') p.bytes ∙ sets-at text text' before at end (sym p.size);
  size = omega (arith, p.size, q.size, length-append text text');
  low = omega (arith, p.low, q.low);
  long = q.long ∙ p.long;
}
