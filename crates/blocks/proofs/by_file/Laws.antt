-- A file's share in the blocks memory, and one that was lent from there and is back with a record put.
use Prim.Native.Nat.{ℕ, zero, suc, ◌+◌, ◌*◌, ◌<◌}
use mathlib.Core.Path.{◌≡◌, sym, ap, ◌∙◌}
use mathlib.Core.List.{List, []}
use native.Mathlib.Omega.{arith}
use native.Mathlib.Nat.{mul-zero, mul-suc}
use lib.ListN.{length, get_or, take, drop}
use lib.Seq.{drop-drop}
use Rattle.std.specs.Simd.{first_chunks}
use Rattle.rules.specs.State.{Rec}
use Rattle.shares.proofs.Put.{length-inscribed_at}
use Rattle.ring.specs.declared.Ring.{Ring}
use Rattle.blocks.specs.Writing.{inscribed}

pub length-inscribed : (words : ℕ) (r : Ring) (q : Rec) (xs : List ℕ) → length (inscribed words r q xs) ≡ length xs
unfolding inscribed
length-inscribed words r q xs = length-inscribed_at _ xs _ _ q

-- the chunks of n bytes, one after another
pub chunk-at : (n k f : ℕ) (xs : List ℕ) → f < k → get_or (first_chunks n k xs) f [] ≡ take n (drop (n * f) xs)
chunk-at n zero f xs h = absurd (omega arith)
chunk-at n (suc k) zero xs h = ap (λ (i : ℕ). take n (drop i xs)) (sym (mul-zero n))
chunk-at n (suc k) (suc f) xs h =
    let e : n + n * f ≡ n * suc f = omega (arith, mul-suc n f) in
    chunk-at n k f (drop n xs) (omega arith) ∙ ap (take n) (drop-drop (n * f) n xs ∙ ap (λ (i : ℕ). drop i xs) e)
