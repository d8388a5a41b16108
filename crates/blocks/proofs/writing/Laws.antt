-- The stores of a record are the rules' record, also where the rest of its block was lent.
use Prim.Native.Nat.{ℕ, ◌+◌, ◌-◌, ◌*◌, ◌≤◌}
use mathlib.Core.Path.{◌≡◌, refl}
use mathlib.Core.List.{List, ◌++◌}
use native.Mathlib.Omega.{arith}
use lib.ListN.{length, take, drop}
use lib.Seq.{sets}
use Rattle.words.specs.Word.{word}
use Rattle.words.proofs.Runs.{sets-sets, sets-at, sets-part}
use Rattle.rules.specs.State.{Rec}
use Rattle.rules.specs.Store.{pad, record_bytes, record_words}
use Rattle.shares.proofs.Image.{length-record_bytes}
use Rattle.blocks.specs.Writing.{rec_of, record_size}

-- the five stores of a record, one right after another, are one run
pub record-written : (x₀ x₁ x₂ x₃ x₄ x₅ body : List ℕ) (typ wid : ℕ) → x₁ ≡ sets x₀ 0 (word (4 + length body)) → x₂ ≡ sets x₁ 2 (word typ)
    → x₃ ≡ sets x₂ 4 (word wid) → x₄ ≡ sets x₃ 6 body → x₅ ≡ sets x₄ (6 + length body) (pad (length body))
    → x₅ ≡ sets x₀ 0 (record_bytes (rec_of typ wid body))
unfolding record_bytes
record-written x₀ x₁ x₂ x₃ x₄ x₅ body typ wid e₁ e₂ e₃ e₄ e₅ =
    let z = body ++ pad (length body) in
    rw (
      e₅,
      e₄,
      sets-sets body (pad (length body)) x₃ 6,
      e₃,
      sets-at (word wid) z x₂ 4 6 refl,
      e₂,
      sets-at (word typ) (word wid ++ z) x₁ 2 4 refl,
      e₁,
      sets-at (word (4 + length body)) (word typ ++ (word wid ++ z)) x₀ 0 2 refl,
    )

pub size-words : (r : Rec) → 2 * record_words r ≡ record_size (length r.body)
unfolding record_words
size-words r = omega arith

-- the rest of a block, from a to e, that was lent and is back
pub rest_back : (xs ys : List ℕ) (a e : ℕ) (r : Rec) → a + record_size (length r.body) ≤ e → e ≤ length xs
    → ys ≡ sets (take (e - a) (drop a xs)) 0 (record_bytes r)
    → take a xs ++ (ys ++ drop (e - a) (drop a xs)) ≡ sets xs a (record_bytes r)
rest_back xs ys a e r h l q = rw q (sets-part (record_bytes r) xs a (e - a) (omega (arith, length-record_bytes r, size-words r)) (omega arith))
