-- Laws of the bytes of a buffer: how they are written.
use Prim.Native.Nat.{ℕ, ◌+◌, ◌-◌, ◌≤◌}
use mathlib.Core.Path.{◌≡◌, sym, ap, ◌∙◌}
use mathlib.Core.List.{List, ◌++◌}
use native.Mathlib.Omega.{arith}
use lib.ListN.{length}
use lib.Seq.{sets}
use Rattle.words.specs.Word.{zeros}
use Rattle.words.proofs.Runs.{length-zeros, sets-at}
use Rattle.words.proofs.Parts.{sets-whole}
use Rattle.rules.specs.Limits.{buffer_bytes}
use Rattle.rules.specs.Buffers.{filled}
use Rattle.rules.proofs.Buffers.{length-filled}

-- the data, then zeros
pub fill-written : (x₀ x₁ x₂ d : List ℕ) → length x₀ ≡ buffer_bytes → length d ≤ buffer_bytes → x₁ ≡ sets x₀ 0 d
    → x₂ ≡ sets x₁ (length d) (zeros (buffer_bytes - length d))
    → x₂ ≡ filled d
unfolding filled
fill-written x₀ x₁ x₂ d n h e₁ e₂ =
    let z = zeros (buffer_bytes - length d) in
    let f : 0 + length d ≡ length d = omega arith in
    e₂ ∙ (ap (λ (x : List ℕ). sets x (length d) z) e₁ ∙ (sets-at d z x₀ 0 (length d) f ∙ sets-whole x₀ (d ++ z) (length-filled d h ∙ sym n)))

pub clear-written : (x₀ x₁ : List ℕ) → length x₀ ≡ buffer_bytes → x₁ ≡ sets x₀ 0 (zeros buffer_bytes) → x₁ ≡ zeros buffer_bytes
clear-written x₀ x₁ n e = e ∙ sets-whole x₀ (zeros buffer_bytes) (length-zeros buffer_bytes ∙ sym n)
