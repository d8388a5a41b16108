-- A record buffer has its bytes, and what lies in it lies at its start.
use mathlib.Core.Path.{◌≡◌, ◌∙◌}
use mathlib.Core.List.{List}
use Prim.Native.Nat.{ℕ, ◌-◌, ◌≤◌}
use native.Mathlib.Omega.{arith}
use lib.ListN.{length, take, length-append}
use lib.Seq.{take-append_seam}
use Rattle.words.specs.Word.{zeros}
use Rattle.words.proofs.Runs.{length-zeros}
use Rattle.rules.specs.Limits.{buffer_bytes}
use Rattle.rules.specs.Buffers.{filled}

pub length-filled : (d : List ℕ) → length d ≤ buffer_bytes → length (filled d) ≡ buffer_bytes
unfolding filled
length-filled d h = length-append d (zeros (buffer_bytes - length d)) ∙ omega (arith, length-zeros (buffer_bytes - length d))

pub filled-start : (d : List ℕ) → take (length d) (filled d) ≡ d
unfolding filled
filled-start d = take-append_seam d (zeros (buffer_bytes - length d))
