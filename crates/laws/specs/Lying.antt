-- "A completed read's record, or a waiting write's data, lies at the start of the accessor's buffer, which is otherwise zero."
use Rattle.std.specs.Prelude.{◌≡◌, List, ℕ, ◌*◌, ◌<◌, length, take}
use Rattle.std.proofs.Math.Option.{Option}
use Rattle.words.specs.Word.{part}
use Rattle.rules.specs.Limits.{places, buffer_bytes}
use Rattle.rules.specs.State.{Acc, Built}
use Rattle.rules.specs.Buffers.{lies, filled}
use Rattle.laws.specs.Outstanding.{req_at}

-- P holds of what lies in the buffer of each place, as its request says, and of the bytes of that buffer; xs are the bytes of the eight buffers
pub record Buffered (P : List ℕ → List ℕ → Type 0) (l : List (Option Acc)) (xs : List ℕ) : Type 0 where
  pub size : length xs ≡ places * buffer_bytes
  pub each : (p : ℕ) → p < places → P (lies (req_at l p)) (part buffer_bytes p xs)

-- what a request says lies in its buffer does lie there
abbrev pub Lying : Built → Type 0
Lying b = Buffered (λ d xs. take (length d) xs ≡ d) b.accs b.buffers

-- and each buffer is otherwise zero
abbrev pub OtherwiseZero : Built → Type 0
OtherwiseZero b = Buffered (λ d xs. xs ≡ filled d) b.accs b.buffers
