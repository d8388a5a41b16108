-- Reads belong to readers and writes to writers.
use Rattle.std.specs.Prelude.{◌≡◌, Bool, true, false, ℕ, ◌≤◌}
use Rattle.std.proofs.Math.Option.{some}
use Rattle.rules.specs.State.{Req, idle, reading, writing, read_done, write_done, Acc, Built}
use Rattle.rules.specs.Requests.{acc_at}

-- the request is one that a writer, or else a reader, may have
unfoldable pub Fitting : Bool → Req → Type 0
Fitting writer idle = Unit {0}
Fitting writer (reading q) = writer ≡ false
Fitting writer (writing q) = writer ≡ true
Fitting writer (read_done q) = writer ≡ false
Fitting writer (write_done q) = writer ≡ true

-- a writer's ID is 1 or more; a reader's is 0
pub record Sided (a : Acc) : Type 0 where
  pub request : Fitting a.writer a.req
  pub reader : a.writer ≡ false → a.ident ≡ 0
  pub writer : a.writer ≡ true → 1 ≤ a.ident

abbrev pub Sides : Built → Type 0
Sides b = (p : ℕ) (a : Acc) → acc_at b p ≡ some a → Sided a
