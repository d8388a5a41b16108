-- Bytes that are all 255, as the heads of empty lists are.
use Rattle.std.specs.Prelude.{ℕ, zero, suc, Bool, true, false, List, eqb, get_or}

unfoldable pub ones : List ℕ → ℕ → ℕ → Bool
ones xs p zero = true
ones xs p (suc n) = elim (eqb (get_or xs p 0) 255) [ true ↦ ones xs (suc p) n | false ↦ false ]
