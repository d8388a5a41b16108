-- A record put into a block anywhere: what `inscribed` does to the share, given the block's place and the number of records that it has taken.
use Rattle.std.specs.Prelude.{ℕ, Bool, true, false, List, eqb}
use Rattle.std.proofs.lemmas.List.Edits.{sets}
use Rattle.rules.specs.State.{Rec}
use Rattle.rules.specs.Store.{zeroed, added}

-- the share after the record r is put into the block of n bytes that begins at `at` and has taken i records
unfoldable pub inscribed_at : ℕ → List ℕ → ℕ → ℕ → Rec → List ℕ
inscribed_at n xs at i r = added (elim (eqb i 0) as (λ (b : Bool). List ℕ) [ true ↦ sets xs at (zeroed n) | false ↦ xs ]) at r
