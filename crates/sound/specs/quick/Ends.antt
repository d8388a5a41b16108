-- The free list where every other list is empty. No marks are needed: a list that ends meets no entry twice (proofs/quick/Enough.antt).
use Rattle.std.specs.Prelude.{ℕ, zero, suc, ◌+◌, ◌-◌, ◌≤◌, ◌<◌, ◌≡◌, Bool, true, false, ◌&&◌, List, ltb, eqb}
use Rattle.rules.specs.Limits.{entries}
use Rattle.segment.specs.Layout.{nil, link_at}
use Rattle.segment.specs.Table.{nth}
use Rattle.sound.specs.Walks.{free_entry}

-- whether the list from slot p goes over n free entries, and then ends
unfoldable pub free_ends : List ℕ → ℕ → ℕ → Bool
free_ends s p zero = eqb (nth s p) nil
free_ends s p (suc n) = elim (ltb (nth s p) entries && free_entry s (nth s p)) [ true ↦ free_ends s (link_at (nth s p)) n | false ↦ false ]

-- the same from a slot that holds e, with n entries after e
unfoldable pub ends_from : List ℕ → ℕ → ℕ → Bool
ends_from s e n = free_entry s e && free_ends s (link_at e) n

-- the list from e reaches r, at most `most` entries further, and ends as it does from there
abbrev pub Along : List ℕ → ℕ → ℕ → ℕ → Type 0
Along s e most r = (e ≤ r) × (r < entries) × (r ≤ e + most) × (ends_from s e most ≡ ends_from s r (most - (r - e)))
