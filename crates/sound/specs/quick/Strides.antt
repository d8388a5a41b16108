-- Where the links of entries lead, many steps at a time. The end of a list and a link to nothing are numbers after those of the entries, and lead to themselves.
use Rattle.std.specs.Prelude.{ℕ, zero, suc, ◌+◌, ◌<◌, ◌≡◌, Bool, true, false, ◌&&◌, List, ltb, eqb, get_or}
use Rattle.rules.specs.Limits.{entries}
use Rattle.segment.specs.Layout.{nil, link_at}
use Rattle.segment.specs.Table.{nth}
use Rattle.sound.specs.Walks.{free_entry}

abbrev pub ended : ℕ
ended = entries

abbrev pub astray : ℕ
astray = entries + 1

abbrev pub stops : ℕ
stops = entries + 2

-- what a link leads to
unfoldable pub leads : ℕ → ℕ
leads v = elim (ltb v entries) [ true ↦ v | false ↦ elim (eqb v nil) [ true ↦ ended | false ↦ astray ] ]

-- one step from k; `strides`: n steps
unfoldable pub stride : List ℕ → ℕ → ℕ
stride s k = elim (ltb k entries) [ true ↦ leads (nth s (link_at k)) | false ↦ k ]

unfoldable pub strides : List ℕ → ℕ → ℕ → ℕ
strides s zero k = k
strides s (suc n) k = strides s n (stride s k)

-- the table t has what n steps lead to
abbrev pub Table : List ℕ → ℕ → List ℕ → Type 0
Table s n t = (k : ℕ) → k < stops → get_or t k 0 ≡ strides s n k

-- each number in the table is one that it leads on from
abbrev pub Closed : List ℕ → Type 0
Closed t = (k : ℕ) → k < stops → get_or t k 0 < stops

-- whether n entries starting at e are free
unfoldable pub bare_from : List ℕ → ℕ → ℕ → Bool
bare_from s e zero = true
bare_from s e (suc n) = elim (free_entry s e) [ true ↦ bare_from s (suc e) n | false ↦ false ]

-- whether n steps from entry k lead to an entry, and one more to the end
unfoldable pub ends_by : List ℕ → ℕ → ℕ → Bool
ends_by s n k = ltb (strides s n k) entries && eqb (stride s (strides s n k)) ended
