-- What is looked for in the rows of a file's places.
use Rattle.std.specs.Prelude.{ℕ, zero, suc, ◌+◌, ◌*◌, Bool, true, false, ◌&&◌, List, eqb}
use Rattle.rules.specs.Limits.{places}
use Rattle.segment.specs.declared.PlaceRow.{PlaceRow}
use Rattle.segment.specs.Fields.{place_at}

-- how many places there are before the first free one, among the n places starting at place i
unfoldable pub free_from : List ℕ → ℕ → ℕ → ℕ
free_from s i zero = 0
free_from s i (suc n) = elim (eqb (place_at s i).side 0) [ true ↦ 0 | false ↦ suc (free_from s (suc i) n) ]

-- "Accessor: the smallest free place."
abbrev pub free_place : List ℕ → ℕ → ℕ
free_place s f = free_from s (places * f) places

-- whether the row is that of a writer with the ID
abbrev pub row_holds : ℕ → PlaceRow → Bool
row_holds id r = eqb r.side 2 && eqb r.id id

-- whether one of the n places starting at place i is that of a writer with the ID
unfoldable pub held_from : List ℕ → ℕ → ℕ → ℕ → Bool
held_from s id i zero = false
held_from s id i (suc n) = elim (row_holds id (place_at s i)) [ true ↦ true | false ↦ held_from s id (suc i) n ]

abbrev pub id_held : List ℕ → ℕ → ℕ → Bool
id_held s f id = held_from s id (places * f) places

-- the smallest of the k numbers starting at n that no open writer of file f holds
unfoldable pub id_from : List ℕ → ℕ → ℕ → ℕ → ℕ
id_from s f zero n = n
id_from s f (suc k) n = elim (id_held s f n) [ true ↦ id_from s f k (n + 1) | false ↦ n ]

-- "Writer ID: the smallest number from 1 that no open writer of the file holds"
abbrev pub next_id : List ℕ → ℕ → ℕ
next_id s f = id_from s f places 1

-- the row of an accessor that enters: its side, its ID, its share
abbrev pub new_row : ℕ → ℕ → ℕ → PlaceRow
new_row side id share = record { side = side; id = id; share = share; timeout = 0; extended = 0; typed = 0; keep = 0; first = 1 }
