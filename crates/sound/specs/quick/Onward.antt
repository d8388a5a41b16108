-- The free list starting at an entry, and an entry's bytes where its link is the next number.
use Rattle.std.specs.Prelude.{ℕ, ◌+◌, ◌-◌, ◌*◌, ◌≤◌, ◌<◌, ◌≡◌, true, false, ◌&&◌, List, eqb, get_or, set}
use Rattle.rules.specs.Limits.{entries}
use Rattle.segment.specs.Layout.{link_at, data_words}
use Rattle.words.specs.Led.{Led}
use Rattle.sound.specs.Walks.{Walked, walked, free_entry, free_walk}

-- the number of an entry's bytes, its link's among them
abbrev pub entry_bytes : ℕ
entry_bytes = 2 + 2 * data_words

-- the entry whose bytes begin at `at` is free and linked to n
abbrev pub Linked : List ℕ → ℕ → ℕ → Type 0
Linked s at n = Led s at n (2 * data_words)

-- the walk of the free list from a slot that holds e
unfoldable pub free_from : List ℕ → ℕ → List ℕ → List ℕ → ℕ → Walked
free_from s e seen busy n = elim (eqb (get_or seen e 0) 0 && free_entry s e) [ false ↦ walked false seen busy | true ↦ free_walk s (link_at e) (set seen e 1) busy n ]

-- the walk from e reaches r, at most `most` entries further: with the marks changed from seen to seen', the walk from r is what is left of it
abbrev pub Onward : List ℕ → ℕ → ℕ → List ℕ → ℕ → List ℕ → Type 0
Onward s e most seen r seen' =
    (e ≤ r) × (r < entries) × (r ≤ e + most) × ((busy : List ℕ) → free_from s e seen busy most ≡ free_from s r seen' busy (most - (r - e)))
