-- Which memories are sound: a test of their bytes. Of the record buffers only the length is tested: what lies in them may be anything.
use Rattle.std.specs.Prelude.{ℕ, zero, suc, ◌+◌, ◌*◌, Bool, true, false, ◌&&◌, List, leb, eqb, length}
use Rattle.rules.specs.Limits.{files, places, entries, share_bytes, buffer_bytes}
use Rattle.rules.specs.Geometry.{capacity}
use Rattle.rules.specs.State.{Geo}
use Rattle.rules.specs.Memories.{share_at}
use Rattle.segment.specs.Layout.{segment_bytes}
use Rattle.shares.specs.Sound.{sound}
use Rattle.memory.specs.Memories.{Memories}
use Rattle.accessors.specs.Sides.{count_side}
use Rattle.sound.specs.Rows.{file_word, built_at, geo_at, good_geo, places_ok, unbuilt_ok}
use Rattle.sound.specs.Walks.{Walked, all_walks, all_met}

-- whether there is room: "one place is kept for each close record", and the open writers alone leave room for a record
abbrev pub room_ok : List ℕ → ℕ → Bool
room_ok s f =
    leb (file_word s f 4 + file_word s f 5 + count_side s f 2) (capacity (file_word s f 1) (file_word s f 2))
    && leb (count_side s f 2 + 1) (capacity (file_word s f 1) (file_word s f 2))

-- whether a built file is sound: geometry, places, the held blocks' layout, and "one place is kept for each close record"
unfoldable pub built_ok : List ℕ → List ℕ → ℕ → Bool
built_ok s blocks f =
    let g : Geo = geo_at s f in
    good_geo g
    && eqb (file_word s f 6) 0
    && eqb (file_word s f 7) 0
    && places_ok s (places * f) places
    && leb (file_word s f 4 + file_word s f 5 + count_side s f 2) (capacity g.factor g.blocks)
    && leb (count_side s f 2 + 1) (capacity g.factor g.blocks)
    && sound g (share_at f blocks) (file_word s f 3) (file_word s f 4) (file_word s f 5)

unfoldable pub file_ok : List ℕ → List ℕ → ℕ → Bool
file_ok s blocks f = elim (built_at s f) [ true ↦ built_ok s blocks f | false ↦ unbuilt_ok s f ]

-- whether the n files starting at file f are sound
unfoldable pub files_ok : List ℕ → List ℕ → ℕ → ℕ → Bool
files_ok s blocks f zero = true
files_ok s blocks f (suc n) = elim (file_ok s blocks f) [ true ↦ files_ok s blocks (suc f) n | false ↦ false ]

-- whether the lists are sound, with each entry on exactly one
unfoldable pub lists_ok : List ℕ → Bool
lists_ok s = let w : Walked = all_walks s in w.ok && all_met w.seen entries

unfoldable pub soundly : Memories → Bool
soundly m =
    eqb (length m.segment) segment_bytes
    && eqb (length m.blocks) (share_bytes * files)
    && eqb (length m.buffers) (places * buffer_bytes * files)
    && files_ok m.segment m.blocks 0 files
    && lists_ok m.segment
