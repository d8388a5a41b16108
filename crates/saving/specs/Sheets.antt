-- The sheet of a file, read from its ring and its share.
use Rattle.std.specs.Prelude.{ℕ, ◌≡◌, List, length}
use Rattle.rules.specs.State.{Built, built}
use Rattle.rules.specs.Sheet.{sheet, save}
use Rattle.rules.specs.Desk.{Desk, file_of}
use Rattle.rules.specs.Allocation.{Alloc}
use Rattle.ring.specs.declared.Ring.{Ring}
use Rattle.ring.specs.Ring.{geo}
use Rattle.records.specs.Cursor.{held_recs}
use Rattle.memory.specs.Memories.{memories}
use Rattle.memory.specs.Fine.{StandsFor}
use Rattle.promises.specs.Promise.{Given, shown}

-- The sheet of the records that a ring and a share hold.
abbrev pub sheet_of : ℕ → Ring → List ℕ → List ℕ
sheet_of words r share = sheet (geo words r) (held_recs words r share)

-- What save gives of the built file f, on every desk that segment and blocks stand for with some buffers.
abbrev pub SavesFile : List ℕ → List ℕ → ℕ → List ℕ → Given → Type 0
SavesFile xs blocks f output g =
    (buffers : List ℕ) (d : Desk) (s : Alloc) (b : Built) → StandsFor (memories xs blocks buffers) d s → file_of d f ≡ built b → g ≡ shown output (save (length output) b).reply
