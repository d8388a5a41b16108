-- The night board: what is printed of a desk of the rules, file by file, and a last line if its memories are damaged where no call reads them. Each line has at
-- most 80 columns (`board-narrow` in columns/proofs/Board.antt).
use Rattle.std.specs.Prelude.{ℕ, zero, suc, ◌+◌, ◌-◌, ◌*◌, Bool, true, false, List, [], ◌∷◌, ◌++◌, eqb, length}
use Rattle.std.proofs.Math.Option.{Option, none, some}
use Rattle.rules.specs.Limits.{files, places}
use Rattle.rules.specs.State.{Acc, Built, File, unbuilt, built}
use Rattle.rules.specs.Requests.{writers, opened, acc_at, capacity_of}
use Rattle.rules.specs.FileCounts.{data_count}
use Rattle.rules.specs.Store.{used}
use Rattle.rules.specs.Desk.{Desk, file_of}
use Rattle.memory.specs.Memories.{Memories}
use Rattle.memory.specs.Swept.{swept}
use Rattle.texts.specs.Spell.{spell}
use Rattle.board.specs.Requests.{request_of}
use Rattle.notices.specs.Lines.{line_room, geometry_line, held_line, nobody_line, accessor_line, request_line}

-- how many more data records the file takes now: "one place is kept for each close record"
unfoldable pub room_left : Built → ℕ
room_left b = capacity_of b - (used b.store + writers b)

-- the lines of a place: its accessor, and what that accessor waits for or has not collected
unfoldable pub acc_text : Built → ℕ → Option Acc → List ℕ
acc_text b p none = []
acc_text b p (some a) =
    accessor_line p a.writer a.ident a.typed a.keep a.timeout a.extended ++ request_line (request_of b p a.req)

-- the lines of the first n places
unfoldable pub places_text : Built → ℕ → List ℕ
places_text b zero = []
places_text b (suc n) = places_text b n ++ acc_text b n (acc_at b n)

unfoldable pub accessors_text : Built → List ℕ
accessors_text b = elim (eqb (opened b) 0) [ true ↦ nobody_line | false ↦ places_text b places ]

-- the lines of file f, if it is built
unfoldable pub file_text : ℕ → File → List ℕ
file_text f unbuilt = []
file_text f (built b) =
    geometry_line f b.geo.words b.geo.factor b.geo.blocks
    ++ (held_line (data_count b.store.recs) (length b.store.recs) (room_left b) ++ accessors_text b)

-- the lines of the first n files
unfoldable pub files_text : Desk → ℕ → List ℕ
files_text d zero = []
files_text d (suc n) = files_text d n ++ file_text n (file_of d n)

-- the text of the files, or a line saying that none is built
unfoldable pub or_nothing : List ℕ → List ℕ
or_nothing [] = spell "no file is built\n"
or_nothing (x ∷ t) = x ∷ t

unfoldable pub board_text : Desk → List ℕ
board_text d = or_nothing (files_text d files)

-- the last line: calls leave bytes zero that no call reads, so something else wrote there if they are not zero
unfoldable pub swept_text : Bool → List ℕ
swept_text true = []
swept_text false = spell "something other than calls wrote here: bytes that no call reads are not zero\n"

-- the board of a desk and of the memories that stand for it
unfoldable pub whole_text : Desk → Memories → List ℕ
whole_text d m = board_text d ++ swept_text (swept d m)

-- room for every board: two lines for an accessor, two for a file, and the last line
abbrev pub acc_room : ℕ
acc_room = 2 * line_room

abbrev pub file_room : ℕ
file_room = 2 * line_room + places * acc_room

abbrev pub files_room : ℕ
files_room = files * file_room

abbrev pub board_room : ℕ
board_room = files_room + line_room
