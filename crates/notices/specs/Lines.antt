-- The lines of the board, made of numbers.
use Rattle.std.specs.Prelude.{ℕ, ◌*◌, Bool, true, false, cond, List, [], ◌∷◌, ◌++◌, eqb, Option, Some, None}
use Rattle.segment.specs.declared.PlaceRow.{PlaceRow}
use Rattle.texts.specs.Spell.{spell}
use Rattle.texts.specs.Numbers.{decimal, one_digit, counted}
use Rattle.notices.specs.declared.Request.{Request}
use Rattle.notices.specs.declared.Request.TheVariants.{Idle, Reads, Writes, HasRead, HasWritten}

-- the most bytes of a line: 80 columns, and LF
abbrev pub line_room : ℕ
line_room = 81

unfoldable pub lf : List ℕ
lf = 10 ∷ []

-- the line of a file: its number and R, B and D
unfoldable pub size_text : ℕ → ℕ → List ℕ
size_text f words = spell "file " ++ (one_digit f ++ (spell ": records of up to " ++ (counted (2 * words) (spell " byte") ++ spell ", ")))

unfoldable pub blocks_text : ℕ → ℕ → List ℕ
blocks_text factor blocks = counted factor (spell " record") ++ (spell " a block, " ++ (counted blocks (spell " block") ++ lf))

unfoldable pub geometry_line : ℕ → ℕ → ℕ → ℕ → List ℕ
geometry_line f words factor blocks = size_text f words ++ blocks_text factor blocks

-- the line of a file's records: its data records, all its records, and how many more data records it takes
unfoldable pub held_text : ℕ → List ℕ
held_text records = spell "  " ++ (counted records (spell " data record") ++ spell " held, ")

unfoldable pub room_text : ℕ → ℕ → List ℕ
room_text all room = counted all (spell " record") ++ (spell " in all, room for " ++ (decimal room ++ spell " more\n"))

unfoldable pub held_line : ℕ → ℕ → ℕ → List ℕ
held_line records all room = held_text records ++ room_text all room

unfoldable pub nobody_line : List ℕ
nobody_line = spell "  nobody has it open\n"

-- the line of an accessor: its place, its side, a writer's ID, and the settings that are on: controls 46 and 47, which are a reader's, 4 and 45

unfoldable pub side_text : Bool → ℕ → Bool → Bool → List ℕ
side_text true ident typed keep = spell "writer, ID " ++ decimal ident
side_text false ident typed keep = spell "reader" ++ (cond typed (spell "; types shown") [] ++ cond keep (spell "; next read copies") [])

unfoldable pub timeout_text : ℕ → List ℕ
timeout_text seconds = cond (eqb seconds 0) [] (spell "; timeout " ++ (decimal seconds ++ spell " s"))

unfoldable pub who_text : ℕ → Bool → ℕ → Bool → Bool → List ℕ
who_text p writer ident typed keep = spell "  place " ++ (one_digit p ++ (spell "  " ++ side_text writer ident typed keep))

unfoldable pub settings_text : ℕ → Bool → List ℕ
settings_text timeout extended = timeout_text timeout ++ (cond extended (spell "; extended wait") [] ++ lf)

unfoldable pub accessor_line : ℕ → Bool → ℕ → Bool → Bool → ℕ → Bool → List ℕ
accessor_line p writer ident typed keep timeout extended = who_text p writer ident typed keep ++ settings_text timeout extended

-- the line of the accessor in a place's row
unfoldable pub row_line : ℕ → PlaceRow → List ℕ
row_line p r = accessor_line p (eqb r.side 2) r.id (eqb r.typed 1) (eqb r.keep 1) r.timeout (eqb r.extended 1)

-- the line of a request

unfoldable pub left_text : Option ℕ → List ℕ
left_text None = spell ", no timeout"
left_text (Some n) = spell ", " ++ (decimal n ++ spell " s left")

unfoldable pub first_text : ℕ → List ℕ
first_text first = cond (eqb first 1) (spell ", first in line") []

-- the text of a status other than 0 that a request completed with
unfoldable pub status_text : ℕ → List ℕ
status_text st = cond (eqb st 2) (spell "end of file") (cond (eqb st 22) (spell "timed out") (spell "status " ++ decimal st))

unfoldable pub read_text : ℕ → ℕ → List ℕ
read_text st n = cond (eqb st 0) (spell "read of " ++ counted n (spell " byte")) (status_text st)

unfoldable pub written_text : ℕ → List ℕ
written_text st = cond (eqb st 0) (spell "write") (status_text st)

unfoldable pub request_line : Request → List ℕ
request_line Idle = []
request_line (Reads n left first) = spell "           waits to read up to " ++ (counted n (spell " byte") ++ (left_text left ++ (first_text first ++ lf)))
request_line (Writes n left first) = spell "           waits to write " ++ (counted n (spell " byte") ++ (left_text left ++ (first_text first ++ lf)))
request_line (HasRead st n) = spell "           completed, not collected: " ++ (read_text st n ++ lf)
request_line (HasWritten st) = spell "           completed, not collected: " ++ (written_text st ++ lf)
