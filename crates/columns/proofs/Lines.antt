-- Each line of the board has at most 80 columns.
use Prim.Native.Nat.{ℕ, ◌*◌}
use mathlib.Core.Path.{refl}
use mathlib.Core.Bool.{Bool, true, false}
use native.Mathlib.Omega.{arith}
use lib.Dec.{eqb}
use Rattle.texts.specs.Spell.{spell}
use Rattle.std.specs.Prelude.{Option, Some, None}
use Rattle.notices.specs.declared.Request.{Request}
use Rattle.notices.specs.declared.Request.TheVariants.{Idle, Reads, Writes, HasRead, HasWritten}
use Rattle.notices.specs.Lines.{lf, size_text, blocks_text, geometry_line, held_text, room_text, held_line, nobody_line, side_text, timeout_text, who_text, settings_text, accessor_line, left_text, first_text, status_text, read_text, written_text, request_line}
use Rattle.columns.proofs.Pieces.{plain, Piece, Ending, text, ◌next◌, ◌last◌, ends-here, piece-if, piece-either, piece-within, number-piece, digit-piece, counted-piece, Ruled, ruled-line, ruled-none}

pub geometry-ruled : (f words factor blocks : ℕ) → Ruled (geometry_line f words factor blocks)
unfolding geometry_line size_text blocks_text spell plain
geometry-ruled f words factor blocks =
    ruled-line (omega arith)
    ((text "file " refl next digit-piece f next text ": records of up to " refl next counted-piece (2 * words) (text " byte" refl) next text ", " refl)
    last counted-piece factor (text " record" refl) last text " a block, " refl last counted-piece blocks (text " block" refl) last ends-here)

more : Ending 5 (spell " more\n")
unfolding spell plain lf
more = record { body = spell " more"; is = refl; piece = text " more" refl }

pub held-ruled : (records all room : ℕ) → Ruled (held_line records all room)
unfolding held_line held_text room_text spell plain
held-ruled records all room =
    ruled-line (omega arith)
    ((text "  " refl next counted-piece records (text " data record" refl) next text " held, " refl)
    last counted-piece all (text " record" refl) last text " in all, room for " refl last number-piece room last more)

pub nobody-ruled : Ruled nobody_line
unfolding nobody_line spell plain lf
nobody-ruled = ruled-line {k = 20} (omega arith) (record { body = spell "  nobody has it open"; is = refl; piece = text "  nobody has it open" refl })

side-piece : (writer : Bool) (ident : ℕ) (typed keep : Bool) → Piece 37 (side_text writer ident typed keep)
unfolding side_text spell plain
side-piece true ident typed keep = piece-within 37 (omega arith) (text "writer, ID " refl next number-piece ident)
side-piece false ident typed keep = text "reader" refl next piece-if typed (text "; types shown" refl) next piece-if keep (text "; next read copies" refl)

timeout-piece : (seconds : ℕ) → Piece 17 (timeout_text seconds)
unfolding timeout_text spell plain
timeout-piece seconds = piece-either (eqb seconds 0) (piece-within 17 (omega arith) (text "" refl)) (text "; timeout " refl next number-piece seconds next text " s" refl)

pub accessor-ruled : (p : ℕ) (writer : Bool) (ident : ℕ) (typed keep : Bool) (timeout : ℕ) (extended : Bool) → Ruled (accessor_line p writer ident typed keep timeout extended)
unfolding accessor_line who_text settings_text spell plain
accessor-ruled p writer ident typed keep timeout extended =
    ruled-line (omega arith)
    ((text "  place " refl next digit-piece p next text "  " refl next side-piece writer ident typed keep)
    last timeout-piece timeout last piece-if extended (text "; extended wait" refl) last ends-here)

left-piece : (left : Option ℕ) → Piece 14 (left_text left)
unfolding left_text spell plain
left-piece None = piece-within 14 (omega arith) (text ", no timeout" refl)
left-piece (Some n) = text ", " refl next number-piece n next text " s left" refl

first_piece : (first : ℕ) → Piece 15 (first_text first)
unfolding first_text spell plain
first_piece first = piece-if (eqb first 1) (text ", first in line" refl)

status-piece : (st : ℕ) → Piece 12 (status_text st)
unfolding status_text spell plain
status-piece st =
    piece-either (eqb st 2) (piece-within 12 (omega arith) (text "end of file" refl))
    (piece-either (eqb st 22) (piece-within 12 (omega arith) (text "timed out" refl)) (text "status " refl next number-piece st))

read-piece : (st n : ℕ) → Piece 19 (read_text st n)
unfolding read_text spell plain
read-piece st n = piece-either (eqb st 0) (text "read of " refl next counted-piece n (text " byte" refl)) (piece-within 19 (omega arith) (status-piece st))

written-piece : (st : ℕ) → Piece 12 (written_text st)
unfolding written_text spell plain
written-piece st = piece-either (eqb st 0) (piece-within 12 (omega arith) (text "write" refl)) (status-piece st)

pub request-ruled : (q : Request) → Ruled (request_line q)
unfolding request_line spell plain
request-ruled Idle = ruled-none
request-ruled (Reads n left first) =
    ruled-line (omega arith) (text "           waits to read up to " refl last counted-piece n (text " byte" refl) last left-piece left last first_piece first last ends-here)
request-ruled (Writes n left first) =
    ruled-line (omega arith) (text "           waits to write " refl last counted-piece n (text " byte" refl) last left-piece left last first_piece first last ends-here)
request-ruled (HasRead st n) = ruled-line (omega arith) (text "           completed, not collected: " refl last read-piece st n last ends-here)
request-ruled (HasWritten st) = ruled-line (omega arith) (text "           completed, not collected: " refl last written-piece st last ends-here)
