-- The board of every desk and its memories is a text of lines of at most 80 columns.
use Prim.Native.Nat.{ℕ, zero, suc}
use mathlib.Core.Path.{◌≡◌, refl, sym, ap, ◌∙◌}
use mathlib.Core.Bool.{Bool, true, false}
use mathlib.Core.List.{List, [], ◌∷◌, append-nil}
use mathlib.Core.Option.{Option, none, some}
use native.Mathlib.Omega.{arith}
use lib.Dec.{eqb}
use lib.ListN.{length}
use Rattle.rules.specs.Limits.{files, places}
use Rattle.rules.specs.State.{Acc, Built, File, unbuilt, built}
use Rattle.rules.specs.Requests.{acc_at, opened}
use Rattle.rules.specs.FileCounts.{data_count}
use Rattle.rules.specs.Desk.{Desk, file_of}
use Rattle.rules.proofs.Split.{both}
use Rattle.memory.specs.Memories.{Memories}
use Rattle.memory.specs.Swept.{swept}
use Rattle.texts.specs.Spell.{spell}
use Rattle.notices.specs.Lines.{lf}
use Rattle.board.specs.Requests.{request_of}
use Rattle.board.specs.Board.{room_left, acc_text, places_text, accessors_text, file_text, files_text, or_nothing, board_text, swept_text, whole_text}
use Rattle.columns.specs.Columns.{narrow}
use Rattle.columns.proofs.Pieces.{plain, text, Ruled, ruled-line, ruled-none, ruled-append}
use Rattle.columns.proofs.Lines.{geometry-ruled, held-ruled, nobody-ruled, accessor-ruled, request-ruled}

acc-ruled : (b : Built) (p : ℕ) (o : Option Acc) → Ruled (acc_text b p o)
unfolding acc_text
acc-ruled b p none = ruled-none
acc-ruled b p (some a) =
    ruled-append (accessor-ruled p a.writer a.ident a.typed a.keep a.timeout a.extended) (request-ruled (request_of b p a.req))

places-ruled : (b : Built) (n : ℕ) → Ruled (places_text b n)
unfolding places_text
places-ruled b zero = ruled-none
places-ruled b (suc n) = ruled-append (places-ruled b n) (acc-ruled b n (acc_at b n))

accessors-ruled : (b : Built) → Ruled (accessors_text b)
unfolding accessors_text
accessors-ruled b = both (λ t. Ruled t) (eqb (opened b) 0) (λ _. nobody-ruled) (λ _. places-ruled b places)

file-ruled : (f : ℕ) (x : File) → Ruled (file_text f x)
unfolding file_text
file-ruled f unbuilt = ruled-none
file-ruled f (built b) =
    ruled-append (geometry-ruled f b.geo.words b.geo.factor b.geo.blocks)
    (ruled-append (held-ruled (data_count b.store.recs) (length b.store.recs) (room_left b)) (accessors-ruled b))

files-ruled : (d : Desk) (n : ℕ) → Ruled (files_text d n)
unfolding files_text
files-ruled d zero = ruled-none
files-ruled d (suc n) = ruled-append (files-ruled d n) (file-ruled n (file_of d n))

or-ruled : (t : List ℕ) → Ruled t → Ruled (or_nothing t)
unfolding or_nothing spell plain lf
or-ruled [] h = ruled-line {k = 16} (omega arith) (record { body = spell "no file is built"; is = refl; piece = text "no file is built" refl })
or-ruled (x ∷ t) h = h

swept-ruled : (t : Bool) → Ruled (swept_text t)
unfolding swept_text spell plain lf
swept-ruled true = ruled-none
swept-ruled false =
    ruled-line {k = 76} (omega arith)
    (record { body = spell "something other than calls wrote here: bytes that no call reads are not zero"; is = refl; piece = text "something other than calls wrote here: bytes that no call reads are not zero" refl })

whole-ruled : (d : Desk) (m : Memories) → Ruled (whole_text d m)
unfolding whole_text board_text
whole-ruled d m = ruled-append (or-ruled (files_text d files) (files-ruled d files)) (swept-ruled (swept d m))

-- no line has more than 80 columns, and each ends with LF
pub board-narrow : (d : Desk) (m : Memories) → narrow 0 (whole_text d m) ≡ true
unfolding narrow
board-narrow d m = ap (narrow 0) (sym (append-nil (whole_text d m))) ∙ (whole-ruled d m).whole []
