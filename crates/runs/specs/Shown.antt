-- What the memories show, in the rules' words: the bytes that `file_in` reads of each file, taken as docs/SEGMENT.md says. No desk and no allocation is known here.
use Rattle.std.specs.Prelude.{ℕ, ◌%◌, Bool, true, false, cond, List, [], ◌∷◌, map, eqb, get_or, take}
use Rattle.std.proofs.Math.Option.{Option, none, some}
use Rattle.rules.specs.Limits.{places}
use Rattle.rules.specs.State.{Rec, Geo, Req, idle, reading, writing, read_done, write_done, Acc, Timer, File, unbuilt, built}
use Rattle.rules.specs.Desk.{Desk}
use Rattle.rules.specs.Allocation.{place_of, up_from}
use Rattle.rules.specs.Memories.{share_at, buffer_at}
use Rattle.laws.specs.EightFiles.{desk_of}
use Rattle.shares.specs.Back.{read_back}
use Rattle.shares.specs.Sound.{store_at}
use Rattle.segment.specs.declared.Entry.{Entry}
use Rattle.segment.specs.declared.FileRow.{FileRow}
use Rattle.segment.specs.declared.PlaceRow.{PlaceRow}
use Rattle.segment.specs.Fields.{entry_of, file_row_of, place_row_of, file_at}
use Rattle.memory.specs.Memories.{Memories}
use Rattle.runs.specs.OneFile.{OneFile, file_in}

-- Records: R, B, D, the oldest block, what is spent there and what is held stand in the file's row, the records in the blocks of its share.

unfoldable pub geo_by : FileRow → Geo
geo_by r = record { words = r.words; factor = r.factor; blocks = r.blocks }

-- the records of file f, oldest first
unfoldable pub records_in : ℕ → Memories → List Rec
records_in f m =
    let r : FileRow = file_at m.segment f in
    read_back (geo_by r) (share_at f m.blocks) r.block r.spent r.held

-- the records of a file of the rules
unfoldable pub records_of : File → List Rec
records_of unbuilt = []
records_of (built b) = b.store.recs

-- Requests: the list that an entry is on says what the entry is. A waiting write's data and a completed read's record lie in the place's buffer.

-- a waiting read; `write_by`: a waiting write; `done_by`: a completed write of a writer, a completed read of a reader
unfoldable pub read_by : Entry → Req
read_by e = reading (record { by_words = eqb e.unit 1; limit = e.limit; keep = eqb e.keep 1 })

unfoldable pub write_by : List ℕ → Entry → Req
write_by buffer e = writing (record { by_words = eqb e.unit 1; bytes = take e.size buffer })

unfoldable pub done_by : Bool → List ℕ → Entry → Req
done_by writer buffer e =
    cond writer (write_done (record { status = e.status; log = e.log })) (read_done (record { status = e.status; log = e.log; bytes = take e.size buffer }))

-- the request of place i, by the entry of a list that names i, or q if none does
unfoldable pub request_by : ℕ → (Entry → Req) → List (List ℕ) → Req → Req
request_by i by [] q = q
request_by i by (e ∷ es) q = elim (eqb (entry_of e).place i) [ true ↦ by (entry_of e) | false ↦ request_by i by es q ]

-- the row of place p
abbrev pub row_in : OneFile → ℕ → PlaceRow
row_in x p = place_row_of (get_or x.accessors p [])

-- the request at place p of file f: it is in the file's read queue, in its write queue or on the place's reply port, or there is none
unfoldable pub request_in : ℕ → OneFile → ℕ → Req
request_in f x p =
    let buffer : List ℕ = buffer_at p x.buffers in
    request_by (place_of f p) read_by x.reads
    (request_by (place_of f p) (write_by buffer) x.writes (request_by (place_of f p) (done_by (eqb (row_in x p).side 2) buffer) (get_or x.ports p []) idle))

-- Accessors: side 0 is not open, 1 a reader, 2 a writer. Settings are 0 or 1.

unfoldable pub accessor_by : PlaceRow → Req → Option Acc
accessor_by r q =
    elim (eqb r.side 0) [
      | true ↦ none
      | false ↦ some (record {
        writer = eqb r.side 2;
        ident = r.id;
        sharing = r.share;
        timeout = r.timeout;
        extended = eqb r.extended 1;
        typed = eqb r.typed 1;
        keep = eqb r.keep 1;
        first = eqb r.first 1;
        req = q;
      })
    ]

-- the place within its file that an entry names; `timer_by`: the remaining timeout that a timer's entry holds
unfoldable pub place_by : List ℕ → ℕ
place_by e = (entry_of e).place % places

unfoldable pub timer_by : List ℕ → Timer
timer_by e = record { place = place_by e; left = (entry_of e).seconds }

-- The file, which is built exactly when its R is not 0.
unfoldable pub file_shown : ℕ → OneFile → File
file_shown f x =
    let r : FileRow = file_row_of x.own in
    elim (eqb r.words 0) [
      | true ↦ unbuilt
      | false ↦ built (record {
        geo = geo_by r;
        store = store_at (geo_by r) x.share r.block r.spent r.held;
        accs = map (λ p. accessor_by (row_in x p) (request_in f x p)) (up_from 0 places);
        buffers = x.buffers;
        rq = map place_by x.reads;
        wq = map place_by x.writes;
        timers = map timer_by x.timers;
        past = [];
      })
    ]

-- The desk: its eight files.
unfoldable pub desk_shown : Memories → Desk
desk_shown m = desk_of (λ f. file_shown f (file_in f m))
