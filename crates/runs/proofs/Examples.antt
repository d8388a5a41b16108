-- Examples of the definitions that the statements over runs use: each is computed.
use Prim.Native.Nat.{ℕ, ◌/◌, ◌%◌}
use mathlib.Core.Path.{◌≡◌, refl}
use mathlib.Core.Bool.{true, false}
use mathlib.Core.List.{List, [], ◌∷◌, ◌++◌}
use mathlib.Core.Option.{none, some}
use lib.ListN.{replicate}
use Rattle.rules.specs.State.{Req, writing, read_done, built}
use Rattle.rules.specs.Geometry.{block_size}
use Rattle.rules.specs.Store.{block_bytes}
use Rattle.rules.specs.Reply as reply
use Rattle.rules.specs.Frames.{frame_of, control_frame, of_length}
use Rattle.rules.specs.Calls.{refusal, ask, ask_unbuilt}
use Rattle.rules.specs.Answers.{answer_bytes}
use Rattle.rules.specs.TransferCounts.{count_bytes, in_words}
use Rattle.rules.specs.Desk.{asked, frame_asks, fresh_desk, respond, answered, file_of, with_file, replies, reply_bytes}
use Rattle.rules.specs.Desk as rules
use Rattle.laws.specs.Runs.{names}
use Rattle.rules.specs.Allocation.{place_of, up_from}
use Rattle.segment.specs.Layout.{nil}
use Rattle.segment.specs.Table.{nth, row, data_of}
use Rattle.memory.specs.Memories.{Memories}
use Rattle.memory.specs.Stands.{buffers_at}
use Rattle.midst.specs.Outcome.{reply_status, status_of}
use Rattle.promises.specs.Promise.{HostCall, fresh, event, look, save, load, status, answer, written, given_status, given_size, given_memory, shown, said}
use Rattle.promises.specs.Promise as host
use Rattle.runs.specs.Run.{meant, lending, gives}
use Rattle.runs.specs.Condition2.{stretch, heard, since}
use Rattle.shares.specs.Back.{rec_at, next, recs_at, block_recs, ring_recs, read_back}
use Rattle.shares.specs.Sound.{store_at}
use Rattle.segment.specs.Fields.{entry_of, file_row_of, place_row_of}
use Rattle.runs.specs.Shown.{geo_by, read_by, write_by, done_by, request_by, request_in, accessor_by, place_by, timer_by, file_shown}
use Rattle.runs.specs.OneFile.{OneFile, file_in, listed, walk, timers_on}
use Rattle.runs.specs.Condition3.{sort_of, names_file, is_time, passes, ours, never_fresh, found}
use Rattle.runs.specs.Condition3 as sort

abbrev room : List ℕ
room = replicate 264 7

-- A frame names the file in its second byte, for eight of the nine operations; time, and a frame of no shape, name none.
abbrev reads : List ℕ
reads = 3 ∷ 5 ∷ 1 ∷ 0 ∷ 4 ∷ []

names-5 : (names_file 5 (sort.event 264 reads) ≡ true) × (names_file 3 (sort.event 264 reads) ≡ false) × (names_file 1 (sort.event 264 reads) ≡ false)
unfolding names_file names asked frame_asks frame_of of_length
names-5 = (refl, refl, refl)

-- A frame names its file also if the answer memory has a wrong length.
names-short : names_file 5 (sort.event 9 reads) ≡ true
unfolding names_file names asked frame_asks frame_of of_length
names-short = refl

-- A control that does not exist (48) names its file. A write whose data are not as long as its count, and a frame with a byte too many, name none.
names-48 : names_file 5 (sort.event 264 (5 ∷ 5 ∷ 1 ∷ 48 ∷ 0 ∷ 0 ∷ [])) ≡ true
unfolding names_file names asked frame_asks frame_of of_length control_frame
names-48 = refl

names-bad : (names_file 5 (sort.event 264 (4 ∷ 5 ∷ 1 ∷ 0 ∷ 1 ∷ 9 ∷ [])) ≡ false) × (names_file 5 (sort.event 264 (3 ∷ 5 ∷ 1 ∷ 0 ∷ 4 ∷ 0 ∷ [])) ≡ false)
unfolding names_file names asked frame_asks frame_of of_length count_bytes in_words
names-bad = (refl, refl)

-- Time passes if the answer memory has the right length, and not otherwise.
time-passes : (passes (sort.event 264 (8 ∷ 0 ∷ 5 ∷ [])) ≡ true) × (passes (sort.event 263 (8 ∷ 0 ∷ 5 ∷ [])) ≡ false)
unfolding passes is_time asked frame_asks frame_of of_length
time-passes = (refl, refl)

-- Some calls of a run.
abbrev night : List HostCall
night = event room reads ∷ event room (8 ∷ 0 ∷ 5 ∷ []) ∷ event room (3 ∷ 6 ∷ 0 ∷ 0 ∷ 4 ∷ []) ∷ look 5 0 [] ∷ save 4 room ∷ load 5 [] ∷ event [] reads ∷ []

ours-5 : ours 5 night ≡ sort.event 264 reads ∷ sort.event 264 (8 ∷ 0 ∷ 5 ∷ []) ∷ sort.look 5 0 0 ∷ sort.load 5 [] ∷ sort.event 0 reads ∷ []
unfolding ours names_file passes is_time names asked frame_asks frame_of of_length sort_of
ours-5 = refl

not-fresh : (never_fresh night ≡ true) × (never_fresh (look 0 0 [] ∷ fresh ∷ []) ≡ false)
unfolding never_fresh meant lending
not-fresh = (refl, refl)

-- The calls that are meant: a look and an event that are lent no memory are not among them.
stretch-is : stretch night ≡ rules.event reads ∷ rules.event (8 ∷ 0 ∷ 5 ∷ []) ∷ rules.event (3 ∷ 6 ∷ 0 ∷ 0 ∷ 4 ∷ []) ∷ rules.save 4 264 ∷ rules.load 5 [] ∷ []
unfolding stretch meant lending
stretch-is = refl

-- Only the calls after the last fresh count.
since-is : since [] (save 1 [] ∷ fresh ∷ look 2 0 [] ∷ save 3 [] ∷ []) ≡ rules.save 3 0 ∷ []
unfolding since meant lending
since-is = refl

-- What is found of an answer: its status, its length, and the bytes up to that length.
found-is : (found (answer 2 (3 ∷ 31 ∷ 9 ∷ 9 ∷ [])) ≡ record { status = 31; size = 2; bytes = 3 ∷ 31 ∷ [] }) × (found (answer 0 (3 ∷ 31 ∷ [])) ≡ record { status = 29; size = 0; bytes = [] })
unfolding found given_status given_size given_memory
found-is = (refl, refl)

-- The timers of file 1 are those of places 8 to 15.
timers-of : timers_on 1 ((9 ∷ 0 ∷ []) ∷ (3 ∷ 0 ∷ []) ∷ (15 ∷ 1 ∷ []) ∷ (16 ∷ 0 ∷ []) ∷ []) ≡ (9 ∷ 0 ∷ []) ∷ (15 ∷ 1 ∷ []) ∷ []
unfolding timers_on
timers-of = refl

-- What is read of file 1 in a segment that ends after entry 3 (what lies past its end counts as 0). Its read queue leads to entry 1 and then to entry 0; of the timers,
-- that of entry 2 is file 0's.
unfoldable bytes_of : List ℕ → List ℕ
bytes_of [] = []
bytes_of (w ∷ ws) = w / 256 ∷ w % 256 ∷ bytes_of ws

unfoldable few : Memories
few =
    record {
      segment = bytes_of (nil ∷ nil ∷ 1 ∷ replicate 78 nil
          ++ (2
          ∷ nil ∷ 8 ∷ 1 ∷ 20 ∷ 0 ∷ 0 ∷ 0 ∷ 0 ∷ 0 ∷ 0
          ∷ 0 ∷ 15 ∷ 0 ∷ 7 ∷ 1 ∷ 0 ∷ 0 ∷ 0 ∷ 0 ∷ 0
          ∷ 3 ∷ 2 ∷ 0 ∷ 0 ∷ 0 ∷ 0 ∷ 0 ∷ 0 ∷ 30 ∷ 0
          ∷ nil ∷ 15 ∷ 0 ∷ 0 ∷ 0 ∷ 0 ∷ 0 ∷ 0 ∷ 45 ∷ 0 ∷ []));
      blocks = [];
      buffers = [];
    }

file-in : file_in 1 few ≡ record {
  own = replicate 8 0;
  accessors = replicate 8 (replicate 8 0);
  share = [];
  buffers = [];
  reads = (15 ∷ 0 ∷ 7 ∷ 1 ∷ 0 ∷ 0 ∷ 0 ∷ 0 ∷ 0 ∷ []) ∷ (8 ∷ 1 ∷ 20 ∷ 0 ∷ 0 ∷ 0 ∷ 0 ∷ 0 ∷ 0 ∷ []) ∷ [];
  writes = [];
  ports = replicate 8 [];
  timers = (15 ∷ 0 ∷ 0 ∷ 0 ∷ 0 ∷ 0 ∷ 0 ∷ 45 ∷ 0 ∷ []) ∷ [];
}
unfolding file_in few bytes_of listed walk timers_on row nth data_of place_of up_from buffers_at
file-in = refl

-- What a file shows whose R, B and D are 2, 1 and 3: two records, in blocks 1 and 2; a reader at place 0 whose completed read is not collected yet; a writer at
-- place 1 that waits, with 45 seconds left.
unfoldable share : List ℕ
share =
    replicate 14 0
    ++ (0 ∷ 1 ∷ 0 ∷ 6 ∷ 0 ∷ 5 ∷ 0 ∷ 0 ∷ 0 ∷ 1 ∷ 67 ∷ 0 ∷ 0 ∷ 0
    ∷ 0 ∷ 1 ∷ 0 ∷ 7 ∷ 0 ∷ 7 ∷ 0 ∷ 0 ∷ 0 ∷ 1 ∷ 68 ∷ 69 ∷ 70 ∷ 0 ∷ [])

unfoldable buffers : List ℕ
buffers = 65 ∷ 66 ∷ replicate 258 0 ++ (71 ∷ 72 ∷ 73 ∷ [])

unfoldable busy : OneFile
busy =
    record {
      own = 2 ∷ 1 ∷ 3 ∷ 1 ∷ 0 ∷ 2 ∷ 0 ∷ 0 ∷ [];
      accessors = (1 ∷ 0 ∷ 3 ∷ 0 ∷ 0 ∷ 1 ∷ 0 ∷ 0 ∷ []) ∷ (2 ∷ 4 ∷ 3 ∷ 60 ∷ 1 ∷ 0 ∷ 0 ∷ 0 ∷ []) ∷ replicate 6 (replicate 8 0);
      share = share;
      buffers = buffers;
      reads = [];
      writes = (9 ∷ 0 ∷ 0 ∷ 0 ∷ 0 ∷ 0 ∷ 3 ∷ 0 ∷ 0 ∷ []) ∷ [];
      ports = ((8 ∷ 0 ∷ 0 ∷ 0 ∷ 0 ∷ 2 ∷ 2 ∷ 0 ∷ 0 ∷ []) ∷ []) ∷ replicate 7 [];
      timers = (9 ∷ 0 ∷ 0 ∷ 0 ∷ 0 ∷ 0 ∷ 0 ∷ 45 ∷ 0 ∷ []) ∷ [];
    }

abbrev done : Req
done = read_done (record { status = 0; log = 2; bytes = 65 ∷ 66 ∷ [] })

abbrev waits : Req
waits = writing (record { by_words = false; bytes = 71 ∷ 72 ∷ 73 ∷ [] })

shown-is : file_shown 1 busy ≡ built (record {
  geo = record { words = 2; factor = 1; blocks = 3 };
  store = record { block = 1; spent = 0; recs = record { typ = 0; wid = 1; body = 67 ∷ [] } ∷ record { typ = 0; wid = 1; body = 68 ∷ 69 ∷ 70 ∷ [] } ∷ []; share = share };
  accs = some (record { writer = false; ident = 0; sharing = 3; timeout = 0; extended = false; typed = true; keep = false; first = false; req = done })
      ∷ some (record { writer = true; ident = 4; sharing = 3; timeout = 60; extended = true; typed = false; keep = false; first = false; req = waits })
      ∷ replicate 6 none;
  buffers = buffers;
  rq = [];
  wq = 1 ∷ [];
  timers = record { place = 1; left = 45 } ∷ [];
  past = [];
})
unfolding file_shown busy share buffers file_row_of place_row_of entry_of geo_by store_at read_back ring_recs block_recs recs_at rec_at next block_bytes block_size request_in request_by read_by write_by done_by accessor_by place_by timer_by place_of up_from
shown-is = refl

-- What the host hears on a fresh desk: 31 for a file that is not built, 29 for a wrong length, 31 for a save.
heard-is : heard (fresh ∷ event room reads ∷ event (1 ∷ []) reads ∷ save 5 (4 ∷ []) ∷ []) []
    ≡ status 0 ∷ answer 2 (3 ∷ 31 ∷ replicate 262 7) ∷ answer 0 (1 ∷ []) ∷ written 31 0 (4 ∷ []) ∷ []
unfolding heard meant lending gives stretch replies respond answered asked frame_asks frame_of of_length fresh_desk file_of with_file ask ask_unbuilt reply.unmade refusal said shown host.answered reply_status status_of reply_bytes answer_bytes
heard-is = refl
