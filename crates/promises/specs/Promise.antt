-- What the five calls promise, for memories of any content and any length, done or refused: what the host is given, and what the memories are after
-- the call. The contracts of the exported calls cite this page, and so does each step of a run. Beside it a reader has to believe document 01, the rules
-- and docs/SEGMENT.md, and nothing else.
use Rattle.std.specs.Prelude.{ℕ, ◌*◌, ◌≡◌, Bool, true, false, cond, ◌&&◌, List, [], eqb, length, get_or, take}
use Rattle.std.proofs.Math.Option.{Option, none, some}
use Rattle.std.proofs.lemmas.List.Edits.{sets}
use Rattle.rules.specs.Limits.{files, places, share_bytes, buffer_bytes, answer_room, record_room}
use Rattle.rules.specs.Reply.{Reply, shows}
use Rattle.rules.specs.Desk.{Desk, Call, respond, reply_bytes}
use Rattle.rules.specs.Desk as rules
use Rattle.rules.specs.Allocation.{Alloc}
use Rattle.segment.specs.Layout.{segment_bytes}
use Rattle.memory.specs.Memories.{Memories}
use Rattle.memory.specs.Fine.{StandsFor}
use Rattle.memory.specs.Fresh.{fresh_memories}
use Rattle.midst.specs.Outcome.{reply_status, Stays}
use Rattle.sound.specs.Sound.{soundly}

-- a call as the host makes it, with the memory that it lends beside segment, blocks and record buffers
pub data HostCall : Type 0 where
  fresh : HostCall
  -- answer memory, frame
  event : List ℕ → List ℕ → HostCall
  -- file, reader, record memory
  look : ℕ → ℕ → List ℕ → HostCall
  -- file, output
  save : ℕ → List ℕ → HostCall
  -- file, text
  load : ℕ → List ℕ → HostCall

-- what the host is given
pub data Given : Type 0 where
  -- from fresh and load: a status
  status : ℕ → Given
  -- from an event: a length, and the answer memory
  answer : ℕ → List ℕ → Given
  -- from look and save: a status, a length, and the record memory or the output
  written : ℕ → ℕ → List ℕ → Given

-- the status given; an event's is the second byte of its answer, or 29 if there is none
unfoldable pub given_status : Given → ℕ
given_status (status st) = st
given_status (answer n memory) = get_or (take n memory) 1 29
given_status (written st n memory) = st

unfoldable pub given_size : Given → ℕ
given_size (status st) = 0
given_size (answer n memory) = n
given_size (written st n memory) = n

unfoldable pub given_memory : Given → List ℕ
given_memory (status st) = []
given_memory (answer n memory) = memory
given_memory (written st n memory) = memory

-- What the memories are seen as.

-- a desk of the rules, and beside it its allocation of entries
pub record Standing : Type 0 where
  pub desk : Desk
  pub alloc : Alloc

-- what the memories are seen as: no desk if a length is wrong or the content unsound; else what they stand for
pub data Seen (m : Memories) : Option Standing → Type 0 where
  unsound : soundly m ≡ false → Seen m none
  stands : (d : Desk) (s : Alloc) → StandsFor m d s → Seen m (some (record { desk = d; alloc = s }))

-- the desk v, or no desk if the memory lent beside the three is not n bytes long
unfoldable pub with_room : ℕ → List ℕ → Option Standing → Option Standing
with_room n memory v = elim (eqb (length memory) n) [ true ↦ v | false ↦ none ]

-- The reply: 29, with nothing to hand out, or what the rules reply.

unfoldable pub reply_of : Option Standing → Call → Reply
reply_of none c = shows 29 []
reply_of (some v) c = (respond v.desk c).reply

-- what is given of a reply: its bytes, from the first byte of the memory lent for them, and their number; all bytes after them stay
unfoldable pub answered : List ℕ → Reply → Given
answered memory r = answer (length (reply_bytes r)) (sets memory 0 (reply_bytes r))

unfoldable pub shown : List ℕ → Reply → Given
shown memory r = written (reply_status r) (length (reply_bytes r)) (sets memory 0 (reply_bytes r))

unfoldable pub said : Reply → Given
said r = status (reply_status r)

-- The memories after the call: if there is no desk, every byte is as it was; else they stand for the desk and the allocation that the rules give, and
-- the bytes of files that are not built are as they were. That determines them (proofs/Same.antt), and a refusal changes nothing (proofs/Refused.antt).

unfoldable pub Behind : Option Standing → Call → Memories → Memories → Type 0
Behind none c m m' = m' ≡ m
Behind (some v) c m m' = Stays v.desk v.alloc c m m'

-- The calls.

-- the promise of a call of the rules: whatever the memories are seen as, the reply is given and the memories are those after the call
abbrev pub Answers : (Option Standing → Option Standing) → Call → (Reply → Given) → Memories → Given → Memories → Type 0
Answers lends c gives m g m' =
    (v : Option Standing) → Seen m v → (g ≡ gives (reply_of (lends v) c)) × Behind (lends v) c m m'

-- "of 29 it tests lengths alone"
unfoldable pub sized : Memories → Bool
sized m = eqb (length m.segment) segment_bytes && (eqb (length m.blocks) (share_bytes * files) && eqb (length m.buffers) (places * buffer_bytes * files))

unfoldable pub Promise : Memories → HostCall → Given → Memories → Type 0
Promise m fresh g m' = (g ≡ status (cond (sized m) 0 29)) × (m' ≡ cond (sized m) fresh_memories m)
Promise m (event memory frame) g m' = Answers (with_room answer_room memory) (rules.event frame) (answered memory) m g m'
Promise m (look f p memory) g m' = Answers (with_room record_room memory) (rules.look f p) (shown memory) m g m'
Promise m (save f output) g m' = Answers (λ v. v) (rules.save f (length output)) (shown output) m g m'
Promise m (load f text) g m' = Answers (λ v. v) (rules.load f text) said m g m'
