-- The outcome of a call, in memories.
use Rattle.std.specs.Prelude.{ℕ, ◌≤◌, ◌≡◌, cond, List, [], ltb, length}
use Rattle.std.proofs.lemmas.List.Edits.{sets}
use Rattle.kinds.specs.declared.Answer.{Answer}
use Rattle.kinds.specs.declared.Answer.TheVariants.{Built, Opened, Read, Written, Controlled, Collected, Closed, Passed, Counted, Status}
use Rattle.rules.specs.Answers.{answer_bytes}
use Rattle.rules.specs.Reply.{Reply, answers, shows, Out}
use Rattle.rules.specs.Calls.{Ask, ask}
use Rattle.rules.specs.Limits.{buffer_bytes}
use Rattle.rules.specs.Desk.{Desk, Call, asked, reply_bytes, on, answered, respond, with_file, file_of}
use Rattle.rules.specs.Allocation.{Alloc, allot_all, alloc_asked}
use Rattle.laws.specs.Bounds.{least_refusal}
use Rattle.memory.specs.Memories.{Memories, memories}
use Rattle.memory.specs.Stands.{Stands}
use Rattle.memory.specs.Covers.{Alike}
use Rattle.memory.specs.Fine.{StandsFor}
use Rattle.midst.specs.Mid.{Apart}

-- the status that an answer gives
unfoldable pub status_of : Answer → ℕ
status_of (Built c) = 0
status_of (Opened p n) = 0
status_of (Read l) = 0
status_of (Written l) = 0
status_of Controlled = 0
status_of (Collected l) = 0
status_of Closed = 0
status_of Passed = 0
status_of (Counted a b c d) = 0
status_of (Status op st) = st

unfoldable pub reply_status : Reply → ℕ
reply_status (answers a d) = status_of a
reply_status (shows st d) = st

-- the refusal number of a reply, least_refusal or more ("A refusal changes nothing"); 0 if the call is not refused
unfoldable pub refusal_of : Reply → ℕ
refusal_of r = cond (ltb (reply_status r) least_refusal) 0 (reply_status r)

-- the memories stand for a desk
abbrev pub Sound : Memories → Type 0
Sound m = (d : Desk) × (s : Alloc) × StandsFor m d s

-- Segment and blocks that stand for a desk, with some buffers.
abbrev pub SoundBlocks : List ℕ → List ℕ → Type 0
SoundBlocks xs blocks = (buffers : List ℕ) × Sound (memories xs blocks buffers)

-- A segment that stands for a desk, with some blocks and buffers.
abbrev pub SoundSegment : List ℕ → Type 0
SoundSegment xs = (blocks : List ℕ) × (buffers : List ℕ) × Sound (memories xs blocks buffers)

-- the answer's n bytes lie at the start of the answer memory, and all bytes after them are as they were
pub record Told (r : Reply) (memory memory' : List ℕ) (n : ℕ) : Type 0 where
  pub bytes : memory' ≡ sets memory 0 (reply_bytes r)
  pub size : n ≡ length (reply_bytes r)

-- the memories, which were m before a call of file f, stand for the desk and the allocation after the outcome x
pub record Outcome (f : ℕ) (d : Desk) (s : Alloc) (x : Out) (m m' : Memories) : Type 0 where
  pub stands : Stands m' (with_file d f x.file) (allot_all f x.haps s)
  pub apart : Apart f m m'

-- a call of file f has the outcome x and is answered a, without data
pub record Done (f : ℕ) (d : Desk) (s : Alloc) (x : Out) (m m' : Memories) (a : Answer) : Type 0 where
  pub outcome : Outcome f d s x m m'
  pub reply : x.reply ≡ answers a []

-- a call of file f has the outcome x and is answered a, with n bytes of data, which lie in the answer memory where the answer's own bytes end
pub record Gave (f : ℕ) (d : Desk) (s : Alloc) (x : Out) (m : Memories) (memory : List ℕ) (m' : Memories) (memory' : List ℕ) (a : Answer) (n : ℕ) : Type 0 where
  pub outcome : Outcome f d s x m m'
  pub bytes : List ℕ
  pub reply : x.reply ≡ answers a bytes
  pub size : n ≡ length bytes
  pub most : n ≤ buffer_bytes
  pub behind : memory' ≡ sets memory (length (answer_bytes a)) bytes

-- what is asked of file f is done, and answered a, on every desk that the memories m stand for; `Gives`: with n bytes of data
abbrev pub Does : ℕ → Ask → Memories → Memories → Answer → Type 0
Does f q m m' a = (d : Desk) (s : Alloc) → StandsFor m d s → Done f d s (ask (file_of d f) q) m m' a

abbrev pub Gives : ℕ → Ask → Memories → List ℕ → Memories → List ℕ → Answer → ℕ → Type 0
Gives f q m memory m' memory' a n = (d : Desk) (s : Alloc) → StandsFor m d s → Gave f d s (ask (file_of d f) q) m memory m' memory' a n

-- no desk that the memories stand for refuses what is asked of file f
abbrev pub Accepted : ℕ → Ask → Memories → Type 0
Accepted f q m = (d : Desk) (s : Alloc) → StandsFor m d s → refusal_of (answered d (on f q)).reply ≡ 0

-- the memories after a call of the desk d with the allocation s are those of the rules' desk and allocation; files that are not built keep their bytes
pub record Stays (d : Desk) (s : Alloc) (c : Call) (m m' : Memories) : Type 0 where
  pub stands : StandsFor m' (respond d c).desk (alloc_asked d (asked c) s)
  pub rest : Alike (respond d c).desk m' m
