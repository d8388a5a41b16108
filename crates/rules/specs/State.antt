-- What the desk holds, as the rules speak of it: no entry number, link or free list.
use Rattle.std.specs.Prelude.{Bool, List, ℕ}
use Rattle.std.proofs.Math.Option.{Option}

-- a record: its type (0 data, 1 open, 2 close), the writer's ID, and data
pub record Rec : Type 0 where
  pub typ : ℕ
  pub wid : ℕ
  pub body : List ℕ

-- record size R in words, blocking factor B, data blocks D
pub record Geo : Type 0 where
  pub words : ℕ
  pub factor : ℕ
  pub blocks : ℕ

-- "A file is a ring of blocks": the oldest block still holding a record (or the one to go on at), how many of its places are spent,
-- the records held, oldest first, and the bytes of the file's share
pub record Store : Type 0 where
  pub block : ℕ
  pub spent : ℕ
  pub recs : List Rec
  pub share : List ℕ

-- a waiting read: whether it counts in words, how many bytes it takes at most, whether it is under control 47
pub record Wanted : Type 0 where
  pub by_words : Bool
  pub limit : ℕ
  pub keep : Bool

-- a waiting write: whether it counts in words, and the data
pub record Offered : Type 0 where
  pub by_words : Bool
  pub bytes : List ℕ

-- a completed read: how it ended, its log, and the bytes as they will be answered
pub record Brought : Type 0 where
  pub status : ℕ
  pub log : ℕ
  pub bytes : List ℕ

-- a completed write
pub record Wrote : Type 0 where
  pub status : ℕ
  pub log : ℕ

-- "One outstanding request per accessor, until collected."
pub data Req : Type 0 where
  idle : Req
  reading : Wanted → Req
  writing : Offered → Req
  read_done : Brought → Req
  write_done : Wrote → Req

pub record Acc : Type 0 where
  pub writer : Bool
  -- the writer's ID, 0 for a reader
  pub ident : ℕ
  pub sharing : ℕ
  -- control 4
  pub timeout : ℕ
  -- controls 45, 46, 47
  pub extended : Bool
  pub typed : Bool
  pub keep : Bool
  -- whether no read or write was accepted yet
  pub first : Bool
  pub req : Req

-- the remaining timeout of the request at a place: a place of the file among a file's timers, of the desk on the desk's clock (`Allocation`)
pub record Timer : Type 0 where
  pub place : ℕ
  pub left : ℕ

-- what happens to a file in a call, in order; what is stated beside the definition is a fold over it. Time passes in all files at once:
-- `Allocation.told` gives what it does to the desk, in order
pub data Hap : Type 0 where
  -- the file was made, by build or load
  made : Geo → Hap
  -- a record was put; the read at a place took it; it was discarded at the head; all records were purged
  puts : Rec → Hap
  takes : ℕ → Rec → Hap
  drops : Rec → Hap
  purges : Hap
  -- the request at a place began to wait, armed its timer, completed with a status, was cancelled, was collected
  waits : ℕ → Hap
  arms : ℕ → ℕ → Hap
  ends : ℕ → ℕ → Hap
  cancels : ℕ → Hap
  collects : ℕ → Hap

pub record Built : Type 0 where
  pub geo : Geo
  pub store : Store
  -- eight accessor places
  pub accs : List (Option Acc)
  -- the bytes of their eight record buffers, one after another
  pub buffers : List ℕ
  -- the places of the waiting readers, and of the waiting writers, first come first
  pub rq : List ℕ
  pub wq : List ℕ
  -- the running timers, smallest first, equals in arming order
  pub timers : List Timer
  -- what the call at hand has done so far; nothing between calls
  pub past : List Hap

pub data File : Type 0 where
  unbuilt : File
  built : Built → File
