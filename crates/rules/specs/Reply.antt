-- What a call replies, and what it leaves.
use Rattle.std.specs.Prelude.{List, [], ℕ}
use Rattle.kinds.specs.declared.Answer.{Answer}
use Rattle.kinds.specs.declared.Answer.TheVariants.{Status}
use Rattle.rules.specs.State.{Hap, Built, File, unbuilt, built}

pub data Reply : Type 0 where
  -- reply to an event: the answer, and the data of a record after it
  answers : Answer → List ℕ → Reply
  -- reply to look, save and load: the status, and the bytes shown or written
  shows : ℕ → List ℕ → Reply

-- a reply, the file after the call, and what happened to it, in order
pub record Out : Type 0 where
  pub reply : Reply
  pub file : File
  pub haps : List Hap

-- the file as it is between calls, with no happenings kept
unfoldable pub hushed : Built → Built
hushed b = record { geo = b.geo; store = b.store; accs = b.accs; buffers = b.buffers; rq = b.rq; wq = b.wq; timers = b.timers; past = [] }

unfoldable pub leaves : Reply → Built → Out
leaves r b = record { reply = r; file = built (hushed b); haps = b.past }

-- an answer without data
unfoldable pub answering : Answer → Built → Out
answering a b = leaves (answers a []) b

-- "Any other status: operation and status only."
unfoldable pub status : ℕ → ℕ → Built → Out
status op st b = answering (Status op st) b

-- a reply that leaves the file not built
unfoldable pub unmade : Reply → Out
unmade r = record { reply = r; file = unbuilt; haps = [] }
