-- What a turn does, in memories and in the file in hand.
use Rattle.std.specs.Prelude.{ℕ, zero, suc, ◌+◌, ◌<◌, ◌≡◌, cond, List, eqb, ltb, take}
use Rattle.segment.specs.declared.Entry.{Entry}
use Rattle.segment.specs.Layout.{link_at, read_queue, write_queue}
use Rattle.segment.specs.Table.{nth}
use Rattle.segment.specs.Fields.{entry_words, completed_request}
use Rattle.rules.specs.State.{Built}
use Rattle.rules.specs.TransferCounts.{log_of}
use Rattle.rules.specs.Limits.{entries}
use Rattle.rules.specs.Settle.{Turn, settle}
use Rattle.rules.specs.Reply.{Reply, leaves}
use Rattle.rules.specs.Memories.{buffer_at}
use Rattle.memory.specs.Memories.{Memories}
use Rattle.accessors.specs.Sides.{count_side}
use Rattle.memory.specs.Stands.{Bodies}
use Rattle.memory.specs.Fine.{Fine}
use Rattle.midst.specs.declared.File as hand
use Rattle.midst.specs.Mid.{Start, Mid}
use Rattle.midst.specs.Outcome.{Outcome}
use Rattle.settling.specs.declared.Turn as code

-- the midst of some call of file f
abbrev pub Amid : ℕ → Memories → hand.File → Type 0
Amid f m x = (o : Start) × (b : Built) × Mid Fine f o m x b

-- w is W, the number of open writers, if a writer waits; if none waits, nothing asks for it
abbrev pub Beside : ℕ → ℕ → List ℕ → Type 0
Beside w f xs = nth xs (write_queue f) < entries → w ≡ count_side xs f 2

-- a writer that waits is open
abbrev pub Counts : ℕ → List ℕ → Type 0
Counts f xs = nth xs (write_queue f) < entries → 0 < count_side xs f 2

-- A call that has acted, with the file x in hand, is over: the file is settled, and its row is written.
abbrev pub Settles : ℕ → Memories → hand.File → Memories → Type 0
Settles f m x m' =
    (o : Start) (b : Built) → Mid Fine f o m x b → Bodies o.memories o.desk → (r : Reply) → Outcome f o.desk o.alloc (leaves r (settle b)) o.memories m'

-- the memories, and what is handed back, are those of the rules' turn m
pub record Served (f : ℕ) (o : Start) (ms : Memories) (r : code.Turn) (m : Turn) : Type 0 where
  pub moved : r.moved ≡ m.moved
  pub mid : Mid Fine f o ms r.file m.file

-- the data of the entry of the waiting read m, completed with n bytes, which lie in its buffer; `wrote_words`: of a write, which has none left there
unfoldable pub read_words : Entry → ℕ → List ℕ
read_words m n = entry_words (completed_request m.place 0 (log_of (eqb m.unit 1) n) n)

unfoldable pub wrote_words : Entry → List ℕ
wrote_words m = entry_words (completed_request m.place 0 (log_of (eqb m.unit 1) m.size) 0)

-- the data of a waiting write, in its buffer
abbrev pub data_of : Entry → List ℕ → List ℕ
data_of m buffers = take m.size (buffer_at m.place buffers)

-- the turns so far, from m and x to m' and x', lead to the same settled file
pub record Comes (f : ℕ) (m : Memories) (x : hand.File) (m' : Memories) (x' : hand.File) : Type 0 where
  pub to : (o : Start) (b : Built) → Mid Fine f o m x b → Built
  pub mid : (o : Start) (b : Built) (M : Mid Fine f o m x b) → Mid Fine f o m' x' (to o b M)
  pub same : (o : Start) (b : Built) (M : Mid Fine f o m x b) → settle (to o b M) ≡ settle b

-- how many entries the list at slot p has, at most n
unfoldable pub span : List ℕ → ℕ → ℕ → ℕ
span s p zero = 0
span s p (suc n) = cond (ltb (nth s p) entries) (suc (span s (link_at (nth s p)) n)) 0

-- how many requests of file f wait
unfoldable pub waiting : List ℕ → ℕ → ℕ
waiting s f = span s (read_queue f) entries + span s (write_queue f) entries
