-- The walk along a file's read queue when its last writer goes.
use Rattle.std.specs.Prelude.{ℕ, ◌≤◌, ◌≡◌, List, ◌++◌, length}
use Rattle.rules.specs.State.{Built}
use Rattle.rules.specs.Allocation.{allot_all}
use Rattle.rules.specs.Close.{end_readers}
use Rattle.segment.specs.Layout.{read_queue}
use Rattle.segment.specs.Fields.{entry_words, completed_request}
use Rattle.ports.proofs.Chains.{slot_at}
use Rattle.midst.specs.declared.File as hand
use Rattle.midst.specs.Mid.{Start, Mid}
use Rattle.midst.proofs.Lists.{entries_in}
use Rattle.memory.specs.Memories.{Memories}

-- the data of a read that ended with status 2 and brought nothing
unfoldable pub end_words : ℕ → List ℕ
end_words i = entry_words (completed_request i 2 0 0)

-- the walk, which began with the file `from`, has come to this slot: the readers `kept` of the queue were passed and wait on, the readers `rest`,
-- at most `left`, are still to be passed, and ending them is what is left to do
pub record Walk (I : Built → Type 0) (f : ℕ) (o : Start) (m : Memories) (x : hand.File) (from : Built) (slot left : ℕ) : Type 0 where
  pub file : Built
  pub kept : List ℕ
  pub rest : List ℕ
  pub mid : Mid I f o m x file
  pub queue : file.rq ≡ kept ++ rest
  pub at : slot ≡ slot_at (read_queue f) (entries_in f (allot_all f file.past o.alloc) kept)
  pub few : length rest ≤ left
  pub same : end_readers rest file ≡ end_readers from.rq from
