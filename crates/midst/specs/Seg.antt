-- The segment in the midst of a call: its lists, what their entries hold, and its rows are those of a desk and an allocation, except for row k, whose
-- file is in hand.
use Rattle.std.specs.Prelude.{ℕ, ◌<◌, ◌≡◌, Bool, cond, List, [], get_or}
use Rattle.segment.specs.Layout.{row_count, read_queue, write_queue}
use Rattle.ports.specs.Lists.{Boxes}
use Rattle.rules.specs.State.{Built}
use Rattle.rules.specs.Desk.{Desk}
use Rattle.rules.specs.Allocation.{Alloc}
use Rattle.memory.specs.Image.{lists_of, boxes_of, row_of}

pub record Seg (xs : List ℕ) (d : Desk) (t : Alloc) (k : ℕ) : Type 0 where
  pub rows : List (List ℕ)
  pub boxes : Boxes xs [] [] (lists_of d t) (boxes_of d t) rows
  pub same : (i : ℕ) → i < row_count → (i ≡ k → ⊥) → get_or rows i [] ≡ row_of d i

-- the list of the waiting writers of file f, or of its waiting readers
abbrev pub queue_at : Bool → ℕ → ℕ
queue_at writer f = cond writer (write_queue f) (read_queue f)

-- the places of the waiting writers of a file, or of its waiting readers
abbrev pub side_queue : Bool → Built → List ℕ
side_queue writer b = cond writer b.wq b.rq
