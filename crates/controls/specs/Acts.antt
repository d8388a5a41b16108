-- A call of file f for which the blocks are not lent.
use Rattle.std.specs.Prelude.{◌≡◌, List, ℕ}
use Rattle.kinds.specs.declared.Answer.{Answer}
use Rattle.rules.specs.Calls.{Ask, ask}
use Rattle.rules.specs.Desk.{Desk, on, file_of, answered}
use Rattle.rules.specs.Allocation.{Alloc}
use Rattle.memory.specs.Memories.{memories}
use Rattle.memory.specs.Fine.{StandsFor}
use Rattle.midst.specs.Outcome.{refusal_of, Done}

-- the memories, with some blocks, stand for a desk that does not refuse what is asked
abbrev pub Taken : ℕ → Ask → List ℕ → List ℕ → Type 0
Taken f q xs buffers =
    (blocks : List ℕ) × (d : Desk) × (s : Alloc) × StandsFor (memories xs blocks buffers) d s × (refusal_of (answered d (on f q)).reply ≡ 0)

-- the call does what the rules say and leaves the blocks, for any blocks with which the memories stand for a desk that does not refuse it
abbrev pub Acts : ℕ → Ask → List ℕ → List ℕ → List ℕ → List ℕ → Answer → Type 0
Acts f q xs buffers xs' buffers' a =
    (blocks : List ℕ) (d : Desk) (s : Alloc) → StandsFor (memories xs blocks buffers) d s → refusal_of (answered d (on f q)).reply ≡ 0
    → Done f d s (ask (file_of d f) q) (memories xs blocks buffers) (memories xs' blocks buffers') a
