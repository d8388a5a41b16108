-- "Read, write, open and close first act, which fixes their answer, then the file settles"
use Rattle.std.specs.Prelude.{ℕ, ◌≤◌, ◌≡◌, List, length}
use Rattle.std.proofs.lemmas.List.Edits.{sets}
use Rattle.kinds.specs.declared.Answer.{Answer}
use Rattle.rules.specs.Limits.{buffer_bytes}
use Rattle.rules.specs.State.{Built}
use Rattle.rules.specs.Settle.{settle}
use Rattle.rules.specs.Answers.{answer_bytes}
use Rattle.rules.specs.Reply.{answers, Out, leaves}
use Rattle.rules.specs.Calls.{Ask, ask}
use Rattle.rules.specs.Desk.{Desk, on, file_of, answered}
use Rattle.rules.specs.Allocation.{Alloc}
use Rattle.memory.specs.Memories.{Memories, memories}
use Rattle.memory.specs.Fine.{Fine, StandsFor}
use Rattle.midst.specs.declared.File as hand
use Rattle.midst.specs.Mid.{Start, Mid}
use Rattle.midst.specs.Outcome.{refusal_of, Gave}

-- a call of file f with the outcome x has acted: its answer is a with these bytes, and the file in hand is about to settle
pub record Acts (f : ℕ) (o : Start) (x : Out) (m : Memories) (file : hand.File) (a : Answer) (bytes : List ℕ) : Type 0 where
  pub acted : Built
  pub mid : Mid Fine f o m file acted
  pub out : x ≡ leaves (answers a bytes) (settle acted)

-- a read has acted: n bytes of data lie in the answer memory where the answer's own bytes end
pub record Hands (f : ℕ) (o : Start) (x : Out) (m : Memories) (memory memory' : List ℕ) (file : hand.File) (a : Answer) (n : ℕ) : Type 0 where
  pub bytes : List ℕ
  pub acts : Acts f o x m file a bytes
  pub size : n ≡ length bytes
  pub most : n ≤ buffer_bytes
  pub behind : memory' ≡ sets memory (length (answer_bytes a)) bytes

-- a collect, which is not lent the blocks, is done on every desk that does not refuse it and that the memories stand for, with any blocks
abbrev pub CollectActs : ℕ → Ask → List ℕ → List ℕ → List ℕ → List ℕ → List ℕ → List ℕ → Answer → ℕ → Type 0
CollectActs f q xs buffers memory xs' buffers' memory' a n =
    (blocks : List ℕ) (d : Desk) (s : Alloc) → StandsFor (memories xs blocks buffers) d s → refusal_of (answered d (on f q)).reply ≡ 0
    → Gave f d s (ask (file_of d f) q) (memories xs blocks buffers) memory (memories xs' blocks buffers') memory' a n
