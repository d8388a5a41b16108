-- How a refused call is answered: operation and status.
use Rattle.std.specs.Prelude.{ℕ, ◌≡◌, List, [], ◌∷◌}
use Rattle.std.proofs.Math.Option.{Option, none}
use Rattle.std.proofs.lemmas.List.Edits.{sets}
use Rattle.kinds.specs.declared.Frame.{Frame}
use Rattle.kinds.specs.declared.Frame.TheVariants as frame
use Rattle.rules.specs.Calls.{control}
use Rattle.rules.specs.Desk.{on, Call}
use Rattle.midst.specs.Outcome.{refusal_of}
use Rattle.promises.specs.Promise.{Standing, Seen, reply_of}
use Rattle.judges.specs.Refused.{Refuses}
use Rattle.memory.specs.Memories.{Memories}

-- the two bytes of a refusal are written
pub record Twice (operation number : ℕ) (memory memory' : List ℕ) (n : ℕ) : Type 0 where
  pub bytes : memory' ≡ sets memory 0 (operation ∷ number ∷ [])
  pub size : n ≡ 2

-- the answer to a frame that is no event: a code that is no control gets its refusal, any other frame 30
unfoldable pub Refusal : List ℕ → Frame → List ℕ → List ℕ → ℕ → Type 0
Refusal xs (frame.Event e) memory memory' n = Twice 0 30 memory memory' n
Refusal xs (frame.Code f p) memory memory' n = (number : ℕ) × Refuses xs (on f (control p none)) number × Twice 5 number memory memory' n
Refusal xs frame.Shape memory memory' n = Twice 0 30 memory memory' n

-- n is the number a call is refused with, whatever the memories are seen as: 29 if they are no desk, 0 if the call is done
abbrev pub RefusedWith : Memories → Call → ℕ → Type 0
RefusedWith m c n = (v : Option Standing) → Seen m v → n ≡ refusal_of (reply_of v c)
