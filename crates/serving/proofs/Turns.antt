-- The desk after what was read so far.
use Prim.Native.Nat.{ℕ}
use mathlib.Core.Path.{sym, subst}
use mathlib.Core.List.{List, [], ◌∷◌, ◌++◌}
use lib.Dec.{eqb}
use lib.ListN.{length}
use Rattle.rules.proofs.Split.{by_cases, pick_true, pick-false}
use Rattle.memory.specs.Memories.{Memories}
use Rattle.memory.specs.Fine.{StandsFor}
use Rattle.serving.specs.Going.{Going, line_ends, byte, goes, ends, written, Printed, At}
use Rattle.serving.specs.Served.{Behind}
use Rattle.serving.proofs.Steps.{goes-append}

pub at-behind : (g : Going) (t : List ℕ) (ms : Memories) (line out : List ℕ) (n m : ℕ) → At (written (goes g t)) ms line out n m → Behind g ms
unfolding written
at-behind g t ms line out n m a = (t, a.printed.stands)

-- the end of the input: a last line that lacks its LF is answered as one that has it
pub ends-behind : (g : Going) (ms : Memories) (out : List ℕ) (m : ℕ) → Printed (ends (written g)) ms out m → Behind g ms
unfolding ends written goes byte line_ends
ends-behind g ms out m p =
    by_cases (eqb (length g.part) 0)
    (λ e. ([], subst (λ (x : Going). StandsFor ms x.desk x.alloc) (pick_true _ _ _ e) p.stands))
    (λ e. (10 ∷ [], subst (λ (x : Going). StandsFor ms x.desk x.alloc) (pick-false _ _ _ e) p.stands))

-- one text after another
pub behind_on : (g : Going) (t : List ℕ) (ms : Memories) → Behind (goes g t) ms → Behind g ms
behind_on g t ms h = (t ++ h.0, subst (λ (x : Going). StandsFor ms x.desk x.alloc) (sym (goes-append g t h.0)) h.1)
