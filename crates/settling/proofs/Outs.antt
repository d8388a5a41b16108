-- What is left of a call: the file in hand goes back into its row, and the memories stand for the call's outcome.
use Prim.Native.Nat.{ℕ}
use mathlib.Core.Path.{◌≡◌, sym, subst}
use mathlib.Core.List.{List}
use Rattle.segment.specs.Layout.{file_row_at}
use Rattle.segment.specs.Table.{fill}
use Rattle.rules.specs.State.{Built}
use Rattle.rules.specs.Reply.{Reply, leaves}
use Rattle.memory.specs.Memories.{Memories, memories}
use Rattle.memory.specs.Stands.{Bodies}
use Rattle.words.specs.Word.{Bytes}
use Rattle.midst.specs.declared.File as hand
use Rattle.midst.specs.File.{file_row_words}
use Rattle.midst.specs.Mid.{Start, Mid}
use Rattle.midst.specs.Outcome.{Outcome}
use Rattle.midst.proofs.Begins.{mid-end}

pub mid-out : {I : Built → Type 0} {f : ℕ} {o : Start} {m : Memories} {x : hand.File} {b : Built} → Mid I f o m x b
    → Bodies o.memories o.desk → (xs' : List ℕ) → xs' ≡ fill m.segment (file_row_at f) (file_row_words x) → Bytes xs' → Bytes m.blocks → Bytes m.buffers → (r : Reply)
    → Outcome f o.desk o.alloc (leaves r b) o.memories (memories xs' m.blocks m.buffers)
unfolding leaves
mid-out {I} {f} {o} {m} {x} {b} M B xs' e xb bb ub r =
    subst (λ (ys : List ℕ). Outcome f o.desk o.alloc (leaves r b) o.memories (memories ys m.blocks m.buffers)) (sym e)
    record { stands = mid-end M B (subst Bytes e xb) bb ub; apart = record { shares = M.apart.shares; others = M.apart.others } }
