-- The event program begins with a fresh desk, and prints what document 01 says.
use Rattle.std.proofs.Common.{true, Option, IfSome}
use Prim.Native.Nat.{ℕ, ◌*◌}
use mathlib.Core.Path.{◌≡◌, ap, sym, ◌∙◌, subst}
use mathlib.Core.List.{List, []}
use lib.Dec.{eqb}
use lib.ListN.{length}
use borrow.Author.Tests.{eq-eqb}
use Rattle.std.specs.Io.KnownBytes.{Appends}
use Rattle.std.proofs.KnownBytes.{Consumes-whole}
use Rattle.segment.specs.Layout.{segment_bytes}
use Rattle.rules.specs.Limits.{files, places, share_bytes, buffer_bytes}
use Rattle.rules.specs.Desk.{fresh_desk, after, program}
use Rattle.rules.specs.Allocation.{fresh_alloc, alloc_after}
use Rattle.rules.proofs.Split.{pick_true}
use Rattle.memory.specs.Memories.{Memories}
use Rattle.memory.specs.Fresh.{fresh_memories}
use Rattle.memory.specs.Fine.{StandsFor}
use Rattle.memory.proofs.Fresh.{fresh-stands}
use Rattle.memory.proofs.Reached.{reached}
use Rattle.fresh.specs.Made.{Made, made}
use Rattle.serving.specs.Going.{begun, begins, written}
use Rattle.serving.specs.Told.{said, all_answers, Told}
use Rattle.serving.proofs.Whole.{prints}

-- three memories of the right lengths are made those of a fresh desk
made-right : (m : Memories) → length m.segment ≡ segment_bytes → length m.blocks ≡ share_bytes * files → length m.buffers ≡ places * buffer_bytes * files
    → made m ≡ record { status = 0; memories = fresh_memories }
unfolding made
made-right m s b u =
    pick_true (eqb (length m.segment) segment_bytes) _ _ (eq-eqb (length m.segment) segment_bytes s)
    ∙ pick_true (eqb (length m.blocks) (share_bytes * files)) _ _ (eq-eqb (length m.blocks) (share_bytes * files) b)
    ∙ pick_true (eqb (length m.buffers) (places * buffer_bytes * files)) _ _ (eq-eqb (length m.buffers) (places * buffer_bytes * files) u)

pub stands-fresh : (m m' : Memories) (status : ℕ) → length m.segment ≡ segment_bytes → length m.blocks ≡ share_bytes * files → length m.buffers ≡ places * buffer_bytes * files
    → record { status = status; memories = m' } ≡ made m → StandsFor m' fresh_desk fresh_alloc
unfolding after alloc_after
stands-fresh m m' status s b u e =
    subst (λ (x : Memories). StandsFor x fresh_desk fresh_alloc)
    (sym (ap (λ (x : Made). x.memories) (e ∙ made-right m s b u)))
    (reached [] fresh_memories fresh-stands)

pub program-told : (r r' w w' : Option (List ℕ)) (m : Memories) → Told r r' w w' true (begun fresh_desk fresh_alloc) m → IfSome r (λ t. Appends w w' (program t))
unfolding all_answers said begins begun written
program-told r r' w w' m k = Consumes-whole r r' k.text (λ t. Appends w w' (program t)) k.read k.end (subst (Appends w w') (prints k.text) k.printed)
