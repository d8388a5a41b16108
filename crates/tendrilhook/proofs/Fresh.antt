-- What the fresh call leaves is what the page of promises says.
use Prim.Native.Nat.{ℕ, ◌*◌}
use mathlib.Core.Path.{◌≡◌, refl, ap, ◌∙◌}
use mathlib.Core.Bool.{Bool, true, false, cond, ◌&&◌}
use lib.Dec.{eqb}
use lib.ListN.{length}
use Rattle.rules.specs.Limits.{files, places, share_bytes, buffer_bytes}
use Rattle.segment.specs.Layout.{segment_bytes}
use Rattle.memory.specs.Memories.{Memories}
use Rattle.memory.specs.Fresh.{fresh_memories}
use Rattle.fresh.specs.Made.{Made, nothing_made, made}
use Rattle.promises.specs.Promise.{fresh, status, sized, Promise}

-- three tests, one after the other, are one
three : (a b c : Bool) (u f : Made) → elim a [ false ↦ u | true ↦ elim b [ false ↦ u | true ↦ elim c [ false ↦ u | true ↦ f ] ] ] ≡ cond (a && (b && c)) f u
three true true true u f = refl
three true true false u f = refl
three true false c u f = refl
three false b c u f = refl

abbrev freshly : Made
freshly = record { status = 0; memories = fresh_memories }

by-test : (a : Bool) (m m' : Memories) (st : ℕ)
    → record { status = st; memories = m' } ≡ cond a freshly (nothing_made m)
    → (status st ≡ status (cond a 0 29)) × (m' ≡ cond a fresh_memories m)
unfolding nothing_made
by-test true m m' st e = (ap (λ (q : Made). status q.status) e, ap (λ (q : Made). q.memories) e)
by-test false m m' st e = (ap (λ (q : Made). status q.status) e, ap (λ (q : Made). q.memories) e)

pub made-fresh : (m m' : Memories) (st : ℕ)
    → record { status = st; memories = m' } ≡ made m → Promise m fresh (status st) m'
unfolding Promise sized made
made-fresh m m' st e =
    by-test (sized m) m m' st
    (e ∙ three (eqb (length m.segment) segment_bytes) (eqb (length m.blocks) (share_bytes * files)) (eqb (length m.buffers) (places * buffer_bytes * files))
    (nothing_made m) freshly)
