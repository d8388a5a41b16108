-- What happens to the desk, seen from one file, and the allocation as a fold over it.
use Rattle.std.specs.Prelude.{cond, List, [], ◌∷◌, map, ℕ, eqb}
use Rattle.rules.specs.State.{Hap}
use Rattle.rules.specs.Time.{minus}
use Rattle.rules.specs.Desk.{Asked, on, time, bad}
use Rattle.rules.specs.Allocation.{Alloc, Happening, with_clock, allot}

-- the happenings of file f among those of the desk
unfoldable pub told_of : ℕ → List Happening → List Hap
told_of f [] = []
told_of f (t ∷ ts) = cond (eqb t.file f) (t.hap ∷ told_of f ts) (told_of f ts)

-- the allocation after happenings of the desk, one after the other
unfoldable pub allot_told : List Happening → Alloc → Alloc
allot_told [] s = s
allot_told (t ∷ ts) s = allot_told ts (allot t.file t.hap s)

-- the allocation after time has taken e off what is left of the timers that stay; no other call does that
unfoldable pub aged : Asked → Alloc → Alloc
aged (on f q) s = s
aged (time e) s = with_clock (map (minus e) s.clock) s
aged bad s = s
