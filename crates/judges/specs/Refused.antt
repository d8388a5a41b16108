-- The refusal number of a call, read from the segment (0 if the call is not refused), and whether the call then purges.
use Rattle.std.specs.Prelude.{ℕ, ◌≡◌, Bool, false, List}
use Rattle.kinds.specs.declared.Event.{Event}
use Rattle.kinds.specs.declared.Event.TheVariants.{Build, Open, Read, Write, Control, Collect, Close, Time, Counts}
use Rattle.rules.specs.Desk.{Desk, Asked, answered}
use Rattle.rules.specs.Allocation.{Alloc}
use Rattle.memory.specs.Memories.{memories}
use Rattle.memory.specs.Fine.{StandsFor}
use Rattle.midst.specs.Outcome.{refusal_of}
use Rattle.accessors.specs.Sides.{purges_at}

-- n is the refusal number of q on every desk that the segment stands for
abbrev pub Refuses : List ℕ → Asked → ℕ → Type 0
Refuses xs q n = (blocks buffers : List ℕ) (d : Desk) (s : Alloc) → StandsFor (memories xs blocks buffers) d s → n ≡ refusal_of (answered d q).reply

-- whether an event purges, if it is not refused: only an open does
unfoldable pub purges_by : List ℕ → Event → Bool
purges_by xs (Build f r b n x) = false
purges_by xs (Open f access share multi) = purges_at xs f access
purges_by xs (Read f p n) = false
purges_by xs (Write f p n) = false
purges_by xs (Control f p c) = false
purges_by xs (Collect f p) = false
purges_by xs (Close f p) = false
purges_by xs (Time e) = false
purges_by xs (Counts f) = false
