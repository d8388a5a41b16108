-- The number of lines that have ended, and the kinds of faults that were told of them: each is told once.
use Rattle.std.specs.Prelude.{ℕ, ◌+◌, Bool, true, false, cond, Option, Some, None, ltb}
use Rattle.faults.specs.declared.reading.Fault.{Fault}
use Rattle.faults.specs.declared.reading.Fault.TheVariants.{Blank, Lower, Return, Strange, Long, Odd}
use Rattle.faults.specs.declared.telling.Told.{Told}
use Rattle.faults.specs.declared.telling.Heard.{Heard}

-- before the first line
unfoldable pub none : Heard
none = record { lines = 0; told = record { blank = false; lower = false; returns = false; strange = false; long = false; odd = false } }

-- whether nothing is left to tell of a line with this fault, or with none
unfoldable pub knows : Told → Option Fault → Bool
knows t None = true
knows t (Some Blank) = t.blank
knows t (Some Lower) = t.lower
knows t (Some Return) = t.returns
knows t (Some Strange) = t.strange
knows t (Some Long) = t.long
knows t (Some Odd) = t.odd

-- the kinds told after a fault is
unfoldable pub tells : Told → Fault → Told
tells t Blank = record { blank = true; lower = t.lower; returns = t.returns; strange = t.strange; long = t.long; odd = t.odd }
tells t Lower = record { blank = t.blank; lower = true; returns = t.returns; strange = t.strange; long = t.long; odd = t.odd }
tells t Return = record { blank = t.blank; lower = t.lower; returns = true; strange = t.strange; long = t.long; odd = t.odd }
tells t Strange = record { blank = t.blank; lower = t.lower; returns = t.returns; strange = true; long = t.long; odd = t.odd }
tells t Long = record { blank = t.blank; lower = t.lower; returns = t.returns; strange = t.strange; long = true; odd = t.odd }
tells t Odd = record { blank = t.blank; lower = t.lower; returns = t.returns; strange = t.strange; long = t.long; odd = true }

-- the number of the line after line n; the largest number that 64 bits hold is that of all lines after it
unfoldable pub next_line : ℕ → ℕ
next_line n = cond (ltb n 18446744073709551615) (n + 1) n

-- after a line with this fault, or with none
unfoldable pub hears : Heard → Option Fault → Heard
hears h None = record { lines = next_line h.lines; told = h.told }
hears h (Some f) = record { lines = next_line h.lines; told = tells h.told f }
