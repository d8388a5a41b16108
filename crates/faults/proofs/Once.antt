-- A kind of fault is told once: of the first line that has it, and of no line after that.
use mathlib.Core.Bool.{true}
use mathlib.Core.Path.{◌≡◌, refl}
use mathlib.Core.List.{[]}
use Rattle.std.specs.Prelude.{Option, Some, None}
use Rattle.faults.specs.declared.reading.Fault.{Fault}
use Rattle.faults.specs.declared.reading.Fault.TheVariants.{Blank, Lower, Return, Strange, Long, Odd}
use Rattle.faults.specs.declared.telling.Told.{Told}
use Rattle.faults.specs.declared.telling.Heard.{Heard}
use Rattle.faults.specs.Heard.{knows, tells, hears}
use Rattle.faults.specs.Remarks.{remark}

-- each flag that is set stays set
pub record Grows (t u : Told) : Type 0 where
  pub blank : t.blank ≡ true → u.blank ≡ true
  pub lower : t.lower ≡ true → u.lower ≡ true
  pub returns : t.returns ≡ true → u.returns ≡ true
  pub strange : t.strange ≡ true → u.strange ≡ true
  pub long : t.long ≡ true → u.long ≡ true
  pub odd : t.odd ≡ true → u.odd ≡ true

grows : (t : Told) (f : Fault) → Grows t (tells t f)
unfolding tells
grows t Blank = record { blank = λ _. refl; lower = λ h. h; returns = λ h. h; strange = λ h. h; long = λ h. h; odd = λ h. h }
grows t Lower = record { blank = λ h. h; lower = λ _. refl; returns = λ h. h; strange = λ h. h; long = λ h. h; odd = λ h. h }
grows t Return = record { blank = λ h. h; lower = λ h. h; returns = λ _. refl; strange = λ h. h; long = λ h. h; odd = λ h. h }
grows t Strange = record { blank = λ h. h; lower = λ h. h; returns = λ h. h; strange = λ _. refl; long = λ h. h; odd = λ h. h }
grows t Long = record { blank = λ h. h; lower = λ h. h; returns = λ h. h; strange = λ h. h; long = λ _. refl; odd = λ h. h }
grows t Odd = record { blank = λ h. h; lower = λ h. h; returns = λ h. h; strange = λ h. h; long = λ h. h; odd = λ _. refl }

still-kind : (t : Told) (f : Fault) (k : Option Fault) → knows t k ≡ true → knows (tells t f) k ≡ true
unfolding knows
still-kind t f None h = refl
still-kind t f (Some Blank) h = (grows t f).blank h
still-kind t f (Some Lower) h = (grows t f).lower h
still-kind t f (Some Return) h = (grows t f).returns h
still-kind t f (Some Strange) h = (grows t f).strange h
still-kind t f (Some Long) h = (grows t f).long h
still-kind t f (Some Odd) h = (grows t f).odd h

now-kind : (t : Told) (f : Fault) → knows (tells t f) (Some f) ≡ true
unfolding knows tells
now-kind t Blank = refl
now-kind t Lower = refl
now-kind t Return = refl
now-kind t Strange = refl
now-kind t Long = refl
now-kind t Odd = refl

-- what was told stays told after a line, with a fault or with none
pub still-told : (h : Heard) (f k : Option Fault) → knows h.told k ≡ true → knows (hears h f).told k ≡ true
unfolding hears
still-told h None k e = e
still-told h (Some f) k e = still-kind h.told f k e

-- a fault is told of the line that has it
pub now-told : (h : Heard) (f : Option Fault) → knows (hears h f).told f ≡ true
unfolding hears knows
now-told h None = refl
now-told h (Some f) = now-kind h.told f

-- nothing is said of a line with no fault, or with one that was told
pub unsaid : (h : Heard) (f : Option Fault) → knows h.told f ≡ true → remark h f ≡ []
unfolding remark
unsaid h None e = refl
unsaid h (Some f) e = rw e
