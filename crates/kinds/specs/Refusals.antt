-- The numbers of the refusals, and of what a call that may be refused gives.
use Rattle.std.specs.Prelude.{ℕ, Result, Ok, Err}
use Rattle.kinds.specs.declared.refusals.Refusal.{Refusal}
use Rattle.kinds.specs.declared.refusals.Refusal.TheVariants.{Unsound, Shape, File, Accessor, Outstanding, Side, Range, Size, Nothing, Sharing, Full, Room, NoSheet, Short}

abbrev pub number : Refusal → ℕ
number Unsound = 29
number Shape = 30
number File = 31
number Accessor = 32
number Outstanding = 33
number Side = 34
number Range = 35
number Size = 38
number Nothing = 39
number Sharing = 40
number Full = 41
number Room = 42
number NoSheet = 43
number Short = 44

-- the refusal number, 0 if the call is not refused
abbrev pub refusal_number : {T : Type 0} → Result T Refusal → ℕ
refusal_number (Ok x) = 0
refusal_number (Err r) = number r

-- the length that such a call gives, 0 if it is refused
abbrev pub length_of : Result ℕ Refusal → ℕ
length_of (Ok n) = n
length_of (Err r) = 0
