-- Lines, numbers and remarks, computed.
use mathlib.Core.Path.{◌≡◌, refl}
use Rattle.std.specs.Prelude.{Some, None}
use Rattle.rules.specs.Line.{value_of}
use Rattle.texts.specs.Spell.{spell}
use Rattle.faults.specs.declared.reading.Fault.TheVariants.{Blank, Lower, Return, Strange, Odd}
use Rattle.faults.specs.Faults.{strange, digits_alone, fault_after, fault_of}
use Rattle.faults.specs.Heard.{none, knows, tells, next_line, hears}
use Rattle.faults.specs.Decimals.{decimal_in, decimal}
use Rattle.faults.specs.Remarks.{reason, remark_line, remark}

frame : fault_of (spell "040F") ≡ None
unfolding fault_of fault_after digits_alone strange value_of spell
frame = refl

blank : fault_of (spell "") ≡ Some Blank
unfolding fault_of fault_after digits_alone spell
blank = refl

odd : fault_of (spell "040") ≡ Some Odd
unfolding fault_of fault_after digits_alone strange value_of spell
odd = refl

-- the first byte that is no upper-case digit decides

lower : fault_of (spell "04fG\r") ≡ Some Lower
unfolding fault_of fault_after digits_alone strange value_of spell
lower = refl

other : fault_of (spell "04 f") ≡ Some Strange
unfolding fault_of fault_after digits_alone strange value_of spell
other = refl

carriage-return : fault_of (spell "040F\r") ≡ Some Return
unfolding fault_of fault_after digits_alone strange value_of spell
carriage-return = refl

-- numbers

zero : decimal 0 ≡ spell "0"
unfolding decimal decimal_in spell
zero = refl

round : decimal 65540 ≡ spell "65540"
unfolding decimal decimal_in spell
round = refl

most : decimal 18446744073709551615 ≡ spell "18446744073709551615"
unfolding decimal decimal_in spell
most = refl

-- the second line is the first with a fault; a third with the same fault is passed over

said : remark (hears none None) (Some Lower) ≡ spell "line 2 is taken as an empty frame: it has lower-case digits\n"
unfolding remark remark_line reason knows hears tells none next_line decimal decimal_in spell
said = refl

passed_over : remark (hears (hears none None) (Some Lower)) (Some Lower) ≡ spell ""
unfolding remark knows hears tells none next_line spell
passed_over = refl
