-- What is said on standard error of a line that is no frame.
use Rattle.std.specs.Prelude.{ℕ, cond, List, [], ◌++◌, Option, Some, None}
use Rattle.texts.specs.Spell.{spell}
use Rattle.faults.specs.declared.reading.Fault.{Fault}
use Rattle.faults.specs.declared.reading.Fault.TheVariants.{Blank, Lower, Return, Strange, Long, Odd}
use Rattle.faults.specs.declared.telling.Heard.{Heard}
use Rattle.faults.specs.Heard.{knows, next_line}
use Rattle.faults.specs.Decimals.{decimal}

-- why the line is no frame
unfoldable pub reason : Fault → List ℕ
reason Blank = spell "it is empty"
reason Lower = spell "it has lower-case digits"
reason Return = spell "it has a carriage return"
reason Strange = spell "it has a character that is no digit"
reason Long = spell "it has more than 522 digits"
reason Odd = spell "it has an odd number of digits"

-- the remark on line n
unfoldable pub remark_line : ℕ → Fault → List ℕ
remark_line n f = spell "line " ++ (decimal n ++ (spell " is taken as an empty frame: " ++ (reason f ++ spell "\n")))

-- what is said as a line ends: nothing if it has no fault, or one of a kind that was told
unfoldable pub remark : Heard → Option Fault → List ℕ
remark h None = []
remark h (Some f) = cond (knows h.told (Some f)) [] (remark_line (next_line h.lines) f)

-- the most bytes of a reason and of a remark
abbrev pub reason_room : ℕ
reason_room = 35

abbrev pub remark_room : ℕ
remark_room = 90
