-- Refusal 29, and the calls that get it in a run.
use Rattle.std.specs.Prelude.{Bool, false, not, eqb, length}
use Rattle.rules.specs.Limits.{record_room, answer_room}
use Rattle.promises.specs.Promise.{HostCall, fresh, event, look, save, load, Given, status, answer, written}

-- "an event then writes nothing, answer length 0"
unfoldable pub is29 : Given → Bool
is29 (status st) = eqb st 29
is29 (answer n memory) = eqb n 0
is29 (written st n memory) = eqb st 29

-- whether the answer or record memory has a wrong length
unfoldable pub wrong_length : HostCall → Bool
wrong_length fresh = false
wrong_length (event memory frame) = not (eqb (length memory) answer_room)
wrong_length (look f p memory) = not (eqb (length memory) record_room)
wrong_length (save f output) = false
wrong_length (load f text) = false
