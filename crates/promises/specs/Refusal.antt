-- What a host is given when a call is refused: the status, a length of 0, and the record memory or the output as it was lent. Only an event writes, and no more
-- than two bytes: "A refusal changes nothing but an event's two answer bytes". proofs/Refused.antt has the law of every call (`refused-call`).
use Rattle.std.specs.Prelude.{ℕ, cond, List, [], ◌∷◌, ◌++◌, eqb, get_or, drop}
use Rattle.promises.specs.Promise.{HostCall, fresh, event, look, save, load, Given, status, answer, written}

-- the two answer bytes, operation and status: the operation is the first byte of the frame, and 0 for 30, "answer 00 1E"
unfoldable pub refusal_bytes : List ℕ → ℕ → List ℕ
refusal_bytes frame st = cond (eqb st 30) 0 (get_or frame 0 0) ∷ st ∷ []

-- what is given with the status st; for 29 "an event then writes nothing, answer length 0"
unfoldable pub refused_gives : HostCall → ℕ → Given
refused_gives fresh st = status st
refused_gives (event memory frame) st = cond (eqb st 29) (answer 0 memory) (answer 2 (refusal_bytes frame st ++ drop 2 memory))
refused_gives (look f p memory) st = written st 0 memory
refused_gives (save f output) st = written st 0 output
refused_gives (load f text) st = status st
