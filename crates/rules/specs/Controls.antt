-- Control: the six controls of an accessor.
use Rattle.std.specs.Prelude.{Bool, true, false, ℕ, leb, eqb}
use Rattle.std.proofs.Math.Option.{Option, none, some}
use Rattle.kinds.specs.declared.Answer.TheVariants.{Controlled}
use Rattle.kinds.specs.declared.Control.{Control}
use Rattle.kinds.specs.declared.Control.TheVariants.{Timeout, Verify, Abort, Extended, Typed, Keep}
use Rattle.rules.specs.State.{Req, idle, reading, writing, read_done, write_done, Acc, Built}
use Rattle.rules.specs.Requests.{alter_acc, is_idle, cancel}
use Rattle.rules.specs.Reply.{Out, answering, status}

unfoldable pub set_timeout : ℕ → Acc → Acc
set_timeout v a = record { writer = a.writer; ident = a.ident; sharing = a.sharing; timeout = v; extended = a.extended; typed = a.typed; keep = a.keep; first = a.first; req = a.req }

unfoldable pub set_extended : Bool → Acc → Acc
set_extended v a = record { writer = a.writer; ident = a.ident; sharing = a.sharing; timeout = a.timeout; extended = v; typed = a.typed; keep = a.keep; first = a.first; req = a.req }

unfoldable pub set_typed : Bool → Acc → Acc
set_typed v a = record { writer = a.writer; ident = a.ident; sharing = a.sharing; timeout = a.timeout; extended = a.extended; typed = v; keep = a.keep; first = a.first; req = a.req }

unfoldable pub set_keep : Bool → Acc → Acc
set_keep v a = record { writer = a.writer; ident = a.ident; sharing = a.sharing; timeout = a.timeout; extended = a.extended; typed = a.typed; keep = v; first = a.first; req = a.req }

-- changes a setting of an accessor, "with 0 or 1"; any other number is refused 35
unfoldable pub switched : ℕ → ℕ → (Bool → Acc → Acc) → Built → Out
switched p v set b = elim (leb v 1) [ true ↦ answering Controlled (alter_acc p (set (eqb v 1)) b) | false ↦ status 5 35 b ]

-- refusal 34: "46 or 47 by a writer"
unfoldable pub of_reader : Acc → Built → Out → Out
of_reader a b o = elim a.writer [ true ↦ status 5 34 b | false ↦ o ]

-- "43 removes a waiting request, and nothing is left to collect; on a completed one it answers status 2 and leaves it for collection"; refused 39
-- with nothing outstanding
unfoldable pub abort : ℕ → Req → Built → Out
abort p idle b = status 5 39 b
abort p (reading q) b = answering Controlled (cancel p b)
abort p (writing q) b = answering Controlled (cancel p b)
abort p (read_done q) b = status 5 2 b
abort p (write_done q) b = status 5 2 b

-- refusal 33: "control (not 43) while a request is outstanding"
unfoldable pub while_idle : Acc → Built → Out → Out
while_idle a b o = elim (is_idle a.req) [ false ↦ status 5 33 b | true ↦ o ]

-- "6 verify (nothing to do here)"; "6 and 43 take any parameter"; "Any other code, 48 too, is refused 35"
unfoldable pub control : ℕ → Acc → Option Control → Built → Out
control p a (some (Timeout v)) b = while_idle a b (answering Controlled (alter_acc p (set_timeout v) b))
control p a (some (Verify v)) b = while_idle a b (answering Controlled b)
control p a (some (Abort v)) b = abort p a.req b
control p a (some (Extended v)) b = while_idle a b (switched p v set_extended b)
control p a (some (Typed v)) b = while_idle a b (of_reader a b (switched p v set_typed b))
control p a (some (Keep v)) b = while_idle a b (of_reader a b (switched p v set_keep b))
control p a none b = while_idle a b (status 5 35 b)
