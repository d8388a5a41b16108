-- Closing.
use Rattle.std.specs.Prelude.{true, false, List, [], ◌∷◌, ℕ, eqb, set}
use Rattle.std.proofs.Math.Option.{none, some}
use Rattle.kinds.specs.declared.Answer.TheVariants.{Closed}
use Rattle.rules.specs.State.{Rec, Req, idle, reading, writing, read_done, write_done, Acc, Built}
use Rattle.rules.specs.Requests.{writers, acc_at, with_accs, put_rec, cancel, fail}
use Rattle.rules.specs.Settle.{settle}
use Rattle.rules.specs.Reply.{Out, answering, status}

unfoldable pub close_rec : ℕ → Rec
close_rec n = record { typ = 2; wid = n; body = [] }

-- "every waiting reader without extended wait, in queue order, completes with status 2"
unfoldable pub end_readers : List ℕ → Built → Built
end_readers [] b = b
end_readers (p ∷ l) b =
    elim (acc_at b p) [
      | none ↦ end_readers l b
      | some a ↦ elim a.extended [ true ↦ end_readers l b | false ↦ end_readers l (fail p 2 b) ]
    ]

-- "for the last writer"
unfoldable pub last_gone : Built → Built
last_gone b = elim (eqb (writers b) 0) [ true ↦ end_readers b.rq b | false ↦ b ]

unfoldable pub vacate : ℕ → Built → Built
vacate p b = with_accs (set b.accs p none) b

-- removes the accessor a at p: "then a writer's close record is put. Waiting writers stay when the last reader goes."
unfoldable pub closed : ℕ → Acc → Built → Built
closed p a b = elim a.writer [ false ↦ vacate p b | true ↦ put_rec (close_rec a.ident) (last_gone (vacate p b)) ]

-- "Closing: a waiting request is cancelled"; 33 "close with a completed one uncollected"
unfoldable pub close : ℕ → Acc → Req → Built → Out
close p a idle b = answering Closed (settle (closed p a b))
close p a (reading q) b = answering Closed (settle (closed p a (cancel p b)))
close p a (writing q) b = answering Closed (settle (closed p a (cancel p b)))
close p a (read_done q) b = status 7 33 b
close p a (write_done q) b = status 7 33 b
