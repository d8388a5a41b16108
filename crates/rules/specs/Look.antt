-- Look.
use Rattle.std.specs.Prelude.{true, false, List, [], ◌∷◌, eqb}
use Rattle.std.proofs.Math.Option.{Option, none, some}
use Rattle.rules.specs.State.{Rec, Req, idle, reading, writing, read_done, write_done, Acc, Built}
use Rattle.rules.specs.Reply.{shows, Out, leaves}

-- "the file's oldest data record"
unfoldable pub oldest : List Rec → Option Rec
oldest [] = none
oldest (r ∷ l) = elim (eqb r.typ 0) [ true ↦ some r | false ↦ oldest l ]

unfoldable pub look_file : Built → Out
look_file b = elim (oldest b.store.recs) [ none ↦ leaves (shows 39 []) b | some r ↦ leaves (shows 0 r.body) b ]

-- "It shows the record lying in that reader's buffer as it will be answered, else the data bytes of the file's oldest data record"
unfoldable pub look_req : Req → Built → Out
look_req idle b = look_file b
look_req (reading q) b = look_file b
look_req (writing q) b = look_file b
look_req (read_done q) b = elim (eqb q.status 0) [ true ↦ leaves (shows 0 q.bytes) b | false ↦ look_file b ]
look_req (write_done q) b = look_file b

-- look: refused 34 by a writer, 39 with no record
unfoldable pub look : Acc → Built → Out
look a b = elim a.writer [ true ↦ leaves (shows 34 []) b | false ↦ look_req a.req b ]
