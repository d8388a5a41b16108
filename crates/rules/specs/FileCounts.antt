-- The counts of a file: its records and accessors.
use Rattle.std.specs.Prelude.{cond, List, [], ◌∷◌, ℕ, ◌+◌, eqb, length}
use Rattle.kinds.specs.declared.Answer.TheVariants.{Counted}
use Rattle.rules.specs.State.{Rec, Built}
use Rattle.rules.specs.Requests.{writers, readers}
use Rattle.rules.specs.Reply.{Out, answering}

unfoldable pub data_count : List Rec → ℕ
data_count [] = 0
data_count (r ∷ l) = cond (eqb r.typ 0) 1 0 + data_count l

-- "data records, all records, writers, readers"
unfoldable pub counts : Built → Out
counts b = answering (Counted (data_count b.store.recs) (length b.store.recs) (writers b) (readers b)) b
