-- Answers: the bytes of each, in the order of document 01's table. The data of a record follow them.
use Rattle.std.specs.Prelude.{List, [], ◌∷◌, ◌++◌, ℕ}
use Rattle.words.specs.Word.{word}
use Rattle.kinds.specs.declared.Answer.{Answer}
use Rattle.kinds.specs.declared.Answer.TheVariants.{Built, Opened, Read, Written, Controlled, Collected, Closed, Passed, Counted, Status}

unfoldable pub answer_bytes : Answer → List ℕ
answer_bytes (Built capacity) = 1 ∷ 0 ∷ word capacity
answer_bytes (Opened acc id) = 2 ∷ 0 ∷ acc ∷ word id
answer_bytes (Read log) = 3 ∷ 0 ∷ word log
answer_bytes (Written log) = 4 ∷ 0 ∷ word log
answer_bytes Controlled = 5 ∷ 0 ∷ []
answer_bytes (Collected log) = 6 ∷ 0 ∷ word log
answer_bytes Closed = 7 ∷ 0 ∷ []
answer_bytes Passed = 8 ∷ 0 ∷ []
answer_bytes (Counted records all writers readers) = 9 ∷ 0 ∷ word records ++ word all ++ word writers ++ word readers
answer_bytes (Status operation status) = operation ∷ status ∷ []

-- the length of the longest answer, that of counts
abbrev pub most_answer : ℕ
most_answer = 10
