-- Sessions: what is asked and what is answered, in the words of `Vocabulary`, and the calls that have no frame.
use mathlib.Core.Path.{◌≡◌}
use mathlib.Core.List.{List, [], ◌∷◌, ◌++◌, map}
use Prim.Native.Nat.{ℕ}
use Prim.Native.String.{String}
use Rattle.rules.specs.Answers.{answer_bytes}
use Rattle.rules.specs.Reply.{Reply, answers, shows}
use Rattle.rules.specs.Desk.{Call, event, Desk, fresh_desk, replies, after}
use Rattle.rules.specs.Desk as desk
use Rattle.rules.proofs.Vocabulary.{text, said, bytes, Asked, frame, Told, answer, told}

-- texts, each ended by LF
unfoldable pub lines : List String → List ℕ
lines [] = []
lines (s ∷ l) = text s ++ (10 ∷ lines l)

infix 90 ◌⇒◌
pub data Exchange : Type 0 where
  -- a frame, and the answer to it
  ◌⇒◌ : Asked → Told → Exchange
  -- look at a file's reader: status, and the bytes shown, in hexadecimal
  looks : ℕ → ℕ → ℕ → String → Exchange
  -- save a file into n bytes: status, and the sheet's lines
  saves : ℕ → ℕ → ℕ → List String → Exchange
  -- load a file from these lines, and a text after them: status
  loads : ℕ → List String → String → ℕ → Exchange

unfoldable pub call : Exchange → Call
call (a ⇒ t) = event (frame a)
call (looks f p st d) = desk.look f p
call (saves f n st l) = desk.save f n
call (loads f l rest st) = desk.load f (lines l ++ text rest)

unfoldable pub expected : Exchange → List ℕ
expected (a ⇒ t) = told a t
expected (looks f p st d) = st ∷ said d
expected (saves f n st l) = st ∷ lines l
expected (loads f l rest st) = st ∷ []

unfoldable pub heard : Reply → List ℕ
heard (answers a d) = answer_bytes a ++ d
heard (shows st d) = st ∷ d

-- the desk after a script
unfoldable pub played : List Exchange → Desk
played l = after fresh_desk (map call l)

-- a fresh desk replies as the script says
abbrev pub AsWritten : List Exchange → Type 0
AsWritten l = map heard (replies fresh_desk (map call l)) ≡ map expected l

-- all that a script computes by
unfoldable pub Plays : ℕ
unfolding text said bytes frame answer told lines call expected heard played
Plays = 0
