-- What a session asks and is answered, by name. The bytes of each frame and of each answer stand here, as document 01's table has them, and in no session.
-- They are written beside `Frames` and `Answers` of the definition, which the sessions try.
use mathlib.Core.List.{List, [], ◌∷◌, ◌++◌}
use Prim.Native.Nat.{ℕ, ◌-◌}
use Prim.Native.String.{String}
use Prim.Native.String as string
use Prim.Native.Char.{code}
use lib.ListN.{length, take, get_or}
use Rattle.words.specs.Word.{word}
use Rattle.rules.specs.Line.{bytes_of, line_frame}

-- the bytes of a quoted text
unfoldable pub text : String → List ℕ
text string.[] = []
text (string.◌∷◌ c s) = code c ∷ text s

-- the bytes that quoted hexadecimal digits say
unfoldable pub said : String → List ℕ
said s = bytes_of (text s)

-- a count of n bytes; one of n words is n
unfoldable pub bytes : ℕ → ℕ
bytes n = 65536 - n

pub data Asked : Type 0 where
  -- file, R, B, N, X
  builds : ℕ → ℕ → ℕ → ℕ → ℕ → Asked
  -- file, access, share, multiaccess
  opens : ℕ → ℕ → ℕ → ℕ → Asked
  -- file, accessor, count
  reads : ℕ → ℕ → ℕ → Asked
  -- file, accessor, count, data in hexadecimal
  writes : ℕ → ℕ → ℕ → String → Asked
  -- file, accessor, code, parameter
  controls : ℕ → ℕ → ℕ → ℕ → Asked
  -- file, accessor
  collects : ℕ → ℕ → Asked
  closes : ℕ → ℕ → Asked
  -- seconds
  passes : ℕ → Asked
  -- file
  counts : ℕ → Asked
  -- a frame that lacks its last byte, and one with a byte 00 too many
  shorter : Asked → Asked
  longer : Asked → Asked
  -- a line of the event program, as it stands
  line : String → Asked

unfoldable pub frame : Asked → List ℕ
frame (builds f r b n x) = 1 ∷ f ∷ word r ++ (b ∷ word n ++ (x ∷ []))
frame (opens f access share multi) = 2 ∷ f ∷ access ∷ share ∷ multi ∷ []
frame (reads f p n) = 3 ∷ f ∷ p ∷ word n
frame (writes f p n d) = 4 ∷ f ∷ p ∷ word n ++ said d
frame (controls f p c n) = 5 ∷ f ∷ p ∷ c ∷ word n
frame (collects f p) = 6 ∷ f ∷ p ∷ []
frame (closes f p) = 7 ∷ f ∷ p ∷ []
frame (passes e) = 8 ∷ word e
frame (counts f) = 9 ∷ f ∷ []
frame (shorter a) = take (length (frame a) - 1) (frame a)
frame (longer a) = frame a ++ (0 ∷ [])
frame (line s) = line_frame (text s)

pub data Told : Type 0 where
  -- C
  built : ℕ → Told
  -- accessor, ID
  opened : ℕ → ℕ → Told
  -- a read, at once or collected: log, data in hexadecimal
  got : ℕ → String → Told
  -- a write, at once or collected: log
  wrote : ℕ → Told
  -- data records, all records, writers, readers
  counted : ℕ → ℕ → ℕ → ℕ → Told
  -- operation and status only
  status : ℕ → Told
  -- 30
  malformed : Told
  -- a line that the event program prints, as it stands
  prints : String → Told

abbrev pub done : Told
done = status 0

abbrev pub waiting : Told
waiting = status 1

abbrev pub end-of-file : Told
end-of-file = status 2

abbrev pub timed-out : Told
timed-out = status 22

abbrev pub refused : ℕ → Told
refused n = status n

-- the bytes of an answer to this operation
unfoldable pub answer : ℕ → Told → List ℕ
answer op (built c) = 1 ∷ 0 ∷ word c
answer op (opened p id) = 2 ∷ 0 ∷ p ∷ word id
answer op (got log d) = op ∷ 0 ∷ word log ++ said d
answer op (wrote log) = op ∷ 0 ∷ word log
answer op (counted d a w r) = 9 ∷ 0 ∷ word d ++ word a ++ word w ++ word r
answer op (status st) = op ∷ st ∷ []
answer op malformed = 0 ∷ 30 ∷ []
answer op (prints s) = said s

-- the answer to what was asked
unfoldable pub told : Asked → Told → List ℕ
told a t = answer (get_or (frame a) 0 0) t
