-- Condition 3, isolation: one file, two runs from a fresh desk with the same passages of time and the same calls naming that file in the same order; calls
-- naming other files may differ in any way. Then all answers to calls naming our file agree, refusals included, and so do its records, accessors, waiting
-- requests, remaining timeouts, blocks and record buffers at the end, although all files draw entries from one free list.
use Rattle.std.specs.Prelude.{ℕ, ◌<◌, ◌≡◌, Bool, true, false, ◌&&◌, ◌||◌, List, [], ◌∷◌, eqb, length, take, drop}
use Rattle.rules.specs.Limits.{files, answer_room}
use Rattle.rules.specs.Desk.{Asked, on, time, bad, asked}
use Rattle.rules.specs.Desk as rules
use Rattle.laws.specs.Runs.{names}
use Rattle.promises.specs.Promise.{HostCall, Given, given_status, given_size, given_memory}
use Rattle.promises.specs.Promise as host
use Rattle.runs.specs.Run.{anew, unfit, asks, meant}
use Rattle.runs.specs.OneFile.{file_in}
use Rattle.memory.specs.Memories.{Memories}

-- "two calls are the same when their numbers, frames, texts and the lengths of answer and output memory are"
pub data Sort : Type 0 where
  made : Sort
  -- length of the answer memory, frame
  event : ℕ → List ℕ → Sort
  -- file, reader, length of the record memory
  look : ℕ → ℕ → ℕ → Sort
  -- file, length of the output
  save : ℕ → ℕ → Sort
  -- file, text
  load : ℕ → List ℕ → Sort

unfoldable pub sort_of : HostCall → Sort
sort_of host.fresh = made
sort_of (host.event memory frame) = event (length memory) frame
sort_of (host.look f p memory) = look f p (length memory)
sort_of (host.save f output) = save f (length output)
sort_of (host.load f text) = load f text

-- whether a call names file f; calls of wrong lengths do too
unfoldable pub names_file : ℕ → Sort → Bool
names_file f made = false
names_file f (event n frame) = names f (asked (rules.event frame))
names_file f (look g p n) = eqb g f
names_file f (save g n) = eqb g f
names_file f (load g text) = eqb g f

unfoldable pub is_time : Asked → Bool
is_time (on g q) = false
is_time (time e) = true
is_time bad = false

-- whether a call is a passage of time, which is not refused for the length of the answer memory
unfoldable pub passes : Sort → Bool
passes made = false
passes (event n frame) = eqb n answer_room && is_time (asked (rules.event frame))
passes (look g p n) = false
passes (save g n) = false
passes (load g text) = false

-- the calls of a run that name f and the passages of time, in order
unfoldable pub ours : ℕ → List HostCall → List Sort
ours f [] = []
ours f (x ∷ xs) = elim (names_file f (sort_of x) || passes (sort_of x)) [ true ↦ sort_of x ∷ ours f xs | false ↦ ours f xs ]

-- whether no call makes the desk fresh again
unfoldable pub never_fresh : List HostCall → Bool
never_fresh [] = true
never_fresh (x ∷ xs) = elim (meant x) [ anew ↦ false | unfit ↦ never_fresh xs | asks c ↦ never_fresh xs ]

-- an answer: status, length, and the bytes up to the length
pub record Found : Type 0 where
  pub status : ℕ
  pub size : ℕ
  pub bytes : List ℕ

unfoldable pub found : Given → Found
found g = record { status = given_status g; size = given_size g; bytes = take (given_size g) (given_memory g) }

-- the answers to all calls that name file f
unfoldable pub finds : ℕ → List HostCall → List Given → List Found
finds f [] gs = []
finds f (x ∷ xs) [] = []
finds f (x ∷ xs) (g ∷ gs) = elim (names_file f (sort_of x)) [ true ↦ found g ∷ finds f xs gs | false ↦ finds f xs gs ]

-- the memory that a call lends for its answer; `Stay`: its bytes after the answer stay as they were lent
unfoldable pub lent_by : HostCall → List ℕ
lent_by host.fresh = []
lent_by (host.event memory frame) = memory
lent_by (host.look f p memory) = memory
lent_by (host.save f output) = output
lent_by (host.load f text) = []

unfoldable pub Stay : List HostCall → List Given → Type 0
Stay [] gs = Unit {0}
Stay (x ∷ xs) [] = ⊥
Stay (x ∷ xs) (g ∷ gs) = (drop (given_size g) (given_memory g) ≡ drop (given_size g) (lent_by x)) × Stay xs gs

-- condition 3 of two runs after fresh calls: what they were given, and the memories that they left
pub record Condition3 (f : ℕ) (xs ys : List HostCall) (gs hs : List Given) (m n : Memories) : Type 0 where
  pub answers : finds f (host.fresh ∷ xs) gs ≡ finds f (host.fresh ∷ ys) hs
  pub stay : Stay (host.fresh ∷ xs) gs × Stay (host.fresh ∷ ys) hs
  pub state : f < files → file_in f m ≡ file_in f n
