-- The terms of the allocation's laws: where each entry is, what the places of a file hold, the clock file by file, and that the
-- free list is never dry when an entry is taken.
use Rattle.std.specs.Prelude.{◌≡◌, cond, List, [], ◌∷◌, ◌++◌, ℕ, ◌+◌, ◌*◌, ◌/◌, ◌%◌, ◌≤◌, ◌<◌, ltb, eqb, length, replicate}
use Rattle.std.proofs.Math.Option.{Option, none}
use Rattle.rules.specs.Limits.{files, places, entries}
use Rattle.rules.specs.State.{Req, Acc, Timer, Hap, made, puts, takes, drops, purges, waits, arms, ends, cancels, collects, File, unbuilt, built}
use Rattle.rules.specs.Desk.{Desk, file_of}
use Rattle.rules.specs.Allocation.{Held, nothing, own, timed, Alloc, place_of, held_at, allot}
use Rattle.laws.specs.EightFiles.{EightFiles}
use Rattle.laws.specs.Runs.{OnFile}
use Rattle.laws.specs.Outstanding.{req_at, awaits, outstanding}
use Rattle.occurrences.specs.Count.{bit, count}
use Rattle.laws.specs.Counts.{count_t}
use Rattle.laws.specs.Timers.{Clock}

-- each entry in exactly one place

-- the entries that a place holds, its request's before its timer's; `taken` has those of all places
unfoldable pub entries_of : Held → List ℕ
entries_of nothing = []
entries_of (own e) = e ∷ []
entries_of (timed e t) = e ∷ t ∷ []

unfoldable pub taken : List Held → List ℕ
taken [] = []
taken (h ∷ l) = entries_of h ++ taken l

abbrev pub size : Held → ℕ
size h = length (entries_of h)

-- each entry occurs once, in the free list or at one of the places, and no other number occurs
pub record Whole (s : Alloc) : Type 0 where
  pub once : (x : ℕ) → count x s.free + count x (taken s.held) ≡ bit (ltb x entries)
  pub long : length s.held ≡ files * places

-- a timer of the desk as its file has it; `sieve` has those of the desk's timers that are of file f
unfoldable pub local : Timer → Timer
local t = record { place = t.place % places; left = t.left }

unfoldable pub sieve : ℕ → List Timer → List Timer
sieve f [] = []
sieve f (t ∷ ts) = cond (eqb (t.place / places) f) (local t ∷ sieve f ts) (sieve f ts)

-- the places of a file; `timers_of` has its timers

unfoldable pub accs_of : File → List (Option Acc)
accs_of unbuilt = replicate places none
accs_of (built b) = b.accs

unfoldable pub timers_of : File → List Timer
timers_of unbuilt = []
timers_of (built b) = b.timers

-- the allocation agrees with accessors l and timers ts of file f: an entry for each outstanding request and each timer; a timer only where a request waits
pub record Agrees (f : ℕ) (s : Alloc) (l : List (Option Acc)) (ts : List Timer) : Type 0 where
  pub holds : (p : ℕ) → p < places → size (held_at s (place_of f p)) ≡ outstanding (req_at l p) + count_t p ts
  pub timed : (p : ℕ) → count_t p ts ≤ awaits (req_at l p)
  pub clock : sieve f s.clock ≡ ts
  pub eight : length l ≡ places

-- a file between calls, with no happenings kept
abbrev pub Calm : File → Type 0
Calm x = OnFile (λ b. b.past ≡ []) x

-- desk and allocation agree
pub record Agreed (d : Desk) (s : Alloc) : Type 0 where
  pub eight : EightFiles d
  pub whole : Whole s
  pub clock : Clock s.clock
  pub agrees : (f : ℕ) → f < files → Agrees f s (accs_of (file_of d f)) (timers_of (file_of d f))
  pub calm : (f : ℕ) → f < files → Calm (file_of d f)

-- what a place holds for its request and its timers: nothing where no request is outstanding, one entry where it is completed or waits with no
-- timer, two where it waits with a timer
pub data HeldFor (q : Req) (timers : ℕ) : Held → Type 0 where
  idles : outstanding q ≡ 0 → timers ≡ 0 → HeldFor q timers nothing
  lasts : {e : ℕ} → outstanding q ≡ 1 → timers ≡ 0 → HeldFor q timers (own e)
  ticks : {e t : ℕ} → awaits q ≡ 1 → timers ≡ 1 → HeldFor q timers (timed e t)

-- never dry

-- how many entries a happening draws from the free list
unfoldable pub draws : Hap → ℕ
draws (made g) = 0
draws (puts r) = 0
draws (takes p r) = 0
draws (drops r) = 0
draws purges = 0
draws (waits p) = 1
draws (arms p n) = 1
draws (ends p st) = 0
draws (cancels p) = 0
draws (collects p) = 0

-- the free list has, before each happening in file f, as many entries as the happening draws
unfoldable pub Fed : ℕ → List Hap → Alloc → Type 0
Fed f [] s = Unit {0}
Fed f (h ∷ hs) s = (draws h ≤ length s.free) × Fed f hs (allot f h s)
