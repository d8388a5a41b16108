-- The part of a run that is one file's: the calls that name it and the passages of time; and the replies to those calls.
use Rattle.std.specs.Prelude.{◌≡◌, Bool, true, false, List, [], ◌∷◌, ◌++◌, ℕ, eqb, length}
use Rattle.rules.specs.State.{Built, File, unbuilt, built}
use Rattle.rules.specs.TransferCounts.{count_bytes}
use Rattle.rules.specs.Reply.{Reply}
use Rattle.rules.specs.Calls.{Ask, build, opens, read, write, control, collect, close, counts, load, save, look}
use Rattle.rules.specs.Desk.{Call, Asked, on, time, bad, asked}

pub data Own : Type 0 where
  call : Ask → Own
  wait : ℕ → Own

unfoldable pub mine : ℕ → Asked → List Own
mine f (on g q) = elim (eqb g f) [ true ↦ call q ∷ [] | false ↦ [] ]
mine f (time e) = wait e ∷ []
mine f bad = []

-- the calls of a run that name f and the passages of time, in order
unfoldable pub only : ℕ → List Call → List Own
only f [] = []
only f (c ∷ cs) = mine f (asked c) ++ only f cs

unfoldable pub names : ℕ → Asked → Bool
names f (on g q) = eqb g f
names f (time e) = false
names f bad = false

-- the replies of a run to the calls that name f
unfoldable pub theirs : ℕ → List Call → List Reply → List Reply
theirs f [] rs = []
theirs f (c ∷ cs) [] = []
theirs f (c ∷ cs) (r ∷ rs) = elim (names f (asked c)) [ true ↦ r ∷ theirs f cs rs | false ↦ theirs f cs rs ]

-- I holds of a file if it is built
unfoldable pub OnFile : (Built → Type 0) → File → Type 0
OnFile I unbuilt = Unit {0}
OnFile I (built b) = I b

-- what is asked is proper: a write's data are as long as its count
unfoldable pub Proper : Ask → Type 0
Proper (build r b n x) = Unit {0}
Proper (opens a s m) = Unit {0}
Proper (read p n) = Unit {0}
Proper (write p n d) = length d ≡ count_bytes n
Proper (control p c) = Unit {0}
Proper (collect p) = Unit {0}
Proper (close p) = Unit {0}
Proper counts = Unit {0}
Proper (load t) = Unit {0}
Proper (save n) = Unit {0}
Proper (look p) = Unit {0}
