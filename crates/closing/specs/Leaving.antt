-- The midst of a close. Memory that a function is not lent is under a quantifier.
use Rattle.std.specs.Prelude.{ℕ, ◌<◌, ◌≡◌, List}
use Rattle.rules.specs.Limits.{entries}
use Rattle.rules.specs.State.{Built}
use Rattle.segment.specs.Table.{nth}
use Rattle.midst.specs.declared.File as hand
use Rattle.midst.specs.Mid.{Start, Mid}
use Rattle.midst.proofs.Walks.{Owed}
use Rattle.closing.specs.Walk.{Walk}
use Rattle.memory.specs.Memories.{memories}

-- a writer, with some ID n, has gone, and its close record is owed
abbrev pub Gone : ℕ → List ℕ → List ℕ → Type 0
Gone f xs ys = (n : ℕ) × (blocks : List ℕ) × (x : hand.File) × (o : Start) × (b : Built) × Mid (Owed n) f o (memories xs blocks ys) x b

-- a change g of the file after a writer has gone, made in the segment and in the buffers
abbrev pub Goes : (Built → Built) → ℕ → List ℕ → List ℕ → List ℕ → List ℕ → Type 0
Goes g f xs ys xs' ys' =
    (n : ℕ) (blocks : List ℕ) (x : hand.File) (o : Start) (b : Built) → Mid (Owed n) f o (memories xs blocks ys) x b → Mid (Owed n) f o (memories xs' blocks ys') x (g b)

-- a walk is at a slot that holds the entry e
abbrev pub Stops : List ℕ → List ℕ → ℕ → ℕ → Type 0
Stops xs ys slot e =
    ((n : ℕ) × (f : ℕ) × (blocks : List ℕ) × (x : hand.File) × (o : Start) × (b : Built) × (left : ℕ) × Walk (Owed n) f o (memories xs blocks ys) x b slot left)
    × (e ≡ nth xs slot) × (e < entries)

-- the walk that began with the segment xs₀ and the buffers ys₀ has come to this slot
abbrev pub Walked : ℕ → List ℕ → List ℕ → List ℕ → List ℕ → ℕ → ℕ → Type 0
Walked f xs₀ ys₀ xs ys slot left =
    (n : ℕ) (blocks : List ℕ) (x : hand.File) (o : Start) (b : Built) → Mid (Owed n) f o (memories xs₀ blocks ys₀) x b → Walk (Owed n) f o (memories xs blocks ys) x b slot left
