-- Terms of the proofs of the allocation's laws: one step, the midst of a call, and the outcome of a call.
use Rattle.std.specs.Prelude.{◌≡◌, cond, List, [], ◌∷◌, ℕ, ◌/◌, ◌%◌, eqb}
use Rattle.std.proofs.Math.Option.{Option}
use Rattle.rules.specs.Limits.{places}
use Rattle.rules.specs.State.{Acc, Timer, Built}
use Rattle.rules.specs.Reply.{Out}
use Rattle.rules.specs.Allocation.{Held, nothing, own, timed, Alloc, held_at, allot_all}
use Rattle.laws.specs.Timers.{Clock}
use Rattle.laws.specs.Entries.{Whole, sieve, accs_of, timers_of, Agrees, Calm, Fed}

-- what a place holds when its timer has gone
unfoldable pub untimed : Held → Held
untimed nothing = nothing
untimed (own e) = own e
untimed (timed e t) = own e

-- a step at place i: every entry stays in one place, and each other place holds what it did
pub record Steps (i : ℕ) (s t : Alloc) : Type 0 where
  pub whole : Whole t
  pub others : (j : ℕ) → (j ≡ i → ⊥) → held_at t j ≡ held_at s j

-- the places of file f among those of the desk, as the file numbers them
unfoldable pub here : ℕ → List ℕ → List ℕ
here f [] = []
here f (i ∷ l) = cond (eqb (i / places) f) (i % places ∷ here f l) (here f l)

-- nothing changes from s to t for files other than f
pub record Elsewhere (f : ℕ) (s t : Alloc) : Type 0 where
  pub held : (i : ℕ) → (i / places ≡ f → ⊥) → held_at t i ≡ held_at s i
  pub clock : (g : ℕ) → (g ≡ f → ⊥) → sieve g t.clock ≡ sieve g s.clock

-- the allocation t matches the accessors l and the timers ts of file f, in a call that began with s
pub record Matches (f : ℕ) (s t : Alloc) (l : List (Option Acc)) (ts : List Timer) : Type 0 where
  pub agrees : Agrees f t l ts
  pub whole : Whole t
  pub clock : Clock t.clock
  pub apart : Elsewhere f s t

-- the midst of a call of file f that began with the allocation s
pub record Mid (f : ℕ) (s : Alloc) (b : Built) : Type 0 where
  pub matches : Matches f s (allot_all f b.past s) b.accs b.timers
  pub fed : Fed f b.past s

-- the outcome of a call of file f that began with the allocation s
pub record Comes (f : ℕ) (s : Alloc) (o : Out) : Type 0 where
  pub matches : Matches f s (allot_all f o.haps s) (accs_of o.file) (timers_of o.file)
  pub fed : Fed f o.haps s
  pub calm : Calm o.file
