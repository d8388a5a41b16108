-- The promise of an event, made and used: 29, where a length is wrong or the content unsound, or what the rules say.
use Prim.Native.Nat.{ℕ}
use mathlib.Core.Path.{◌≡◌, refl, ap, subst}
use mathlib.Core.Bool.{true, false}
use mathlib.Core.List.{List}
use mathlib.Core.Option.{Option, none, some}
use lib.ListN.{length}
use borrow.Author.Tests.{eq-eqb, ne_eqb}
use Rattle.rules.specs.Limits.{answer_room}
use Rattle.rules.specs.Desk.{Desk, respond, reply_bytes}
use Rattle.rules.specs.Desk as rules
use Rattle.rules.specs.Allocation.{Alloc}
use Rattle.memory.specs.Memories.{Memories}
use Rattle.memory.specs.Fine.{StandsFor}
use Rattle.midst.specs.Outcome.{Told, Stays}
use Rattle.sound.specs.Sound.{soundly}
use Rattle.promises.specs.Promise.{event, Given, answer, given_size, given_memory, Standing, unsound, stands, with_room, reply_of, answered, Behind, Promise}
use Rattle.promises.proofs.Seen.{seen_none, seen-some}

-- a memory of the right length hides nothing, one of another everything
pub room-right : (n : ℕ) (memory : List ℕ) (v : Option Standing) → length memory ≡ n → with_room n memory v ≡ v
unfolding with_room
room-right n memory v e = rw (eq-eqb (length memory) n e, with_room)

pub room-wrong : (n : ℕ) (memory : List ℕ) (v : Option Standing) → (length memory ≡ n → ⊥) → with_room n memory v ≡ none
unfolding with_room
room-wrong n memory v h = rw (ne_eqb (length memory) n h, with_room)

module _ (m : Memories) (memory frame : List ℕ) where
  Comes : Given → Memories → Option Standing → Type 0
  Comes g m' v = (g ≡ answered memory (reply_of v (rules.event frame))) × Behind v (rules.event frame) m m'

  -- "an event then writes nothing, answer length 0"
  none-comes : Comes (answer 0 memory) m none
  unfolding Comes answered reply_of reply_bytes Behind
  none-comes = (refl, refl)

  pub event-length : (length memory ≡ answer_room → ⊥) → Promise m (event memory frame) (answer 0 memory) m
  unfolding Promise Comes
  event-length h v S = rw (room-wrong answer_room memory v h) none-comes

  module _ (e : length memory ≡ answer_room) where
    pub event-unsound : soundly m ≡ false → Promise m (event memory frame) (answer 0 memory) m
    unfolding Promise Comes
    event-unsound h v S = rw (room-right answer_room memory v e) (seen_none (Comes (answer 0 memory) m) h none-comes v S)

    module _ (m' : Memories) (memory' : List ℕ) (n : ℕ) where
      pub event-done : soundly m ≡ true
          → ((d : Desk) (s : Alloc) → StandsFor m d s
          → Stays d s (rules.event frame) m m' × Told (respond d (rules.event frame)).reply memory memory' n)
          → Promise m (event memory frame) (answer n memory') m'
      unfolding Promise Comes
      event-done h f v S = rw (room-right answer_room memory v e) (seen-some (Comes (answer n memory') m') h comes v S)
        where
          comes : (d : Desk) (s : Alloc) → StandsFor m d s → Comes (answer n memory') m' (some (record { desk = d; alloc = s }))
          comes d s S = let (k, t) = f d s S in unfold Comes answered reply_of Behind in (rw (t.size, t.bytes), k)

      -- what it says of memories that stand for a desk
      module _ (P : Promise m (event memory frame) (answer n memory') m') where
        pub event-says : (d : Desk) (s : Alloc) → StandsFor m d s
            → Stays d s (rules.event frame) m m' × Told (respond d (rules.event frame)).reply memory memory' n
        unfolding Promise Comes answered reply_of Behind given_size given_memory
        event-says d s S =
            let v : Option Standing = some (record { desk = d; alloc = s }) in
            let c : Comes (answer n memory') m' v = subst (Comes (answer n memory') m') (room-right answer_room memory v e) (P v (stands d s S)) in
            (c.1, record { bytes = ap given_memory c.0; size = ap given_size c.0 })

        -- memories that are not sound stay
        pub event-keeps : soundly m ≡ false → m' ≡ m
        unfolding Promise Behind
        event-keeps h = subst (λ (v : Option Standing). Behind v (rules.event frame) m m') (room-right answer_room memory none e) (P none (unsound h)).1
