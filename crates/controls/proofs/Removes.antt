-- Whether the request of a place waits, as the code finds it, and the memories then.
use Prim.Native.Nat.{ℕ, ◌+◌, ◌*◌, ◌≤◌, ◌<◌}
use mathlib.Core.Path.{◌≡◌, refl, sym, ap, ◌∙◌}
use mathlib.Core.Bool.{Bool, true, false, cond}
use mathlib.Core.List.{List}
use borrow.Author.Tests.{lt-ltb, le-ltb}
use Rattle.rules.specs.Limits.{places, entries}
use Rattle.segment.specs.Layout.{reply_port}
use Rattle.segment.specs.Table.{nth}
use Rattle.ports.specs.Slots.{seek, has}
use Rattle.requests.specs.Moves.{slot_of, cancelled}
use Rattle.accessors.specs.Outstanding.{queue_of, outstanding_at}
use Rattle.controls.specs.Removed.{is_waiting}
use Rattle.buffers.specs.Buffer.{emptied}

module _ (xs ys : List ℕ) (f p side : ℕ) where
  abbrev i : ℕ
  i = places * f + p

  abbrev waits : Bool
  waits = is_waiting (outstanding_at xs f p side)

  abbrev out : List ℕ
  out = cancelled xs (slot_of xs (queue_of f side) i) i

  abbrev Removes : Bool → List ℕ → List ℕ → Type 0
  Removes r xs' ys' = (r ≡ waits) × ((xs' ≡ cond waits out xs) × (ys' ≡ cond waits (emptied i ys) ys))

  stays : waits ≡ false → Removes false xs ys
  stays e = (sym e, (sym (ap (λ (t : Bool). cond t out xs) e), sym (ap (λ (t : Bool). cond t (emptied i ys) ys) e)))

  goes : waits ≡ true → (xs' ys' : List ℕ) → xs' ≡ out → ys' ≡ emptied i ys → Removes true xs' ys'
  goes e xs' ys' u v = (sym e, (u ∙ sym (ap (λ (t : Bool). cond t out xs) e), v ∙ sym (ap (λ (t : Bool). cond t (emptied i ys) ys) e)))

  -- e stands on its reply port
  module _ (e : ℕ) (port : e ≡ nth xs (reply_port (places * f + p))) where
    pub completed-stays : e < entries → Removes false xs ys
    unfolding is_waiting outstanding_at
    completed-stays h = stays (rw (← port, lt-ltb e entries h) refl)

    -- the queue l was sought through, and n stands at the slot
    module _ (none : entries ≤ e) (l slot n : ℕ) (queue : l ≡ queue_of f side) (sought : slot ≡ seek (has 0 (places * f + p)) xs l entries) (there : n ≡ nth xs slot) where
      slot_is : slot ≡ slot_of xs (queue_of f side) i
      unfolding slot_of
      slot_is = sought ∙ ap (λ (k : ℕ). seek (has 0 i) xs k entries) queue

      head-is : n ≡ nth xs (seek (has 0 i) xs (queue_of f side) entries)
      unfolding slot_of
      head-is = there ∙ ap (nth xs) slot_is

      pub absent-stays : entries ≤ n → Removes false xs ys
      unfolding is_waiting outstanding_at
      absent-stays h = stays (rw (← port, le-ltb e entries none, ← head-is, le-ltb n entries h) refl)

      pub found-goes : n < entries → (xs' ys' : List ℕ) → xs' ≡ cancelled xs slot (places * f + p) → ys' ≡ emptied (places * f + p) ys → Removes true xs' ys'
      unfolding is_waiting outstanding_at
      found-goes h xs' ys' u v = goes (rw (← port, le-ltb e entries none, ← head-is, lt-ltb n entries h) refl) xs' ys' (u ∙ ap (λ (k : ℕ). cancelled xs k i) slot_is) v
