-- A timer goes: its entry leaves the timer list and is freed, if the place has one.
use Prim.Native.Nat.{ℕ, suc}
use mathlib.Core.Path.{◌≡◌, refl, sym, ap, ap₂, ◌∙◌}
use mathlib.Core.List.{List, ◌∷◌, map}
use native.Mathlib.Omega.{arith}
use borrow.Author.Tests.{lt-ltb, le-ltb}
use lib.Dec.{eqb}
use lib.ListN.{length, get_or, replicate, length-map}
use lib.Seq.{get_or-set_other}
use Rattle.rules.specs.Limits.{entries}
use Rattle.rules.specs.Requests.{without_timer}
use Rattle.rules.specs.Allocation.{Held, nothing, own, timed, Alloc, held_at, holds, with_clock, free_timer, ends_at, timer_entry, timer_list}
use Rattle.laws.specs.Counts.{count_t}
use Rattle.laws.specs.Entries.{entries_of, size}
use Rattle.segment.specs.Layout.{free_list, data_words}
use Rattle.segment.specs.Layout as layout
use Rattle.segment.specs.Table.{nth}
use Rattle.segment.specs.Fields.{entry_words}
use Rattle.ports.specs.Slots.{seek, has}
use Rattle.ports.specs.Index.{cut, index}
use Rattle.ports.proofs.Index.{index-map}
use Rattle.ports.proofs.Maps.{map-cut, map_at}
use Rattle.requests.specs.Moves.{slot_of, entry_of, out, disarmed}
use Rattle.memory.specs.Image.{timer_words}
use Rattle.midst.proofs.Cuts.{timer-cut, timer-in, timer-end, timer-at, map-timers}
use Rattle.midst.proofs.Boxed.{Boxed, over, over-other, over-still, recast, out-boxed, none-boxed, released-boxed}

-- free entries hold nothing
abbrev pub blank : List ℕ → List (List ℕ)
blank l = map (λ e. replicate data_words 0) l

-- every other place holds what it did
pub free_timer-other : (i : ℕ) (h : Held) (t : Alloc) (j : ℕ) → (j ≡ i → ⊥) → held_at (free_timer i h t) j ≡ held_at t j
unfolding free_timer holds with_clock held_at
free_timer-other i nothing t j n = refl
free_timer-other i (own e) t j n = refl
free_timer-other i (timed e h) t j n = get_or-set_other t.held i j (own e) nothing n

module _ {s hand : List ℕ} {hm : List (List ℕ)} {ls : ℕ → List ℕ} {ms : ℕ → List (List ℕ)} {rs : List (List ℕ)} (B : Boxed s hand hm ls ms rs) (i : ℕ) (t : Alloc)
    (el : ls layout.timer_list ≡ timer_list t) (em : ms layout.timer_list ≡ map timer_words t.clock) (fl : ls free_list ≡ t.free) (fm : ms free_list ≡ blank t.free) where
  -- the lists and contents with the free list and the timers of u
  abbrev lists_of : Alloc → ℕ → List ℕ
  lists_of u = over free_list u.free (over layout.timer_list (timer_list u) ls)

  abbrev holds_of : Alloc → ℕ → List (List ℕ)
  holds_of u = over free_list (blank u.free) (over layout.timer_list (map timer_words u.clock) ms)

  abbrev at : ℕ
  at = index (λ x. eqb x.place i) t.clock

  sought : index (has 0 i) (ms layout.timer_list) ≡ at
  unfolding timer_words entry_words
  sought = ap (index (has 0 i)) em ∙ index-map (has 0 i) timer_words t.clock

  long : length (ms layout.timer_list) ≡ length t.clock
  long = ap length em ∙ length-map t.clock timer_words

  unarmed : count_t i t.clock ≡ 0 → Boxed (disarmed s i) hand hm (lists_of t) (holds_of t) rs
  unfolding disarmed entry_of out slot_of
  unarmed z =
      let w = none-boxed B (has 0 i) layout.timer_list at (omega arith) sought (timer-end i t.clock z ∙ sym long) in
      rw (le-ltb (nth s (seek (has 0 i) s layout.timer_list entries)) entries w.0, w.1)
      (recast B (lists_of t) (holds_of t)
      (λ l _. sym (over-still free_list t.free _ (over-other layout.timer_list (timer_list t) ls free_list (λ e. omega arith) ∙ fl) l ∙ over-still layout.timer_list (timer_list t) ls el l))
      (λ l _. sym (over-still free_list (blank t.free) _ (over-other layout.timer_list _ ms free_list (λ e. omega arith) ∙ fm) l ∙ over-still layout.timer_list _ ms em l)))

  -- where it has one
  entry : (e h : ℕ) → held_at t i ≡ timed e h → count_t i t.clock ≡ 1 → get_or (ls layout.timer_list) at 0 ≡ h
  unfolding timer_list timer_entry
  entry e h q z =
      ap (λ l. get_or l at 0) el
      ∙ map_at (λ x. timer_entry (held_at t x.place)) t.clock at (record { place = 0; left = 0 }) 0 (timer-in i t.clock z)
      ∙ ap (λ j. timer_entry (held_at t j)) (timer-at i t.clock (record { place = 0; left = 0 }) z) ∙ ap timer_entry q

  less : (e h : ℕ) → count_t i t.clock ≡ 1 → cut at (ls layout.timer_list) ≡ timer_list (free_timer i (timed e h) t)
  unfolding timer_list free_timer holds with_clock
  less e h z =
      ap (cut at) el
      ∙ sym (map-cut (λ x. timer_entry (held_at t x.place)) at t.clock)
      ∙ ap (map (λ x. timer_entry (held_at t x.place))) (sym (timer-cut i t.clock z))
      ∙ map-timers i (λ j. timer_entry (held_at t j)) (λ j. timer_entry (held_at (free_timer i (timed e h) t) j))
      (λ j n. ap timer_entry (sym (free_timer-other i (timed e h) t j n))) t.clock

  fewer : count_t i t.clock ≡ 1 → cut at (ms layout.timer_list) ≡ map timer_words (without_timer i t.clock)
  fewer z = ap (cut at) em ∙ sym (map-cut timer_words at t.clock) ∙ ap (map timer_words) (sym (timer-cut i t.clock z))

  armed : (e h : ℕ) → held_at t i ≡ timed e h → count_t i t.clock ≡ 1
      → Boxed (disarmed s i) hand hm (lists_of (free_timer i (timed e h) t)) (holds_of (free_timer i (timed e h) t)) rs
  unfolding disarmed entry_of out slot_of free_timer holds with_clock
  armed e h q z =
      let u : Alloc = free_timer i (timed e h) t in
      let w = out-boxed B (has 0 i) layout.timer_list at (omega arith) sought (rw long (timer-in i t.clock z)) h (entry e h q z) in
      rw (w.0, lt-ltb h entries w.1)
      (recast (released-boxed w.2) (lists_of u) (holds_of u)
      (λ l _. ap₂ {C = List ℕ} (λ x y. over free_list (h ∷ x) (over layout.timer_list y ls) l)
      (over-other layout.timer_list (cut at (ls layout.timer_list)) ls free_list (λ k. omega arith) ∙ fl) (less e h z))
      (λ l _. ap₂ {C = List (List ℕ)} (λ x y. over free_list (replicate data_words 0 ∷ x) (over layout.timer_list y ms) l)
      (over-other layout.timer_list (cut at (ms layout.timer_list)) ms free_list (λ k. omega arith) ∙ fm) (fewer z)))

  pub disarm-boxed : size (held_at t i) ≡ suc (count_t i t.clock) → Boxed (disarmed s i) hand hm (lists_of (ends_at i t)) (holds_of (ends_at i t)) rs
  unfolding ends_at
  disarm-boxed n = go (held_at t i) refl n
    where
      go : (h : Held) → held_at t i ≡ h → size h ≡ suc (count_t i t.clock) → Boxed (disarmed s i) hand hm (lists_of (free_timer i h t)) (holds_of (free_timer i h t)) rs
      go nothing q n = absurd (unfold entries_of in omega arith)
      go (own e) q n = unfold free_timer in unarmed (unfold entries_of in omega arith)
      go (timed e h) q n = armed e h q (unfold entries_of in omega arith)
