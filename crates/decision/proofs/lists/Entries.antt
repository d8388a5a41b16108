-- What the test of an entry finds out, for each kind of list.
use Prim.Native.Nat.{ℕ, ◌*◌, ◌/◌, ◌≤◌}
use mathlib.Core.Bool.{Bool, true, cond, ◌&&◌}
use mathlib.Core.Path.{◌≡◌}
use mathlib.Core.List.{List}
use borrow.Author.Tests.{ltb-true, lt-ltb, leb-true, le-leb, eqb-true, eq-eqb}
use lib.Dec.{eqb}
use lib.ListN.{get_or}
use Rattle.rules.specs.Limits.{files, places, buffer_bytes}
use Rattle.rules.proofs.Split.{and-true, true-and}
use Rattle.laws.specs.Bounds.{least_refusal}
use Rattle.sound.specs.Rows.{file_word, side_at}
use Rattle.sound.specs.Walks.{entry_word, place_in, size_in, read_entry, write_entry, port_entry, timer_entry}
use Rattle.decision.specs.Survey.{ReadEntry, WriteEntry, PortEntry, TimerEntry}

-- tests that all hold
infixl 35 ◌&◌
◌&◌ : {t u : Bool} → t ≡ true → u ≡ true → t && u ≡ true
◌&◌ {t} {u} a b = true-and t u a b

module _ (s busy : List ℕ) (f e : ℕ) where
  pub read-true : read_entry s busy f e ≡ true → ReadEntry s f e × (get_or busy (place_in s e) 0 ≡ 0)
  unfolding read_entry
  read-true h =
      let (h, t8) = and-true _ _ h in
      let (h, t7) = and-true _ _ h in
      let (h, t6) = and-true _ _ h in
      let (h, t5) = and-true _ _ h in
      let (h, t4) = and-true _ _ h in
      let (h, t3) = and-true _ _ h in
      let (t1, t2) = and-true _ _ h in (
        record {
          place = ltb-true (place_in s e) (files * places) t1;
          file = eqb-true (place_in s e / places) f t2;
          side = eqb-true (side_at s (place_in s e)) 1 t4;
          unit = leb-true (entry_word s e 1) 1 t5;
          limit = leb-true (entry_word s e 2) buffer_bytes t6;
          keep = leb-true (entry_word s e 3) 1 t7;
          rest = t8;
        },
        eqb-true (get_or busy (place_in s e) 0) 0 t3,
      )

  pub true-read : ReadEntry s f e → get_or busy (place_in s e) 0 ≡ 0 → read_entry s busy f e ≡ true
  unfolding read_entry
  true-read r b =
      lt-ltb (place_in s e) (files * places) r.place
      & eq-eqb (place_in s e / places) f r.file
      & eq-eqb (get_or busy (place_in s e) 0) 0 b
      & eq-eqb (side_at s (place_in s e)) 1 r.side
      & le-leb (entry_word s e 1) 1 r.unit
      & le-leb (entry_word s e 2) buffer_bytes r.limit
      & le-leb (entry_word s e 3) 1 r.keep
      & r.rest

  pub write-true : write_entry s busy f e ≡ true → WriteEntry s f e × (get_or busy (place_in s e) 0 ≡ 0)
  unfolding write_entry
  write-true h =
      let (h, t8) = and-true _ _ h in
      let (h, t7) = and-true _ _ h in
      let (h, t6) = and-true _ _ h in
      let (h, t5) = and-true _ _ h in
      let (h, t4) = and-true _ _ h in
      let (h, t3) = and-true _ _ h in
      let (t1, t2) = and-true _ _ h in (
        record {
          place = ltb-true (place_in s e) (files * places) t1;
          file = eqb-true (place_in s e / places) f t2;
          side = eqb-true (side_at s (place_in s e)) 2 t4;
          unit = leb-true (entry_word s e 1) 1 t5;
          middle = t6;
          size = leb-true (size_in s e) (2 * file_word s f 0) t7;
          rest = t8;
        },
        eqb-true (get_or busy (place_in s e) 0) 0 t3,
      )

  pub true-write : WriteEntry s f e → get_or busy (place_in s e) 0 ≡ 0 → write_entry s busy f e ≡ true
  unfolding write_entry
  true-write r b =
      lt-ltb (place_in s e) (files * places) r.place
      & eq-eqb (place_in s e / places) f r.file
      & eq-eqb (get_or busy (place_in s e) 0) 0 b
      & eq-eqb (side_at s (place_in s e)) 2 r.side
      & le-leb (entry_word s e 1) 1 r.unit
      & r.middle
      & le-leb (size_in s e) (2 * file_word s f 0) r.size
      & r.rest

module _ (s busy : List ℕ) (i e : ℕ) where
  pub port-true : port_entry s busy i e ≡ true → PortEntry s i e × (get_or busy i 0 ≡ 0)
  unfolding port_entry
  port-true h =
      let (h, t7) = and-true _ _ h in
      let (h, t6) = and-true _ _ h in
      let (h, t5) = and-true _ _ h in
      let (h, t4) = and-true _ _ h in
      let (h, t3) = and-true _ _ h in
      let (t1, t2) = and-true _ _ h in (
        record {
          place = eqb-true (place_in s e) i t1;
          side = leb-true 1 (side_at s i) t3;
          middle = t4;
          status = ltb-true (entry_word s e 4) least_refusal t5;
          size = leb-true (size_in s e) (cond (eqb (side_at s i) 1) buffer_bytes 0) t6;
          rest = t7;
        },
        eqb-true (get_or busy i 0) 0 t2,
      )

  pub true-port : PortEntry s i e → get_or busy i 0 ≡ 0 → port_entry s busy i e ≡ true
  unfolding port_entry
  true-port r b =
      eq-eqb (place_in s e) i r.place
      & eq-eqb (get_or busy i 0) 0 b
      & le-leb 1 (side_at s i) r.side
      & r.middle
      & lt-ltb (entry_word s e 4) least_refusal r.status
      & le-leb (size_in s e) (cond (eqb (side_at s i) 1) buffer_bytes 0) r.size
      & r.rest

module _ (s busy : List ℕ) (low e : ℕ) where
  pub timer-true : timer_entry s busy low e ≡ true → TimerEntry s e × (low ≤ entry_word s e 7) × (get_or busy (place_in s e) 0 ≡ 1)
  unfolding timer_entry
  timer-true h =
      let (h, t5) = and-true _ _ h in
      let (h, t4) = and-true _ _ h in
      let (h, t3) = and-true _ _ h in
      let (t1, t2) = and-true _ _ h in (
        record { place = ltb-true (place_in s e) (files * places) t1; middle = t3; rest = eqb-true (entry_word s e 8) 0 t5 },
        leb-true low (entry_word s e 7) t4,
        eqb-true (get_or busy (place_in s e) 0) 1 t2,
      )

  pub true-timer : TimerEntry s e → low ≤ entry_word s e 7 → get_or busy (place_in s e) 0 ≡ 1 → timer_entry s busy low e ≡ true
  unfolding timer_entry
  true-timer r l b =
      lt-ltb (place_in s e) (files * places) r.place
      & eq-eqb (get_or busy (place_in s e) 0) 1 b
      & r.middle
      & le-leb low (entry_word s e 7) l
      & eq-eqb (entry_word s e 8) 0 r.rest
