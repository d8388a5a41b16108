-- The entries of a list pass exactly where each holds what it should and each one's place has the mark that it should have when it is met.
use Prim.Native.Nat.{ℕ, ◌≤◌}
use mathlib.Core.Bool.{true}
use mathlib.Core.Path.{◌≡◌, refl, sym, ap, ◌∙◌}
use mathlib.Core.List.{List, [], ◌∷◌, map}
use lib.ListN.{get_or, set}
use Rattle.sound.specs.Walks.{entry_word, place_in, free_entry}
use Rattle.decision.specs.Survey.{Each, InOrder, ReadEntry, WriteEntry, PortEntry, TimerEntry}
use Rattle.decision.proofs.lists.Marks.{marks, Met}
use Rattle.decision.proofs.lists.Entries.{read-true, true-read, write-true, true-write, port-true, true-port, timer-true, true-timer}
use Rattle.decision.proofs.lists.Walk.{Kind, after, Pass}
use Rattle.decision.proofs.lists.Walkers.{free_kind, queue_kind, port_kind, timer_kind}

-- the places of the entries
abbrev pub owners : List ℕ → List ℕ → List ℕ
owners s xs = map (place_in s) xs

-- what holds of each entry, by the seconds of the one before
unfoldable pub Row : List ℕ → (ℕ → ℕ → Type 0) → ℕ → List ℕ → Type 0
Row s P low [] = Unit {0}
Row s P low (x ∷ xs) = P low x × Row s P (entry_word s x 7) xs

-- an entry of kind k holds P, its place has the mark `need` and gets the mark v
pub record Means (s : List ℕ) (need v : ℕ) (P : ℕ → ℕ → Type 0) (k : Kind) : Type 0 where
  pub marked : (busy : List ℕ) (e : ℕ) → k.mark busy e ≡ set busy (place_in s e) v
  pub says : (busy : List ℕ) (low e : ℕ) → k.test busy low e ≡ true → P low e × (get_or busy (place_in s e) 0 ≡ need)
  pub said : (busy : List ℕ) (low e : ℕ) → P low e → get_or busy (place_in s e) 0 ≡ need → k.test busy low e ≡ true

module _ (s : List ℕ) (need v : ℕ) (P : ℕ → ℕ → Type 0) (k : Kind) (means : Means s need v P k) where
  pub after-marks : (busy xs : List ℕ) → after k busy xs ≡ marks v busy (owners s xs)
  unfolding after marks
  after-marks busy [] = refl
  after-marks busy (x ∷ xs) = rw (means.marked busy x) (after-marks (set busy (place_in s x) v) xs)

  pub pass-row : (low : ℕ) (busy xs : List ℕ) → Pass s k low busy xs → Row s P low xs × Met need v busy (owners s xs)
  unfolding Pass Row Met
  pass-row low busy [] p = (tt, tt)
  pass-row low busy (x ∷ xs) p =
      let a = means.says busy low x p.0 in
      let r = pass-row (entry_word s x 7) (set busy (place_in s x) v) xs (rw (means.marked busy x) at p.1) in
      ((a.0, r.0), (a.1, r.1))

  pub row-pass : (low : ℕ) (busy xs : List ℕ) → Row s P low xs → Met need v busy (owners s xs) → Pass s k low busy xs
  unfolding Pass Row Met
  row-pass low busy [] a m = tt
  row-pass low busy (x ∷ xs) a m = (
    means.said busy low x a.0 m.0,
    rw (means.marked busy x) (row-pass (entry_word s x 7) (set busy (place_in s x) v) xs a.1 m.1),
  )

-- where the entry before doesn't matter
pub row-each : (s : List ℕ) (Q : ℕ → Type 0) (low : ℕ) (xs : List ℕ) → Row s (λ l. Q) low xs → Each Q xs
unfolding Row Each
row-each s Q low [] a = tt
row-each s Q low (x ∷ xs) a = (a.0, row-each s Q (entry_word s x 7) xs a.1)

pub each_row : (s : List ℕ) (Q : ℕ → Type 0) (low : ℕ) (xs : List ℕ) → Each Q xs → Row s (λ l. Q) low xs
unfolding Row Each
each_row s Q low [] a = tt
each_row s Q low (x ∷ xs) a = (a.0, each_row s Q (entry_word s x 7) xs a.1)

-- what the kinds mean
module _ (s : List ℕ) where
  pub read-means : (f : ℕ) → Means s 0 1 (λ low. ReadEntry s f) (queue_kind s 1 f)
  unfolding queue_kind
  read-means f = record {
    marked = λ busy e. refl;
    says = λ busy low e h. read-true s busy f e h;
    said = λ busy low e r b. true-read s busy f e r b;
  }

  pub write-means : (f : ℕ) → Means s 0 1 (λ low. WriteEntry s f) (queue_kind s 2 f)
  unfolding queue_kind
  write-means f = record {
    marked = λ busy e. refl;
    says = λ busy low e h. write-true s busy f e h;
    said = λ busy low e r b. true-write s busy f e r b;
  }

  pub port-means : (i : ℕ) → Means s 0 2 (λ low. PortEntry s i) (port_kind s i)
  unfolding port_kind
  port-means i = record {
    marked = λ busy e. refl;
    says = λ busy low e h. let r = port-true s busy i e h in (r.0, ap (λ (j : ℕ). get_or busy j 0) r.0.place ∙ r.1);
    said = λ busy low e r b. true-port s busy i e r (sym (ap (λ (j : ℕ). get_or busy j 0) r.place) ∙ b);
  }

pub timer-means : (s : List ℕ) → Means s 1 3 (λ low e. TimerEntry s e × (low ≤ entry_word s e 7)) (timer_kind s)
unfolding timer_kind
timer-means s = record {
  marked = λ busy e. refl;
  says = λ busy low e h. let (t, l, b) = timer-true s busy low e h in ((t, l), b);
  said = λ busy low e r b. true-timer s busy low e r.0 r.1 b;
}

pub row-timers : (s : List ℕ) (low : ℕ) (xs : List ℕ) → Row s (λ low e. TimerEntry s e × (low ≤ entry_word s e 7)) low xs → Each (TimerEntry s) xs × InOrder s low xs
unfolding Row Each InOrder
row-timers s low [] a = (tt, tt)
row-timers s low (x ∷ xs) a = let r = row-timers s (entry_word s x 7) xs a.1 in ((a.0.0, r.0), (a.0.1, r.1))

pub timers-row : (s : List ℕ) (low : ℕ) (xs : List ℕ) → Each (TimerEntry s) xs → InOrder s low xs → Row s (λ low e. TimerEntry s e × (low ≤ entry_word s e 7)) low xs
unfolding Row Each InOrder
timers-row s low [] a o = tt
timers-row s low (x ∷ xs) a o = ((a.0, o.0), timers-row s (entry_word s x 7) xs a.1 o.1)

-- a free entry belongs to no place
pub free-after : (s busy xs : List ℕ) → after (free_kind s) busy xs ≡ busy
unfolding after free_kind
free-after s busy [] = refl
free-after s busy (x ∷ xs) = free-after s busy xs

pub pass-free : (s : List ℕ) (low : ℕ) (busy xs : List ℕ) → Pass s (free_kind s) low busy xs → Each (λ e. free_entry s e ≡ true) xs
unfolding Pass Each free_kind
pass-free s low busy [] p = tt
pass-free s low busy (x ∷ xs) p = (p.0, pass-free s (entry_word s x 7) busy xs p.1)

pub free-pass : (s : List ℕ) (low : ℕ) (busy xs : List ℕ) → Each (λ e. free_entry s e ≡ true) xs → Pass s (free_kind s) low busy xs
unfolding Pass Each free_kind
free-pass s low busy [] p = tt
free-pass s low busy (x ∷ xs) p = (p.0, free-pass s (entry_word s x 7) busy xs p.1)
