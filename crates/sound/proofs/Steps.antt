-- One step of each loop, in the form that the loop has it: one law for each way out.
use Prim.Native.Nat.{ℕ, zero, suc, ◌+◌, ◌*◌, ◌-◌, ◌≤◌, ◌<◌}
use mathlib.Core.Path.{◌≡◌, refl, sym, ap, ◌∙◌}
use mathlib.Core.Bool.{Bool, true, false, not, cond, ◌&&◌, ◌||◌, false≢true}
use mathlib.Core.List.{List}
use native.Mathlib.Omega.{arith}
use native.Mathlib.Numerals.{add-one}
use borrow.Author.Tests.{lt-ltb, le-ltb, eq-eqb, ne_eqb, not-true, not-false, ltb-true}
use lib.Dec.{eqb}
use lib.ListN.{get_or, set}
use Rattle.rules.specs.Limits.{files, places, entries}
use Rattle.segment.specs.Layout.{nil, link_at, data_at, reply_port}
use Rattle.segment.specs.Table.{nth}
use Rattle.accessors.specs.Outstanding.{queue_of}
use Rattle.sound.specs.Rows.{zero_words, place_ok, places_ok}
use Rattle.sound.specs.Walks.{Walked, entry_word, place_in, walked, free_entry, read_entry, write_entry, port_entry, timer_entry, free_walk, queue_walk, timer_walk, port_walk, and_then, queue_walks, port_walks}
use Rattle.sound.specs.Parts.{owned}

-- what a test says that was called, and held or did not

pub held : {r t : Bool} → r ≡ t → not r ≡ false → t ≡ true
held {r} e h = sym e ∙ not-false r h

pub failed : {r t : Bool} → r ≡ t → not r ≡ true → t ≡ false
failed {r} e h = sym e ∙ not-true r h

module _ (s : List ℕ) (p v : ℕ) (e : v ≡ nth s p) where
  pub zero-bad : (n : ℕ) → 0 < n → (v ≡ 0 → ⊥) → zero_words s p n ≡ false
  unfolding zero_words
  zero-bad zero a d = absurd (omega arith)
  zero-bad (suc n) a d = rw (← e, ne_eqb v 0 d, zero_words)

  pub zero-step : (n : ℕ) → 0 < n → v ≡ 0 → zero_words s p n ≡ zero_words s (p + 1) (n - 1)
  unfolding zero_words
  zero-step zero a d = absurd (omega arith)
  zero-step (suc n) a d = let m : suc n - 1 ≡ n = omega arith in rw (m, add-one p, ← e, eq-eqb v 0 d, zero_words)

module _ (s : List ℕ) (p : ℕ) where
  -- the places from p, of n of which k are passed
  pub places_bad : (n k : ℕ) → k < n → place_ok s p ≡ false → places_ok s p (n - k) ≡ false
  unfolding places_ok
  places_bad n k a d = let m : n - k ≡ suc (n - (k + 1)) = omega arith in rw (m, d, places_ok)

  pub places_next : (n k : ℕ) → k < n → place_ok s p ≡ true → places_ok s p (n - k) ≡ places_ok s (p + 1) (n - (k + 1))
  unfolding places_ok
  places_next n k a d = let m : n - k ≡ suc (n - (k + 1)) = omega arith in rw (m, add-one p, d, places_ok)

  pub places_over : (n k : ℕ) → n ≤ k → places_ok s p (n - k) ≡ true
  unfolding places_ok
  places_over n k a = let m : n - k ≡ 0 = omega arith in rw m

pub or-false : (t : Bool) → t ≡ (t || false)
or-false true = refl
or-false false = refl

-- what a row of tests that held says first
pub and_first : (a b : Bool) → (a && b) ≡ true → a ≡ true
and_first true b h = refl
and_first false b h = absurd (false≢true h)

pub owned-place : (s busy : List ℕ) (side f e v : ℕ) → v ≡ nth s (data_at e + 0) → owned s busy side f e ≡ true → v < files * places
unfolding owned place_in entry_word
owned-place s busy side f e v k h =
    rw (k) (ltb-true (nth s (data_at e + 0)) (files * places) (and_first _ _ (and_first _ _ (and_first _ _ h))))

-- The walks of lists. They have one shape: the entry v at slot p is past the entries, was met or fails its list's test, or passes it.

module _ (s : List ℕ) (p : ℕ) (seen busy : List ℕ) where
  free-end' : (n : ℕ) → 0 < n → entries ≤ nth s p → free_walk s p seen busy n ≡ walked (eqb (nth s p) nil) seen busy
  unfolding free_walk
  free-end' zero a h = absurd (omega arith)
  free-end' (suc n) a h = rw (le-ltb (nth s p) entries h, free_walk)

  free-bad' : (n : ℕ) → 0 < n → nth s p < entries → (eqb (get_or seen (nth s p) 0) 0 && free_entry s (nth s p)) ≡ false → free_walk s p seen busy n ≡ walked false seen busy
  unfolding free_walk
  free-bad' zero a h d = absurd (omega arith)
  free-bad' (suc n) a h d = rw (lt-ltb (nth s p) entries h, d, free_walk)

  free-step' : (n : ℕ) → 0 < n → nth s p < entries → (eqb (get_or seen (nth s p) 0) 0 && free_entry s (nth s p)) ≡ true → free_walk s p seen busy n ≡ free_walk s (link_at (nth s p)) (set seen (nth s p) 1) busy (n - 1)
  unfolding free_walk
  free-step' zero a h d = absurd (omega arith)
  free-step' (suc n) a h d = let m : suc n - 1 ≡ n = omega arith in rw (m, lt-ltb (nth s p) entries h, d, free_walk)

  module _ (v : ℕ) (e : v ≡ nth s p) where
    pub free-end : (n : ℕ) → 0 < n → entries ≤ v → free_walk s p seen busy n ≡ walked (eqb v nil) seen busy
    free-end n a h = rw e (free-end' n a (rw e at h))

    pub free-bad : (n : ℕ) → 0 < n → v < entries → (eqb (get_or seen v 0) 0 && free_entry s v) ≡ false → free_walk s p seen busy n ≡ walked false seen busy
    free-bad n a h d = free-bad' n a (rw e at h) (rw e at d)

    pub free_step : (n : ℕ) → 0 < n → v < entries → (eqb (get_or seen v 0) 0 && free_entry s v) ≡ true → free_walk s p seen busy n ≡ free_walk s (link_at v) (set seen v 1) busy (n - 1)
    free_step n a h d = rw e (free-step' n a (rw e at h) (rw e at d))

module _ (s : List ℕ) (side f p : ℕ) (seen busy : List ℕ) (n k : ℕ) (a : k < n) where
  queue-end' : entries ≤ nth s p → queue_walk s side f p seen busy (n - k) ≡ walked (eqb (nth s p) nil) seen busy
  unfolding queue_walk
  queue-end' h = let m : n - k ≡ suc (n - (k + 1)) = omega arith in rw (m, le-ltb (nth s p) entries h, queue_walk)

  queue-bad' : nth s p < entries → (eqb (get_or seen (nth s p) 0) 0 && cond (eqb side 1) (read_entry s busy f (nth s p)) (write_entry s busy f (nth s p))) ≡ false → queue_walk s side f p seen busy (n - k) ≡ walked false seen busy
  unfolding queue_walk
  queue-bad' h d = let m : n - k ≡ suc (n - (k + 1)) = omega arith in rw (m, lt-ltb (nth s p) entries h, d, queue_walk)

  queue-next' : nth s p < entries → (eqb (get_or seen (nth s p) 0) 0 && cond (eqb side 1) (read_entry s busy f (nth s p)) (write_entry s busy f (nth s p))) ≡ true → queue_walk s side f p seen busy (n - k) ≡ queue_walk s side f (link_at (nth s p)) (set seen (nth s p) 1) (set busy (place_in s (nth s p)) 1) (n - (k + 1))
  unfolding queue_walk
  queue-next' h d = let m : n - k ≡ suc (n - (k + 1)) = omega arith in rw (m, lt-ltb (nth s p) entries h, d, queue_walk)

  module _ (v : ℕ) (e : v ≡ nth s p) where
    pub queue_end : entries ≤ v → queue_walk s side f p seen busy (n - k) ≡ walked (eqb v nil) seen busy
    queue_end h = rw e (queue-end' (rw e at h))

    pub queue_bad : v < entries → (eqb (get_or seen v 0) 0 && cond (eqb side 1) (read_entry s busy f v) (write_entry s busy f v)) ≡ false → queue_walk s side f p seen busy (n - k) ≡ walked false seen busy
    queue_bad h d = queue-bad' (rw e at h) (rw e at d)

    pub queue_next : v < entries → (eqb (get_or seen v 0) 0 && cond (eqb side 1) (read_entry s busy f v) (write_entry s busy f v)) ≡ true → queue_walk s side f p seen busy (n - k) ≡ queue_walk s side f (link_at v) (set seen v 1) (set busy (place_in s v) 1) (n - (k + 1))
    queue_next h d = rw e (queue-next' (rw e at h) (rw e at d))

module _ (s : List ℕ) (low p : ℕ) (seen busy : List ℕ) (n k : ℕ) (a : k < n) where
  timer-end' : entries ≤ nth s p → timer_walk s low p seen busy (n - k) ≡ walked (eqb (nth s p) nil) seen busy
  unfolding timer_walk
  timer-end' h = let m : n - k ≡ suc (n - (k + 1)) = omega arith in rw (m, le-ltb (nth s p) entries h, timer_walk)

  timer-bad' : nth s p < entries → (eqb (get_or seen (nth s p) 0) 0 && timer_entry s busy low (nth s p)) ≡ false → timer_walk s low p seen busy (n - k) ≡ walked false seen busy
  unfolding timer_walk
  timer-bad' h d = let m : n - k ≡ suc (n - (k + 1)) = omega arith in rw (m, lt-ltb (nth s p) entries h, d, timer_walk)

  timer-next' : nth s p < entries → (eqb (get_or seen (nth s p) 0) 0 && timer_entry s busy low (nth s p)) ≡ true → timer_walk s low p seen busy (n - k) ≡ timer_walk s (entry_word s (nth s p) 7) (link_at (nth s p)) (set seen (nth s p) 1) (set busy (place_in s (nth s p)) 3) (n - (k + 1))
  unfolding timer_walk
  timer-next' h d = let m : n - k ≡ suc (n - (k + 1)) = omega arith in rw (m, lt-ltb (nth s p) entries h, d, timer_walk)

  module _ (v : ℕ) (e : v ≡ nth s p) where
    pub timer_end : entries ≤ v → timer_walk s low p seen busy (n - k) ≡ walked (eqb v nil) seen busy
    timer_end h = rw e (timer-end' (rw e at h))

    pub timer_bad : v < entries → (eqb (get_or seen v 0) 0 && timer_entry s busy low v) ≡ false → timer_walk s low p seen busy (n - k) ≡ walked false seen busy
    timer_bad h d = timer-bad' (rw e at h) (rw e at d)

    pub timer_next : v < entries → (eqb (get_or seen v 0) 0 && timer_entry s busy low v) ≡ true → timer_walk s low p seen busy (n - k) ≡ timer_walk s (entry_word s v 7) (link_at v) (set seen v 1) (set busy (place_in s v) 3) (n - (k + 1))
    timer_next h d = rw e (timer-next' (rw e at h) (rw e at d))

-- both tests of an entry held, or one of them did not
pub both-held : {x : ℕ} {t : Bool} → x ≡ 0 → t ≡ true → (eqb x 0 && t) ≡ true
both-held {x} h k = rw (eq-eqb x 0 h, k)

pub met-before : {x : ℕ} (t : Bool) → (x ≡ 0 → ⊥) → (eqb x 0 && t) ≡ false
met-before {x} t d = rw (ne_eqb x 0 d)

pub unfit : {x : ℕ} {t : Bool} → x ≡ 0 → t ≡ false → (eqb x 0 && t) ≡ false
unfit {x} h k = rw (eq-eqb x 0 h, k)

-- the place that an entry names was tested

pub queue-place : (s busy : List ℕ) (side f e v : ℕ) → v ≡ nth s (data_at e + 0)
    → cond (eqb side 1) (read_entry s busy f e) (write_entry s busy f e) ≡ true
    → v < files * places
unfolding read_entry write_entry owned
queue-place s busy side f e v k h = go (eqb side 1) h
  where
    go : (t : Bool) → cond t (read_entry s busy f e) (write_entry s busy f e) ≡ true → v < files * places
    go true r = owned-place s busy 1 f e v k (and_first _ _ (and_first _ _ (and_first _ _ (and_first _ _ r))))
    go false r = owned-place s busy 2 f e v k (and_first _ _ (and_first _ _ (and_first _ _ (and_first _ _ r))))

pub timer-place : (s busy : List ℕ) (low e v : ℕ) → v ≡ nth s (data_at e + 0) → timer_entry s busy low e ≡ true → v < files * places
unfolding timer_entry place_in entry_word
timer-place s busy low e v k h =
    rw k (ltb-true (nth s (data_at e + 0)) (files * places) (and_first _ _ (and_first _ _ (and_first _ _ (and_first _ _ h)))))

-- what a walk said that was called, and went well or did not

pub well : (r : Bool) (seen busy : List ℕ) {w : Walked} → walked r seen busy ≡ w → not r ≡ false → w ≡ walked true seen busy
well r seen busy e h = sym e ∙ ap (λ t. walked t seen busy) (not-false r h)

pub ill : (r : Bool) (seen busy : List ℕ) {w : Walked} → walked r seen busy ≡ w → not r ≡ true → w ≡ walked false seen busy
ill r seen busy e h = sym e ∙ ap (λ t. walked t seen busy) (not-true r h)

then-true : (next : List ℕ → List ℕ → Walked) (seen busy : List ℕ) → and_then (walked true seen busy) next ≡ next seen busy
unfolding and_then walked
then-true next seen busy = refl

then-false : (next : List ℕ → List ℕ → Walked) (seen busy : List ℕ) → and_then (walked false seen busy) next ≡ walked false seen busy
unfolding and_then walked
then-false next seen busy = refl

pub then-on : (w : Walked) (next : List ℕ → List ℕ → Walked) (seen busy : List ℕ) → w ≡ walked true seen busy → and_then w next ≡ next seen busy
then-on w next seen busy e = rw e (then-true next seen busy)

pub then-off : (w : Walked) (next : List ℕ → List ℕ → Walked) (seen busy : List ℕ) → w ≡ walked false seen busy → and_then w next ≡ walked false seen busy
then-off w next seen busy e = rw e (then-false next seen busy)

-- the queues of all files

module _ (s : List ℕ) (side f h : ℕ) (e : h ≡ queue_of f side) (seen busy seen' busy' : List ℕ) (n k : ℕ) (a : k < n) where
  pub queues_bad : walked false seen' busy' ≡ queue_walk s side f h seen busy (entries + 1) → queue_walks s side f seen busy (n - k) ≡ walked false seen' busy'
  unfolding queue_walks
  queues_bad w = let m : n - k ≡ suc (n - (k + 1)) = omega arith in rw m (then-off _ _ seen' busy' (sym (rw e at w)))

  pub queues_next : walked true seen' busy' ≡ queue_walk s side f h seen busy (entries + 1)
      → queue_walks s side f seen busy (n - k) ≡ queue_walks s side (f + 1) seen' busy' (n - (k + 1))
  unfolding queue_walks
  queues_next w = let m : n - k ≡ suc (n - (k + 1)) = omega arith in rw (m, add-one f) (then-on _ _ seen' busy' (sym (rw e at w)))

pub queues_over : (s : List ℕ) (side f : ℕ) (seen busy : List ℕ) (n k : ℕ) → n ≤ k → queue_walks s side f seen busy (n - k) ≡ walked true seen busy
unfolding queue_walks
queues_over s side f seen busy n k a = let m : n - k ≡ 0 = omega arith in rw m

-- the ports of all places

module _ (s : List ℕ) (i : ℕ) (seen busy seen' busy' : List ℕ) (n k : ℕ) (a : k < n) where
  pub ports_bad : walked false seen' busy' ≡ port_walk s i seen busy → port_walks s i seen busy (n - k) ≡ walked false seen' busy'
  unfolding port_walks
  ports_bad w = let m : n - k ≡ suc (n - (k + 1)) = omega arith in rw m (then-off _ _ seen' busy' (sym w))

  pub ports_next : walked true seen' busy' ≡ port_walk s i seen busy → port_walks s i seen busy (n - k) ≡ port_walks s (i + 1) seen' busy' (n - (k + 1))
  unfolding port_walks
  ports_next w = let m : n - k ≡ suc (n - (k + 1)) = omega arith in rw (m, add-one i) (then-on _ _ seen' busy' (sym w))

pub ports_over : (s : List ℕ) (i : ℕ) (seen busy : List ℕ) (n k : ℕ) → n ≤ k → port_walks s i seen busy (n - k) ≡ walked true seen busy
unfolding port_walks
ports_over s i seen busy n k a = let m : n - k ≡ 0 = omega arith in rw m

-- one port: past the entries; met, unfit or not alone; or as it should be

module _ (s : List ℕ) (i : ℕ) (seen busy : List ℕ) where
  port-end' : entries ≤ nth s (reply_port i) → port_walk s i seen busy ≡ walked (eqb (nth s (reply_port i)) nil) seen busy
  unfolding port_walk
  port-end' h = rw (le-ltb (nth s (reply_port i)) entries h, port_walk)

  port-bad' : nth s (reply_port i) < entries
      → (eqb (get_or seen (nth s (reply_port i)) 0) 0 && port_entry s busy i (nth s (reply_port i)) && eqb (nth s (link_at (nth s (reply_port i)))) nil) ≡ false
      → port_walk s i seen busy ≡ walked false seen busy
  unfolding port_walk
  port-bad' h d = rw (lt-ltb (nth s (reply_port i)) entries h, d, port_walk)

  port-good' : nth s (reply_port i) < entries
      → (eqb (get_or seen (nth s (reply_port i)) 0) 0 && port_entry s busy i (nth s (reply_port i)) && eqb (nth s (link_at (nth s (reply_port i)))) nil) ≡ true
      → port_walk s i seen busy ≡ walked true (set seen (nth s (reply_port i)) 1) (set busy i 2)
  unfolding port_walk
  port-good' h d = rw (lt-ltb (nth s (reply_port i)) entries h, d, port_walk)

  module _ (v : ℕ) (e : v ≡ nth s (reply_port i)) where
    pub port-end : entries ≤ v → port_walk s i seen busy ≡ walked (eqb v nil) seen busy
    port-end h = rw e (port-end' (rw e at h))

    pub port-bad : v < entries → (eqb (get_or seen v 0) 0 && port_entry s busy i v && eqb (nth s (link_at v)) nil) ≡ false → port_walk s i seen busy ≡ walked false seen busy
    port-bad h d = port-bad' (rw e at h) (rw e at d)

    pub port-good : v < entries → (eqb (get_or seen v 0) 0 && port_entry s busy i v && eqb (nth s (link_at v)) nil) ≡ true
        → port_walk s i seen busy ≡ walked true (set seen v 1) (set busy i 2)
    port-good h d = rw e (port-good' (rw e at h) (rw e at d))
