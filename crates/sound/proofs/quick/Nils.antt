-- Heads that are all 255: their lists are empty.
use Prim.Native.Nat.{ℕ, zero, suc, ◌+◌, ◌*◌, ◌-◌, ◌≤◌, ◌<◌}
use mathlib.Core.Path.{◌≡◌, refl, sym, ap, ◌∙◌}
use mathlib.Core.Bool.{Bool, true, false, ◌&&◌, true≢false}
use mathlib.Core.List.{List}
use native.Mathlib.Omega.{arith}
use native.Mathlib.Numerals.{add-one}
use borrow.Author.Tests.{eqb-true, eqb-false, eq-eqb, ne_eqb}
use lib.Dec.{eqb}
use lib.ListN.{get_or, replicate}
use Rattle.rules.specs.Limits.{files, entries}
use Rattle.rules.proofs.Split.{by_cases}
use Rattle.segment.specs.Layout.{nil, desk_places, free_list, read_queues, write_queues, reply_ports, reply_port, timer_list, list_count}
use Rattle.segment.specs.Table.{nth}
use Rattle.sound.specs.Walks.{Walked, walked, free_walk, queue_walk, queue_walks, port_walk, port_walks, all_walks, all_met}
use Rattle.sound.specs.Sound.{lists_ok}
use Rattle.sound.proofs.Steps.{queue_end, queues_next, port-end, ports_next, timer_end}
use Rattle.sound.proofs.Whole.{all-off, ports-on, lists-off, lists-on}
use Rattle.accessors.specs.Outstanding.{queue_of}
use Rattle.sound.specs.quick.Ones.{ones}
use Rattle.sound.specs.quick.Ends.{free_ends}
use Rattle.sound.proofs.quick.Enough.{all-free}

pub ones_step : (xs : List ℕ) (p n : ℕ) → 0 < n → get_or xs p 0 ≡ 255 → ones xs p n ≡ ones xs (p + 1) (n - 1)
unfolding ones
ones_step xs p zero o h = absurd (omega arith)
ones_step xs p (suc n) o h = let z : suc n - 1 ≡ n = omega arith in rw (z, add-one p, eq-eqb (get_or xs p 0) 255 h, ones)

pub ones-bad : (xs : List ℕ) (p n : ℕ) → 0 < n → (get_or xs p 0 ≡ 255 → ⊥) → ones xs p n ≡ false
unfolding ones
ones-bad xs p zero o h = absurd (omega arith)
ones-bad xs p (suc n) o h = rw (ne_eqb (get_or xs p 0) 255 h, ones)

pub ones-end : (xs : List ℕ) (p n : ℕ) → n ≤ 0 → ones xs p n ≡ true
unfolding ones
ones-end xs p zero h = refl
ones-end xs p (suc n) h = absurd (omega arith)

-- the first of n bytes, and the others
first : (xs : List ℕ) (p n : ℕ) → 0 < n → ones xs p n ≡ true → (get_or xs p 0 ≡ 255) × (ones xs (p + 1) (n - 1) ≡ true)
first xs p n o h = go (eqb (get_or xs p 0) 255) refl
  where
    go : (t : Bool) → eqb (get_or xs p 0) 255 ≡ t → (get_or xs p 0 ≡ 255) × (ones xs (p + 1) (n - 1) ≡ true)
    go true e = let z : get_or xs p 0 ≡ 255 = eqb-true (get_or xs p 0) 255 e in (z, sym (ones_step xs p n o z) ∙ h)
    go false e = absurd (true≢false (sym h ∙ ones-bad xs p n o (eqb-false (get_or xs p 0) 255 e)))

-- the first of n words, and the others
word_first : (s : List ℕ) (l n : ℕ) → ones s (2 * l) (2 * suc n) ≡ true → (nth s l ≡ nil) × (ones s (2 * (l + 1)) (2 * n) ≡ true)
unfolding nth
word_first s l n h =
    let a : (get_or s (2 * l) 0 ≡ 255) × (ones s (2 * l + 1) (2 * suc n - 1) ≡ true) = first s (2 * l) (2 * suc n) (omega arith) h in
    let b : (get_or s (2 * l + 1) 0 ≡ 255) × (ones s (2 * l + 1 + 1) (2 * suc n - 1 - 1) ≡ true) = first s (2 * l + 1) (2 * suc n - 1) (omega arith) a.1 in
    let on : 2 * l + 1 + 1 ≡ 2 * (l + 1) = omega arith in
    let less : 2 * suc n - 1 - 1 ≡ 2 * n = omega arith in
    (omega (arith, a.0, b.0), rw (on, less) at b.1)

-- the walks of n lists whose heads are nil: h is the head of the first file's queue

pub queues-none : (s seen busy : List ℕ) (side n f h : ℕ) → (k : (g : ℕ) → queue_of g side ≡ h + g)
    → ones s (2 * (h + f)) (2 * n) ≡ true → queue_walks s side f seen busy n ≡ walked true seen busy
unfolding queue_walks
queues-none s seen busy side zero f h k e = refl
queues-none s seen busy side (suc n) f h k e =
    let w : (nth s (h + f) ≡ nil) × (ones s (2 * (h + f + 1)) (2 * n) ≡ true) = word_first s (h + f) n e in
    let q : queue_walk s side f (h + f) seen busy (entries + 1) ≡ walked true seen busy =
    queue_end s side f (h + f) seen busy (entries + 1) 0 (omega arith) nil (sym w.0) (omega arith) in
    let all : suc n - 0 ≡ suc n = omega arith in
    let rest : suc n - 1 ≡ n = omega arith in
    let there : h + f + 1 ≡ h + (f + 1) = omega arith in
    let step = queues_next s side f (h + f) (sym (k f)) seen busy seen busy (suc n) 0 (omega arith) (sym q) in
    let step' : queue_walks s side f seen busy (suc n) ≡ queue_walks s side (f + 1) seen busy n = rw (all, rest) at step in
    step' ∙ queues-none s seen busy side n (f + 1) h k (rw there at w.1)

pub ports-none : (s seen busy : List ℕ) (n i : ℕ) → ones s (2 * reply_port i) (2 * n) ≡ true → port_walks s i seen busy n ≡ walked true seen busy
unfolding port_walks
ports-none s seen busy zero i e = refl
ports-none s seen busy (suc n) i e =
    let w : (nth s (reply_port i) ≡ nil) × (ones s (2 * (reply_port i + 1)) (2 * n) ≡ true) = word_first s (reply_port i) n e in
    let q : port_walk s i seen busy ≡ walked true seen busy = port-end s i seen busy nil (sym w.0) (omega arith) in
    let all : suc n - 0 ≡ suc n = omega arith in
    let rest : suc n - 1 ≡ n = omega arith in
    let there : reply_port i + 1 ≡ reply_port (i + 1) = omega arith in
    let step = ports_next s i seen busy seen busy (suc n) 0 (omega arith) (sym q) in
    let step' : port_walks s i seen busy (suc n) ≡ port_walks s (i + 1) seen busy n = rw (all, rest) at step in
    step' ∙ ports-none s seen busy n (i + 1) (rw there at w.1)

-- the first m bytes of a run, and the n after them
ones_split : (xs : List ℕ) (n m k p q : ℕ) → k ≡ m + n → q ≡ p + m → ones xs p k ≡ true → (ones xs p m ≡ true) × (ones xs q n ≡ true)
ones_split xs n zero k p q e f h =
    let e' : k ≡ n = omega arith in
    let f' : p ≡ q = omega arith in
    (ones-end xs p zero (omega arith), rw (e', f') at h)
ones_split xs n (suc m) k p q e f h =
    let a : (get_or xs p 0 ≡ 255) × (ones xs (p + 1) (k - 1) ≡ true) = first xs p k (omega arith) h in
    let b : (ones xs (p + 1) m ≡ true) × (ones xs q n ≡ true) = ones_split xs n m (k - 1) (p + 1) q (omega arith) (omega arith) a.1 in
    let o : suc m - 1 ≡ m = omega arith in
    let s : ones xs p (suc m) ≡ ones xs (p + 1) (suc m - 1) = ones_step xs p (suc m) (omega arith) a.0 in
    (rw o at s ∙ b.0, b.1)

whole : (w : Walked) (t : Bool) → w.ok ≡ t → w ≡ walked t w.seen w.busy
unfolding walked
whole w t e = ap (λ (b : Bool). walked b w.seen w.busy) e

-- every list but the free list is empty
module _ (s : List ℕ) (h : ones s (2 * read_queues) (2 * (list_count - read_queues)) ≡ true) where
  reads : (ones s (2 * read_queues) (2 * files) ≡ true) × (ones s (2 * write_queues) (2 * (files + desk_places + 1)) ≡ true)
  reads = ones_split s (2 * (files + desk_places + 1)) (2 * files) (2 * (list_count - read_queues)) (2 * read_queues) (2 * write_queues) refl refl h

  writes : (ones s (2 * write_queues) (2 * files) ≡ true) × (ones s (2 * reply_ports) (2 * (desk_places + 1)) ≡ true)
  writes = ones_split s (2 * (desk_places + 1)) (2 * files) (2 * (files + desk_places + 1)) (2 * write_queues) (2 * reply_ports) refl refl reads.1

  ports : (ones s (2 * reply_ports) (2 * desk_places) ≡ true) × (ones s (2 * timer_list) 2 ≡ true)
  ports = ones_split s 2 (2 * desk_places) (2 * (desk_places + 1)) (2 * reply_ports) (2 * timer_list) refl refl writes.1

  timers : nth s timer_list ≡ nil
  timers = (word_first s timer_list 0 ports.1).0

  module _ (seen busy : List ℕ) (w : free_walk s free_list (replicate entries 0) (replicate desk_places 0) (entries + 1) ≡ walked true seen busy) where
    free-alone : all_walks s ≡ walked true seen busy
    free-alone =
        ports-on s _ _ refl refl seen busy w seen busy
        (queues-none s seen busy 1 files 0 read_queues (λ g. refl) reads.0) seen busy
        (queues-none s seen busy 2 files 0 write_queues (λ g. refl) writes.0) seen busy
        (ports-none s seen busy desk_places 0 ports.0)
        ∙ timer_end s 1 timer_list seen busy (entries + 1) 0 (omega arith) nil (sym timers) (omega arith)

  -- then the free list has all entries exactly if it ends after so many
  pub lists-free : lists_ok s ≡ free_ends s free_list entries
  lists-free = go (free_walk s free_list (replicate entries 0) (replicate desk_places 0) (entries + 1)) refl (all-free s (replicate desk_places 0) free_list)
    where
      go : (w : Walked) → free_walk s free_list (replicate entries 0) (replicate desk_places 0) (entries + 1) ≡ w → (w.ok && all_met w.seen entries) ≡ free_ends s free_list entries
          → lists_ok s ≡ free_ends s free_list entries
      go w e v =
          by_cases w.ok
          (λ t. lists-on s w.seen w.busy (free-alone w.seen w.busy (e ∙ whole w true t)) ∙ sym (ap (λ (b : Bool). b && all_met w.seen entries) t) ∙ v)
          (λ t. lists-off s w.seen w.busy (all-off s _ _ refl refl w.seen w.busy (e ∙ whole w false t)) ∙ sym (ap (λ (b : Bool). b && all_met w.seen entries) t) ∙ v)
