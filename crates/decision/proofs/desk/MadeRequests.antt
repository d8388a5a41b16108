-- What is true of the request that a place's entry says.
use Prim.Native.Nat.{ℕ, zero, suc, ◌+◌, ◌-◌, ◌*◌, ◌/◌, ◌≤◌, ◌<◌}
use mathlib.Core.Bool.{true}
use mathlib.Core.Path.{◌≡◌, refl, sym, ap, ◌∙◌}
use mathlib.Core.List.{List, [], ◌∷◌, map}
use native.Mathlib.Omega.{arith}
use borrow.Author.Tests.{eq-eqb, ne_eqb}
use lib.Dec.{eqb}
use lib.ListN.{length, get_or, take}
use lib.Seq.{length-take-le}
use Rattle.words.proofs.Parts.{length-zero}
use Rattle.occurrences.specs.Count.{bit}
use Rattle.rules.specs.Limits.{files, places, buffer_bytes, room_words}
use Rattle.rules.specs.State.{Req, idle}
use Rattle.rules.specs.Memories.{buffer_at}
use Rattle.rules.specs.Buffers.{lies}
use Rattle.rules.specs.Allocation.{Alloc, held_at, own_entry, port_of}
use Rattle.segment.specs.Layout.{data_at, reply_port}
use Rattle.segment.specs.Table.{nth, data_of}
use Rattle.segment.specs.Fields.{entry_words}
use Rattle.laws.specs.Outstanding.{waits_read, waits_write, uncollected, outstanding}
use Rattle.laws.specs.Bounds.{Bounded}
use Rattle.laws.specs.Sides.{Fitting}
use Rattle.memory.specs.Image.{req_words, port_words}
use Rattle.sound.specs.Rows.{file_word, side_at, zero_words}
use Rattle.sound.specs.Walks.{entry_word, place_in, size_in}
use Rattle.decision.specs.Survey.{WriteEntry, PortEntry, completed_at}
use Rattle.decision.proofs.desk.Words.{zero-words, row-nine, buffer-long}
use Rattle.decision.proofs.desk.MadeDesk.{reads_at, writes_at, entry_of}
use Rattle.decision.proofs.desk.MadePlaces.{View, idles, reads, writes, reads_done, writes_done}

pub bit_word : (w : ℕ) → w ≤ 1 → bit (eqb w 1) ≡ w
bit_word zero h = refl
bit_word (suc zero) h = refl
bit_word (suc (suc w)) h = absurd (omega arith)

zero-from : (s : List ℕ) (e k n : ℕ) → zero_words s (data_at e + k) n ≡ true → (j : ℕ) → k ≤ j → j < k + n → nth s (data_at e + j) ≡ 0
zero-from s e k n z j a b =
    let d : data_at e + j ≡ data_at e + k + (j - k) = omega arith in
    ap (nth s) d ∙ zero-words s (data_at e + k) n z (j - k) (omega arith)

module _ (s bufs : List ℕ) (ls : List (List ℕ)) (i : ℕ) where
  abbrev mine : ℕ
  mine = entry_of s ls i

  pub counts : (q : Req) → View s bufs ls i q → (waits_read q ≡ reads_at s ls i) × (waits_write q ≡ writes_at s ls i) × (uncollected q ≡ completed_at ls i)
  unfolding waits_read waits_write uncollected
  counts _ (idles e f g) = (sym e, sym f, sym g)
  counts _ (reads e f g r p) = (sym e, sym f, sym g)
  counts _ (writes e f g r p) = (sym e, sym f, sym g)
  counts _ (reads_done e f g l r d) = (sym e, sym f, sym g)
  counts _ (writes_done e f g l r d) = (sym e, sym f, sym g)

  pub fitting : (q : Req) → View s bufs ls i q → Fitting (eqb (side_at s i) 2) q
  unfolding Fitting
  fitting _ (idles e f g) = tt
  fitting _ (reads e f g r p) = ne_eqb (side_at s i) 2 (λ u. omega (arith, sym (ap (side_at s) p) ∙ r.side))
  fitting _ (writes e f g r p) = eq-eqb (side_at s i) 2 (sym (ap (side_at s) p) ∙ r.side)
  fitting _ (reads_done e f g l r d) = ne_eqb (side_at s i) 2 (λ u. omega arith)
  fitting _ (writes_done e f g l r d) = eq-eqb (side_at s i) 2 d

  pub closed : (q : Req) → View s bufs ls i q → side_at s i ≡ 0 → q ≡ idle
  closed _ (idles e f g) z = refl
  closed _ (reads e f g r p) z = absurd (omega (arith, sym (ap (side_at s) p) ∙ r.side))
  closed _ (writes e f g r p) z = absurd (omega (arith, sym (ap (side_at s) p) ∙ r.side))
  closed _ (reads_done e f g l r d) z = absurd (omega arith)
  closed _ (writes_done e f g l r d) z = absurd (omega arith)

  -- the port

  pub port-is : (q : Req) → View s bufs ls i q → (a : Alloc) → (1 ≤ completed_at ls i → own_entry (held_at a i) ≡ mine) → port_of q i a ≡ get_or ls (reply_port i) []
  unfolding port_of completed_at
  port-is _ (idles e f g) a k = sym (length-zero (get_or ls (reply_port i) []) g)
  port-is _ (reads e f g r p) a k = sym (length-zero (get_or ls (reply_port i) []) g)
  port-is _ (writes e f g r p) a k = sym (length-zero (get_or ls (reply_port i) []) g)
  port-is _ (reads_done e f g l r d) a k = ap (λ x. x ∷ []) (k (omega (arith, g))) ∙ sym l
  port-is _ (writes_done e f g l r d) a k = ap (λ x. x ∷ []) (k (omega (arith, g))) ∙ sym l

  module _ (size : length bufs ≡ places * buffer_bytes * files) (h : i < files * places) (small : 1 ≤ side_at s i → file_word s (i / places) 0 ≤ room_words) where
    took : (n : ℕ) → n ≤ buffer_bytes → length (take n (buffer_at i bufs)) ≡ n
    took n k = length-take-le n (buffer_at i bufs) (omega (arith, buffer-long bufs size i h))

    write-size : WriteEntry s (i / places) mine → place_in s mine ≡ i → (size_in s mine ≤ 2 * file_word s (i / places) 0) × (size_in s mine ≤ buffer_bytes)
    write-size r p = (r.size, omega (arith, r.size, small (omega (arith, sym (ap (side_at s) p) ∙ r.side))))

    read-size : PortEntry s i mine → side_at s i ≡ 1 → size_in s mine ≤ buffer_bytes
    read-size r d = rw d at r.size

    none-size : PortEntry s i mine → side_at s i ≡ 2 → size_in s mine ≡ 0
    none-size r d = let k : size_in s mine ≤ 0 = rw d at r.size in omega arith

    pub bounded : (q : Req) → View s bufs ls i q → Bounded (file_word s (i / places) 0) q
    unfolding Bounded
    bounded _ (idles e f g) = tt
    bounded _ (reads e f g r p) = r.limit
    bounded _ (writes e f g r p) = omega (arith, took (size_in s mine) (write-size r p).1, (write-size r p).0)
    bounded _ (reads_done e f g l r d) = (omega (arith, took (size_in s mine) (read-size r d), read-size r d), r.status)
    bounded _ (writes_done e f g l r d) = r.status

    -- what lies in the record buffer
    pub lain : (q : Req) → View s bufs ls i q → take (length (lies q)) (buffer_at i bufs) ≡ lies q
    unfolding lies
    lain _ (idles e f g) = refl
    lain _ (reads e f g r p) = refl
    lain _ (writes e f g r p) = ap (λ n. take n (buffer_at i bufs)) (took (size_in s mine) (write-size r p).1)
    lain _ (reads_done e f g l r d) = ap (λ n. take n (buffer_at i bufs)) (took (size_in s mine) (read-size r d))
    lain _ (writes_done e f g l r d) = refl

    -- the words of its entry

    pub said : (q : Req) → View s bufs ls i q → 1 ≤ outstanding q → data_of s mine ≡ req_words i q
    unfolding data_of req_words waits_read waits_write uncollected place_in size_in entry_word entry_words
    said _ (idles e f g) o = absurd (omega arith)
    said _ (reads e f g r p) o =
        row-nine s (data_at mine) _ _ _ _ _ _ _ _ _ p (sym (bit_word (entry_word s mine 1) r.unit)) refl (sym (bit_word (entry_word s mine 3) r.keep))
        (zero-from s mine 4 5 r.rest 4 (omega arith) (omega arith)) (zero-from s mine 4 5 r.rest 5 (omega arith) (omega arith))
        (zero-from s mine 4 5 r.rest 6 (omega arith) (omega arith)) (zero-from s mine 4 5 r.rest 7 (omega arith) (omega arith))
        (zero-from s mine 4 5 r.rest 8 (omega arith) (omega arith))
    said _ (writes e f g r p) o =
        row-nine s (data_at mine) _ _ _ _ _ _ _ _ _ p (sym (bit_word (entry_word s mine 1) r.unit))
        (zero-from s mine 2 4 r.middle 2 (omega arith) (omega arith)) (zero-from s mine 2 4 r.middle 3 (omega arith) (omega arith))
        (zero-from s mine 2 4 r.middle 4 (omega arith) (omega arith)) (zero-from s mine 2 4 r.middle 5 (omega arith) (omega arith))
        (sym (took (size_in s mine) (write-size r p).1))
        (zero-from s mine 7 2 r.rest 7 (omega arith) (omega arith)) (zero-from s mine 7 2 r.rest 8 (omega arith) (omega arith))
    said _ (reads_done e f g l r d) o =
        row-nine s (data_at mine) _ _ _ _ _ _ _ _ _ r.place
        (zero-from s mine 1 3 r.middle 1 (omega arith) (omega arith)) (zero-from s mine 1 3 r.middle 2 (omega arith) (omega arith))
        (zero-from s mine 1 3 r.middle 3 (omega arith) (omega arith)) refl refl (sym (took (size_in s mine) (read-size r d)))
        (zero-from s mine 7 2 r.rest 7 (omega arith) (omega arith)) (zero-from s mine 7 2 r.rest 8 (omega arith) (omega arith))
    said _ (writes_done e f g l r d) o =
        row-nine s (data_at mine) _ _ _ _ _ _ _ _ _ r.place
        (zero-from s mine 1 3 r.middle 1 (omega arith) (omega arith)) (zero-from s mine 1 3 r.middle 2 (omega arith) (omega arith))
        (zero-from s mine 1 3 r.middle 3 (omega arith) (omega arith)) refl refl (none-size r d)
        (zero-from s mine 7 2 r.rest 7 (omega arith) (omega arith)) (zero-from s mine 7 2 r.rest 8 (omega arith) (omega arith))

    pub port-said : (q : Req) → View s bufs ls i q → map (data_of s) (get_or ls (reply_port i) []) ≡ port_words i q
    unfolding port_words completed_at waits_read waits_write uncollected
    port-said _ (idles e f g) = ap (map (data_of s)) (length-zero (get_or ls (reply_port i) []) g)
    port-said _ (reads e f g r p) = ap (map (data_of s)) (length-zero (get_or ls (reply_port i) []) g)
    port-said _ (writes e f g r p) = ap (map (data_of s)) (length-zero (get_or ls (reply_port i) []) g)
    port-said _ (reads_done e f g l r d) = ap (map (data_of s)) l ∙ ap (λ x. x ∷ []) (said _ (reads_done e f g l r d) (omega arith))
    port-said _ (writes_done e f g l r d) = ap (map (data_of s)) l ∙ ap (λ x. x ∷ []) (said _ (writes_done e f g l r d) (omega arith))
