-- A place of the memories and the request that its entry says: idle, a waiting read or write, a completed read or write.
use Prim.Native.Nat.{ℕ, zero, suc, ◌+◌, ◌*◌, ◌/◌, ◌≤◌, ◌<◌}
use mathlib.Core.Path.{◌≡◌, refl, sym, ap, ◌∙◌}
use mathlib.Core.List.{List, [], ◌∷◌, ◌++◌}
use native.Mathlib.Omega.{arith}
use native.Mathlib.Decide.{ℕ_discrete}
use borrow.Author.Tests.{eq-eqb, ne_eqb}
use lib.ListN.{length, get_or}
use Rattle.rules.specs.Limits.{files, places}
use Rattle.rules.specs.State.{Req, idle, reading, writing, read_done, write_done}
use Rattle.segment.specs.Layout.{read_queue, write_queue, reply_port}
use Rattle.sound.specs.Rows.{side_at}
use Rattle.sound.specs.Walks.{place_in}
use Rattle.decision.specs.Survey.{Each, ReadEntry, WriteEntry, PortEntry, named, waiting_at, completed_at, Survey}
use Rattle.decision.proofs.desk.MadeDesk.{wanted_by, offered_by, brought_by, wrote_by, the_entry, reads_at, writes_at, entry_of, req_by, req_for}
use Rattle.decision.proofs.desk.MadeEntries.{each_at, entry_in, entry-left, entry-right}

-- one request at most, and what its entry holds
pub data View (s bufs : List ℕ) (ls : List (List ℕ)) (i : ℕ) : Req → Type 0 where
  idles : reads_at s ls i ≡ 0 → writes_at s ls i ≡ 0 → completed_at ls i ≡ 0 → View s bufs ls i idle
  reads : reads_at s ls i ≡ 1 → writes_at s ls i ≡ 0 → completed_at ls i ≡ 0 → ReadEntry s (i / places) (entry_of s ls i) → place_in s (entry_of s ls i) ≡ i
      → View s bufs ls i (reading (wanted_by s (entry_of s ls i)))
  writes : reads_at s ls i ≡ 0 → writes_at s ls i ≡ 1 → completed_at ls i ≡ 0 → WriteEntry s (i / places) (entry_of s ls i) → place_in s (entry_of s ls i) ≡ i
      → View s bufs ls i (writing (offered_by s bufs i (entry_of s ls i)))
  reads_done : reads_at s ls i ≡ 0 → writes_at s ls i ≡ 0 → completed_at ls i ≡ 1 → get_or ls (reply_port i) [] ≡ entry_of s ls i ∷ [] → PortEntry s i (entry_of s ls i) → side_at s i ≡ 1
      → View s bufs ls i (read_done (brought_by s bufs i (entry_of s ls i)))
  writes_done : reads_at s ls i ≡ 0 → writes_at s ls i ≡ 0 → completed_at ls i ≡ 1 → get_or ls (reply_port i) [] ≡ entry_of s ls i ∷ [] → PortEntry s i (entry_of s ls i) → side_at s i ≡ 2
      → View s bufs ls i (write_done (wrote_by s (entry_of s ls i)))

module _ (s bufs : List ℕ) (ls : List (List ℕ)) (U : Survey s ls) (i : ℕ) (h : i < files * places) (sides : side_at s i ≤ 2) where
  abbrev readers : List ℕ
  readers = get_or ls (read_queue (i / places)) []

  abbrev writers : List ℕ
  writers = get_or ls (write_queue (i / places)) []

  abbrev port : List ℕ
  port = get_or ls (reply_port i) []

  abbrev mine : ℕ
  mine = entry_of s ls i

  -- the request by its counts
  req-by : (r w c : ℕ) → reads_at s ls i ≡ r → writes_at s ls i ≡ w → completed_at ls i ≡ c → req_for s bufs ls i ≡ req_by s bufs i mine r w c
  unfolding req_for
  req-by r w c e f g = rw (e, f, g)

  pub read-mine : 1 ≤ reads_at s ls i → mine ≡ the_entry s i readers
  unfolding entry_of reads_at
  read-mine c = entry-left s i readers (writers ++ port) c

  pub write-mine : reads_at s ls i ≡ 0 → 1 ≤ writes_at s ls i → mine ≡ the_entry s i writers
  unfolding entry_of reads_at writes_at
  write-mine z c = entry-right s i readers (writers ++ port) z ∙ entry-left s i writers port c

  port-mine : reads_at s ls i ≡ 0 → writes_at s ls i ≡ 0 → mine ≡ the_entry s i port
  unfolding entry_of reads_at writes_at
  port-mine z c = entry-right s i readers (writers ++ port) z ∙ entry-right s i writers port c

  read_view : reads_at s ls i ≡ 1 → writes_at s ls i ≡ 0 → completed_at ls i ≡ 0 → View s bufs ls i (req_for s bufs ls i)
  unfolding req_by
  read_view e f g =
      let c : 1 ≤ named s i readers = unfold reads_at in omega (arith, e) in
      let (a, b) = entry_in s i readers c in
      let m : mine ≡ the_entry s i readers = read-mine (omega (arith, e)) in
      let r : ReadEntry s (i / places) (the_entry s i readers) = each_at (ReadEntry s (i / places)) readers (U.reads (i / places) (omega arith)) (the_entry s i readers) a in
      rw (req-by 1 0 0 e f g) (reads e f g (rw m r) (rw m b))

  write_view : reads_at s ls i ≡ 0 → writes_at s ls i ≡ 1 → completed_at ls i ≡ 0 → View s bufs ls i (req_for s bufs ls i)
  unfolding req_by
  write_view e f g =
      let c : 1 ≤ named s i writers = unfold writes_at in omega (arith, f) in
      let (a, b) = entry_in s i writers c in
      let m : mine ≡ the_entry s i writers = write-mine e (omega (arith, f)) in
      let r : WriteEntry s (i / places) (the_entry s i writers) = each_at (WriteEntry s (i / places)) writers (U.writes (i / places) (omega arith)) (the_entry s i writers) a in
      rw (req-by 0 1 0 e f g) (writes e f g (rw m r) (rw m b))

  -- a port with one entry
  only : (l : List ℕ) → length l ≡ 1 → Each (PortEntry s i) l → (l ≡ the_entry s i l ∷ []) × PortEntry s i (the_entry s i l)
  unfolding Each the_entry
  only [] e a = absurd (omega arith)
  only (x ∷ []) e a = rw (eq-eqb (place_in s x) i a.0.place) (refl, a.0)
  only (x ∷ y ∷ l) e a = absurd (omega arith)

  done-view : reads_at s ls i ≡ 0 → writes_at s ls i ≡ 0 → completed_at ls i ≡ 1 → View s bufs ls i (req_for s bufs ls i)
  unfolding req_by
  done-view e f g =
      let c : length port ≡ 1 = unfold completed_at in g in
      let (a, b) = only port c (U.ports i h) in
      let m : the_entry s i port ≡ mine = sym (port-mine e f) in
      let p : PortEntry s i mine = rw m at b in
      let l : port ≡ mine ∷ [] = a ∙ ap (λ x. x ∷ []) m in
      go p l (ℕ_discrete (side_at s i) 1)
    where
      go : PortEntry s i mine → port ≡ mine ∷ [] → Dec (side_at s i ≡ 1) → View s bufs ls i (req_for s bufs ls i)
      go p l (yes u) = rw (req-by 0 0 1 e f g, eq-eqb (side_at s i) 1 u) (reads_done e f g l p u)
      go p l (no u) = rw (req-by 0 0 1 e f g, ne_eqb (side_at s i) 1 u) (writes_done e f g l p (omega (arith, p.side)))

  pub view : View s bufs ls i (req_for s bufs ls i)
  unfolding waiting_at reads_at writes_at req_by
  view = go (reads_at s ls i) (writes_at s ls i) (completed_at ls i) refl refl refl (U.single i h)
    where
      go : (r w c : ℕ) → reads_at s ls i ≡ r → writes_at s ls i ≡ w → completed_at ls i ≡ c → r + w + c ≤ 1 → View s bufs ls i (req_for s bufs ls i)
      go zero zero zero e f g o = rw (req-by 0 0 0 e f g) (idles e f g)
      go zero zero (suc c) e f g o = done-view e f (omega arith)
      go zero (suc w) c e f g o = write_view e (omega arith) (omega arith)
      go (suc r) w c e f g o = read_view (omega arith) (omega arith) (omega arith)
