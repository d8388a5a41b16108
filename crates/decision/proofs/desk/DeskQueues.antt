-- The queues and ports of memories that stand for a desk: their entries pass, and a place has as many as its request says.
use Prim.Native.Nat.{ℕ, zero, suc, ◌+◌, ◌*◌, ◌≤◌, ◌<◌}
use mathlib.Core.Path.{◌≡◌, refl, sym, ap, ◌∙◌}
use mathlib.Core.List.{List, [], ◌∷◌, map}
use mathlib.Core.Option.{Option, none, some}
use native.Mathlib.Omega.{arith}
use native.Mathlib.Decide.{ℕ_discrete}
use lib.Dec.{eqb}
use lib.ListN.{length, get_or}
use Rattle.occurrences.specs.Count.{bit, count}
use Rattle.occurrences.proofs.Counts.{bit-eq, bit-ne}
use Rattle.rules.specs.Limits.{files, places}
use Rattle.rules.specs.State.{Req, idle, reading, writing, read_done, write_done, Acc, Built, File, built}
use Rattle.rules.specs.Requests.{acc_at}
use Rattle.rules.specs.Allocation.{Alloc, place_of, queue_of}
use Rattle.segment.specs.Table.{data_of}
use Rattle.laws.specs.Outstanding.{req_at, waits_read, waits_write, uncollected, outstanding, req_of}
use Rattle.laws.specs.Outstanding as laws
use Rattle.laws.specs.Runs.{OnFile}
use Rattle.laws.specs.Bounds.{Bounded}
use Rattle.laws.specs.Sides.{Sided}
use Rattle.laws.specs.Entries.{accs_of}
use Rattle.memory.specs.Image.{acc_of, req_words, file_words, rq_of, wq_of, queue_words}
use Rattle.memory.specs.Fine.{Fine}
use Rattle.sound.specs.Walks.{place_in}
use Rattle.decision.specs.Survey.{Each, ReadEntry, WriteEntry, PortEntry, named}
use Rattle.decision.proofs.desk.DeskRows.{Rowed}
use Rattle.decision.proofs.desk.DeskFiles.{Filed}
use Rattle.decision.proofs.desk.DeskEntries.{read-entry, write-entry, read_done_lem, write_done_lem}

-- a queue q whose entries g hold the words W
module _ (s : List ℕ) (g : ℕ → ℕ) (W : ℕ → List ℕ) where
  pub each-queue : (P : ℕ → Type 0) (q : List ℕ) → map (data_of s) (map g q) ≡ map W q → ((p : ℕ) → 1 ≤ count p q → data_of s (g p) ≡ W p → P (g p)) → Each P (map g q)
  unfolding Each count
  each-queue P [] e h = tt
  each-queue P (p ∷ q) e h = (h p (omega (arith, bit-eq p p refl)) (cc), each-queue P q (cc) (λ x c. h x (omega arith)))

  pub named-queue : (f x : ℕ) (q : List ℕ) → map (data_of s) (map g q) ≡ map W q → ((p : ℕ) → 1 ≤ count p q → data_of s (g p) ≡ W p → place_in s (g p) ≡ places * f + p)
      → named s (places * f + x) (map g q) ≡ count x q
  unfolding named count
  named-queue f x [] e h = refl
  named-queue f x (p ∷ q) e h =
      go (ℕ_discrete p x) (h p (omega (arith, bit-eq p p refl)) (cc)) (named-queue f x q (cc) (λ y c. h y (omega arith)))
    where
      go : Dec (p ≡ x) → place_in s (g p) ≡ places * f + p → named s (places * f + x) (map g q) ≡ count x q → named s (places * f + x) (g p ∷ map g q) ≡ bit (eqb p x) + count x q
      go (yes u) k r = omega (arith, r, bit-eq p x u, bit-eq (place_in s (g p)) (places * f + x) (omega arith))
      go (no u) k r = omega (arith, r, bit-ne p x u, bit-ne (place_in s (g p)) (places * f + x) (λ v. u (omega arith)))

-- an accessor with an outstanding request
pub record Busy (l : List (Option Acc)) (p : ℕ) (q : Req) : Type 0 where
  pub acc : Acc
  pub is : get_or l p none ≡ some acc
  pub req : acc.req ≡ q
  pub low : p < length l

pub busy-at : (l : List (Option Acc)) (p : ℕ) (q : Req) → req_at l p ≡ q → outstanding q ≡ 1 → Busy l p q
unfolding laws.req_of waits_read waits_write uncollected
busy-at [] p q e h = absurd (omega (arith, h, ap outstanding e))
busy-at (none ∷ l) zero q e h = absurd (omega (arith, h, ap outstanding e))
busy-at (some a ∷ l) zero q e h = record { acc = a; is = refl; req = e; low = omega arith }
busy-at (o ∷ l) (suc p) q e h = let r : Busy l p q = busy-at l p q e h in record { acc = r.acc; is = r.is; req = r.req; low = omega (arith, r.low) }

-- what memories that stand for a desk say of file f
pub record Facts (s : List ℕ) (a : Alloc) (f : ℕ) (x : File) : Type 0 where
  pub file : f < files
  pub fine : OnFile Fine x
  pub eight : length (accs_of x) ≡ places
  pub row : Filed s f x
  pub rows : (p : ℕ) → p < places → Rowed s (places * f + p) (acc_of x p)
  pub reads : map (data_of s) (queue_of (λ b. b.rq) f x a) ≡ queue_words f x (rq_of x)
  pub writes : map (data_of s) (queue_of (λ b. b.wq) f x a) ≡ queue_words f x (wq_of x)

module _ (s : List ℕ) (a : Alloc) (f : ℕ) where
  module _ (b : Built) (F : Facts s a f (built b)) where
    fine : Fine b
    fine = unfold OnFile in F.fine

    -- the entry e of the request at p
    module _ (p e : ℕ) (holds : data_of s e ≡ req_words (place_of f p) (req_of (acc_at b p))) where
      req-is : req_of (acc_at b p) ≡ req_at b.accs p
      unfolding acc_at
      req-is = refl

      module _ (q : Req) (u : req_at b.accs p ≡ q) (out : outstanding q ≡ 1) where
        busy : Busy b.accs p q
        busy = busy-at b.accs p q u out

        low : p < places
        low = unfold accs_of in omega (arith, busy.low, F.eight)

        sided : Sided busy.acc
        sided = fine.sides p busy.acc (unfold acc_at in busy.is)

        rowed : Rowed s (places * f + p) (some busy.acc)
        rowed = unfold acc_of acc_at in rw busy.is at (F.rows p low)

        words : data_of s e ≡ req_words (places * f + p) busy.acc.req
        unfolding place_of
        words = holds ∙ ap (req_words (places * f + p)) (req-is ∙ u ∙ sym busy.req)

        small : places * f + p < files * places
        small = omega (arith, low, F.file)

        bound : Bounded b.geo.words q
        bound = rw u at (fine.bounds p)

      pub read_of : 1 ≤ waits_read (req_at b.accs p) → ReadEntry s f e × (place_in s e ≡ places * f + p)
      unfolding Bounded waits_read waits_write uncollected file_words
      read_of h = go (req_at b.accs p) refl h
        where
          go : (q : Req) → req_at b.accs p ≡ q → 1 ≤ waits_read q → ReadEntry s f e × (place_in s e ≡ places * f + p)
          go (reading q) u h =
              let o : outstanding (reading q) ≡ 1 = refl in
              read-entry s (places * f + p) e (small (reading q) u o) (busy (reading q) u o).acc (sided (reading q) u o) (rowed (reading q) u o)
              (words (reading q) u o) f q (omega (arith, low (reading q) u o)) (busy (reading q) u o).req (bound (reading q) u o)
          go idle u h = absurd (omega arith)
          go (writing q) u h = absurd (omega arith)
          go (read_done q) u h = absurd (omega arith)
          go (write_done q) u h = absurd (omega arith)

      pub write-of : 1 ≤ waits_write (req_at b.accs p) → WriteEntry s f e × (place_in s e ≡ places * f + p)
      unfolding Bounded waits_read waits_write uncollected file_words
      write-of h = go (req_at b.accs p) refl h
        where
          go : (q : Req) → req_at b.accs p ≡ q → 1 ≤ waits_write q → WriteEntry s f e × (place_in s e ≡ places * f + p)
          go (writing q) u h =
              let o : outstanding (writing q) ≡ 1 = refl in
              write-entry s (places * f + p) e (small (writing q) u o) (busy (writing q) u o).acc (sided (writing q) u o) (rowed (writing q) u o)
              (words (writing q) u o) f b.geo.words q (omega (arith, low (writing q) u o)) (busy (writing q) u o).req
              (bound (writing q) u o) (F.row 0 (omega arith))
          go idle u h = absurd (omega arith)
          go (reading q) u h = absurd (omega arith)
          go (read_done q) u h = absurd (omega arith)
          go (write_done q) u h = absurd (omega arith)

      pub done-of : 1 ≤ uncollected (req_at b.accs p) → PortEntry s (places * f + p) e
      unfolding Bounded waits_read waits_write uncollected file_words
      done-of h = go (req_at b.accs p) refl h
        where
          go : (q : Req) → req_at b.accs p ≡ q → 1 ≤ uncollected q → PortEntry s (places * f + p) e
          go (read_done q) u h =
              let o : outstanding (read_done q) ≡ 1 = refl in
              read_done_lem s (places * f + p) e (small (read_done q) u o) (busy (read_done q) u o).acc (sided (read_done q) u o)
              (rowed (read_done q) u o) (words (read_done q) u o) q (busy (read_done q) u o).req
              (bound (read_done q) u o).0 (bound (read_done q) u o).1
          go (write_done q) u h =
              let o : outstanding (write_done q) ≡ 1 = refl in
              write_done_lem s (places * f + p) e (small (write_done q) u o) (busy (write_done q) u o).acc (sided (write_done q) u o)
              (rowed (write_done q) u o) (words (write_done q) u o) q (busy (write_done q) u o).req
              (bound (write_done q) u o)
          go idle u h = absurd (omega arith)
          go (reading q) u h = absurd (omega arith)
          go (writing q) u h = absurd (omega arith)
