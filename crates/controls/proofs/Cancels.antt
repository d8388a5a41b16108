-- In the midst of a call the waiting request of an accessor is removed.
use Prim.Native.Nat.{ℕ, ◌+◌, ◌*◌}
use mathlib.Core.Path.{◌≡◌, refl, sym, ap, ◌∙◌}
use mathlib.Core.Bool.{Bool, true, false, cond, true≢false}
use mathlib.Core.List.{List}
use mathlib.Core.Option.{some}
use lib.Dec.{eqb}
use Rattle.occurrences.specs.Count.{bit}
use Rattle.rules.specs.Limits.{places}
use Rattle.rules.specs.State.{Req, idle, reading, writing, read_done, write_done, Acc, Built, built}
use Rattle.rules.specs.Desk.{with_file}
use Rattle.rules.specs.Requests.{acc_at, cancel}
use Rattle.rules.specs.Buffers.{lies}
use Rattle.rules.specs.Allocation.{place_of, allot_all}
use Rattle.segment.specs.Layout.{read_queue, write_queue}
use Rattle.segment.specs.Fields.{place_at, place_row_of}
use Rattle.requests.specs.Moves.{slot_of, cancelled}
use Rattle.laws.specs.Outstanding.{waits_read, waits_write, awaits}
use Rattle.laws.specs.Sides.{Fitting}
use Rattle.memory.specs.Memories.{Memories, memories}
use Rattle.memory.specs.Image as image
use Rattle.memory.specs.Fine.{Fine}
use Rattle.midst.specs.declared.File as hand
use Rattle.midst.specs.Seg.{queue_at}
use Rattle.midst.specs.Mid.{Start, Mid}
use Rattle.midst.proofs.Begins.{mid-file, mid-place}
use Rattle.midst.proofs.Changes.{fine-knows, clear, mid-below}
use Rattle.midst.proofs.Requests.{step-cancel}
use Rattle.midst.proofs.Terms.{waits_at}
use Rattle.midst.proofs.Walks.{fine-walks}
use Rattle.midst.proofs.EndsUnwritten.{Rowed, rowed-cancel}
use Rattle.accessors.specs.Outstanding.{queue_of, outstanding_at, outstanding_of}
use Rattle.accessors.specs.Sides.{side_of}
use Rattle.accessors.proofs.Waits.{outstanding-boxes}
use Rattle.controls.specs.Removed.{is_waiting}
use Rattle.buffers.specs.Buffer.{emptied}

-- the side that a row has
two : (w : Bool) → eqb (1 + bit w) 2 ≡ w
two true = refl
two false = refl

-- a waiting request waits in the queue of its side
waits-side : (w : Bool) (q : Req) → Fitting w q → is_waiting (outstanding_of q) ≡ true → waits_at w q ≡ 1
unfolding Fitting is_waiting outstanding_of waits_read waits_write
waits-side w idle F e = absurd (true≢false (sym e))
waits-side w (reading q) F e = rw F
waits-side w (writing q) F e = rw F
waits-side w (read_done q) F e = absurd (true≢false (sym e))
waits-side w (write_done q) F e = absurd (true≢false (sym e))

pub waiting-awaits : (q : Req) → is_waiting (outstanding_of q) ≡ true → awaits q ≡ 1
unfolding is_waiting outstanding_of waits_read waits_write
waiting-awaits idle e = absurd (true≢false (sym e))
waiting-awaits (reading q) e = refl
waiting-awaits (writing q) e = refl
waiting-awaits (read_done q) e = absurd (true≢false (sym e))
waiting-awaits (write_done q) e = absurd (true≢false (sym e))

module _ {f : ℕ} {o : Start} {m : Memories} {x : hand.File} {b : Built} (M : Mid Fine f o m x b) (p : ℕ) (a : Acc) (e : acc_at b p ≡ some a)
    (side : ℕ) (k : side ≡ (place_at m.segment (places * f + p)).side) where
  side-is : side ≡ 1 + bit a.writer
  unfolding place_of place_row_of image.place_words
  side-is = k ∙ ap (λ r. r.side) (mid-place M p (mid-below M p a e)) ∙ ap (λ z. (place_row_of (image.place_words z)).side) e

  queue-is : queue_of f side ≡ queue_at a.writer f
  queue-is = ap (queue_of f) side-is ∙ ap (λ (t : Bool). cond t (write_queue f) (read_queue f)) (two a.writer)

  -- the lists say whether the request waits
  pub waits-is : is_waiting (outstanding_at m.segment f p side) ≡ is_waiting (outstanding_of a.req)
  unfolding side_of
  waits-is =
      ap is_waiting (ap (outstanding_at m.segment f p) side-is
      ∙ outstanding-boxes (with_file o.desk f (built b)) (allot_all f b.past o.alloc) M.segment.boxes f M.file b (mid-file M) M.good.queues p a (mid-below M p a e) e (M.good.sides p a e))

  module _ (w : is_waiting (outstanding_at m.segment f p side) ≡ true) where
    waits : waits_at a.writer a.req ≡ 1
    waits = waits-side a.writer a.req (M.good.sides p a e).request (sym waits-is ∙ w)

    pub removed : (xs' buffers' : List ℕ) → xs' ≡ cancelled m.segment (slot_of m.segment (queue_of f side) (places * f + p)) (places * f + p) → buffers' ≡ emptied (places * f + p) m.buffers
        → Mid Fine f o (memories xs' m.blocks buffers') x (cancel p b)
    unfolding place_of lies
    removed xs' buffers' u v =
        rw (u, queue-is) (step-cancel fine-knows M p a e a.writer waits buffers'
        (fine-walks.cancels p a b e (waiting-awaits a.req (sym waits-is ∙ w)) M.good) (clear f p idle m.buffers refl v))

    pub removed-rowed : (xs' : List ℕ) → xs' ≡ cancelled m.segment (slot_of m.segment (queue_of f side) (places * f + p)) (places * f + p) → Rowed m.segment f b → Rowed xs' f (cancel p b)
    unfolding place_of
    removed-rowed xs' u r = rw (u, queue-is) (rowed-cancel M r fine-knows p a e a.writer waits)
