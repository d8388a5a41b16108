-- A close from end to end: a waiting request is cancelled, the accessor goes, the file settles and its row is written.
use Prim.Native.Nat.{ℕ, ◌+◌, ◌*◌, ◌<◌}
use mathlib.Core.Path.{◌≡◌, refl, sym, ap, ◌∙◌, subst}
use mathlib.Core.Bool.{Bool, true, false, cond, true≢false}
use mathlib.Core.List.{List, []}
use mathlib.Core.Option.{some}
use native.Mathlib.Omega.{arith}
use lib.ListN.{length}
use Rattle.kinds.specs.declared.Answer.TheVariants.{Closed}
use Rattle.rules.specs.Limits.{files, places}
use Rattle.rules.specs.State.{Req, idle, reading, writing, read_done, write_done, Acc, Built}
use Rattle.rules.specs.Requests.{acc_at, with_req, with_accs, with_queues, with_timers, alter_acc, say, requeue, leave, cancel, with_buffers, request}
use Rattle.rules.specs.Settle.{settle}
use Rattle.rules.specs.Close.{closed}
use Rattle.rules.specs.Reply.{answers, Out, leaves, answering}
use Rattle.rules.specs.Calls.{ask}
use Rattle.rules.specs.Calls as calls
use Rattle.rules.specs.Desk.{Desk, on, file_of, answered}
use Rattle.rules.specs.Allocation.{Alloc}
use Rattle.segment.specs.Layout.{segment_bytes}
use Rattle.segment.specs.Fields.{file_at, place_at}
use Rattle.buffers.specs.Buffer.{buffers_bytes}
use Rattle.requests.specs.Moves.{slot_of, cancelled}
use Rattle.laws.specs.Outstanding.{uncollected}
use Rattle.laws.proofs.Accessors.{get_or-alter-same}
use Rattle.memory.specs.Memories.{Memories, memories}
use Rattle.memory.specs.Fine.{Fine, StandsFor}
use Rattle.midst.specs.declared.File as hand
use Rattle.midst.specs.File.{file_of_row}
use Rattle.midst.specs.Mid.{Start, Mid, start}
use Rattle.midst.specs.Outcome.{refusal_of, Outcome, Done}
use Rattle.midst.specs.Accepted.{CloseKnown, NotRefused}
use Rattle.midst.proofs.Begins.{mid-begin}
use Rattle.midst.proofs.Changes.{mid-below}
use Rattle.midst.proofs.Accepted.{accepted-close}
use Rattle.accessors.specs.Outstanding.{queue_of, outstanding_at, outstanding_of}
use Rattle.controls.specs.Removed.{is_waiting}
use Rattle.buffers.specs.Buffer.{emptied}
use Rattle.controls.proofs.Cancels.{waiting-awaits, waits-is, removed}

-- no request, or one that waits
quiet : (q : Req) → is_waiting (outstanding_of q) ≡ false → uncollected q ≡ 0 → q ≡ idle
unfolding is_waiting outstanding_of uncollected
quiet idle e n = refl
quiet (reading q) e n = absurd (true≢false e)
quiet (writing q) e n = absurd (true≢false e)
quiet (read_done q) e n = absurd (omega arith)
quiet (write_done q) e n = absurd (omega arith)

-- the accessor of a cancelled request
cancel-at : (p : ℕ) (a : Acc) (b : Built) → acc_at b p ≡ some a → acc_at (cancel p b) p ≡ some (with_req idle a)
unfolding cancel leave say with_timers requeue request with_buffers alter_acc with_accs with_queues acc_at
cancel-at p a b e = get_or-alter-same (with_req idle) a b.accs p e

cancel-still : (a : Acc) → (with_req idle a).req ≡ idle
unfolding with_req
cancel-still a = refl

cancel-closed : (p : ℕ) (a : Acc) (b : Built) → closed p a b ≡ closed p (with_req idle a) b
unfolding closed with_req
cancel-closed p a b = refl

-- the memories when no request waits any more, and the outcome of the close
pub record Cleared (f p : ℕ) (o : Start) (m : Memories) (x : hand.File) (out : Out) : Type 0 where
  pub file : Built
  pub acc : Acc
  pub mid : Mid Fine f o m x file
  pub at : acc_at file p ≡ some acc
  pub still : acc.req ≡ idle
  pub comes : out ≡ answering Closed (settle (closed p acc file))

module _ {m : Memories} {d : Desk} {s : Alloc} (S : StandsFor m d s) (f p : ℕ) (r : refusal_of (answered d (on f (calls.close p))).reply ≡ 0) where
  pub close-size : (length m.segment ≡ segment_bytes) × (length m.buffers ≡ buffers_bytes) × (f < files) × (p < places)
  close-size =
      let A = accepted-close d f p r in
      let M : Mid Fine f (start d s m) m (file_of_row (file_at m.segment f)) A.b = mid-begin S f A.b A.file A.stands in
      (S.stands.segment.size, S.stands.bodies.buffers-size, A.file, mid-below M p A.known.a A.known.at)

  module _ (side : ℕ) (k : side ≡ (place_at m.segment (places * f + p)).side) where
    pub clears : (x : hand.File) → x ≡ file_of_row (file_at m.segment f) → (xs' buffers' : List ℕ)
        → xs' ≡ cond (is_waiting (outstanding_at m.segment f p side)) (cancelled m.segment (slot_of m.segment (queue_of f side) (places * f + p)) (places * f + p)) m.segment
        → buffers' ≡ cond (is_waiting (outstanding_at m.segment f p side)) (emptied (places * f + p) m.buffers) m.buffers
        → Cleared f p (start d s m) (memories xs' m.blocks buffers') x (ask (file_of d f) (calls.close p))
    clears x ex xs' buffers' u v = go (is_waiting (outstanding_at m.segment f p side)) refl u v
      where
        A : NotRefused (CloseKnown p) d f (calls.close p)
        A = accepted-close d f p r

        M : Mid Fine f (start d s m) m x A.b
        M = rw ex (mid-begin S f A.b A.file A.stands)

        waits : (t : Bool) → is_waiting (outstanding_at m.segment f p side) ≡ t → is_waiting (outstanding_of A.known.a.req) ≡ t
        waits t e = sym (waits-is M p A.known.a A.known.at side k) ∙ e

        go : (t : Bool) → is_waiting (outstanding_at m.segment f p side) ≡ t → xs' ≡ cond t (cancelled m.segment (slot_of m.segment (queue_of f side) (places * f + p)) (places * f + p)) m.segment
            → buffers' ≡ cond t (emptied (places * f + p) m.buffers) m.buffers
            → Cleared f p (start d s m) (memories xs' m.blocks buffers') x (ask (file_of d f) (calls.close p))
        go true e y z =
            record {
              file = cancel p A.b;
              acc = with_req idle A.known.a;
              mid = removed M p A.known.a A.known.at side k e xs' buffers' y z;
              at = cancel-at p A.known.a A.b A.known.at;
              still = cancel-still A.known.a;
              comes = A.known.waits (waiting-awaits A.known.a.req (waits true e)) ∙ ap (λ (c : Built). answering Closed (settle c)) (cancel-closed p A.known.a (cancel p A.b));
            }
        go false e y z =
            record {
              file = A.b;
              acc = A.known.a;
              mid = rw (y, z) M;
              at = A.known.at;
              still = quiet A.known.a.req (waits false e) A.known.collected;
              comes = A.known.idles (quiet A.known.a.req (waits false e) A.known.collected);
            }

-- the close is done
pub close-done : {f p : ℕ} {d : Desk} {s : Alloc} {m m₁ m' : Memories} {x : hand.File} {out : Out} (C : Cleared f p (start d s m) m₁ x out)
    → Outcome f d s (leaves (answers Closed []) (settle (closed p C.acc C.file))) m m' → Done f d s out m m' Closed
unfolding answering leaves
close-done {f} {p} {d} {s} {m} {m₁} {m'} C O = subst (λ (y : Out). Done f d s y m m' Closed) (sym C.comes) (record { outcome = O; reply = refl })
