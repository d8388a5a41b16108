-- A control that is accepted, and the abort.
use Prim.Native.Nat.{ℕ, ◌+◌, ◌*◌, ◌<◌}
use mathlib.Core.Path.{◌≡◌, refl, sym, ap, ◌∙◌}
use mathlib.Core.Bool.{Bool, true, false, cond, true≢false}
use mathlib.Core.List.{List}
use mathlib.Core.Option.{some}
use lib.ListN.{length}
use Rattle.kinds.specs.declared.Answer.TheVariants.{Controlled, Status}
use Rattle.kinds.specs.declared.Control.{Control}
use Rattle.kinds.specs.declared.Control.TheVariants.{Timeout, Verify, Abort, Extended, Typed, Keep}
use Rattle.rules.specs.Limits.{files, places}
use Rattle.rules.specs.State.{Req, idle, reading, writing, read_done, write_done, Acc, Built}
use Rattle.rules.specs.Requests.{acc_at, cancel}
use Rattle.rules.specs.Reply.{Out, status}
use Rattle.rules.specs.Calls.{ask}
use Rattle.rules.specs.Calls as calls
use Rattle.rules.specs.Desk.{Desk, on, file_of, answered}
use Rattle.rules.specs.Allocation.{Alloc}
use Rattle.segment.specs.Layout.{segment_bytes}
use Rattle.segment.specs.Fields.{file_at, place_at}
use Rattle.buffers.specs.Buffer.{buffers_bytes}
use Rattle.requests.specs.Moves.{slot_of, cancelled}
use Rattle.laws.specs.Outstanding.{uncollected}
use Rattle.words.specs.Word.{Bytes}
use Rattle.memory.specs.Memories.{Memories, memories}
use Rattle.memory.specs.Fine.{Fine, StandsFor}
use Rattle.midst.specs.File.{file_of_row}
use Rattle.midst.specs.Mid.{Mid, start}
use Rattle.midst.specs.Outcome.{refusal_of, Done}
use Rattle.midst.specs.Accepted.{ControlKnown}
use Rattle.midst.proofs.Begins.{mid-begin}
use Rattle.midst.proofs.Changes.{mid-below}
use Rattle.midst.proofs.Accepted.{accepted-control, accepted-abort}
use Rattle.accessors.specs.Outstanding.{queue_of, outstanding_at, outstanding_of}
use Rattle.controls.specs.Removed.{is_waiting}
use Rattle.buffers.specs.Buffer.{emptied}
use Rattle.controls.specs.Acts.{Taken}
use Rattle.controls.proofs.Unsettled.{begins-rowed, stays-done}
use Rattle.controls.proofs.Cancels.{waiting-awaits, waits-is, removed, removed-rowed}

-- the accessor of a control that is accepted
known_at : (p : ℕ) (c : Control) (b : Built) (o : Out) → ControlKnown p (some c) b o → (a : Acc) × (acc_at b p ≡ some a)
unfolding ControlKnown
known_at p (Timeout v) b o k = (k.a, k.at)
known_at p (Verify v) b o k = (k.a, k.at)
known_at p (Abort v) b o k = (k.a, k.at)
known_at p (Extended v) b o k = (k.a, k.at)
known_at p (Typed v) b o k = (k.a, k.at)
known_at p (Keep v) b o k = (k.a, k.at)

-- a request that does not wait is completed
completes : (q : Req) → is_waiting (outstanding_of q) ≡ false → (q ≡ idle → ⊥) → uncollected q ≡ 1
unfolding is_waiting outstanding_of uncollected
completes idle e n = absurd (n refl)
completes (reading q) e n = absurd (true≢false e)
completes (writing q) e n = absurd (true≢false e)
completes (read_done q) e n = refl
completes (write_done q) e n = refl

-- the memories' lengths, and file and place
pub record Sized (f p : ℕ) (xs buffers : List ℕ) : Type 0 where
  pub segment : length xs ≡ segment_bytes
  pub buffers-size : length buffers ≡ buffers_bytes
  pub file : f < files
  pub place : p < places

pub taken-sized : (f p : ℕ) (c : Control) (xs buffers : List ℕ) → Taken f (calls.control p (some c)) xs buffers → Sized f p xs buffers
taken-sized f p c xs buffers (blocks, d, s, S, r) =
    let A = accepted-control d f p (some c) r in
    let M : Mid Fine f (start d s (memories xs blocks buffers)) (memories xs blocks buffers) (file_of_row (file_at xs f)) A.b = mid-begin S f A.b A.file A.stands in
    let k = known_at p c A.b _ A.known in
    record { segment = S.stands.segment.size; buffers-size = S.stands.bodies.buffers-size; file = A.file; place = mid-below M p k.0 k.1 }

module _ {m : Memories} {d : Desk} {s : Alloc} (S : StandsFor m d s) (f p v : ℕ)
    (r : refusal_of (answered d (on f (calls.control p (some (Abort v))))).reply ≡ 0) (side : ℕ) (k : side ≡ (place_at m.segment (places * f + p)).side) where
  abbrev out : List ℕ
  out = cancelled m.segment (slot_of m.segment (queue_of f side) (places * f + p)) (places * f + p)

  abbrev rest : List ℕ
  rest = emptied (places * f + p) m.buffers

  module _ (xs' buffers' : List ℕ) (u : xs' ≡ cond (is_waiting (outstanding_at m.segment f p side)) (cancelled m.segment (slot_of m.segment (queue_of f side) (places * f + p)) (places * f + p)) m.segment)
      (z : buffers' ≡ cond (is_waiting (outstanding_at m.segment f p side)) (emptied (places * f + p) m.buffers) m.buffers) where
    pub abort-waits : is_waiting (outstanding_at m.segment f p side) ≡ true → Bytes xs' → Bytes buffers'
        → Done f d s (ask (file_of d f) (calls.control p (some (Abort v)))) m (memories xs' m.blocks buffers') Controlled
    abort-waits w bs bf =
        let A = accepted-abort d f p v r in
        let M : Mid Fine f (start d s m) m (file_of_row (file_at m.segment f)) A.b = mid-begin S f A.b A.file A.stands in
        let u' : xs' ≡ cancelled m.segment (slot_of m.segment (queue_of f side) (places * f + p)) (places * f + p) = u ∙ ap (λ (t : Bool). cond t out m.segment) w in
        stays-done S f xs' buffers' (file_of_row (file_at m.segment f)) (cancel p A.b) Controlled _
        (A.known.waits (waiting-awaits A.known.a.req (sym (waits-is M p A.known.a A.known.at side k) ∙ w)))
        (removed M p A.known.a A.known.at side k w xs' buffers' u' (z ∙ ap (λ (t : Bool). cond t rest m.buffers) w))
        (removed-rowed M p A.known.a A.known.at side k w xs' u' (begins-rowed S f A.b A.file A.stands)) bs bf

    pub abort-completed : is_waiting (outstanding_at m.segment f p side) ≡ false
        → Done f d s (ask (file_of d f) (calls.control p (some (Abort v)))) m (memories xs' m.blocks buffers') (Status 5 2)
    unfolding status
    abort-completed w =
        let A = accepted-abort d f p v r in
        let M : Mid Fine f (start d s m) m (file_of_row (file_at m.segment f)) A.b = mid-begin S f A.b A.file A.stands in
        rw (u ∙ ap (λ (t : Bool). cond t out m.segment) w, z ∙ ap (λ (t : Bool). cond t rest m.buffers) w)
        (stays-done S f m.segment m.buffers (file_of_row (file_at m.segment f)) A.b (Status 5 2) _
        (A.known.completed (completes A.known.a.req (sym (waits-is M p A.known.a A.known.at side k) ∙ w) A.known.outstands))
        M (begins-rowed S f A.b A.file A.stands) S.stands.segment.bytes S.stands.bodies.buffers-bytes)
