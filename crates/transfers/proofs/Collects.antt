-- What a collect does to the memories.
use Prim.Native.Nat.{ℕ, ◌*◌, ◌≤◌, ◌<◌}
use mathlib.Core.Path.{◌≡◌, refl, sym, ap, ◌∙◌, subst}
use mathlib.Core.Logic.{inl, inr}
use mathlib.Core.List.{List, []}
use native.Mathlib.Omega.{arith}
use borrow.Author.Tests.{eq-eqb, ne_eqb}
use lib.Dec.{eqb}
use lib.ListN.{length, take}
use lib.Seq.{sets}
use Rattle.words.specs.Word.{zeros, Bytes}
use Rattle.kinds.specs.declared.Answer.TheVariants.{Status, Collected}
use Rattle.rules.specs.Limits.{entries, buffer_bytes, answer_head}
use Rattle.rules.specs.State.{idle, Acc, Built}
use Rattle.rules.specs.Requests.{freed}
use Rattle.rules.specs.Memories.{buffer_at}
use Rattle.rules.specs.Buffers.{lies}
use Rattle.rules.specs.Answers.{answer_bytes}
use Rattle.rules.specs.Reply.{Reply, answers, leaves, answering, status}
use Rattle.rules.specs.Transfer.{collected, collect}
use Rattle.rules.specs.Calls.{ask}
use Rattle.rules.specs.Calls as calls
use Rattle.rules.specs.Desk.{Desk, on, file_of, answered}
use Rattle.rules.specs.Allocation.{Alloc, place_of}
use Rattle.rules.proofs.Split.{pick_true, pick-false}
use Rattle.laws.specs.Bounds.{least_refusal}
use Rattle.segment.specs.declared.Entry.{Entry}
use Rattle.segment.specs.Layout.{reply_port}
use Rattle.segment.specs.Table.{nth}
use Rattle.segment.specs.Fields.{completed_request, entry_at}
use Rattle.requests.specs.Moves as moves
use Rattle.memory.specs.Memories.{Memories, memories}
use Rattle.memory.specs.Fine.{Fine, StandsFor}
use Rattle.midst.specs.Mid.{Mid}
use Rattle.midst.specs.Outcome.{refusal_of, Outcome, Gave}
use Rattle.midst.specs.Accepted.{NotRefused, CollectKnown}
use Rattle.midst.proofs.Accepted.{accepted-collect}
use Rattle.midst.proofs.Changes.{fine-knows, clear}
use Rattle.midst.proofs.Requests.{step-free, step-free-rows}
use Rattle.midst.proofs.Walks.{fine-walks}
use Rattle.midst.proofs.RowUntouched.{seg-stands, mid-stays, stands-still}
use Rattle.transfers.proofs.Named.{Named, begin-mid}
use Rattle.transfers.proofs.Fits.{Fit, fit}
use Rattle.transfers.proofs.Ports.{Completed, Shows, shows}

-- a collect that is not refused, of a desk that the memories stand for
pub record Collecting (ms : Memories) (f p : ℕ) (d : Desk) (s : Alloc) : Type 0 where
  pub stands : StandsFor ms d s
  pub accepted : refusal_of (answered d (on f (calls.collect p))).reply ≡ 0

-- what the code of a collect has seen: e is what the reply port has, m is entry e
pub record Seen (xs : List ℕ) (f p e : ℕ) (m : Entry) : Type 0 where
  pub port : e ≡ nth xs (reply_port (place_of f p))
  pub here : e < entries
  pub entry : m ≡ entry_at xs e

-- what the code of a collect has done: the request is freed, and nothing lies in the buffer
pub record Freed (ms : Memories) (f p : ℕ) (xs' buffers' : List ℕ) : Type 0 where
  pub collected : xs' ≡ moves.collected ms.segment (place_of f p)
  pub cleared : buffers' ≡ sets ms.buffers (buffer_bytes * place_of f p) (zeros buffer_bytes)
  pub bytes : Bytes xs'
  pub bytes' : Bytes buffers'

module _ {ms : Memories} {f p : ℕ} {d : Desk} {s : Alloc} (K : Collecting ms f p d s) where
  abbrev known : NotRefused (CollectKnown p) d f (calls.collect p)
  known = accepted-collect d f p K.accepted

  abbrev named : Named d f p
  named = record { file = known.file; b = known.b; stands = known.stands; a = known.known.a; at = known.known.at }

  abbrev b : Built
  b = known.b

  abbrev a : Acc
  a = known.known.a

  abbrev i : ℕ
  i = place_of f p

  -- what the code asks
  pub collect-fit : Fit ms f p
  collect-fit = fit K.stands named

  abbrev port : Shows ms.segment ms.buffers f p b a.req
  port = shows K.stands named a.req refl known.known.outstands

  -- it waits
  pub collect-waits : {memory : List ℕ} → entries ≤ nth ms.segment (reply_port (place_of f p))
      → Gave f d s (ask (file_of d f) (calls.collect p)) ms memory ms memory (Status 6 1) 0
  unfolding status answering leaves
  collect-waits h = rw (known.known.out ∙ rule port) (record {
    outcome = record { stands = stands-still K.stands f b known.file known.stands; apart = record { shares = λ g k n. refl; others = λ g k n. refl } };
    bytes = [];
    reply = refl;
    size = refl;
    most = omega arith;
    behind = refl;
  })
    where
      rule : Shows ms.segment ms.buffers f p b a.req → collect p a.req b ≡ status 6 1 b
      rule (inl k) = k.1
      rule (inr k) = absurd (omega (arith, k.0))

  shown : nth ms.segment (reply_port (place_of f p)) < entries → Completed ms.segment ms.buffers f p b a.req
  shown h = go port
    where
      go : Shows ms.segment ms.buffers f p b a.req → Completed ms.segment ms.buffers f p b a.req
      go (inl k) = absurd (omega (arith, k.0))
      go (inr k) = k.1

  -- it is completed
  module _ {e : ℕ} {m : Entry} (v : Seen ms.segment f p e m) where
    abbrev C : Completed ms.segment ms.buffers f p b a.req
    C = shown (subst (λ (n : ℕ). n < entries) v.port v.here)

    is : m ≡ completed_request (place_of f p) C.status C.log (length C.bytes)
    is = v.entry ∙ ap (entry_at ms.segment) v.port ∙ C.entry

    out : ask (file_of d f) (calls.collect p) ≡ collected C.status C.log C.bytes p b
    out = known.known.out ∙ C.rule

    pub entry-status : m.status < least_refusal
    entry-status = rw is C.low

    pub entry-size : m.size ≤ buffer_bytes
    entry-size = rw is C.short

    -- and freed
    module _ {xs' buffers' : List ℕ} (w : Freed ms f p xs' buffers') where
      freed-outcome : (r : Reply) → Outcome f d s (leaves r (freed p b)) ms (memories xs' ms.blocks buffers')
      unfolding leaves
      freed-outcome r =
          let B = begin-mid K.stands named refl in
          let M : Mid Fine f _ (memories (moves.collected ms.segment i) ms.blocks buffers') _ (freed p b) =
          step-free fine-knows B p a known.known.at C.ended {J = Fine} buffers'
          (fine-walks.frees p a b known.known.at C.ended B.good) (clear f p idle ms.buffers (unfold lies in refl) w.cleared) in
          subst (λ (y : List ℕ). Outcome f d s (leaves r (freed p b)) ms (memories y ms.blocks buffers')) (sym w.collected) (record {
            stands = mid-stays M (step-free-rows fine-knows B p a known.known.at C.ended (seg-stands K.stands f b known.file known.stands))
                K.stands.stands.bodies (subst Bytes w.collected w.bytes) K.stands.stands.bodies.blocks-bytes w.bytes';
            apart = M.apart;
          })

      -- it brings a status other than 0, and nothing more
      pub entry-ends : {memory : List ℕ} → (m.status ≡ 0 → ⊥)
          → Gave f d s (ask (file_of d f) (calls.collect p)) ms memory (memories xs' ms.blocks buffers') memory (Status 6 m.status) 0
      unfolding collected status answering leaves
      entry-ends {memory} n =
          subst (λ (k : Entry). Gave f d s (ask (file_of d f) (calls.collect p)) ms memory (memories xs' ms.blocks buffers') memory (Status 6 k.status) 0) (sym is)
          (rw (out ∙ pick-false (eqb C.status 0) _ _ (ne_eqb C.status 0 (λ z. n (ap (λ (k : Entry). k.status) is ∙ z)))) (record {
            outcome = freed-outcome (answers (Status 6 C.status) []);
            bytes = [];
            reply = refl;
            size = refl;
            most = omega arith;
            behind = refl;
          }))

      -- or its log, and the bytes that lie in the buffer
      pub entry_gives : {memory memory' : List ℕ} → m.status ≡ 0 → memory' ≡ sets memory answer_head (take m.size (buffer_at (place_of f p) ms.buffers))
          → Gave f d s (ask (file_of d f) (calls.collect p)) ms memory (memories xs' ms.blocks buffers') memory' (Collected m.log) m.size
      unfolding collected leaves answer_bytes
      entry_gives {memory} {memory'} z u =
          subst (λ (k : Entry). Gave f d s (ask (file_of d f) (calls.collect p)) ms memory (memories xs' ms.blocks buffers') memory' (Collected k.log) k.size) (sym is)
          (rw (out ∙ pick_true (eqb C.status 0) _ _ (eq-eqb C.status 0 (ap (λ (k : Entry). k.status) (sym is) ∙ z))) (record {
            outcome = freed-outcome (answers (Collected C.log) C.bytes);
            bytes = C.bytes;
            reply = refl;
            size = refl;
            most = C.short;
            behind = u ∙ ap (λ (k : Entry). sets memory answer_head (take k.size (buffer_at (place_of f p) ms.buffers))) is ∙ ap (sets memory answer_head) C.lie;
          }))
