-- A refused frame: the desk stays as it is, and two bytes are written.
use Prim.Native.Nat.{ℕ}
use mathlib.Core.Path.{◌≡◌, refl, sym, ap, ◌∙◌, subst}
use mathlib.Core.List.{List, []}
use mathlib.Core.Option.{none, some}
use lib.ListN.{get_or, drop}
use Rattle.rules.specs.Limits.{write_head}
use Rattle.kinds.specs.declared.Answer.TheVariants.{Status}
use Rattle.kinds.specs.declared.Event.{Event}
use Rattle.kinds.specs.declared.Event.TheVariants.{Build, Open, Read, Write, Control, Collect, Close, Time, Counts}
use Rattle.kinds.specs.declared.Frame.{Frame}
use Rattle.kinds.specs.declared.Frame.TheVariants as frame
use Rattle.rules.specs.Answers.{answer_bytes}
use Rattle.rules.specs.Reply.{Reply, answers}
use Rattle.rules.specs.Frames.{frame_of}
use Rattle.rules.specs.Calls.{Ask, refusal}
use Rattle.rules.specs.Calls as calls
use Rattle.rules.specs.Desk.{Desk, event, on, bad, asked, frame_asks, Responded, answered, respond}
use Rattle.rules.specs.Allocation.{Alloc, alloc_asked}
use Rattle.memory.specs.Memories.{Memories}
use Rattle.memory.specs.Fine.{StandsFor}
use Rattle.midst.specs.Outcome.{reply_status, status_of, refusal_of, Told}
use Rattle.midst.proofs.Accepted.{accepted-code}
use Rattle.midst.proofs.Refused.{stands-refused}
use Rattle.midst.proofs.StandsBehind.{still-stays}
use Rattle.desk.specs.Acted.{Responds}
use Rattle.desk.specs.Refusals.{Twice, Refusal}
use Rattle.promises.proofs.First.{operation_of, first_byte}
use Rattle.desk.proofs.Tells.{tells_none}

-- operation and status, as the answer's bytes
twice : (op n : ℕ) (r : Reply) (memory memory' : List ℕ) (k : ℕ) → r ≡ answers (Status op n) [] → Twice op n memory memory' k → Told r memory memory' k
unfolding answer_bytes
twice op n r memory memory' k e T = subst (λ (z : Reply). Told z memory memory' k) (sym e) (tells_none (Status op n) memory memory' k T.bytes T.size)

-- a frame whose tag is not that of a code is answered with 30
pub no_code : (xs : List ℕ) (y : Frame) (memory memory' : List ℕ) (k : ℕ) → ((f p : ℕ) → y ≡ frame.Code f p → ⊥) → Twice 0 30 memory memory' k → Refusal xs y memory memory' k
unfolding Refusal
no_code xs (frame.Event e) memory memory' k u T = T
no_code xs (frame.Code f p) memory memory' k u T = absurd (u f p refl)
no_code xs frame.Shape memory memory' k u T = T

module _ {ms : Memories} {d : Desk} {s : Alloc} (S : StandsFor ms d s) (fr memory memory' : List ℕ) (k : ℕ) where
  -- a call of a file
  on-refused : (f : ℕ) (q : Ask) (op n : ℕ) → asked (event fr) ≡ on f q → ((m : ℕ) → refusal q m ≡ answers (Status op m) []) → n ≡ refusal_of (answered d (on f q)).reply → (n ≡ 0 → ⊥)
      → Twice op n memory memory' k → Responds d s (event fr) ms memory ms memory' k
  on-refused f q op n is form e z T =
      let R = stands-refused f q S (λ u. z (e ∙ u)) in
      let r : respond d (event fr) ≡ answered d (on f q) = unfold respond in ap (answered d) is in
      record {
        stays = still-stays S (event fr) (ap (λ (y : Responded). y.desk) r ∙ R.desk) (ap (λ a. alloc_asked d a s) is ∙ R.alloc);
        told = twice op n _ memory memory' k (ap (λ (y : Responded). y.reply) r ∙ R.reply ∙ ap (refusal q) (sym e) ∙ form n) T;
      }

  -- an event
  event-refused : (e : Event) (n : ℕ) → frame_of fr ≡ frame.Event e → n ≡ refusal_of (answered d (frame_asks (frame.Event e) (drop write_head fr))).reply → (n ≡ 0 → ⊥)
      → Twice (operation_of e) n memory memory' k → Responds d s (event fr) ms memory ms memory' k
  unfolding operation_of frame_asks asked refusal
  event-refused (Build f r b n x) m said e z T = on-refused f (calls.build r b n x) 1 m (ap (λ (y : Frame). frame_asks y (drop write_head fr)) said) (λ _. refl) e z T
  event-refused (Open f a g n) m said e z T = on-refused f (calls.opens a g n) 2 m (ap (λ (y : Frame). frame_asks y (drop write_head fr)) said) (λ _. refl) e z T
  event-refused (Read f p n) m said e z T = on-refused f (calls.read p n) 3 m (ap (λ (y : Frame). frame_asks y (drop write_head fr)) said) (λ _. refl) e z T
  event-refused (Write f p n) m said e z T = on-refused f (calls.write p n (drop write_head fr)) 4 m (ap (λ (y : Frame). frame_asks y (drop write_head fr)) said) (λ _. refl) e z T
  event-refused (Control f p c) m said e z T = on-refused f (calls.control p (some c)) 5 m (ap (λ (y : Frame). frame_asks y (drop write_head fr)) said) (λ _. refl) e z T
  event-refused (Collect f p) m said e z T = on-refused f (calls.collect p) 6 m (ap (λ (y : Frame). frame_asks y (drop write_head fr)) said) (λ _. refl) e z T
  event-refused (Close f p) m said e z T = on-refused f (calls.close p) 7 m (ap (λ (y : Frame). frame_asks y (drop write_head fr)) said) (λ _. refl) e z T
  event-refused (Time t) m said e z T = absurd (z (unfold answered refusal_of reply_status status_of in e))
  event-refused (Counts f) m said e z T = on-refused f calls.counts 9 m (ap (λ (y : Frame). frame_asks y (drop write_head fr)) said) (λ _. refl) e z T

  -- the refusal of an event repeats its first byte
  pub first-refused : (e : Event) (n : ℕ) → frame_of fr ≡ frame.Event e → n ≡ refusal_of (answered d (frame_asks (frame.Event e) (drop write_head fr))).reply → (n ≡ 0 → ⊥)
      → Twice (get_or fr 0 0) n memory memory' k → Responds d s (event fr) ms memory ms memory' k
  first-refused e n said h z T = event-refused e n said h z (subst (λ (op : ℕ). Twice op n memory memory' k) (first_byte fr e said) T)

  -- a frame of no shape
  shape-refused : asked (event fr) ≡ bad → Twice 0 30 memory memory' k → Responds d s (event fr) ms memory ms memory' k
  unfolding respond answered alloc_asked
  shape-refused is T = record {
    stays = still-stays S (event fr) (ap (λ a. (answered d a).desk) is) (ap (λ a. alloc_asked d a s) is);
    told = twice 0 30 _ memory memory' k (ap (λ a. (answered d a).reply) is) T;
  }

  -- a frame that is no event: in the `else` of `let Frame::Event(..) = said else { .. }` the tag is another variant's
  pub frame_refused : (y : Frame) → frame_of fr ≡ y → ((e : Event) → y ≡ frame.Event e → ⊥) → Refusal ms.segment y memory memory' k
      → Responds d s (event fr) ms memory ms memory' k
  unfolding Refusal frame_asks asked refusal
  frame_refused (frame.Event e) said u R = absurd (u e refl)
  frame_refused (frame.Code f p) said u (n, N, T) =
      let e = N ms.blocks ms.buffers d s S in
      on-refused f (calls.control p none) 5 n (ap (λ (y : Frame). frame_asks y (drop write_head fr)) said) (λ _. refl) e (λ z. accepted-code d f p (sym e ∙ z)) T
  frame_refused frame.Shape said u T = shape-refused (ap (λ (y : Frame). frame_asks y (drop write_head fr)) said) T

-- the number 0 says that the call is not refused
pub not-refused : (fr : List ℕ) (e : Event) (n : ℕ) (d : Desk) → frame_of fr ≡ frame.Event e → n ≡ refusal_of (answered d (frame_asks (frame.Event e) (drop write_head fr))).reply → n ≡ 0
    → refusal_of (respond d (event fr)).reply ≡ 0
unfolding respond asked
not-refused fr e n d said h z = ap (λ (y : Frame). refusal_of (answered d (frame_asks y (drop write_head fr))).reply) said ∙ sym h ∙ z
