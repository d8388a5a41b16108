-- The reply to a refused event, on a desk: operation and status, and nothing after them. It is never 29.
use Prim.Native.Nat.{ℕ, ◌≤◌}
use mathlib.Core.Path.{◌≡◌, refl, sym, ap, ◌∙◌}
use mathlib.Core.Bool.{true, ◌||◌}
use mathlib.Core.List.{List, []}
use native.Mathlib.Omega.{arith}
use lib.Dec.{ltb}
use lib.ListN.{get_or}
use borrow.Author.Tests.{ltb-true, le-ltb, ne_eqb}
use Rattle.kinds.specs.declared.Answer.TheVariants.{Status}
use Rattle.kinds.specs.declared.Frame.{Frame}
use Rattle.kinds.specs.declared.Frame.TheVariants.{Event, Code, Shape}
use Rattle.kinds.specs.declared.Event.TheVariants as event
use Rattle.rules.specs.Answers.{answer_bytes}
use Rattle.rules.specs.Reply.{Reply, answers}
use Rattle.rules.specs.Calls.{Ask, refusal}
use Rattle.rules.specs.Desk.{Desk, on, frame_asks, answered, reply_bytes}
use Rattle.rules.specs.Allocation.{Alloc}
use Rattle.laws.specs.Bounds.{least_refusal}
use Rattle.memory.specs.Memories.{Memories}
use Rattle.memory.specs.Fine.{StandsFor}
use Rattle.midst.specs.Outcome.{status_of, reply_status, refusal_of}
use Rattle.midst.proofs.Refused.{stands-refused}
use Rattle.promises.specs.Refusal.{refusal_bytes}
use Rattle.promises.proofs.First.{operation_of, Begins}
use Rattle.promises.proofs.Short.{IsEvent, of_file}
use Rattle.promises.proofs.Room.{on-short}

-- a status of a refusal is the refusal's number
pub refused-number : (r : Reply) → least_refusal ≤ reply_status r → refusal_of r ≡ reply_status r
unfolding refusal_of
refused-number r h = rw (le-ltb (reply_status r) least_refusal h) refl

pub is-refusal : (r : Reply) → least_refusal ≤ reply_status r → refusal_of r ≡ 0 → ⊥
is-refusal r h z = omega (arith, h, refused-number r h, z)

-- the refusal that a file gives is above 30
above : (st : ℕ) → of_file st ≡ true → least_refusal ≤ st → 31 ≤ st
above st e h = ltb-true 30 st (sym (ap (λ b. b || ltb 30 st) (le-ltb st least_refusal h)) ∙ e)

-- the second byte of a reply is its status; if that is a refusal's, the reply is the two bytes of that refusal, which is not 29
pub record Curt (fr : List ℕ) (r : Reply) : Type 0 where
  pub second : get_or (reply_bytes r) 1 29 ≡ reply_status r
  pub number : least_refusal ≤ reply_status r → 30 ≤ reply_status r
  pub bytes : least_refusal ≤ reply_status r → reply_bytes r ≡ refusal_bytes fr (reply_status r)

module _ {m : Memories} {d : Desk} {s : Alloc} (S : StandsFor m d s) (fr : List ℕ) where
  on-curt : (f : ℕ) (q : Ask) (op : ℕ) → IsEvent q → ((st : ℕ) → refusal q st ≡ answers (Status op st) []) → get_or fr 0 0 ≡ op → Curt fr (answered d (on f q)).reply
  on-curt f q op i form b =
      let r : Reply = (answered d (on f q)).reply in
      let h = on-short d f q S.fine i in
      record {
        second = h.second;
        number = λ l. omega (arith, above (reply_status r) h.number l);
        bytes = λ l. two (reply_status r) (above (reply_status r) h.number l) ((stands-refused f q S (is-refusal r l)).reply ∙ ap (refusal q) (refused-number r l) ∙ form (reply_status r));
      }
    where
      two : (st : ℕ) → 31 ≤ st → (answered d (on f q)).reply ≡ answers (Status op st) [] → reply_bytes (answered d (on f q)).reply ≡ refusal_bytes fr st
      two st l e = unfold refusal_bytes in rw (ne_eqb st 30 (λ z. omega (arith, l, z)), b) (ap reply_bytes e ∙ (unfold reply_bytes answer_bytes in refl))

  pub frame-curt : (y : Frame) (v : List ℕ) → Begins fr y → Curt fr (answered d (frame_asks y v)).reply
  unfolding frame_asks Begins operation_of IsEvent refusal
  frame-curt (Event (event.Build f r b n x)) v h = on-curt f _ 1 tt (λ st. refl) h
  frame-curt (Event (event.Open f a s m)) v h = on-curt f _ 2 tt (λ st. refl) h
  frame-curt (Event (event.Read f p n)) v h = on-curt f _ 3 tt (λ st. refl) h
  frame-curt (Event (event.Write f p n)) v h = on-curt f _ 4 tt (λ st. refl) h
  frame-curt (Event (event.Control f p c)) v h = on-curt f _ 5 tt (λ st. refl) h
  frame-curt (Event (event.Collect f p)) v h = on-curt f _ 6 tt (λ st. refl) h
  frame-curt (Event (event.Close f p)) v h = on-curt f _ 7 tt (λ st. refl) h
  frame-curt (Event (event.Time e)) v h = unfold answered reply_bytes answer_bytes reply_status status_of in record { second = refl; number = λ l. absurd (omega (arith, l)); bytes = λ l. absurd (omega (arith, l)) }
  frame-curt (Event (event.Counts f)) v h = on-curt f _ 9 tt (λ st. refl) h
  frame-curt (Code f p) v h = on-curt f _ 5 tt (λ st. refl) h
  frame-curt Shape v h = unfold answered reply_bytes answer_bytes reply_status status_of refusal_bytes in record { second = refl; number = λ _. omega arith; bytes = λ _. refl }
