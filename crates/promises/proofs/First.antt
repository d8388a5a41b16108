-- An event's frame begins with its operation.
use Prim.Native.Nat.{ℕ, ◌+◌, ◌≤◌}
use mathlib.Core.Path.{◌≡◌, subst}
use mathlib.Core.Bool.{true}
use mathlib.Core.List.{List, [], ◌∷◌}
use native.Mathlib.Omega.{arith}
use lib.Dec.{eqb}
use lib.ListN.{length, get_or}
use borrow.Author.Tests.{eqb-true}
use Rattle.words.specs.Word.{word_at}
use Rattle.kinds.specs.declared.Event.{Event}
use Rattle.kinds.specs.declared.Event.TheVariants.{Build, Open, Read, Write, Control, Collect, Close, Time, Counts}
use Rattle.kinds.specs.declared.Frame.{Frame}
use Rattle.kinds.specs.declared.Frame.TheVariants as frame
use Rattle.rules.specs.TransferCounts.{count_bytes}
use Rattle.rules.specs.Frames.{control_frame, of_length, frame_of}
use Rattle.rules.proofs.Split.{bothc}

-- the operation of an event, with which its frame and its answer begin
unfoldable pub operation_of : Event → ℕ
operation_of (Build f r b n x) = 1
operation_of (Open f a s m) = 2
operation_of (Read f p n) = 3
operation_of (Write f p n) = 4
operation_of (Control f p c) = 5
operation_of (Collect f p) = 6
operation_of (Close f p) = 7
operation_of (Time e) = 8
operation_of (Counts f) = 9

module _ (fr : List ℕ) where
  -- the frame begins with the operation of what it says; one of no shape may begin with any byte
  unfoldable pub Begins : Frame → Type 0
  Begins (frame.Event e) = get_or fr 0 0 ≡ operation_of e
  Begins (frame.Code f p) = get_or fr 0 0 ≡ 5
  Begins frame.Shape = Unit {0}

  sized-begins : (n : ℕ) (x : Frame) → Begins x → Begins (of_length n fr x)
  unfolding of_length Begins
  sized-begins n x h = bothc Begins (eqb (length fr) n) (λ _. h) (λ _. tt)

  control-begins : get_or fr 0 0 ≡ 5 → (f p c v : ℕ) → Begins (control_frame f p c v)
  unfolding control_frame Begins operation_of
  control-begins h f p c v =
      bothc Begins (eqb c 4) (λ _. h)
      (λ _. bothc Begins (eqb c 6) (λ _. h)
      (λ _. bothc Begins (eqb c 43) (λ _. h)
      (λ _. bothc Begins (eqb c 45) (λ _. h)
      (λ _. bothc Begins (eqb c 46) (λ _. h)
      (λ _. bothc Begins (eqb c 47) (λ _. h)
      (λ _. h))))))

  is : (n : ℕ) → eqb (get_or fr 0 0) n ≡ true → get_or fr 0 0 ≡ n
  is n e = eqb-true (get_or fr 0 0) n e

  pub frame-begins : Begins (frame_of fr)
  unfolding frame_of Begins operation_of
  frame-begins =
      bothc Begins (eqb (get_or fr 0 0) 1) (λ e. sized-begins 8 _ (is 1 e))
      (λ _. bothc Begins (eqb (get_or fr 0 0) 2) (λ e. sized-begins 5 _ (is 2 e))
      (λ _. bothc Begins (eqb (get_or fr 0 0) 3) (λ e. sized-begins 5 _ (is 3 e))
      (λ _. bothc Begins (eqb (get_or fr 0 0) 4) (λ e. sized-begins (5 + count_bytes (word_at fr 3)) _ (is 4 e))
      (λ _. bothc Begins (eqb (get_or fr 0 0) 5) (λ e. sized-begins 6 _ (control-begins (is 5 e) _ _ _ _))
      (λ _. bothc Begins (eqb (get_or fr 0 0) 6) (λ e. sized-begins 3 _ (is 6 e))
      (λ _. bothc Begins (eqb (get_or fr 0 0) 7) (λ e. sized-begins 3 _ (is 7 e))
      (λ _. bothc Begins (eqb (get_or fr 0 0) 8) (λ e. sized-begins 3 _ (is 8 e))
      (λ _. bothc Begins (eqb (get_or fr 0 0) 9) (λ e. sized-begins 2 _ (is 9 e))
      (λ _. tt)))))))))

  pub first_byte : (e : Event) → frame_of fr ≡ frame.Event e → get_or fr 0 0 ≡ operation_of e
  unfolding Begins
  first_byte e said = let h : Begins (frame.Event e) = subst Begins said frame-begins in h

operation-some : (e : Event) → 1 ≤ operation_of e
unfolding operation_of
operation-some (Build f r b n x) = omega arith
operation-some (Open f a s m) = omega arith
operation-some (Read f p n) = omega arith
operation-some (Write f p n) = omega arith
operation-some (Control f p c) = omega arith
operation-some (Collect f p) = omega arith
operation-some (Close f p) = omega arith
operation-some (Time e) = omega arith
operation-some (Counts f) = omega arith

-- the frame of an event is not empty
pub first-there : (fr : List ℕ) (e : Event) → frame_of fr ≡ frame.Event e → 1 ≤ length fr
first-there [] e said = let h : 0 ≡ operation_of e = first_byte [] e said in absurd (omega (arith, operation-some e))
first-there (x ∷ l) e said = omega arith
