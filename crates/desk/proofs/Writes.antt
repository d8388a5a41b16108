-- A frame that is a write has its data after its first five bytes.
use Prim.Native.Nat.{ℕ, ◌+◌, ◌-◌, ◌≤◌}
use mathlib.Core.Path.{◌≡◌, subst}
use mathlib.Core.List.{List}
use native.Mathlib.Omega.{arith}
use lib.Dec.{eqb}
use lib.ListN.{length, get_or, take, drop, length-drop}
use lib.Seq.{take_all}
use borrow.Author.Tests.{eqb-true}
use Rattle.rules.specs.Limits.{write_head}
use Rattle.words.specs.Word.{word_at}
use Rattle.kinds.specs.declared.Event.TheVariants.{Build, Open, Read, Write, Control, Collect, Close, Time, Counts}
use Rattle.kinds.specs.declared.Frame.{Frame}
use Rattle.kinds.specs.declared.Frame.TheVariants.{Event, Code, Shape}
use Rattle.rules.specs.TransferCounts.{count_bytes}
use Rattle.rules.specs.Frames.{control_frame, of_length, frame_of}
use Rattle.rules.proofs.Split.{bothc}

module _ (fr : List ℕ) where
  unfoldable Long : Frame → Type 0
  Long (Event (Build f r b n x)) = Unit {0}
  Long (Event (Open f a s m)) = Unit {0}
  Long (Event (Read f p n)) = Unit {0}
  Long (Event (Write f p n)) = (write_head ≤ length fr) × (length (drop write_head fr) ≡ count_bytes n)
  Long (Event (Control f p c)) = Unit {0}
  Long (Event (Collect f p)) = Unit {0}
  Long (Event (Close f p)) = Unit {0}
  Long (Event (Time e)) = Unit {0}
  Long (Event (Counts f)) = Unit {0}
  Long (Code f p) = Unit {0}
  Long Shape = Unit {0}

  sized-long : (n : ℕ) (x : Frame) → (length fr ≡ n → Long x) → Long (of_length n fr x)
  unfolding of_length
  sized-long n x h = bothc Long (eqb (length fr) n) (λ e. h (eqb-true (length fr) n e)) (λ _. unfold Long in tt)

  control-long : (f p c v : ℕ) → Long (control_frame f p c v)
  unfolding control_frame Long
  control-long f p c v =
      bothc Long (eqb c 4) (λ _. tt)
      (λ _. bothc Long (eqb c 6) (λ _. tt)
      (λ _. bothc Long (eqb c 43) (λ _. tt)
      (λ _. bothc Long (eqb c 45) (λ _. tt)
      (λ _. bothc Long (eqb c 46) (λ _. tt)
      (λ _. bothc Long (eqb c 47) (λ _. tt)
      (λ _. tt))))))

  frame-long : Long (frame_of fr)
  unfolding frame_of Long
  frame-long =
      bothc Long (eqb (get_or fr 0 0) 1) (λ _. sized-long 8 _ (λ _. tt))
      (λ _. bothc Long (eqb (get_or fr 0 0) 2) (λ _. sized-long 5 _ (λ _. tt))
      (λ _. bothc Long (eqb (get_or fr 0 0) 3) (λ _. sized-long 5 _ (λ _. tt))
      (λ _. bothc Long (eqb (get_or fr 0 0) 4) (λ _. sized-long (write_head + count_bytes (word_at fr 3)) _ (λ e. (omega arith, omega (arith, e, length-drop write_head fr))))
      (λ _. bothc Long (eqb (get_or fr 0 0) 5) (λ _. sized-long 6 _ (λ _. control-long _ _ _ _))
      (λ _. bothc Long (eqb (get_or fr 0 0) 6) (λ _. sized-long 3 _ (λ _. tt))
      (λ _. bothc Long (eqb (get_or fr 0 0) 7) (λ _. sized-long 3 _ (λ _. tt))
      (λ _. bothc Long (eqb (get_or fr 0 0) 8) (λ _. sized-long 3 _ (λ _. tt))
      (λ _. bothc Long (eqb (get_or fr 0 0) 9) (λ _. sized-long 2 _ (λ _. tt))
      (λ _. tt)))))))))

  pub write-long : (f p n : ℕ) → frame_of fr ≡ Event (Write f p n) → (write_head ≤ length fr) × (length (drop write_head fr) ≡ count_bytes n)
  unfolding Long
  write-long f p n e = subst Long e frame-long

  -- all bytes after the first five
  pub rest-is : take (length fr - write_head) (drop write_head fr) ≡ drop write_head fr
  rest-is = take_all (length fr - write_head) (drop write_head fr) (omega (arith, length-drop write_head fr))
