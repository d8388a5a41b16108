-- What a frame asks of a file is proper: a write's data are as long as its count.
use mathlib.Core.Path.{◌≡◌, ◌∙◌}
use mathlib.Core.List.{List}
use Prim.Native.Nat.{ℕ, ◌+◌, ◌-◌}
use native.Mathlib.Omega.{arith}
use lib.Dec.{eqb}
use lib.ListN.{length, get_or, drop, length-drop}
use borrow.Author.Tests.{eqb-true}
use Rattle.rules.specs.Limits.{write_head}
use Rattle.words.specs.Word.{word_at}
use Rattle.kinds.specs.declared.Frame.{Frame}
use Rattle.rules.specs.TransferCounts.{count_bytes}
use Rattle.rules.specs.Frames.{control_frame, of_length, frame_of}
use Rattle.rules.specs.Desk.{Call, event, look, save, load, Asked, on, time, bad, frame_asks, asked}
use Rattle.rules.proofs.Split.{bothc}
use Rattle.laws.specs.Runs.{Proper}

unfoldable pub ProperAsked : Asked → Type 0
ProperAsked (on f q) = Proper q
ProperAsked (time e) = Unit {0}
ProperAsked bad = Unit {0}

module _ (fr : List ℕ) where
  Fine : Frame → Type 0
  Fine x = ProperAsked (frame_asks x (drop write_head fr))

  sized-fine : (n : ℕ) (x : Frame) → (length fr ≡ n → Fine x) → Fine (of_length n fr x)
  unfolding of_length Fine
  sized-fine n x h = bothc Fine (eqb (length fr) n) (λ e. h (eqb-true (length fr) n e)) (λ _. unfold frame_asks ProperAsked in tt)

  control-fine : (f p c v : ℕ) → Fine (control_frame f p c v)
  unfolding control_frame Fine frame_asks ProperAsked Proper
  control-fine f p c v =
      bothc Fine (eqb c 4) (λ _. tt)
      (λ _. bothc Fine (eqb c 6) (λ _. tt)
      (λ _. bothc Fine (eqb c 43) (λ _. tt)
      (λ _. bothc Fine (eqb c 45) (λ _. tt)
      (λ _. bothc Fine (eqb c 46) (λ _. tt)
      (λ _. bothc Fine (eqb c 47) (λ _. tt)
      (λ _. tt))))))

  frame-fine : Fine (frame_of fr)
  unfolding frame_of Fine frame_asks ProperAsked Proper
  frame-fine =
      bothc Fine (eqb (get_or fr 0 0) 1) (λ _. sized-fine 8 _ (λ _. tt))
      (λ _. bothc Fine (eqb (get_or fr 0 0) 2) (λ _. sized-fine 5 _ (λ _. tt))
      (λ _. bothc Fine (eqb (get_or fr 0 0) 3) (λ _. sized-fine 5 _ (λ _. tt))
      (λ _. bothc Fine (eqb (get_or fr 0 0) 4) (λ _. sized-fine (write_head + count_bytes (word_at fr 3)) _ (λ e. length-drop write_head fr ∙ less e))
      (λ _. bothc Fine (eqb (get_or fr 0 0) 5) (λ _. sized-fine 6 _ (λ _. control-fine _ _ _ _))
      (λ _. bothc Fine (eqb (get_or fr 0 0) 6) (λ _. sized-fine 3 _ (λ _. tt))
      (λ _. bothc Fine (eqb (get_or fr 0 0) 7) (λ _. sized-fine 3 _ (λ _. tt))
      (λ _. bothc Fine (eqb (get_or fr 0 0) 8) (λ _. sized-fine 3 _ (λ _. tt))
      (λ _. bothc Fine (eqb (get_or fr 0 0) 9) (λ _. sized-fine 2 _ (λ _. tt))
      (λ _. tt)))))))))
    where
      less : {n : ℕ} → length fr ≡ 5 + n → length fr - 5 ≡ n
      less e = omega arith

pub asked-proper : (c : Call) → ProperAsked (asked c)
unfolding asked ProperAsked Proper
asked-proper (event fr) = unfold Fine in frame-fine fr
asked-proper (look f p) = tt
asked-proper (save f n) = tt
asked-proper (load f t) = tt
