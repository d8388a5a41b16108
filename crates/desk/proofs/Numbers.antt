-- The number that a frame is refused with, whatever the memories are seen as.
use Prim.Native.Nat.{ℕ}
use mathlib.Core.Path.{◌≡◌, refl, ap, ◌∙◌}
use mathlib.Core.Bool.{true, false}
use mathlib.Core.List.{List}
use mathlib.Core.Option.{Option}
use lib.ListN.{drop}
use Rattle.kinds.specs.declared.Frame.{Frame}
use Rattle.rules.specs.Limits.{write_head}
use Rattle.rules.specs.Frames.{frame_of}
use Rattle.rules.specs.Desk.{Call, event, bad, asked, frame_asks, answered, respond}
use Rattle.midst.specs.Outcome.{reply_status, status_of, refusal_of}
use Rattle.sound.specs.Sound.{soundly}
use Rattle.promises.specs.Promise.{Standing, reply_of}
use Rattle.promises.proofs.Seen.{seen_none, seen-some}
use Rattle.judges.specs.Refused.{Refuses}
use Rattle.desk.specs.Refusals.{RefusedWith}
use Rattle.memory.specs.Memories.{Memories}

-- a frame of no shape
pub shape-number : (xs : List ℕ) → Refuses xs bad 30
unfolding answered refusal_of reply_status status_of
shape-number xs blocks buffers d s S = refl

module _ (m : Memories) where
  -- no desk
  pub unsound-number : soundly m ≡ false → (c : Call) → RefusedWith m c 29
  unfolding reply_of refusal_of reply_status
  unsound-number e c = seen_none (λ (v : Option Standing). 29 ≡ refusal_of (reply_of v c)) e refl

  -- a desk, and what the frame says
  pub frame-number : soundly m ≡ true → (fr : List ℕ) (said : Frame) → said ≡ frame_of fr → (n : ℕ) → ((t : List ℕ) → Refuses m.segment (frame_asks said t) n)
      → RefusedWith m (event fr) n
  unfolding reply_of respond asked
  frame-number e fr said k n h =
      seen-some (λ (v : Option Standing). n ≡ refusal_of (reply_of v (event fr))) e
      (λ d s S. h (drop write_head fr) _ _ d s S ∙ ap (λ (y : Frame). refusal_of (answered d (frame_asks y (drop write_head fr))).reply) k)
