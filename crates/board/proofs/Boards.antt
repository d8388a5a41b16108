-- What the board gives on each way out; and two results that keep its promise are equal.
use Prim.Native.Nat.{ℕ, ◌+◌, ◌≤◌, ◌<◌}
use mathlib.Core.Path.{◌≡◌, refl, sym, ◌∙◌}
use mathlib.Core.Bool.{true, false}
use mathlib.Core.List.{List}
use native.Mathlib.Omega.{arith}
use borrow.Author.Tests.{lt-ltb, le-ltb}
use lib.ListN.{length}
use Rattle.words.specs.Word.{Bytes}
use Rattle.rules.specs.Limits.{files}
use Rattle.rules.specs.State.{Built, built}
use Rattle.rules.specs.Desk.{Desk, file_of}
use Rattle.rules.specs.Allocation.{Alloc}
use Rattle.memory.specs.Memories.{Memories, memories}
use Rattle.memory.specs.Fine.{StandsFor}
use Rattle.memory.specs.Swept.{swept}
use Rattle.sound.specs.Sound.{soundly}
use Rattle.accessors.specs.Accessors.{words_at}
use Rattle.accessors.proofs.Names.{is-built, not-built}
use Rattle.midst.specs.FileStands.{FileStands}
use Rattle.midst.specs.Outcome.{Sound, SoundBlocks}
use Rattle.promises.specs.Promise.{Given, written}
use Rattle.promises.proofs.Seen.{sees, seen_none, seen-some}
use Rattle.texts.specs.Put.{Put}
use Rattle.texts.proofs.Runs.{◌then◌, put-none}
use Rattle.notices.specs.Lines.{line_room}
use Rattle.board.specs.Board.{file_room, files_room, board_room, file_text, files_text, board_text, swept_text, whole_text}
use Rattle.board.specs.Promise.{shown_on, shown_of, Board, Ends}

-- a file, by its R
module _ {xs blocks : List ℕ} (f w : ℕ) (hf : f < files) (e : w ≡ words_at xs f) where
  pub stood-file : (w ≡ 0 → ⊥) → SoundBlocks xs blocks → FileStands xs blocks f
  stood-file h (buffers, (d, s, S)) = let (b, k) = is-built S f w e h in record { file = hf; buffers = buffers; d = d; s = s; b = b; stands = S; is = k }

  pub unbuilt-put : w ≡ 0 → {buffers : List ℕ} {d : Desk} {s : Alloc} → StandsFor (memories xs blocks buffers) d s → (out : List ℕ) (at : ℕ) → Put file_room out at (file_text f (file_of d f)) out at
  unfolding file_text
  unbuilt-put z S out at = rw (not-built S f w e hf z) (put-none file_room)

  pub built-put : (w ≡ 0 → ⊥) → (out : List ℕ) (at : ℕ) (out' : List ℕ) (end : ℕ)
      → ((buffers : List ℕ) (d : Desk) (s : Alloc) (b : Built) → StandsFor (memories xs blocks buffers) d s → file_of d f ≡ built b → Put file_room out at (file_text f (built b)) out' end)
      → (buffers : List ℕ) (d : Desk) (s : Alloc) → StandsFor (memories xs blocks buffers) d s → Put file_room out at (file_text f (file_of d f)) out' end
  built-put h out at out' end P buffers d s S = let (b, k) = is-built S f w e h in rw k (P buffers d s b S k)

-- the text, put in three steps: the files, the line if none is built, the last line
module _ (ms : Memories) {out : List ℕ} (out₁ : List ℕ) (n₁ : ℕ) (out₂ : List ℕ) (n₂ : ℕ)
    (files-put : (buffers : List ℕ) (d : Desk) (s : Alloc) → StandsFor (memories ms.segment ms.blocks buffers) d s → Put files_room out 0 (files_text d files) out₁ n₁)
    (ends : Ends out₁ n₁ out₂ n₂) (d : Desk) (s : Alloc) (S : StandsFor ms d s) where
  text-put : Put files_room out 0 (board_text d) out₂ n₂
  unfolding Ends board_text
  text-put = ends (files_text d files) out (files-put ms.buffers d s S)

  -- room for the last line
  pub line-fits : board_room ≤ length out → n₂ + line_room ≤ length out₂
  line-fits h = omega (arith, text-put.low, text-put.long, h)

  pub whole-put : {out₃ : List ℕ} {n₃ : ℕ} → Put line_room out₂ n₂ (swept_text (swept d ms)) out₃ n₃ → Put board_room out 0 (whole_text d ms) out₃ n₃
  unfolding whole_text
  whole-put last = text-put then last

module _ (ms : Memories) (out : List ℕ) where
  -- 29
  pub board-unsound : soundly ms ≡ false → Board ms out (written 29 0 out)
  unfolding shown_of
  board-unsound t = seen_none (λ v. written 29 0 out ≡ shown_of v ms out) t refl

  module _ (t : soundly ms ≡ true) where
    -- 44
    pub board-short : length out < board_room → Board ms out (written 44 0 out)
    unfolding shown_of shown_on
    board-short h = seen-some (λ v. written 44 0 out ≡ shown_of v ms out) t (λ d s S. rw (lt-ltb (length out) board_room h, shown_on) refl)

    -- the text
    module _ (h : board_room ≤ length out) (out' : List ℕ) (n : ℕ) (P : (d : Desk) (s : Alloc) → StandsFor ms d s → Put board_room out 0 (whole_text d ms) out' n) where
      pub board-shown : Board ms out (written 0 n out')
      unfolding shown_of shown_on
      board-shown =
          seen-some (λ v. written 0 n out' ≡ shown_of v ms out) t
          (λ d s S. let Q = P d s S in
          let z : n ≡ length (whole_text d ms) = omega (arith, Q.size) in
          rw (le-ltb (length out) board_room h, shown_on) (rw (z, Q.bytes)))

      pub board-low : Sound ms → n ≤ length out
      board-low (d, s, S) = omega (arith, (P d s S).low)

  pub board-same : Bytes ms.segment → Bytes ms.blocks → Bytes ms.buffers → (g h : Given) → Board ms out g → Board ms out h → g ≡ h
  board-same bs bb bf g h P Q = let (v, S) = sees bs bb bf in P v S ∙ sym (Q v S)
