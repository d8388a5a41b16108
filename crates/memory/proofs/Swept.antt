-- Every desk that a run reaches is swept: where its files' bytes are as the laws of runs say, no byte that no call reads is other than zero.
use Prim.Native.Nat.{ℕ, zero, suc, ◌+◌, ◌-◌, ◌*◌, ◌/◌, ◌%◌, ◌≤◌, ◌<◌}
use mathlib.Core.Path.{◌≡◌, refl, sym, ap, subst, ◌∙◌}
use mathlib.Core.Bool.{true}
use mathlib.Core.List.{List}
use mathlib.Core.Option.{Option}
use native.Mathlib.Omega.{arith}
use lib.ListN.{length, get_or, drop}
use lib.Seq.{get_or-take, get_or-drop, get_or-append-add}
use Rattle.words.specs.Word.{zeros, quiet}
use Rattle.words.specs.Word as words
use Rattle.words.proofs.Runs.{get_or-zeros, part-zeros}
use Rattle.rules.specs.Limits.{files, places, share_bytes, buffer_bytes}
use Rattle.rules.specs.State.{Acc, File, unbuilt, built}
use Rattle.rules.specs.Buffers.{lies, filled}
use Rattle.rules.specs.Requests.{acc_at}
use Rattle.rules.specs.Desk.{Desk, Call, file_of, fresh_desk, after}
use Rattle.rules.specs.Memories.{share_at, buffer_at}
use Rattle.rules.specs.Allocation.{place_of}
use Rattle.shares.specs.Tails.{tails_zero}
use Rattle.shares.proofs.Tails.{quiet-zero}
use Rattle.rules.proofs.Split.{true-and}
use Rattle.laws.specs.Runs.{OnFile}
use Rattle.laws.specs.Outstanding.{req_of, req_at}
use Rattle.laws.specs.Lying.{OtherwiseZero}
use Rattle.laws.specs.Tails.{TailsZero}
use Rattle.laws.proofs.Lying.{otherwise-zero}
use Rattle.laws.proofs.Tails.{tails-zero}
use Rattle.memory.specs.Memories.{Memories}
use Rattle.memory.specs.Image.{acc_of, place_acc}
use Rattle.memory.specs.Stands.{buffers_at, FileBytes, Bodies}
use Rattle.memory.specs.Covers.{Blank}
use Rattle.memory.proofs.Parts.{part}
use Rattle.memory.proofs.Frames.{buffers_at-part}
use Rattle.memory.specs.Swept.{rests_zero, file_swept, files_swept, swept}

quiet-zeros : (n : ℕ) → quiet (zeros n) 0 n ≡ true
quiet-zeros n = quiet-zero (zeros n) n 0 (λ i _ k. get_or-zeros n i (omega arith))

-- what lies in a buffer, and zeros after it
rest-quiet : (xs d : List ℕ) (p : ℕ) → words.part buffer_bytes p xs ≡ filled d → quiet xs (buffer_bytes * p + length d) (buffer_bytes - length d) ≡ true
unfolding filled
rest-quiet xs d p e = quiet-zero xs (buffer_bytes - length d) (buffer_bytes * p + length d) each
  where
    each : (i : ℕ) → buffer_bytes * p + length d ≤ i → i < buffer_bytes * p + length d + (buffer_bytes - length d) → get_or xs i 0 ≡ 0
    each i h k =
        let j : ℕ = i - (buffer_bytes * p + length d) in
        let s : i ≡ buffer_bytes * p + (length d + j) = omega arith in
        ap (λ j. get_or xs j 0) s
        ∙ sym (get_or-drop (buffer_bytes * p) xs (length d + j) 0)
        ∙ sym (get_or-take buffer_bytes (drop (buffer_bytes * p) xs) (length d + j) 0 (omega arith))
        ∙ ap (λ (l : List ℕ). get_or l (length d + j) 0) e
        ∙ get_or-append-add d (zeros (buffer_bytes - length d)) j 0
        ∙ get_or-zeros (buffer_bytes - length d) j (omega arith)

rests-quiet : (l : List (Option Acc)) (xs : List ℕ) → ((p : ℕ) → p < places → words.part buffer_bytes p xs ≡ filled (lies (req_at l p))) → (n : ℕ) → n ≤ places → rests_zero l xs n ≡ true
unfolding rests_zero
rests-quiet l xs h zero k = refl
rests-quiet l xs h (suc n) k =
    true-and (rests_zero l xs n) _ (rests-quiet l xs h n (omega arith)) (rest-quiet xs (lies (req_at l n)) n (h n (omega arith)))

file-swept : (x : File) (share buffers : List ℕ) → FileBytes x share buffers → OnFile OtherwiseZero x → OnFile TailsZero x
    → (x ≡ unbuilt → (share ≡ zeros share_bytes) × (buffers ≡ zeros (places * buffer_bytes))) → file_swept x share buffers ≡ true
unfolding FileBytes OnFile file_swept
file-swept unbuilt share buffers F z t u = let (a, b) = u refl in rw (a, b) (true-and _ _ (quiet-zeros share_bytes) (quiet-zeros (places * buffer_bytes)))
file-swept (built c) share buffers F z t u = rw (F.0, F.1) (true-and _ _ t (rests-quiet c.accs c.buffers z.each places (omega arith)))

-- the buffer of place p of a file
file-buffer : (x : File) (f p : ℕ) (share ys : List ℕ) → p < places → FileBytes x share (buffers_at f ys) → OnFile OtherwiseZero x
    → (x ≡ unbuilt → buffers_at f ys ≡ zeros (places * buffer_bytes)) → buffer_at (place_of f p) ys ≡ filled (lies (req_of (acc_of x p)))
unfolding FileBytes OnFile acc_of req_of lies filled part
file-buffer unbuilt f p share ys h F z u =
    sym (buffers_at-part f p ys h) ∙ ap (λ (l : List ℕ). part buffer_bytes p l) (u refl) ∙ part-zeros buffer_bytes (buffer_bytes * p) (places * buffer_bytes) (omega arith)
file-buffer (built b) f p share ys h F z u = unfold acc_at in sym (buffers_at-part f p ys h) ∙ ap (λ (l : List ℕ). part buffer_bytes p l) F.1 ∙ z.each p h

-- the memories of a desk that calls from a fresh one reach
module _ (cs : List Call) (m : Memories) (B : Bodies m (after fresh_desk cs)) (u : Blank (after fresh_desk cs) m) where
  abbrev d : Desk
  d = after fresh_desk cs

  files-swept : (n : ℕ) → n ≤ files → files_swept d m n ≡ true
  unfolding files_swept
  files-swept zero k = refl
  files-swept (suc n) k =
      true-and (files_swept d m n) _ (files-swept n (omega arith))
      (file-swept (file_of d n) _ _ (B.each n (omega arith)) (otherwise-zero n cs) (tails-zero n cs) (u n (omega arith)))

  pub reached-swept : swept d m ≡ true
  unfolding swept
  reached-swept = files-swept files (omega arith)

  pub reached-buffers : (i : ℕ) → i < files * places → buffer_at i m.buffers ≡ filled (lies (req_of (place_acc d i)))
  unfolding place_acc place_of
  reached-buffers i h =
      let f : ℕ = i / places in
      let e : places * f + i % places ≡ i = omega arith in
      let k : f < files = omega arith in
      subst (λ (j : ℕ). buffer_at j m.buffers ≡ filled (lies (req_of (acc_of (file_of d f) (i % places))))) e
      (file-buffer (file_of d f) f (i % places) _ m.buffers (omega arith) (B.each f k) (otherwise-zero f cs) (λ z. (u f k z).1))

  pub reached-tails : (f : ℕ) → f < files → OnFile (λ b. tails_zero b.geo (share_at f m.blocks) ≡ true) (file_of d f)
  reached-tails f h = go (file_of d f) (B.each f h) (tails-zero f cs)
    where
      go : (x : File) → FileBytes x (share_at f m.blocks) (buffers_at f m.buffers) → OnFile TailsZero x → OnFile (λ b. tails_zero b.geo (share_at f m.blocks) ≡ true) x
      go unbuilt F t = unfold OnFile in tt
      go (built b) F t = unfold OnFile FileBytes in ap (tails_zero b.geo) F.0 ∙ t
