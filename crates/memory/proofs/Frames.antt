-- One share and one record buffer among the others: what a store changes, and what it leaves.
use Prim.Native.Nat.{ℕ, zero, suc, ◌+◌, ◌*◌, ◌-◌, ◌≤◌, ◌<◌}
use mathlib.Core.Path.{◌≡◌, sym, ap, ◌∙◌}
use mathlib.Core.List.{List, [], ◌∷◌}
use mathlib.Core.Logic.{◌⊎◌, inl, inr}
use native.Mathlib.Omega.{arith}
use native.Mathlib.Nat.{zero-add, suc-add}
use native.Mathlib.Decide.{ℕ_discrete, dec_lt}
use lib.ListN.{length, take, drop}
use lib.Seq.{sets, drop-drop, take-nil, take-take}
use Rattle.rules.specs.Limits.{files, places, share_bytes, buffer_bytes}
use Rattle.rules.specs.State.{Req, File, Built}
use Rattle.rules.specs.Desk.{Desk, file_of, with_file}
use Rattle.rules.specs.Memories.{buffer_at, share_at}
use Rattle.rules.specs.Buffers.{lies, filled, refilled}
use Rattle.rules.specs.Allocation.{place_of}
use Rattle.rules.proofs.Buffers.{length-filled}
use Rattle.laws.specs.Outstanding.{req_at}
use Rattle.laws.specs.Lying.{Lying}
use Rattle.laws.specs.EightFiles.{EightFiles}
use Rattle.laws.proofs.EightFiles.{file-other, file-same}
use Rattle.memory.specs.Memories.{Memories}
use Rattle.memory.specs.Stands.{buffers_at, FileBytes, Bodies}
use Rattle.words.specs.Word.{Bytes}
use Rattle.memory.proofs.Parts.{part, part-sets, part-sets-other}

-- stores in the share of file f
module _ (f a : ℕ) (vs x : List ℕ) (h : a + length vs ≤ share_bytes) where
  pub share_at-sets : share_at f (sets x (share_bytes * f + a) vs) ≡ sets (share_at f x) a vs
  unfolding part
  share_at-sets = part-sets share_bytes f a vs x h

  pub share_at-sets-other : (g : ℕ) → (g ≡ f → ⊥) → share_at g (sets x (share_bytes * f + a) vs) ≡ share_at g x
  unfolding part
  share_at-sets-other g d = part-sets-other share_bytes g (share_bytes * f + a) vs x (go (dec_lt f g))
    where
      go : Dec (f < g) → (share_bytes * f + a + length vs ≤ share_bytes * g) ⊎ (share_bytes * g + share_bytes ≤ share_bytes * f + a)
      go (yes k) = inl (omega arith)
      go (no k) = let m : g < f = omega arith in inr (omega arith)

-- a file's eight buffers, one by one

drop-take : (k m : ℕ) (l : List ℕ) → drop k (take (k + m) l) ≡ take m (drop k l)
drop-take zero m l = rw (zero-add m)
drop-take (suc k) m [] = rw (suc-add k m) (sym (take-nil m))
drop-take (suc k) m (y ∷ l) = rw (suc-add k m) (drop-take k m l)

-- the bytes of a file's buffers
abbrev pub file_bytes : ℕ
file_bytes = places * buffer_bytes

pub buffers_at-part : (f p : ℕ) (x : List ℕ) → p < places → part buffer_bytes p (buffers_at f x) ≡ buffer_at (place_of f p) x
unfolding part buffers_at place_of
buffers_at-part f p x h =
    let m : ℕ = file_bytes - buffer_bytes * p in
    let e : file_bytes ≡ buffer_bytes * p + m = omega arith in
    let i : file_bytes * f + buffer_bytes * p ≡ buffer_bytes * (places * f + p) = omega arith in
    let c : drop (buffer_bytes * p) (take file_bytes (drop (file_bytes * f) x)) ≡ take m (drop (buffer_bytes * p) (drop (file_bytes * f) x)) =
    ap (λ k. drop (buffer_bytes * p) (take k (drop (file_bytes * f) x))) e ∙ drop-take (buffer_bytes * p) m (drop (file_bytes * f) x)
    in
    ap (take buffer_bytes) c ∙ take-take buffer_bytes m (drop (buffer_bytes * p) (drop (file_bytes * f) x)) (omega arith) ∙ ap (take buffer_bytes) (drop-drop (buffer_bytes * p) (file_bytes * f) x ∙ ap (λ k. drop k x) i)

-- what a request says lies in the buffer of its place
pub lies-there : (f p : ℕ) (x : List ℕ) (b : Built) → Lying b → buffers_at f x ≡ b.buffers → p < places
    → take (length (lies (req_at b.accs p))) (buffer_at (place_of f p) x) ≡ lies (req_at b.accs p)
lies-there f p x b L e h =
    ap (take (length (lies (req_at b.accs p)))) (sym (buffers_at-part f p x h) ∙ ap (λ (ys : List ℕ). part buffer_bytes p ys) e)
    ∙ (unfold part in L.each p h)

-- the buffer of place p of file f is filled anew, where its request is q now
module _ (f p : ℕ) (q : Req) (x : List ℕ) (h : p < places) (n : length (lies q) ≤ buffer_bytes) where
  pub buffers_at-refilled : buffers_at f (sets x (buffer_bytes * place_of f p) (filled (lies q))) ≡ refilled p q (buffers_at f x)
  unfolding part buffers_at place_of refilled
  buffers_at-refilled =
      let e : buffer_bytes * (places * f + p) ≡ file_bytes * f + buffer_bytes * p = omega arith in
      rw e (part-sets file_bytes f (buffer_bytes * p) (filled (lies q)) x (omega (arith, length-filled (lies q) n)))

  pub buffers_at-apart : (g : ℕ) → (g ≡ f → ⊥) → buffers_at g (sets x (buffer_bytes * place_of f p) (filled (lies q))) ≡ buffers_at g x
  unfolding part buffers_at place_of
  buffers_at-apart g d = part-sets-other file_bytes g (buffer_bytes * (places * f + p)) (filled (lies q)) x (go (dec_lt f g))
    where
      go : Dec (f < g) → (buffer_bytes * (places * f + p) + length (filled (lies q)) ≤ file_bytes * g) ⊎ (file_bytes * g + file_bytes ≤ buffer_bytes * (places * f + p))
      go (yes k) = inl (omega (arith, length-filled (lies q) n))
      go (no k) = let m : g < f = omega arith in inr (omega arith)

-- a change of one file
pub bodies-file : (d : Desk) (m m' : Memories) (f : ℕ) (y : File) → Bodies m d → EightFiles d → f < files → Bytes m'.blocks → Bytes m'.buffers
    → length m'.blocks ≡ length m.blocks → length m'.buffers ≡ length m.buffers
    → ((g : ℕ) → g < files → (g ≡ f → ⊥) → (share_at g m'.blocks ≡ share_at g m.blocks) × (buffers_at g m'.buffers ≡ buffers_at g m.buffers))
    → FileBytes y (share_at f m'.blocks) (buffers_at f m'.buffers) → Bodies m' (with_file d f y)
bodies-file d m m' f y S n h bx bb ex eb other here = record {
  blocks-bytes = bx;
  buffers-bytes = bb;
  blocks-size = ex ∙ S.blocks-size;
  buffers-size = eb ∙ S.buffers-size;
  each = λ g k. go g k (ℕ_discrete g f);
}
  where
    go : (g : ℕ) → g < files → Dec (g ≡ f) → FileBytes (file_of (with_file d f y) g) (share_at g m'.blocks) (buffers_at g m'.buffers)
    go g k (yes u) = rw (u, file-same d f y n h) here
    go g k (no u) = let (p, q) = other g k u in rw (p, q, file-other d f g y u) (S.each g k)
