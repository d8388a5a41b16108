-- What the memories show of the bytes that no call reads is what the definition says of the desk that they stand for; and the steps of the walks over them.
use Prim.Native.Nat.{ℕ, zero, suc, ◌+◌, ◌-◌, ◌*◌, ◌≤◌, ◌<◌}
use mathlib.Core.Path.{◌≡◌, refl, sym, ap, ◌∙◌}
use mathlib.Core.Bool.{Bool, true, false, ◌&&◌, and-false}
use mathlib.Core.List.{List}
use mathlib.Core.Option.{Option, none, some}
use native.Mathlib.Numerals.{add-one}
use native.Mathlib.Omega.{arith}
use native.Mathlib.Nat.{mul_left_comm}
use native.Mathlib.Decide.{ℕ_discrete}
use borrow.Author.Tests.{eq-eqb, ne_eqb}
use lib.ListN.{length}
use Rattle.words.proofs.Parts.{length_part}
use Rattle.rules.specs.Limits.{files, places, share_bytes}
use Rattle.rules.specs.State.{Req, idle, reading, writing, read_done, write_done, Acc, Built, File, unbuilt, built, Geo}
use Rattle.rules.specs.Requests.{acc_at}
use Rattle.rules.specs.Buffers.{lies}
use Rattle.rules.specs.Geometry.{block_size}
use Rattle.rules.specs.Store.{block_bytes}
use Rattle.rules.specs.Desk.{Desk, file_of}
use Rattle.rules.specs.Allocation.{Alloc, place_of}
use Rattle.rules.specs.Memories.{share_at}
use Rattle.rules.proofs.Split.{true-and}
use Rattle.shares.specs.Holds.{Sized}
use Rattle.shares.specs.Tails.{tail_zero, blocks_zero}
use Rattle.laws.specs.Outstanding.{req_of, req_at}
use Rattle.segment.specs.Fields.{place_at}
use Rattle.ring.specs.Ring.{geo}
use Rattle.memory.specs.Memories.{Memories}
use Rattle.memory.specs.Image.{place_words}
use Rattle.memory.specs.Stands.{buffers_at}
use Rattle.memory.specs.Fine.{StandsFor}
use Rattle.memory.specs.Swept.{rests_zero, file_swept, files_swept, swept}
use Rattle.accessors.specs.Accessors.{words_at}
use Rattle.accessors.specs.Sides.{side_of}
use Rattle.accessors.proofs.Counted.{side-is}
use Rattle.accessors.proofs.Rows.{shown}
use Rattle.accessors.proofs.Names.{words-none, words-some}
use Rattle.midst.specs.declared.File as hand
use Rattle.midst.proofs.FileStands.{row_is, held-file}
use Rattle.board.specs.Requests.{request_of}
use Rattle.board.specs.Swept.{every, size_of, size_on, size_at, rest_zero, rests_at, row_file, geo_at, FittedAt, built_zero, parts_zero, file_zero, files_zero}
use Rattle.board.proofs.Found.{request-is}

-- each of the first n numbers

module _ (t : ℕ → Bool) where
  pub every_on : (n : ℕ) → every t n ≡ true → t n ≡ true → every t (n + 1) ≡ true
  unfolding every
  every_on n h k = rw (add-one n) (true-and (every t n) (t n) h k)

  pub every_bad : (m n : ℕ) → n < m → t n ≡ false → every t m ≡ false
  unfolding every
  every_bad zero n l h = absurd (omega arith)
  every_bad (suc m) n l h = go (ℕ_discrete n m) (λ k. every_bad m n k h)
    where
      go : Dec (n ≡ m) → (n < m → every t m ≡ false) → every t m && t m ≡ false
      go (yes e) r = rw (sym (ap t e) ∙ h) (and-false (every t m))
      go (no e) r = rw (r (omega arith))

  pub every_end : (m n : ℕ) → n ≤ m → m ≤ n → every t n ≡ true → every t m ≡ true
  every_end m n l k h = let e : m ≡ n = omega arith in rw e h

-- the blocks of a share

module _ (g : Geo) (xs : List ℕ) (k n : ℕ) where
  pub blocks_bad : k < n → tail_zero g xs (k * block_bytes g) ≡ false → blocks_zero g xs k (n - k) ≡ false
  unfolding blocks_zero
  blocks_bad o h = let z : n - k ≡ suc (n - (k + 1)) = omega arith in rw (z, h)

  pub blocks_on : k < n → tail_zero g xs (k * block_bytes g) ≡ true → blocks_zero g xs k (n - k) ≡ blocks_zero g xs (k + 1) (n - (k + 1))
  unfolding blocks_zero
  blocks_on o h = let z : n - k ≡ suc (n - (k + 1)) = omega arith in rw (z, h, add-one k)

  pub blocks_end : n ≤ k → blocks_zero g xs k (n - k) ≡ true
  unfolding blocks_zero
  blocks_end o = let z : n - k ≡ 0 = omega arith in rw z

-- where the last block ends
pub end-inside : (g : Geo) → Sized g → g.blocks * block_bytes g ≤ share_bytes
unfolding block_bytes
end-inside g o = omega (arith, mul_left_comm g.blocks 2 (block_size g.words g.factor), o.fits)

-- what lies in a buffer

request-size : (b : Built) (p : ℕ) (q : Req) → size_of (request_of b p q) ≡ length (lies q)
unfolding size_of request_of lies
request-size b p idle = refl
request-size b p (reading q) = refl
request-size b p (writing q) = refl
request-size b p (read_done q) = refl
request-size b p (write_done q) = refl

module _ {m : Memories} {d : Desk} {s : Alloc} (S : StandsFor m d s) (f : ℕ) (hf : f < files) where
  -- a built file
  module _ (b : Built) (is : file_of d f ≡ built b) where
    size_is : (p : ℕ) → p < places → size_at m.segment f p ≡ length (lies (req_at b.accs p))
    unfolding size_on side_of req_of lies acc_at place_of
    size_is p h = go (acc_at b p) refl
      where
        go : (o : Option Acc) → acc_at b p ≡ o → size_on m.segment f p (place_at m.segment (places * f + p)).side ≡ length (lies (req_of (acc_at b p)))
        go none e = rw (side-is m.segment (places * f + p) none ((shown S f hf b is).rows p h ∙ ap place_words e), e)
        go (some a) e =
            rw (side-is m.segment (places * f + p) (some a) ((shown S f hf b is).rows p h ∙ ap place_words e), e, ne_eqb (side_of (some a)) 0 (λ z. omega arith), request-is S f hf b is p h a e)
            (request-size b p a.req)

    rests-are : (xs : List ℕ) (n : ℕ) → n ≤ places → every (λ p. rest_zero xs p (size_at m.segment f p)) n ≡ rests_zero b.accs xs n
    unfolding every rests_zero rest_zero
    rests-are xs zero h = refl
    rests-are xs (suc n) h = rw (rests-are xs n (omega arith), size_is n (omega arith))

    geo-is : geo_at m.segment f ≡ b.geo
    geo-is = ap (λ (x : hand.File). geo x.words x.ring) (row_is S f hf b is)

    built-is : (share buffers : List ℕ) → built_zero m.segment f share buffers ≡ file_swept (built b) share buffers
    unfolding built_zero file_swept rests_at
    built-is share buffers = rw (geo-is, rests-are buffers places (omega arith))

    pub built-fitted : FittedAt m.segment f
    built-fitted = (held-file S f hf b is (row_file m.segment f) (share_at f m.blocks) refl refl).fitted

  -- the lengths of its parts
  pub share-long : length (share_at f m.blocks) ≡ share_bytes
  share-long = length_part m.blocks share_bytes files f S.stands.bodies.blocks-size hf

  parts_are : (share buffers : List ℕ) (x : File) → file_of d f ≡ x → parts_zero m.segment f share buffers ≡ file_swept x share buffers
  unfolding parts_zero
  parts_are share buffers unbuilt e = rw (eq-eqb (words_at m.segment f) 0 (words-none S f hf e))
  parts_are share buffers (built b) e =
      let w = words-some S f hf b e in
      rw (ne_eqb (words_at m.segment f) 0 (λ z. omega (arith, w.0, w.1))) (built-is b e share buffers)

  file-is : file_zero m f ≡ file_swept (file_of d f) (share_at f m.blocks) (buffers_at f m.buffers)
  unfolding file_zero
  file-is = parts_are (share_at f m.blocks) (buffers_at f m.buffers) (file_of d f) refl

module _ {m : Memories} {d : Desk} {s : Alloc} (S : StandsFor m d s) where
  files-are : (n : ℕ) → n ≤ files → every (file_zero m) n ≡ files_swept d m n
  unfolding every files_swept
  files-are zero h = refl
  files-are (suc n) h = rw (files-are n (omega arith), file-is S n (omega arith))

  -- the test of the memories is the definition's
  pub swept_is : files_zero m ≡ swept d m
  unfolding files_zero swept
  swept_is = files-are files (omega arith)
