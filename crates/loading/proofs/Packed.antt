-- The records that a sheet says, packed: what the loop begins with, and what it leaves.
use Prim.Native.Nat.{ℕ, ◌*◌, ◌≤◌, ◌<◌}
use mathlib.Core.Path.{◌≡◌, refl, ◌∙◌}
use Rattle.std.specs.Prelude.{Some}
use mathlib.Core.List.{List}
use mathlib.Core.Option.{some}
use native.Mathlib.Omega.{arith}
use lib.ListN.{length}
use lib.Seq.{sets}
use Rattle.words.specs.Word.{zeros}
use Rattle.rules.specs.Limits.{files, share_bytes}
use Rattle.rules.specs.Store.{empty_store}
use Rattle.rules.specs.Requests.{say}
use Rattle.rules.specs.Open.{new_file}
use Rattle.rules.specs.Sheet.{Sheet, read_sheet, loaded}
use Rattle.laws.proofs.Made.{sheet-good}
use Rattle.blocks.specs.Memory.{blocks_bytes}
use Rattle.reader.specs.declared.Head.{Head}
use Rattle.reader.specs.Sheets.{head_of}
use Rattle.reader.proofs.Sheets.{sheet-reads}
use Rattle.midst.specs.declared.File.{File}
use Rattle.midst.specs.File.{in_hand}
use Rattle.loading.specs.LaidOut.{file_of_head}
use Rattle.loading.proofs.Packs.{Packs, packs-file, packs-whole, packs-blocks, cleared-sets, packs-begin}

-- the midst of packing the records of the sheet s
abbrev pub Packing : Sheet → ℕ → List ℕ → List ℕ → ℕ → ℕ → File → List ℕ → Type 0
Packing s = Packs s.geo (loaded s).store

module _ (t : List ℕ) (s : Sheet) (e : read_sheet t ≡ some s) (blocks cleared : List ℕ) (f : ℕ) (low : f < files) (l : length blocks ≡ blocks_bytes) (z : cleared ≡ sets blocks (share_bytes * f) (zeros share_bytes)) where
  -- the share is zeroed, and the reader stands behind the head
  pub pack-begins : (h : Head) → head_of t ≡ Some h → (x : File) → x ≡ file_of_head h → Packing s f cleared t h.at h.held x cleared
  unfolding loaded say new_file empty_store
  pack-begins h k x i =
      let G = sheet-good t s e in
      let R = sheet-reads t s e h k in
      packs-begin blocks cleared f low l z s.geo (loaded s).store t h.at h.held x G.geo (omega (arith, G.few, R.held)) (rw R.geo R.good) (i ∙ rw R.geo refl) (rw (← R.recs) refl)

  -- no record is left
  pub pack-ends : (at left : ℕ) (x : File) (blocks' : List ℕ) → Packing s f cleared t at left x blocks' → left ≤ 0 → (x ≡ in_hand (loaded s)) × (blocks' ≡ sets blocks (share_bytes * f) (loaded s).store.share)
  unfolding loaded say new_file
  pack-ends at left x blocks' P o = (packs-file P o, packs-blocks P o ∙ cleared-sets blocks cleared f low l z (loaded s).store.share (packs-whole P o).long)
