-- The midst of packing: `left` frames of the text are left, and with their records put too the store in the share is the whole.
use Prim.Native.Nat.{ℕ, ◌+◌, ◌-◌, ◌*◌, ◌≤◌, ◌<◌}
use mathlib.Core.Bool.{true}
use mathlib.Core.Path.{◌≡◌, refl, sym, ap, subst, ◌∙◌}
use mathlib.Core.List.{List, ◌∷◌}
use native.Mathlib.Omega.{arith}
use lib.ListN.{length, length-drop}
use lib.Seq.{sets, length-sets}
use Rattle.words.specs.Word.{zeros, word_at}
use Rattle.words.proofs.Parts.{part-own, sets-again}
use Rattle.words.proofs.Runs.{length-zeros}
use Rattle.rules.specs.Limits.{files, share_bytes}
use Rattle.rules.specs.State.{Rec, Geo, Store}
use Rattle.rules.specs.Geometry.{capacity}
use Rattle.rules.specs.Store.{used, record_words, empty_store, put, put_all}
use Rattle.rules.specs.Memories.{share_at}
use Rattle.rules.specs.Sheet.{good_rec, rec_of}
use Rattle.shares.specs.Holds.{InShare}
use Rattle.shares.proofs.Image.{record_words-most}
use Rattle.shares.proofs.Holds.{holds-empty}
use Rattle.shares.proofs.Put.{holds-put}
use Rattle.shares.proofs.PutAll.{used-put}
use Rattle.laws.specs.Changes.{GoodGeo}
use Rattle.laws.proofs.Room.{good-sized}
use Rattle.ring.specs.Ring.{ring_of}
use Rattle.blocks.specs.Writing.{Ready, inscribed}
use Rattle.blocks.specs.Memory.{blocks_bytes}
use Rattle.ring.proofs.Stores.{ring-put}
use Rattle.blocks.proofs.writing.Stores.{ready, inscribed-put}
use Rattle.reader.proofs.Rounds.{size-most}
use Rattle.reader.specs.Frames.{frame_at, next_at}
use Rattle.reader.specs.Sheets.{recs_from, good_from}
use Rattle.reader.proofs.Records.{rec-good, recs-step, recs-end, good-step}
use Rattle.midst.specs.declared.File.{File}
use Rattle.store.specs.Door.{put_in}

-- the file in hand with the store s
abbrev pub hand : Geo → Store → File
hand g s = record { words = g.words; ring = ring_of g s }

pub record Packs (g : Geo) (whole : Store) (f : ℕ) (start t : List ℕ) (at left : ℕ) (x : File) (blocks : List ℕ) : Type 0 where
  pub geo : GoodGeo g
  pub low : f < files
  pub long : length start ≡ blocks_bytes
  pub store : Store
  pub holds : InShare g store
  pub file : x ≡ hand g store
  pub share : blocks ≡ sets start (share_bytes * f) store.share
  pub rest : put_all g (recs_from t at left) store ≡ whole
  pub room : used store + left ≤ capacity g.factor g.blocks
  pub good : good_from g.words t at left ≡ true

-- a share within the blocks
share-fits : (f : ℕ) → f < files → share_bytes * f + share_bytes ≤ blocks_bytes
share-fits f h = omega arith

module _ {g : Geo} {whole : Store} {f : ℕ} {start t : List ℕ} {at left : ℕ} {x : File} {blocks : List ℕ} (P : Packs g whole f start t at left x blocks) where
  packs-share : share_at f blocks ≡ P.store.share
  packs-share = ap (share_at f) P.share ∙ part-own start P.store.share share_bytes files f P.long P.low P.holds.long

  -- a frame is handed out, and its record is put
  module _ (frame : List ℕ) (e : frame ≡ frame_at t at) (more : 0 < left) where
    step : (good_rec g.words frame ≡ true) × (good_from g.words t (next_at t at) (left - 1) ≡ true)
    step = rw e (good-step g.words t at left more P.good)

    recs : recs_from t at left ≡ rec_of frame ∷ recs_from t (next_at t at) (left - 1)
    recs = recs-step t at left more ∙ rw (← e) refl

    pub frame-long : 4 ≤ length frame
    frame-long = (rec-good g.words frame step.0).0

    fits : record_words (rec_of frame) ≤ g.words + 3
    unfolding rec_of
    fits =
        let k = rec-good g.words frame step.0 in
        record_words-most g.words (rec_of frame) (omega (arith, length-drop 4 frame, k.3, size-most g.words (word_at frame 0)))

    pub packs-ready : Ready x.words x.ring (share_at f blocks) (length (rec_of frame).body)
    packs-ready =
        rw (packs-share, P.file) (ready g P.store (rec_of frame) (good-sized g P.geo) P.geo.words-high P.geo.factor-high fits P.holds)

    pub packs-put : (x' : File) (blocks' : List ℕ) → x' ≡ put_in x → blocks' ≡ sets blocks (share_bytes * f) (inscribed x.words x.ring (rec_of frame) (share_at f blocks))
        → Packs g whole f start t (next_at t at) (left - 1) x' blocks'
    packs-put x' blocks' ex eb =
        let s : Store = P.store in
        let r : Rec = rec_of frame in
        let i : inscribed x.words x.ring r (share_at f blocks) ≡ (put g r s).share = rw (packs-share, P.file) (inscribed-put g s r (good-sized g P.geo) P.holds) in
        let h : InShare g (put g r s) = holds-put g r s (good-sized g P.geo) fits (omega (arith, P.room)) P.holds in
        record {
          geo = P.geo;
          low = P.low;
          long = P.long;
          store = put g r s;
          holds = h;
          file = ex ∙ rw (P.file, ring-put g r s) refl;
          share = eb ∙ rw (i, P.share) (sets-again start s.share (put g r s).share (share_bytes * f) (P.holds.long ∙ sym h.long) (omega (arith, h.long, P.long, share-fits f P.low)));
          rest = unfold put_all in rw (recs, put_all) at P.rest;
          room = omega (arith, P.room, used-put g r s);
          good = step.1;
        }

  -- no frame is left
  packs-all : left ≤ 0 → P.store ≡ whole
  unfolding put_all
  packs-all z = ap (λ (rs : List Rec). put_all g rs P.store) (sym (recs-end t at left z)) ∙ P.rest

  pub packs-file : left ≤ 0 → x ≡ hand g whole
  packs-file z = P.file ∙ ap (hand g) (packs-all z)

  pub packs-whole : left ≤ 0 → InShare g whole
  packs-whole z = subst (InShare g) (packs-all z) P.holds

  pub packs-blocks : left ≤ 0 → blocks ≡ sets start (share_bytes * f) whole.share
  packs-blocks z = P.share ∙ ap (λ (s : Store). sets start (share_bytes * f) s.share) (packs-all z)

-- the share is zeroed
module _ (blocks cleared : List ℕ) (f : ℕ) (h : f < files) (l : length blocks ≡ blocks_bytes) (e : cleared ≡ sets blocks (share_bytes * f) (zeros share_bytes)) where
  cleared-long : length cleared ≡ blocks_bytes
  cleared-long = ap length e ∙ length-sets blocks (share_bytes * f) (zeros share_bytes) ∙ l

  pub cleared-sets : (zs : List ℕ) → length zs ≡ share_bytes → sets cleared (share_bytes * f) zs ≡ sets blocks (share_bytes * f) zs
  cleared-sets zs k = rw e (sets-again blocks (zeros share_bytes) zs (share_bytes * f) (length-zeros share_bytes ∙ sym k) (omega (arith, share-fits f h)))

  pub packs-begin : (g : Geo) (whole : Store) (t : List ℕ) (at left : ℕ) (x : File) → GoodGeo g → left ≤ capacity g.factor g.blocks → good_from g.words t at left ≡ true
      → x ≡ hand g empty_store → put_all g (recs_from t at left) empty_store ≡ whole → Packs g whole f cleared t at left x cleared
  packs-begin g whole t at left x k c d i w = record {
    geo = k;
    low = h;
    long = cleared-long;
    store = empty_store;
    holds = holds-empty g (good-sized g k);
    file = i;
    share = unfold empty_store in e ∙ sym (cleared-sets (zeros share_bytes) (length-zeros share_bytes));
    rest = w;
    room = unfold used empty_store in omega arith;
    good = d;
  }
