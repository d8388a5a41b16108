-- A share that holds its store's records can be read: the records are the store's, and the oldest data record is the rules'.
use Prim.Native.Nat.{ℕ, suc, ◌+◌, ◌*◌, ◌/◌, ◌%◌, ◌≤◌, ◌<◌}
use mathlib.Core.Path.{◌≡◌, refl, sym, ap, ◌∙◌}
use mathlib.Core.List.{List, [], ◌∷◌}
use mathlib.Core.Option.{some}
use native.Mathlib.Omega.{arith}
use lib.Dec.{eqb}
use lib.ListN.{length, get_or, drop, length-drop}
use lib.Seq.{get_or-drop, drop-drop}
use borrow.Author.Tests.{eq-eqb, ne_eqb}
use Rattle.words.specs.Word.{word_at}
use Rattle.rules.specs.State.{Rec, Geo, Store}
use Rattle.rules.specs.Store.{used, record_words, block_bytes, advance, advance_by, dropped, discard}
use Rattle.rules.specs.Look as rules
use Rattle.rules.proofs.Split.{by_cases, pick_true, pick-false}
use Rattle.shares.specs.Holds.{Sized, InShare}
use Rattle.shares.specs.Back.{rec_at, used_recs}
use Rattle.shares.specs.Places.{place_of, head_at}
use Rattle.shares.proofs.Ring.{block_inside, ring-inside}
use Rattle.shares.proofs.Taken.{recs-advance}
use Rattle.shares.proofs.Back.{fields}
use Rattle.shares.proofs.Places.{Whole, place_of-stands, place_of-held, head_at-stands}
use Rattle.records.specs.Reading.{Readable}
use Rattle.records.specs.Fetch.{oldest_of, found}

-- a record that stands whole before e
readable : (xs : List ℕ) (p e : ℕ) (r : Rec) → Whole xs p e r → e ≤ length xs → Readable xs p
unfolding Whole record_words
readable xs p e r h l = let f = fields xs p r h.0 in record { low = omega (arith, f.size); inside = omega (arith, f.size, h.1) }

module _ (g : Geo) (s : Store) (o : Sized g) (h : InShare g s) where
  -- each record held can be read
  pub legible : (i : ℕ) → i < length s.recs → Readable s.share (place_of g s.share s.block (s.spent + i))
  unfolding used
  legible i l =
      let u = s.spent + i in
      let d : Rec = record { typ = 0; wid = 0; body = [] } in
      readable s.share (place_of g s.share s.block u) ((s.block + u / g.factor) % g.blocks * block_bytes g + block_bytes g) (get_or (used_recs g s) u d)
      (place_of-stands g s o h u d (omega arith)) (omega (arith, h.long, ring-inside g o (s.block + u / g.factor)))

  pub readable-head : (r : Rec) (rest : List Rec) → s.recs ≡ r ∷ rest → Readable s.share (head_at g s)
  readable-head r rest e = readable s.share (head_at g s) (s.block * block_bytes g + block_bytes g) r (head_at-stands g s r rest o h e) (omega (arith, h.long, block_inside g o s.block h.block))

  -- the records starting at the i-th held
  oldest-from : (l : List Rec) (i : ℕ) → drop i s.recs ≡ l → found s.share (oldest_of g s.share s.block (s.spent + i) (length l)) ≡ rules.oldest l
  unfolding oldest_of found rules.oldest rec_at
  oldest-from [] i e = refl
  oldest-from (r ∷ l) i e =
      let xs = s.share in
      let u = s.spent + i in
      let p = place_of g xs s.block u in
      let n : i < length s.recs = omega (arith, ap length e, length-drop i s.recs) in
      let j : i + 0 ≡ i = omega arith in
      let d : get_or s.recs i r ≡ r = ap (λ (k : ℕ). get_or s.recs k r) (sym j) ∙ (sym (get_or-drop i s.recs 0 r) ∙ ap (λ (q : List Rec). get_or q 0 r) e) in
      let v : rec_at xs p ≡ r = place_of-held g s o h i r n ∙ d in
      let t : eqb (word_at xs (p + 2)) 0 ≡ eqb r.typ 0 = ap (λ (q : Rec). eqb q.typ 0) v in
      let c : drop (i + 1) s.recs ≡ l = sym (drop-drop 1 i s.recs) ∙ ap (drop 1) e in
      let y : suc u ≡ s.spent + (i + 1) = omega arith in
      by_cases (eqb r.typ 0)
      (λ q. ap (found xs) (pick_true (eqb (word_at xs (p + 2)) 0) _ _ (t ∙ q)) ∙ (ap some v ∙ sym (pick_true (eqb r.typ 0) _ _ q)))
      (λ q. ap (found xs) (pick-false (eqb (word_at xs (p + 2)) 0) _ _ (t ∙ q) ∙ ap (λ (k : ℕ). oldest_of g xs s.block k (length l)) y)
      ∙ (oldest-from l (i + 1) c ∙ sym (pick-false (eqb r.typ 0) _ _ q)))

  pub found-oldest : found s.share (oldest_of g s.share s.block s.spent (length s.recs)) ≡ rules.oldest s.recs
  found-oldest = let z : s.spent + 0 ≡ s.spent = omega arith in rw z at (oldest-from s.recs 0 refl)

-- Discard, one record at a time.

module _ (g : Geo) (s : Store) where
  by : List Rec → Store
  by l = advance_by (length (dropped l)) g s

  pub discard-none : s.recs ≡ [] → discard g s ≡ s
  unfolding by discard dropped advance_by
  discard-none e = ap by e

  module _ (r : Rec) (rest : List Rec) (e : s.recs ≡ r ∷ rest) where
    pub discard-stop : r.typ ≡ 0 → discard g s ≡ s
    unfolding by discard dropped advance_by
    discard-stop z = ap by e ∙ ap (λ (l : List Rec). advance_by (length l) g s) (pick_true (eqb r.typ 0) _ _ (eq-eqb r.typ 0 z))

    pub discard-on : (r.typ ≡ 0 → ⊥) → discard g s ≡ discard g (advance g s)
    unfolding by discard dropped advance_by
    discard-on z =
        ap by e
        ∙ ap (λ (l : List Rec). advance_by (length l) g s) (pick-false (eqb r.typ 0) _ _ (ne_eqb r.typ 0 z))
        ∙ ap (λ (l : List Rec). advance_by (length (dropped l)) g (advance g s)) (sym (recs-advance g s r rest e))
