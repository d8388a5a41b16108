-- Where the oldest data record stands in the share.
use Prim.Native.Nat.{ℕ, suc, ◌+◌, ◌-◌, ◌≤◌, ◌<◌}
use mathlib.Core.Path.{◌≡◌, refl, sym, ap, ◌∙◌}
use mathlib.Core.Bool.{false≢true}
use mathlib.Core.List.{List, [], ◌∷◌}
use mathlib.Core.Option.{none, some}
use native.Mathlib.Omega.{arith}
use lib.Dec.{eqb}
use lib.ListN.{length, get_or, take, drop, length-drop}
use lib.Seq.{length-take-le, get_or-drop, drop-drop}
use Rattle.words.specs.Word.{word_at}
use Rattle.rules.specs.Limits.{share_bytes}
use Rattle.rules.specs.State.{Rec, Geo, Store}
use Rattle.rules.specs.Look.{oldest}
use Rattle.rules.proofs.Split.{by_cases, pick_true, pick-false}
use Rattle.shares.specs.Holds.{Sized, InShare}
use Rattle.shares.specs.Back.{rec_at}
use Rattle.shares.specs.Places.{place_of}
use Rattle.shares.proofs.Places.{place_of-held}
use Rattle.std.specs.Prelude as std
use Rattle.records.specs.Reading.{Readable}
use Rattle.records.specs.Fetch.{oldest_of, found}
use Rattle.records.proofs.reading.Stores.{legible, found-oldest}
use Rattle.promises.specs.Parts.{before}

-- the oldest data record is one of the records
before-low : (l : List Rec) (r : Rec) → oldest l ≡ some r → before l < length l
unfolding oldest before
before-low [] r e = absurd (false≢true cc)
before-low (q ∷ l) r e =
    by_cases (eqb q.typ 0)
    (λ z. rw (before, z) (omega arith))
    (λ z. rw (before, z) (let h = before-low l r (sym (pick-false (eqb q.typ 0) _ _ z) ∙ e) in omega (arith, h)))

-- the places in two equal findings are equal
at_same : (p q : ℕ) → ◌≡◌ {A = std.Option ℕ} (std.Some p) (std.Some q) → p ≡ q
at_same p q e = cc

at_none : (p : ℕ) → ◌≡◌ {A = std.Option ℕ} std.None (std.Some p) → ⊥
at_none p e = absurd (false≢true cc)

module _ (g : Geo) (s : Store) (o : Sized g) (h : InShare g s) where
  abbrev xs : List ℕ
  xs = s.share

  -- the oldest data record among those starting at the i-th held
  place-from : (l : List Rec) (i : ℕ) → drop i s.recs ≡ l → (q : ℕ) → oldest_of g s.share s.block (s.spent + i) (length l) ≡ std.Some q
      → q ≡ place_of g s.share s.block (s.spent + (i + before l))
  unfolding oldest_of before rec_at
  place-from [] i e q k = absurd (at_none q k)
  place-from (r ∷ l) i e q k =
      let p = place_of g xs s.block (s.spent + i) in
      let n : i < length s.recs = omega (arith, ap length e, length-drop i s.recs) in
      let j : i + 0 ≡ i = omega arith in
      let d : get_or s.recs i r ≡ r = ap (λ (m : ℕ). get_or s.recs m r) (sym j) ∙ (sym (get_or-drop i s.recs 0 r) ∙ ap (λ (m : List Rec). get_or m 0 r) e) in
      let t : eqb (word_at xs (p + 2)) 0 ≡ eqb r.typ 0 = ap (λ (m : Rec). eqb m.typ 0) (place_of-held g s o h i r n ∙ d) in
      let c : drop (i + 1) s.recs ≡ l = sym (drop-drop 1 i s.recs) ∙ ap (drop 1) e in
      let y : suc (s.spent + i) ≡ s.spent + (i + 1) = omega arith in
      by_cases (eqb r.typ 0)
      (λ z. at_same q p (sym k ∙ pick_true (eqb (word_at xs (p + 2)) 0) _ _ (t ∙ z))
      ∙ ap (λ (m : ℕ). place_of g xs s.block (s.spent + m)) (sym j ∙ ap (λ (m : ℕ). i + m) (sym (pick_true (eqb r.typ 0) _ _ z))))
      (λ z. let w : oldest_of g xs s.block (s.spent + (i + 1)) (length l) ≡ std.Some q =
      ap (λ (m : ℕ). oldest_of g xs s.block m (length l)) (sym y) ∙ (sym (pick-false (eqb (word_at xs (p + 2)) 0) _ _ (t ∙ z)) ∙ k) in
      let u : i + 1 + before l ≡ i + suc (before l) = omega arith in
      place-from l (i + 1) c q w ∙ ap (λ (m : ℕ). place_of g xs s.block (s.spent + m)) (u ∙ ap (λ (m : ℕ). i + m) (sym (pick-false (eqb r.typ 0) _ _ z))))

  -- the place of the oldest data record: the spent records and those before it come first
  pub oldest-place : (q : ℕ) → oldest_of g s.share s.block s.spent (length s.recs) ≡ std.Some q → q ≡ place_of g s.share s.block (s.spent + before s.recs)
  oldest-place q k =
      let z : s.spent + 0 ≡ s.spent = omega arith in
      let y : 0 + before s.recs ≡ before s.recs = omega arith in
      rw y at (place-from s.recs 0 refl q (rw z k))

  -- what the search finds is the rules'
  pub oldest-some : (q : ℕ) → oldest_of g s.share s.block s.spent (length s.recs) ≡ std.Some q → oldest s.recs ≡ some (rec_at s.share q)
  unfolding found
  oldest-some q k = sym (found-oldest g s o h) ∙ ap (found xs) k

  pub oldest-none : oldest_of g s.share s.block s.spent (length s.recs) ≡ std.None → oldest s.recs ≡ none
  unfolding found
  oldest-none k = sym (found-oldest g s o h) ∙ ap (found xs) k

  -- the oldest data record stands at its place
  pub oldest-stands : (r : Rec) → oldest s.recs ≡ some r → rec_at s.share (place_of g s.share s.block (s.spent + before s.recs)) ≡ r
  unfolding found
  oldest-stands r e = go (oldest_of g xs s.block s.spent (length s.recs)) refl (found-oldest g s o h ∙ e)
    where
      go : (x : std.Option ℕ) → oldest_of g xs s.block s.spent (length s.recs) ≡ x → found xs x ≡ some r
          → rec_at xs (place_of g xs s.block (s.spent + before s.recs)) ≡ r
      go (std.Some q) k w = ap (rec_at xs) (sym (oldest-place q k)) ∙ cc
      go std.None k w = absurd (false≢true cc)

  -- the data of the oldest data record lie after three words
  pub oldest-body : (r : Rec) → oldest s.recs ≡ some r → let q : ℕ = place_of g s.share s.block (s.spent + before s.recs) in
      (q + 6 + length r.body ≤ share_bytes) × (take (length r.body) (drop (q + 6) s.share) ≡ r.body)
  unfolding rec_at
  oldest-body r e =
      let q : ℕ = place_of g xs s.block (s.spent + before s.recs) in
      let k : Readable xs q = legible g s o h (before s.recs) (before-low s.recs r e) in
      let i : (rec_at xs q).body ≡ r.body = ap (λ (t : Rec). t.body) (oldest-stands r e) in
      let n : length r.body ≡ word_at xs q - 4 =
      ap length (sym i) ∙ length-take-le (word_at xs q - 4) (drop (q + 6) xs) (rw length-drop (omega (arith, k.low, k.inside))) in
      (omega (arith, k.low, k.inside, h.long), ap (λ (m : ℕ). take m (drop (q + 6) xs)) n ∙ i)
