-- A record's type, ID and data, as one part of the share.
use Prim.Native.Nat.{ℕ, suc, ◌+◌, ◌-◌, ◌*◌, ◌/◌, ◌%◌, ◌<◌}
use mathlib.Core.Path.{◌≡◌, sym, ap, ap₂, ◌∙◌}
use mathlib.Core.List.{List, [], ◌∷◌, ◌++◌}
use native.Mathlib.Omega.{arith}
use lib.ListN.{length, get_or, take, drop}
use lib.Seq.{drop-cons}
use Rattle.words.specs.Word.{word, word_at}
use Rattle.rules.specs.Sheet.{rec_frame}
use Rattle.shares.specs.Back.{rec_at}
use Rattle.records.specs.Reading.{Readable}

two : (x y : ℕ) → y < 256 → word (x * 256 + y) ≡ x ∷ y ∷ []
two x y h =
    let a : (x * 256 + y) / 256 ≡ x = omega arith in
    let b : (x * 256 + y) % 256 ≡ y = omega arith in
    rw (a, b)

one : (xs : List ℕ) (a c : ℕ) → a < length xs → c ≡ suc a → drop a xs ≡ get_or xs a 0 ∷ drop c xs
one xs a c h e = drop-cons xs a 0 h ∙ ap (λ (k : ℕ). get_or xs a 0 ∷ drop k xs) (sym e)

module _ (xs : List ℕ) (p : ℕ) (h : Readable xs p) (bytes : (i : ℕ) → get_or xs i 0 < 256) where
  abbrev n : ℕ
  n = word_at xs p

  -- from its type word on a record is the frame that a sheet has of it
  pub frame-part : take n (drop (p + 2) xs) ≡ rec_frame (rec_at xs p)
  unfolding rec_frame rec_at
  frame-part =
      let i : p + 2 < length xs = omega (arith, h.inside, h.low) in
      let j : p + 3 < length xs = omega (arith, h.inside, h.low) in
      let k : p + 4 < length xs = omega (arith, h.inside, h.low) in
      let l : p + 5 < length xs = omega (arith, h.inside, h.low) in
      let m : n ≡ suc (suc (suc (suc (n - 4)))) = omega (arith, h.low) in
      let e₃ : p + 2 + 1 ≡ p + 3 = omega arith in
      let e₅ : p + 4 + 1 ≡ p + 5 = omega arith in
      let s : drop (p + 2) xs ≡ get_or xs (p + 2) 0 ∷ get_or xs (p + 3) 0 ∷ get_or xs (p + 4) 0 ∷ get_or xs (p + 5) 0 ∷ drop (p + 6) xs =
      one xs (p + 2) (p + 3) i (omega arith) ∙ ap (λ (r : List ℕ). get_or xs (p + 2) 0 ∷ r)
      (one xs (p + 3) (p + 4) j (omega arith) ∙ ap (λ (r : List ℕ). get_or xs (p + 3) 0 ∷ r)
      (one xs (p + 4) (p + 5) k (omega arith) ∙ ap (λ (r : List ℕ). get_or xs (p + 4) 0 ∷ r) (one xs (p + 5) (p + 6) l (omega arith))))
      in
      ap₂ {C = List ℕ} take m s ∙ sym
      (ap₂ {C = List ℕ} (λ (a b : List ℕ). a ++ b ++ take (n - 4) (drop (p + 6) xs))
      (two (get_or xs (p + 2) 0) (get_or xs (p + 2 + 1) 0) (bytes (p + 2 + 1)) ∙ ap (λ (z : ℕ). get_or xs (p + 2) 0 ∷ get_or xs z 0 ∷ []) e₃)
      (two (get_or xs (p + 4) 0) (get_or xs (p + 4 + 1) 0) (bytes (p + 4 + 1)) ∙ ap (λ (z : ℕ). get_or xs (p + 4) 0 ∷ get_or xs z 0 ∷ []) e₅))

  -- as the code has it
  pub frame_made : (f : ℕ) → f ≡ n → take (p + 2 + f - (p + 2)) (drop (p + 2) xs) ≡ rec_frame (rec_at xs p)
  frame_made f e = let z : p + 2 + f - (p + 2) ≡ n = omega arith in rw z frame-part
