-- What a read is handed is a part of the share.
use Prim.Native.Nat.{ℕ, ◌+◌, ◌-◌, ◌<◌, min}
use mathlib.Core.Path.{◌≡◌, refl, sym, ap, ◌∙◌}
use mathlib.Core.Bool.{Bool, true, false, cond}
use mathlib.Core.List.{List}
use native.Mathlib.Omega.{arith}
use lib.Dec.{ltb}
use borrow.Author.Tests.{ltb-true, ltb-false}
use lib.ListN.{get_or, take, drop, length-take}
use lib.Seq.{take-take, take_all}
use Rattle.words.specs.Word.{word_at}
use Rattle.rules.specs.Settle.{handed}
use Rattle.rules.specs.Sheet.{rec_frame}
use Rattle.rules.proofs.Split.{by_cases}
use Rattle.shares.specs.Back.{rec_at}
use Rattle.records.specs.Reading.{Readable}
use Rattle.records.proofs.reading.Framed.{frame-part}

-- cut twice
take-least : (k l : ℕ) (xs : List ℕ) → take l (take k xs) ≡ take (min k l) xs
take-least k l xs = by_cases (ltb k l)
    (λ e. let m : min k l ≡ k = omega (arith, ltb-true k l e) in rw m (take_all l (take k xs) (omega (arith, ltb-true k l e, length-take k xs))))
    (λ e. let m : min k l ≡ l = omega (arith, ltb-false k l e) in rw m (take-take l k xs (omega (arith, ltb-false k l e))))

module _ (xs : List ℕ) (p : ℕ) (h : Readable xs p) (bytes : (i : ℕ) → get_or xs i 0 < 256) where
  abbrev n : ℕ
  n = word_at xs p

  cut : (typed : Bool) (limit a k before : ℕ) → before ≡ cond typed 0 4 → k ≡ min (n - before) limit → a ≡ p + 2 + before
      → take k (drop a xs) ≡ handed typed limit (rec_at xs p)
  unfolding handed rec_at rec_frame
  cut true limit a k before e u v =
      let z : n - before ≡ n = omega (arith, e) in
      let w : p + 2 + before ≡ p + 2 = omega (arith, e) in
      rw (u, v, z, w) (sym (take-least n limit (drop (p + 2) xs)) ∙ ap (take limit) (frame-part xs p h bytes))
  cut false limit a k before e u v =
      let w : p + 2 + before ≡ p + 6 = omega (arith, e) in
      rw (u, v, w, e) (sym (take-least (n - 4) limit (drop (p + 6) xs)))

  -- as the code has it
  pub part-handed : (typed : Bool) (limit follow before m : ℕ) → follow ≡ n → before ≡ cond typed 0 4 → m ≡ min (follow - before) limit
      → take (p + 2 + before + m - (p + 2 + before)) (drop (p + 2 + before) xs) ≡ handed typed limit (rec_at xs p)
  part-handed typed limit follow before m e u v =
      let z : p + 2 + before + m - (p + 2 + before) ≡ m = omega arith in
      rw z (cut typed limit (p + 2 + before) m before u (v ∙ ap (λ (k : ℕ). min (k - before) limit) e) refl)
