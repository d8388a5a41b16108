-- The walk of one list: it goes well exactly where the links make a chain of entries that were not met before and pass the list's test.
use Prim.Native.Nat.{ℕ, zero, suc, ◌<◌}
use mathlib.Core.Bool.{Bool, true, false, false≢true, ◌&&◌}
use mathlib.Core.Path.{◌≡◌, refl, sym, ap, ◌∙◌}
use mathlib.Core.List.{List, [], ◌∷◌}
use native.Mathlib.Omega.{arith}
use borrow.Author.Tests.{ltb-true, lt-ltb, eqb-true, eq-eqb}
use lib.Dec.{ltb, eqb}
use lib.ListN.{length, get_or, set}
use Rattle.rules.specs.Limits.{entries}
use Rattle.rules.proofs.Split.{by_cases, pick_true, pick-false, and-true, true-and}
use Rattle.segment.specs.Layout.{nil, link_at}
use Rattle.segment.specs.Table.{nth}
use Rattle.ports.specs.Lists.{Chain}
use Rattle.sound.specs.Walks.{Walked, walked, entry_word}
use Rattle.decision.proofs.lists.Marks.{marks, Met}
use Rattle.decision.proofs.lists.Stage.{Found, Stage}

-- a kind of list: the test of an entry, by the marks on places and the seconds of the entry before; and the marks on places after it
pub record Kind : Type 0 where
  pub test : List ℕ → ℕ → ℕ → Bool
  pub mark : List ℕ → ℕ → List ℕ

-- the marks on places after the entries xs
unfoldable pub after : Kind → List ℕ → List ℕ → List ℕ
after k busy [] = busy
after k busy (x ∷ xs) = after k (k.mark busy x) xs

module _ (s : List ℕ) (k : Kind) where
  -- each of xs passes when it is met
  unfoldable pub Pass : ℕ → List ℕ → List ℕ → Type 0
  Pass low busy [] = Unit {0}
  Pass low busy (x ∷ xs) = (k.test busy low x ≡ true) × Pass (entry_word s x 7) (k.mark busy x) xs

  -- fewer than n entries, starting at slot p
  abbrev pub Passing : ℕ → ℕ → ℕ → List ℕ → List ℕ → Type 0
  Passing n low p busy xs = (length xs < n) × Chain s p xs × Pass low busy xs

  abbrev WellFound : ℕ → ℕ → ℕ → List ℕ → List ℕ → Walked → Type 0
  WellFound n low p seen busy w = Found (λ xs. xs) (Passing n low p) (after k) seen busy w

  nil-found : (n low p : ℕ) (seen busy : List ℕ) (w : Walked) → nth s p ≡ nil → w ≡ walked true seen busy → WellFound (suc n) low p seen busy w
  unfolding Chain Met marks Pass after
  nil-found n low p seen busy w c e = record { it = []; holds = (omega arith, c, tt); fresh = tt; is = e }

  cons-found : (n low p x : ℕ) (seen busy : List ℕ) (w : Walked) → nth s p ≡ x → x < entries → get_or seen x 0 ≡ 0 → k.test busy low x ≡ true
      → WellFound n (entry_word s x 7) (link_at x) (set seen x 1) (k.mark busy x) w → WellFound (suc n) low p seen busy w
  unfolding Chain Met marks Pass after
  cons-found n low p x seen busy w e h z t r = record {
    it = x ∷ r.it;
    holds = (omega (arith, r.holds.0), (e, h, r.holds.1), (t, r.holds.2));
    fresh = (z, r.fresh);
    is = r.is;
  }

  -- a function that takes the turns of such a walk
  module _ (W : ℕ → ℕ → List ℕ → List ℕ → ℕ → Walked) (none : (low p : ℕ) (seen busy : List ℕ) → W low p seen busy 0 ≡ walked false seen busy)
      (turn : (low p : ℕ) (seen busy : List ℕ) (n : ℕ) → W low p seen busy (suc n)
      ≡ elim (ltb (nth s p) entries) as (λ (b : Bool). Walked) [
        | false ↦ walked (eqb (nth s p) nil) seen busy
        | true ↦ elim (eqb (get_or seen (nth s p) 0) 0 && k.test busy low (nth s p)) as (λ (b : Bool). Walked) [
          | false ↦ walked false seen busy
          | true ↦ W (entry_word s (nth s p) 7) (link_at (nth s p)) (set seen (nth s p) 1) (k.mark busy (nth s p)) n
        ]
      ]) where
    module _ (n low p : ℕ) (seen busy : List ℕ) where
      walk_end : ltb (nth s p) entries ≡ false → W low p seen busy (suc n) ≡ walked (eqb (nth s p) nil) seen busy
      walk_end t = turn low p seen busy n ∙ pick-false (ltb (nth s p) entries) _ _ t

      walk-bad : ltb (nth s p) entries ≡ true → eqb (get_or seen (nth s p) 0) 0 && k.test busy low (nth s p) ≡ false
          → W low p seen busy (suc n) ≡ walked false seen busy
      walk-bad t u =
          turn low p seen busy n
          ∙ (pick_true (ltb (nth s p) entries) _ _ t ∙ pick-false (eqb (get_or seen (nth s p) 0) 0 && k.test busy low (nth s p)) _ _ u)

      walk_step : ltb (nth s p) entries ≡ true → eqb (get_or seen (nth s p) 0) 0 && k.test busy low (nth s p) ≡ true
          → W low p seen busy (suc n) ≡ W (entry_word s (nth s p) 7) (link_at (nth s p)) (set seen (nth s p) 1) (k.mark busy (nth s p)) n
      walk_step t u =
          turn low p seen busy n
          ∙ (pick_true (ltb (nth s p) entries) _ _ t ∙ pick_true (eqb (get_or seen (nth s p) 0) 0 && k.test busy low (nth s p)) _ _ u)

    walk-found : (n low p : ℕ) (seen busy : List ℕ) → (W low p seen busy n).ok ≡ true → WellFound n low p seen busy (W low p seen busy n)
    unfolding walked
    walk-found zero low p seen busy h = absurd (false≢true (sym (ap (λ (w : Walked). w.ok) (none low p seen busy)) ∙ h))
    walk-found (suc n) low p seen busy h = by_cases (ltb (nth s p) entries)
        (λ t. by_cases (eqb (get_or seen (nth s p) 0) 0 && k.test busy low (nth s p))
        (λ u. let a = and-true (eqb (get_or seen (nth s p) 0) 0) (k.test busy low (nth s p)) u in
        let r = walk-found n (entry_word s (nth s p) 7) (link_at (nth s p)) (set seen (nth s p) 1) (k.mark busy (nth s p)) (rw (walk_step n low p seen busy t u) at h) in
        rw (walk_step n low p seen busy t u)
        (cons-found n low p (nth s p) seen busy (W (entry_word s (nth s p) 7) (link_at (nth s p)) (set seen (nth s p) 1) (k.mark busy (nth s p)) n) refl
        (ltb-true (nth s p) entries t) (eqb-true (get_or seen (nth s p) 0) 0 a.0) a.1 r))
        (λ u. absurd (false≢true (sym (ap (λ (w : Walked). w.ok) (walk-bad n low p seen busy t u)) ∙ h))))
        (λ t. let a : eqb (nth s p) nil ≡ true = sym (ap (λ (w : Walked). w.ok) (walk_end n low p seen busy t)) ∙ h in
        nil-found n low p seen busy (W low p seen busy (suc n)) (eqb-true (nth s p) nil a) (walk_end n low p seen busy t ∙ ap (λ (b : Bool). walked b seen busy) a))

    walk-well : (xs : List ℕ) (n low p : ℕ) (seen busy : List ℕ) → Passing n low p busy xs → Met 0 1 seen xs
        → W low p seen busy n ≡ walked true (marks 1 seen xs) (after k busy xs)
    unfolding Chain Met marks Pass after
    walk-well xs zero low p seen busy o m = absurd (omega (arith, o.0))
    walk-well [] (suc n) low p seen busy o m =
        walk_end n low p seen busy (rw o.1 refl) ∙ ap (λ (b : Bool). walked b seen busy) (eq-eqb (nth s p) nil o.1)
    walk-well (x ∷ xs) (suc n) low p seen busy o m =
        let (l, (e, h, c), (t, ts)) = o in
        let u : eqb (get_or seen x 0) 0 && k.test busy low x ≡ true = true-and (eqb (get_or seen x 0) 0) (k.test busy low x) (eq-eqb (get_or seen x 0) 0 m.0) t in
        (rw e at (walk_step n low p seen busy (rw e (lt-ltb x entries h)) (rw e u)))
        ∙ walk-well xs n (entry_word s x 7) (link_at x) (set seen x 1) (k.mark busy x) (omega arith, c, ts) m.1

    pub stage-walk : (n low p : ℕ) → Stage (λ seen busy. W low p seen busy n) (λ xs. xs) (Passing n low p) (after k)
    stage-walk n low p = record { found = walk-found n low p; well = λ xs seen busy o m. walk-well xs n low p seen busy o m }
