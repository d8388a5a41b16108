-- Cases of a test and of an option, for laws that follow the definition's tests. The test is written out at the use.
use mathlib.Core.Path.{◌≡◌, refl, sym}
use mathlib.Core.Bool.{Bool, true, false, cond, ◌&&◌, ◌||◌, true≢false}
use mathlib.Core.Logic.{◌⊎◌, inl, inr}
use mathlib.Core.Option.{Option, none, some}

pub by_cases : {P : Type 0} (t : Bool) → (t ≡ true → P) → (t ≡ false → P) → P
by_cases true h k = h refl
by_cases false h k = k refl

pub both : {A : Type 0} (P : A → Type 0) (t : Bool) {x y : A} → (t ≡ true → P x) → (t ≡ false → P y) → P (elim t as (λ (b : Bool). A) [ true ↦ x | false ↦ y ])
both P true h k = h refl
both P false h k = k refl

pub bothc : {A : Type 0} (P : A → Type 0) (t : Bool) {x y : A} → (t ≡ true → P x) → (t ≡ false → P y) → P (cond t x y)
bothc P true h k = h refl
bothc P false h k = k refl

pub opt : {A B : Type 0} (P : A → Type 0) (o : Option B) {x : A} {f : B → A} → (o ≡ none → P x) → ((a : B) → o ≡ some a → P (f a)) → P (elim o as (λ (b : Option B). A) [ none ↦ x | some a ↦ f a ])
opt P none h k = h refl
opt P (some a) h k = k a refl

pub pick_true : {A : Type 0} (t : Bool) (x y : A) → t ≡ true → elim t as (λ (b : Bool). A) [ true ↦ x | false ↦ y ] ≡ x
pick_true true x y e = refl
pick_true false x y e = absurd (true≢false (sym e))

pub pick-false : {A : Type 0} (t : Bool) (x y : A) → t ≡ false → elim t as (λ (b : Bool). A) [ true ↦ x | false ↦ y ] ≡ y
pick-false true x y e = absurd (true≢false e)
pick-false false x y e = refl

-- tests joined

pub and-true : (s t : Bool) → s && t ≡ true → (s ≡ true) × (t ≡ true)
and-true true t h = (refl, h)
and-true false t h = absurd (true≢false (sym h))

pub true-and : (s t : Bool) → s ≡ true → t ≡ true → s && t ≡ true
true-and true t e h = h
true-and false t e h = e

pub or-true : (s t : Bool) → s || t ≡ true → (s ≡ true) ⊎ (t ≡ true)
or-true true t h = inl refl
or-true false t h = inr h

pub true-or : (s t : Bool) → (s ≡ false → t ≡ true) → s || t ≡ true
true-or true t h = refl
true-or false t h = h refl

-- a test passed on the way to another
pub pass-true : (t x : Bool) → elim t as (λ (b : Bool). Bool) [ true ↦ x | false ↦ false ] ≡ true → (t ≡ true) × (x ≡ true)
pass-true true x h = (refl, h)
pass-true false x h = absurd (true≢false (sym h))

pub and_left : (t u : Bool) → t && u ≡ true → t ≡ true
and_left t u e = (and-true t u e).0

pub and_right : (t u : Bool) → t && u ≡ true → u ≡ true
and_right t u e = (and-true t u e).1
