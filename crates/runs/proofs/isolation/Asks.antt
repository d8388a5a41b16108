-- What is asked of a file over a run is asked by the calls that name it, and by time.
use Prim.Native.Nat.{ℕ}
use mathlib.Core.Path.{◌≡◌, refl, sym, ap, ◌∙◌}
use mathlib.Core.Bool.{Bool, true, false, true≢false, false≢true, ◌&&◌, ◌||◌}
use mathlib.Core.List.{List, [], ◌∷◌, ◌++◌}
use lib.Dec.{eqb}
use Rattle.rules.specs.Desk.{Asked, on, time, bad, asked}
use Rattle.rules.specs.Desk as rules
use Rattle.rules.proofs.Split.{by_cases, pick_true, pick-false}
use Rattle.laws.specs.Runs.{Own, mine, only, names}
use Rattle.promises.specs.Promise.{HostCall}
use Rattle.runs.specs.Condition2.{stretch}
use Rattle.runs.specs.Condition3.{Sort, made, sort_of, names_file, is_time, passes, ours, never_fresh}
use Rattle.runs.specs.Condition3 as sort
use Rattle.runs.proofs.isolation.Cases.{call_in, right, Case, fits, misfits, case-of, stretch-unfit, stretch-asks}

unfoldable pub asks_of : ℕ → Sort → List Own
asks_of f s = elim (right s) [ true ↦ mine f (asked (call_in s)) | false ↦ [] ]

unfoldable pub asks_all : ℕ → List Sort → List Own
asks_all f [] = []
asks_all f (s ∷ ss) = asks_of f s ++ asks_all f ss

pub names-is : (f : ℕ) (s : Sort) → right s ≡ true → names f (asked (call_in s)) ≡ names_file f s
unfolding right call_in asked names names_file
names-is f made e = absurd (false≢true e)
names-is f (sort.event n frame) e = refl
names-is f (sort.look g p n) e = refl
names-is f (sort.save g n) e = refl
names-is f (sort.load g text) e = refl

-- a call that neither names f nor lets time pass asks nothing of f
mine-none : (f : ℕ) (a : Asked) → names f a ≡ false → is_time a ≡ false → mine f a ≡ []
unfolding names is_time mine
mine-none f (on g q) e t = pick-false (eqb g f) _ _ e
mine-none f (time s) e t = absurd (true≢false t)
mine-none f bad e t = refl

time-is : (s : Sort) → right s ≡ true → is_time (asked (call_in s)) ≡ passes s
unfolding right call_in asked is_time passes
time-is made e = absurd (false≢true e)
time-is (sort.event n frame) e = sym (ap (λ (b : Bool). b && is_time (asked (rules.event frame))) e)
time-is (sort.look g p n) e = refl
time-is (sort.save g n) e = refl
time-is (sort.load g text) e = refl

or-false : (a b : Bool) → (a || b) ≡ false → (a ≡ false) × (b ≡ false)
or-false true b e = absurd (true≢false e)
or-false false b e = (refl, e)

asks-right : (f : ℕ) (s : Sort) → right s ≡ true → asks_of f s ≡ mine f (asked (call_in s))
unfolding asks_of
asks-right f s r = pick_true (right s) _ _ r

asks-wrong : (f : ℕ) (s : Sort) → right s ≡ false → asks_of f s ≡ []
unfolding asks_of
asks-wrong f s r = pick-false (right s) _ _ r

asks_none : (f : ℕ) (s : Sort) → (names_file f s || passes s) ≡ false → asks_of f s ≡ []
asks_none f s e =
    by_cases (right s)
    (λ r. let (n, p) = or-false (names_file f s) (passes s) e in asks-right f s r ∙ mine-none f (asked (call_in s)) (names-is f s r ∙ n) (time-is s r ∙ p))
    (λ r. asks-wrong f s r)

-- what a run asks of f is asked by our calls
pub only-ours : (f : ℕ) (xs : List HostCall) → never_fresh xs ≡ true → only f (stretch xs) ≡ asks_all f (ours f xs)
unfolding only stretch ours asks_all
only-ours f [] u = refl
only-ours f (x ∷ xs) u = let (k, v) = case-of x xs u in step k ∙ ap (λ (l : List Own). asks_of f (sort_of x) ++ l) (only-ours f xs v) ∙ own (names_file f (sort_of x) || passes (sort_of x)) refl
  where
    step : Case x → only f (stretch (x ∷ xs)) ≡ asks_of f (sort_of x) ++ only f (stretch xs)
    step (fits r e) = ap (only f) (stretch-asks x xs (call_in (sort_of x)) e) ∙ ap (λ (l : List Own). l ++ only f (stretch xs)) (sym (asks-right f (sort_of x) r))
    step (misfits r e) = ap (only f) (stretch-unfit x xs e) ∙ ap (λ (l : List Own). l ++ only f (stretch xs)) (sym (asks-wrong f (sort_of x) r))

    own : (t : Bool) → (names_file f (sort_of x) || passes (sort_of x)) ≡ t
        → asks_of f (sort_of x) ++ asks_all f (ours f xs) ≡ asks_all f (elim t as (λ (b : Bool). List Sort) [ true ↦ sort_of x ∷ ours f xs | false ↦ ours f xs ])
    own true e = refl
    own false e = ap (λ (l : List Own). l ++ asks_all f (ours f xs)) (asks_none f (sort_of x) e)
