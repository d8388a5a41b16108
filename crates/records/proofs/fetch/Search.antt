-- The search for the oldest data record, from cursor to cursor.
use Prim.Native.Nat.{ℕ, zero, suc, ◌+◌, ◌-◌, ◌*◌, ◌/◌, ◌%◌, ◌≤◌, ◌<◌}
use mathlib.Core.Path.{◌≡◌, refl, sym, ap, ap₂, ◌∙◌}
use mathlib.Core.Bool.{Bool, true, false}
use mathlib.Core.List.{List}
use native.Mathlib.Omega.{arith}
use native.Mathlib.Numerals.{add-one}
use native.Mathlib.Nat.{add-zero, add-suc, add-mul, div-add-mod', div-eq_of_lt, div-eq_of_lt-le, mod-lt, mod-eq_of_lt, mod-add-mod}
use lib.Dec.{ltb, leb, eqb}
use borrow.Author.Tests.{lt-ltb, le-ltb, leb-true, eqb-true, eq-eqb, ne_eqb}
use Rattle.words.specs.Word.{word_at}
use Rattle.rules.specs.State.{Geo, Store}
use Rattle.rules.proofs.Split.{both, pick_true, pick-false}
use Rattle.shares.specs.Places.{place_in, place_of}
use Rattle.ring.specs.declared.Ring.{Ring}
use Rattle.ring.specs.Ring.{geo, ring_of, wrapped, Ranged, advanced}
use Rattle.ring.specs.Held.{Held}
use Rattle.ring.proofs.Laws.{wrapped-mod}
use Rattle.ring.proofs.Held.{held-ranged}
use Rattle.records.specs.declared.cursor.Cursor.{Cursor}
use Rattle.std.specs.Prelude.{Option, Some, None}
use Rattle.records.specs.Cursor.{head_place, AtRecord}
use Rattle.records.specs.Fetch.{Stores, ahead, Comes, oldest_of, shown}
use Rattle.records.proofs.fetch.Laws.{comes-here, comes-stop, comes-end, comes-on}

-- the search's three cases
module _ (g : Geo) (xs : List ℕ) (k u : ℕ) where
  oldest-here : (n : ℕ) → 0 < n → word_at xs (place_of g xs k u + 2) ≡ 0 → oldest_of g xs k u n ≡ Some (place_of g xs k u)
  unfolding oldest_of
  oldest-here zero l z = absurd (omega arith)
  oldest-here (suc n) l z = pick_true (eqb (word_at xs (place_of g xs k u + 2)) 0) _ _ (eq-eqb (word_at xs (place_of g xs k u + 2)) 0 z)

  oldest-on : (n : ℕ) → 0 < n → (word_at xs (place_of g xs k u + 2) ≡ 0 → ⊥) → oldest_of g xs k u n ≡ oldest_of g xs k (u + 1) (n - 1)
  unfolding oldest_of
  oldest-on zero l z = absurd (omega arith)
  oldest-on (suc n) l z =
      let m : suc n - 1 ≡ n = omega arith in
      rw (m, add-one u) (pick-false (eqb (word_at xs (place_of g xs k u + 2)) 0) _ _ (ne_eqb (word_at xs (place_of g xs k u + 2)) 0 z))

  oldest-none : (n : ℕ) → n ≤ 0 → oldest_of g xs k u n ≡ None
  unfolding oldest_of
  oldest-none zero l = refl
  oldest-none (suc n) l = absurd (omega arith)

-- Places counted from the next block on.

-- quotient and rest of a number that is known by them
parts-of : (b j i v : ℕ) → i < b → v ≡ j * b + i → (v / b ≡ j) × (v % b ≡ i)
parts-of b j i v h e =
    let d : v / b ≡ j = div-eq_of_lt-le b (omega arith) (omega (arith, add-mul j 1 b)) in
    (d, omega (arith, div-add-mod' v b, ap (λ (x : ℕ). x * b) d))

module _ (g : Geo) (xs : List ℕ) (k : ℕ) (b : 0 < g.factor) (d : k < g.blocks) where
  place-over : (u : ℕ) → place_of g xs k (g.factor + u) ≡ place_of g xs (wrapped g.blocks (k + 1)) u
  unfolding place_of
  place-over u =
      let n = g.blocks in
      let j = u / g.factor in
      let y = parts-of g.factor (j + 1) (u % g.factor) (g.factor + u) (mod-lt u b) (omega (arith, add-mul j 1 g.factor, div-add-mod' u g.factor)) in
      let z : k + (j + 1) ≡ k + 1 + j = omega arith in
      let m : (k + (j + 1)) % n ≡ (wrapped n (k + 1) + j) % n =
      ap (λ (x : ℕ). x % n) z ∙ (sym (mod-add-mod (k + 1) n j) ∙ ap (λ (x : ℕ). (x + j) % n) (sym (wrapped-mod n (k + 1) (omega arith)))) in
      rw (y.0, y.1, m)

  oldest-over : (n u : ℕ) → oldest_of g xs k (g.factor + u) n ≡ oldest_of g xs (wrapped g.blocks (k + 1)) u n
  unfolding oldest_of
  oldest-over zero u = refl
  oldest-over (suc n) u =
      let i : oldest_of g xs k (suc (g.factor + u)) n ≡ oldest_of g xs (wrapped g.blocks (k + 1)) (suc u) n =
      ap (λ (v : ℕ). oldest_of g xs k v n) (sym (add-suc g.factor u)) ∙ oldest-over n (suc u) in
      ap₂ {C = Option ℕ} (λ (p : ℕ) (z : Option ℕ). elim (eqb (word_at xs (p + 2)) 0) as (λ (b : Bool). Option ℕ) [ true ↦ Some p | false ↦ z ]) (place-over u) i

-- The ring without its oldest record.

abbrev search_of : ℕ → Ring → List ℕ → Option ℕ
search_of w r xs = oldest_of (geo w r) xs r.block r.spent r.held

module _ (w : ℕ) (r : Ring) (xs : List ℕ) (o : Ranged r) where
  abbrev g : Geo
  g = geo w r

  place-head : place_of g xs r.block r.spent ≡ head_place w r xs
  unfolding place_of
  place-head =
      let q : r.spent / r.factor ≡ 0 = div-eq_of_lt o.spent in
      let m : r.spent % r.factor ≡ r.spent = mod-eq_of_lt o.spent in
      let z : (r.block + r.spent / r.factor) % r.blocks ≡ r.block =
      ap (λ (x : ℕ). (r.block + x) % r.blocks) q ∙ (ap (λ (x : ℕ). x % r.blocks) (add-zero r.block) ∙ mod-eq_of_lt o.block) in
      ap₂ {C = ℕ} (λ (x y : ℕ). place_in g xs x y) z m

  search-here : 0 < r.held → word_at xs (head_place w r xs + 2) ≡ 0 → search_of w r xs ≡ Some (head_place w r xs)
  search-here l z = oldest-here g xs r.block r.spent r.held l (rw place-head z) ∙ ap Some place-head

  search-on : 0 < r.held → (word_at xs (head_place w r xs + 2) ≡ 0 → ⊥) → search_of w r xs ≡ search_of w (advanced r) xs
  unfolding advanced oldest_of
  search-on l z =
      let e : search_of w r xs ≡ oldest_of g xs r.block (r.spent + 1) (r.held - 1) =
      oldest-on g xs r.block r.spent r.held l (λ y. z (ap (λ (p : ℕ). word_at xs (p + 2)) (sym place-head) ∙ y)) in
      both (λ (x : Ring). search_of w r xs ≡ search_of w x xs) (leb r.held 1)
      (λ t. e ∙ oldest-none g xs r.block (r.spent + 1) (r.held - 1) (omega (arith, leb-true r.held 1 t)))
      (λ _. both (λ (x : Ring). search_of w r xs ≡ search_of w x xs) (eqb (r.spent + 1) r.factor)
      (λ t. e ∙ (ap (λ (u : ℕ). oldest_of g xs r.block u (r.held - 1)) (eqb-true (r.spent + 1) r.factor t ∙ sym (add-zero r.factor)) ∙ oldest-over g xs r.block o.factor o.block (r.held - 1) 0))
      (λ _. e))

-- With the cursor so far the search has lost nothing.

pub record Search (w : ℕ) (q : Ring) (xs : List ℕ) (c : Cursor) : Type 0 where
  pub comes : Comes w q c.ring xs
  pub stands : AtRecord w xs c
  pub same : search_of w q xs ≡ search_of w c.ring xs

pub search-start : (w : ℕ) (q : Ring) (xs : List ℕ) (c : Cursor) → c.ring ≡ q → AtRecord w xs c → Search w q xs c
search-start w q xs c e S = record { comes = rw e (comes-here w q xs); stands = S; same = rw e }

pub shown-at : (c : Cursor) → 0 < c.ring.held → shown c ≡ Some c.at
unfolding shown
shown-at c l = pick_true (ltb 0 c.ring.held) _ _ (lt-ltb 0 c.ring.held l)

pub shown-none : (c : Cursor) → c.ring.held ≤ 0 → shown c ≡ None
unfolding shown
shown-none c l = pick-false (ltb 0 c.ring.held) _ _ (le-ltb 0 c.ring.held l)

-- what the search has found
abbrev Ends : ℕ → Ring → List ℕ → Cursor → Type 0
Ends w q xs c = ((s : Store) → Stores w q xs s → c.ring ≡ ring_of (geo w q) (ahead (geo w q) false s)) × (AtRecord w xs c × (search_of w q xs ≡ shown c))

module _ (w : ℕ) (q : Ring) (xs : List ℕ) (h : Held w q xs) (c : Cursor) (k : Search w q xs c) where
  ranged : Ranged c.ring
  ranged = held-ranged w c.ring xs k.stands.held

  pub search-end : c.ring.held ≤ 0 → Ends w q xs c
  search-end l = (
    λ s S. comes-end w q c.ring xs k.comes h s S l,
    (k.stands, k.same ∙ (oldest-none (geo w c.ring) xs c.ring.block c.ring.spent c.ring.held l ∙ sym (shown-none c l))),
  )

  module _ (l : 0 < c.ring.held) where
    at_head : word_at xs (head_place w c.ring xs + 2) ≡ word_at xs (c.at + 2)
    at_head = ap (λ (p : ℕ). word_at xs (p + 2)) (sym k.stands.at)

    pub search-stop : word_at xs (c.at + 2) ≡ 0 → Ends w q xs c
    search-stop z = (
      λ s S. comes-stop w q c.ring xs k.comes h s S l (at_head ∙ z),
      (k.stands, k.same ∙ (search-here w c.ring xs ranged l (at_head ∙ z) ∙ (ap Some (sym k.stands.at) ∙ sym (shown-at c l)))),
    )

    -- the search goes past an open or close record
    pub search-next : (word_at xs (c.at + 2) ≡ 0 → ⊥) → (d : Cursor) → d.ring ≡ advanced c.ring → AtRecord w xs d → Search w q xs d
    search-next z d e S =
        let y : word_at xs (head_place w c.ring xs + 2) ≡ 0 → ⊥ = λ x. z (sym at_head ∙ x) in
        record { comes = rw e (comes-on w q c.ring xs k.comes h l y); stands = S; same = rw e (k.same ∙ search-on w c.ring xs ranged l y) }
