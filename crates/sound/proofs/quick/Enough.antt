-- A list that ends after as many steps as there are entries has every entry, and none twice: the plain test of lists says the same where every other list is empty.
use Prim.Native.Nat.{ℕ, zero, suc, ◌+◌, ◌-◌, ◌≤◌, ◌<◌}
use mathlib.Core.Path.{◌≡◌, refl, sym, ap, ◌∙◌}
use mathlib.Core.Bool.{Bool, true, false, ◌&&◌, and-true, and-false, true≢false}
use mathlib.Core.List.{List, []}
use native.Mathlib.Omega.{arith}
use borrow.Author.Tests.{eq-eqb, ne_eqb, eqb-true, eqb-false, ltb-true, ltb-false}
use lib.Dec.{eqb, ltb}
use lib.ListN.{length, get_or, set, replicate, length-set, get_or-replicate, get_or-eq_default}
use lib.Seq.{get_or-set_same, get_or-set_other}
use Rattle.rules.specs.Limits.{entries}
use Rattle.rules.proofs.Split.{by_cases, and_right}
use Rattle.segment.specs.Layout.{nil, link_at}
use Rattle.segment.specs.Table.{nth}
use Rattle.sound.specs.Walks.{Walked, walked, free_entry, free_walk, all_met}
use Rattle.sound.specs.quick.Ends.{free_ends, ends_from}
use Rattle.sound.proofs.Steps.{free-end, free-bad, free_step, both-held, met-before}
use Rattle.sound.proofs.quick.Ends.{from-off, from_on, ends-off, ends_on, ends-nil}

-- the number of the first n entries that are not marked as met
unfoldable unmet : List ℕ → ℕ → ℕ
unmet seen zero = 0
unmet seen (suc n) = elim (eqb (get_or seen n 0) 1) [ true ↦ unmet seen n | false ↦ suc (unmet seen n) ]

unmet-same : (seen : List ℕ) (n : ℕ) → get_or seen n 0 ≡ 1 → unmet seen (suc n) ≡ unmet seen n
unfolding unmet
unmet-same seen n h = rw (eq-eqb (get_or seen n 0) 1 h, unmet)

unmet-more : (seen : List ℕ) (n : ℕ) → (get_or seen n 0 ≡ 1 → ⊥) → unmet seen (suc n) ≡ suc (unmet seen n)
unfolding unmet
unmet-more seen n h = rw (ne_eqb (get_or seen n 0) 1 h, unmet)

unmet-none : (seen : List ℕ) → unmet seen zero ≡ 0
unfolding unmet
unmet-none seen = refl

-- two lists of marks that agree on an entry
unmet-as : (a b : List ℕ) (n : ℕ) → get_or a n 0 ≡ get_or b n 0 → unmet a n ≡ unmet b n → unmet a (suc n) ≡ unmet b (suc n)
unmet-as a b n e u =
    by_cases (eqb (get_or a n 0) 1)
    (λ h. let k = eqb-true (get_or a n 0) 1 h in unmet-same a n k ∙ u ∙ sym (unmet-same b n (sym e ∙ k)))
    (λ h. let k = eqb-false (get_or a n 0) 1 h in unmet-more a n k ∙ ap suc u ∙ sym (unmet-more b n (λ q. k (e ∙ q))))

-- a mark on an entry above the first n changes nothing; one among them, where none was, leaves one fewer

mark-above : (seen : List ℕ) (v n : ℕ) → n ≤ v → unmet (set seen v 1) n ≡ unmet seen n
mark-above seen v zero o = unmet-none (set seen v 1) ∙ sym (unmet-none seen)
mark-above seen v (suc n) o = unmet-as (set seen v 1) seen n (get_or-set_other seen v n 1 0 (λ q. absurd (omega arith))) (mark-above seen v n (omega arith))

mark-one : (seen : List ℕ) (v n : ℕ) → v < length seen → v < n → get_or seen v 0 ≡ 0 → unmet seen n ≡ suc (unmet (set seen v 1) n)
mark-one seen v zero l o z = absurd (omega arith)
mark-one seen v (suc n) l o z = by_cases (ltb v n) (λ h. below (ltb-true v n h) (mark-one seen v n l (ltb-true v n h) z)) here
  where
    below : v < n → unmet seen n ≡ suc (unmet (set seen v 1) n) → unmet seen (suc n) ≡ suc (unmet (set seen v 1) (suc n))
    below k ih =
        let e : get_or (set seen v 1) n 0 ≡ get_or seen n 0 = get_or-set_other seen v n 1 0 (λ q. absurd (omega arith)) in
        by_cases (eqb (get_or seen n 0) 1)
        (λ t.
        let y = eqb-true (get_or seen n 0) 1 t in
        unmet-same seen n y ∙ ih ∙ ap suc (sym (unmet-same (set seen v 1) n (e ∙ y))))
        (λ t.
        let y = eqb-false (get_or seen n 0) 1 t in
        unmet-more seen n y ∙ ap suc ih ∙ ap suc (sym (unmet-more (set seen v 1) n (λ q. y (sym e ∙ q)))))

    here : ltb v n ≡ false → unmet seen (suc n) ≡ suc (unmet (set seen v 1) (suc n))
    here h =
        let k : v ≡ n = omega (arith, ltb-false v n h) in
        let z' : get_or seen n 0 ≡ 0 = rw k at z in
        let one : get_or (set seen v 1) n 0 ≡ 1 = ap (λ (j : ℕ). get_or (set seen v 1) j 0) (sym k) ∙ get_or-set_same seen v 1 0 l in
        unmet-more seen n (λ q. absurd (omega (arith, z', q)))
        ∙ ap suc (sym (unmet-same (set seen v 1) n one ∙ mark-above seen v n (omega arith)))

-- where none is left, all are met

all-met : (seen : List ℕ) (n : ℕ) → all_met seen n ≡ eqb (unmet seen n) 0
unfolding all_met
all-met seen zero = sym (eq-eqb (unmet seen zero) 0 (unmet-none seen))
all-met seen (suc n) =
    let m : suc n - 1 ≡ n = omega arith in
    by_cases (eqb (get_or seen n 0) 1)
    (λ t. rw (t, all_met) (all-met seen n ∙ sym (ap (λ (k : ℕ). eqb k 0) (unmet-same seen n (eqb-true (get_or seen n 0) 1 t)))))
    (λ t.
    let y : unmet seen (suc n) ≡ suc (unmet seen n) = unmet-more seen n (eqb-false (get_or seen n 0) 1 t) in
    rw (t, all_met) (sym (ne_eqb (unmet seen (suc n)) 0 (λ q. absurd (omega (arith, y, q))))))

each-met : (seen : List ℕ) (v n : ℕ) → unmet seen n ≡ 0 → v < n → get_or seen v 0 ≡ 1
each-met seen v zero u o = absurd (omega arith)
each-met seen v (suc n) u o = by_cases (eqb (get_or seen n 0) 1) (met (each-met seen v n)) (λ t. absurd (omega (arith, u, unmet-more seen n (eqb-false (get_or seen n 0) 1 t))))
  where
    met : (unmet seen n ≡ 0 → v < n → get_or seen v 0 ≡ 1) → eqb (get_or seen n 0) 1 ≡ true → get_or seen v 0 ≡ 1
    met ih t =
        let y : get_or seen n 0 ≡ 1 = eqb-true (get_or seen n 0) 1 t in
        by_cases (ltb v n)
        (λ h. ih (sym (unmet-same seen n y) ∙ u) (ltb-true v n h))
        (λ h. let k : v ≡ n = omega (arith, ltb-false v n h) in rw k y)

-- how a list that ends goes on, and that it ends after one number of steps alone

ends-entry : (s : List ℕ) (p n : ℕ) → free_ends s p (suc n) ≡ true → (nth s p < entries) × (free_entry s (nth s p) ≡ true) × (free_ends s (link_at (nth s p)) n ≡ true)
ends-entry s p n h = by_cases (ltb (nth s p) entries) inside (λ t. absurd (true≢false (sym h ∙ ends-off s p (suc n) (nth s p) refl (omega arith) (ltb-false (nth s p) entries t))))
  where
    inside : ltb (nth s p) entries ≡ true → (nth s p < entries) × (free_entry s (nth s p) ≡ true) × (free_ends s (link_at (nth s p)) n ≡ true)
    inside t =
        let v : nth s p < entries = ltb-true (nth s p) entries t in
        let m : suc n - 1 ≡ n = omega arith in
        let e : free_ends s p (suc n) ≡ ends_from s (nth s p) (suc n - 1) = ends_on s p (suc n) (nth s p) refl (omega arith) v in
        let e' : free_ends s p (suc n) ≡ ends_from s (nth s p) n = rw m at e in
        by_cases (free_entry s (nth s p))
        (λ u. (v, u, sym (from_on s (nth s p) n u) ∙ sym e' ∙ h))
        (λ u. absurd (true≢false (sym h ∙ e' ∙ from-off s (nth s p) n u)))

entry-ends : (s : List ℕ) (p n : ℕ) → nth s p < entries → free_entry s (nth s p) ≡ true → free_ends s p (suc n) ≡ free_ends s (link_at (nth s p)) n
entry-ends s p n v u =
    let m : suc n - 1 ≡ n = omega arith in
    let e : free_ends s p (suc n) ≡ ends_from s (nth s p) (suc n - 1) = ends_on s p (suc n) (nth s p) refl (omega arith) v in
    rw m at e ∙ from_on s (nth s p) n u

ends-here : (s : List ℕ) (p : ℕ) → free_ends s p zero ≡ true → nth s p ≡ nil
ends-here s p h = eqb-true (nth s p) nil (ends-nil s p zero (omega arith) ∙ h)

one_end : (s : List ℕ) (m n p : ℕ) → free_ends s p m ≡ true → free_ends s p n ≡ true → m ≡ n
one_end s zero zero p a b = refl
one_end s zero (suc n) p a b = absurd (omega (arith, ends-here s p a, (ends-entry s p n b).0))
one_end s (suc m) zero p a b = absurd (omega (arith, ends-here s p b, (ends-entry s p m a).0))
one_end s (suc m) (suc n) p a b = ap suc (one_end s m n (link_at (nth s p)) (ends-entry s p m a).2 (ends-entry s p n b).2)

-- what the plain test says of a walk that is the last
abbrev verdict : Walked → Bool
verdict w = w.ok && all_met w.seen entries

said : (ok : Bool) (seen busy : List ℕ) {w : Walked} → w ≡ walked ok seen busy → verdict w ≡ (ok && all_met seen entries)
unfolding walked
said ok seen busy e = rw e

-- the list from slot p is no longer than from any entry that was met
abbrev Behind : List ℕ → ℕ → List ℕ → Type 0
Behind s p seen = (x : ℕ) → (get_or seen x 0 ≡ 0 → ⊥) → (m k : ℕ) → free_ends s p m ≡ true → free_ends s (link_at x) k ≡ true → m ≤ k

behind-on : (s : List ℕ) (p : ℕ) (seen : List ℕ) → nth s p < entries → free_entry s (nth s p) ≡ true → Behind s p seen → Behind s (link_at (nth s p)) (set seen (nth s p) 1)
behind-on s p seen v u b x d m k hm hk =
    by_cases (eqb x (nth s p))
    (λ t.
    let e : x ≡ nth s p = eqb-true x (nth s p) t in
    let hx : free_ends s (link_at (nth s p)) k ≡ true = rw e at hk in
    omega (arith, one_end s m k (link_at (nth s p)) hm hx))
    (λ t.
    let e : get_or (set seen (nth s p) 1) x 0 ≡ get_or seen x 0 = get_or-set_other seen (nth s p) x 1 0 (eqb-false x (nth s p) t) in
    omega (arith, b x (λ q. d (e ∙ q)) (suc m) k (entry-ends s p m v u ∙ hm) hk))

module _ (s busy : List ℕ) where
  -- the slot holds no entry
  over : (n p : ℕ) (seen : List ℕ) → entries ≤ nth s p → verdict (free_walk s p seen busy (suc n)) ≡ (eqb (nth s p) nil && all_met seen entries)
  over n p seen h = said (eqb (nth s p) nil) seen busy (free-end s p seen busy (nth s p) refl (suc n) (omega arith) h)

  bad : (n p : ℕ) (seen : List ℕ) → nth s p < entries → (eqb (get_or seen (nth s p) 0) 0 && free_entry s (nth s p)) ≡ false → verdict (free_walk s p seen busy (suc n)) ≡ false
  bad n p seen v d = said false seen busy (free-bad s p seen busy (nth s p) refl (suc n) (omega arith) v d)

  good : (n p : ℕ) (seen : List ℕ) → nth s p < entries → (eqb (get_or seen (nth s p) 0) 0 && free_entry s (nth s p)) ≡ true
      → free_walk s p seen busy (suc n) ≡ free_walk s (link_at (nth s p)) (set seen (nth s p) 1) busy n
  good n p seen v d =
      let m : suc n - 1 ≡ n = omega arith in
      let e = free_step s p seen busy (nth s p) refl (suc n) (omega arith) v d in
      rw m at e

  enough : (n p : ℕ) (seen : List ℕ) → length seen ≡ entries → unmet seen entries ≡ n → Behind s p seen → verdict (free_walk s p seen busy (suc n)) ≡ free_ends s p n
  enough zero p seen l u b =
      by_cases (ltb (nth s p) entries)
      (λ t.
      let v : nth s p < entries = ltb-true (nth s p) entries t in
      let met : get_or seen (nth s p) 0 ≡ 1 = each-met seen (nth s p) entries u v in
      bad zero p seen v (met-before {x = get_or seen (nth s p) 0} (free_entry s (nth s p)) (λ q. absurd (omega (arith, met, q))))
      ∙ sym (sym (ends-nil s p zero (omega arith)) ∙ ne_eqb (nth s p) nil (λ q. absurd (omega arith))))
      (λ t.
      over zero p seen (ltb-false (nth s p) entries t)
      ∙ ap (λ (z : Bool). eqb (nth s p) nil && z) (all-met seen entries ∙ eq-eqb (unmet seen entries) 0 u)
      ∙ and-true (eqb (nth s p) nil) ∙ ends-nil s p zero (omega arith))
  enough (suc n) p seen l u b =
      by_cases (ltb (nth s p) entries) (λ t. entry (ltb-true (nth s p) entries t) (enough n (link_at (nth s p)) (set seen (nth s p) 1))) none
    where
      none : ltb (nth s p) entries ≡ false → verdict (free_walk s p seen busy (suc (suc n))) ≡ free_ends s p (suc n)
      none t =
          let h : entries ≤ nth s p = ltb-false (nth s p) entries t in
          over (suc n) p seen h
          ∙ ap (λ (z : Bool). eqb (nth s p) nil && z) (all-met seen entries ∙ ne_eqb (unmet seen entries) 0 (λ q. absurd (omega (arith, u, q))))
          ∙ and-false (eqb (nth s p) nil) ∙ sym (ends-off s p (suc n) (nth s p) refl (omega arith) h)

      entry : nth s p < entries
          → (length (set seen (nth s p) 1) ≡ entries → unmet (set seen (nth s p) 1) entries ≡ n → Behind s (link_at (nth s p)) (set seen (nth s p) 1)
          → verdict (free_walk s (link_at (nth s p)) (set seen (nth s p) 1) busy (suc n)) ≡ free_ends s (link_at (nth s p)) n)
          → verdict (free_walk s p seen busy (suc (suc n))) ≡ free_ends s p (suc n)
      entry v ih =
          by_cases (free_entry s (nth s p))
          (λ f.
          by_cases (eqb (get_or seen (nth s p) 0) 0)
          (λ z.
          let y : get_or seen (nth s p) 0 ≡ 0 = eqb-true (get_or seen (nth s p) 0) 0 z in
          let one : unmet seen entries ≡ suc (unmet (set seen (nth s p) 1) entries) = mark-one seen (nth s p) entries (omega (arith, l, v)) v y in
          ap verdict (good (suc n) p seen v (both-held y f))
          ∙ ih (length-set seen (nth s p) 1 ∙ l) (omega (arith, one, u)) (behind-on s p seen v f b)
          ∙ sym (entry-ends s p n v f))
          (λ z.
          bad (suc n) p seen v (met-before {x = get_or seen (nth s p) 0} (free_entry s (nth s p)) (eqb-false (get_or seen (nth s p) 0) 0 z))
          ∙ sym
          (by_cases (free_ends s (link_at (nth s p)) n)
          (λ t. absurd (omega (arith, b (nth s p) (eqb-false (get_or seen (nth s p) 0) 0 z) (suc n) n (entry-ends s p n v f ∙ t) t)))
          (λ t. entry-ends s p n v f ∙ t))))
          (λ f.
          bad (suc n) p seen v (rw f (and-false (eqb (get_or seen (nth s p) 0) 0)))
          ∙ sym (slot (suc n) v ∙ from-off s (nth s p) (suc n - 1) f))
        where
          slot : (m : ℕ) → nth s p < entries → free_ends s p (suc n) ≡ ends_from s (nth s p) (suc n - 1)
          slot m w = ends_on s p (suc n) (nth s p) refl (omega arith) w

  fresh : (x : ℕ) → ◌≡◌ {A = ℕ} (get_or (replicate entries 0) x 0) 0
  fresh x =
      by_cases (ltb x entries)
      (λ t. get_or-replicate entries x 0 0 (ltb-true x entries t))
      (λ t. get_or-eq_default (replicate entries 0) 0 {n = x} (ltb-false x entries t))

  pub all-free : (p : ℕ) → verdict (free_walk s p (replicate entries 0) busy (entries + 1)) ≡ free_ends s p entries
  unfolding unmet
  all-free p = enough entries p (replicate entries 0) refl refl (λ x d. absurd (d (fresh x)))

  -- then each entry is free: the walk marks no other

  kept : (ok : Bool) (seen busy' : List ℕ) {w : Walked} → w ≡ walked ok seen busy' → w.seen ≡ seen
  unfolding walked
  kept ok seen busy' e = rw e

  no-turn : (p : ℕ) (seen : List ℕ) → free_walk s p seen busy zero ≡ walked false seen busy
  unfolding free_walk
  no-turn p seen = refl

  marks-free : (n p : ℕ) (seen : List ℕ) → ((x : ℕ) → (get_or seen x 0 ≡ 0 → ⊥) → free_entry s x ≡ true)
      → (x : ℕ) → (get_or (free_walk s p seen busy n).seen x 0 ≡ 0 → ⊥) → free_entry s x ≡ true
  marks-free zero p seen h x d = h x (λ q. d (ap (λ (l : List ℕ). get_or l x 0) (kept false seen busy (no-turn p seen)) ∙ q))
  marks-free (suc n) p seen h x d =
      by_cases (ltb (nth s p) entries)
      (λ t.
      let v : nth s p < entries = ltb-true (nth s p) entries t in
      by_cases (eqb (get_or seen (nth s p) 0) 0 && free_entry s (nth s p))
      (λ f.
      let g : free_walk s p seen busy (suc n) ≡ free_walk s (link_at (nth s p)) (set seen (nth s p) 1) busy n = good n p seen v f in
      marks-free n (link_at (nth s p)) (set seen (nth s p) 1) (λ y b. more y b (and_right (eqb (get_or seen (nth s p) 0) 0) (free_entry s (nth s p)) f)) x
      (λ q. d (ap (λ (w : Walked). get_or w.seen x 0) g ∙ q)))
      (λ f.
      let g : free_walk s p seen busy (suc n) ≡ walked false seen busy = free-bad s p seen busy (nth s p) refl (suc n) (omega arith) v f in
      h x (λ q. d (ap (λ (l : List ℕ). get_or l x 0) (kept false seen busy g) ∙ q))))
      (λ t.
      let g : free_walk s p seen busy (suc n) ≡ walked (eqb (nth s p) nil) seen busy = free-end s p seen busy (nth s p) refl (suc n) (omega arith) (ltb-false (nth s p) entries t) in
      h x (λ q. d (ap (λ (l : List ℕ). get_or l x 0) (kept (eqb (nth s p) nil) seen busy g) ∙ q)))
    where
      more : (y : ℕ) → (get_or (set seen (nth s p) 1) y 0 ≡ 0 → ⊥) → free_entry s (nth s p) ≡ true → free_entry s y ≡ true
      more y b f =
          by_cases (eqb y (nth s p))
          (λ u. ap (λ (j : ℕ). free_entry s j) (eqb-true y (nth s p) u) ∙ f)
          (λ u. h y (λ q. b (get_or-set_other seen (nth s p) y 1 0 (eqb-false y (nth s p) u) ∙ q)))

pub all-bare : (s : List ℕ) (p : ℕ) → free_ends s p entries ≡ true → (x : ℕ) → x < entries → free_entry s x ≡ true
all-bare s p h x o =
    let w : Walked = free_walk s p (replicate entries 0) [] (entries + 1) in
    let m : all_met w.seen entries ≡ true = and_right w.ok (all_met w.seen entries) (all-free s [] p ∙ h) in
    let u : unmet w.seen entries ≡ 0 = eqb-true (unmet w.seen entries) 0 (sym (all-met w.seen entries) ∙ m) in
    let y : get_or w.seen x 0 ≡ 1 = each-met w.seen x entries u o in
    marks-free s [] (entries + 1) p (replicate entries 0) (λ z d. absurd (d (fresh s [] z))) x (λ q. absurd (omega (arith, y, q)))
