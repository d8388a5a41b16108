-- Where the links of entries lead, by tables: the free list ends after as many steps as there are entries exactly if the tables lead to its end so.
use Prim.Native.Nat.{ℕ, zero, suc, ◌+◌, ◌*◌, ◌-◌, ◌≤◌, ◌<◌}
use mathlib.Core.Path.{◌≡◌, refl, sym, ap, ◌∙◌}
use mathlib.Core.Bool.{Bool, true, false, ◌&&◌, true≢false}
use mathlib.Core.List.{List}
use native.Mathlib.Omega.{arith}
use native.Mathlib.Numerals.{add-one}
use borrow.Author.Tests.{eq-eqb, ne_eqb, eqb-true, eqb-false, lt-ltb, le-ltb, ltb-true, ltb-false}
use lib.Dec.{eqb, ltb}
use lib.Bits.{bit_or}
use lib.ListN.{length, get_or, set}
use lib.Seq.{get_or-set_same, get_or-set_other}
use Rattle.rules.specs.Limits.{entries}
use Rattle.rules.proofs.Split.{by_cases}
use Rattle.words.specs.Word.{quiet}
use Rattle.words.proofs.Joins.{quiet-join}
use Rattle.segment.specs.Layout.{nil, link_at, data_at, data_words}
use Rattle.segment.specs.Table.{nth}
use Rattle.sound.specs.Walks.{free_entry}
use Rattle.sound.specs.quick.Ends.{free_ends, ends_from}
use Rattle.sound.specs.quick.Strides.{ended, astray, stops, leads, stride, strides, Table, Closed, bare_from, ends_by}
use Rattle.sound.proofs.Bytes.{zero-bytes}
use Rattle.sound.proofs.Ors.{or-zero}
use Rattle.sound.proofs.quick.Ends.{from_on, ends-off, ends_on, ends-nil}
use Rattle.sound.proofs.quick.Enough.{all-bare}

-- what a link leads to

pub leads-entry : (v : ℕ) → v < entries → leads v ≡ v
unfolding leads
leads-entry v h = rw (lt-ltb v entries h, leads)

pub leads-end : (v : ℕ) → v ≡ nil → leads v ≡ ended
unfolding leads
leads-end v h = rw h

pub leads-astray : (v : ℕ) → entries ≤ v → (v ≡ nil → ⊥) → leads v ≡ astray
unfolding leads
leads-astray v h d = rw (le-ltb v entries h, ne_eqb v nil d, leads)

stride-entry : (s : List ℕ) (k : ℕ) → k < entries → stride s k ≡ leads (nth s (link_at k))
unfolding stride
stride-entry s k h = rw (lt-ltb k entries h, stride)

stride-stop : (s : List ℕ) (k : ℕ) → entries ≤ k → stride s k ≡ k
unfolding stride
stride-stop s k h = rw (le-ltb k entries h, stride)

strides-stop : (s : List ℕ) (n k : ℕ) → entries ≤ k → strides s n k ≡ k
unfolding strides
strides-stop s zero k h = refl
strides-stop s (suc n) k h = ap (λ (j : ℕ). strides s n j) (stride-stop s k h) ∙ strides-stop s n k h

-- all of them are numbers of the table

leads-closed : (v : ℕ) → leads v < stops
leads-closed v =
    by_cases (ltb v entries)
    (λ t. let e : leads v ≡ v = leads-entry v (ltb-true v entries t) in omega (arith, e, ltb-true v entries t))
    (λ t.
    by_cases (eqb v nil)
    (λ u. let e : leads v ≡ ended = leads-end v (eqb-true v nil u) in omega (arith, e))
    (λ u. let e : leads v ≡ astray = leads-astray v (ltb-false v entries t) (eqb-false v nil u) in omega (arith, e)))

stride-closed : (s : List ℕ) (k : ℕ) → k < stops → stride s k < stops
stride-closed s k h =
    by_cases (ltb k entries)
    (λ t. let e : stride s k ≡ leads (nth s (link_at k)) = stride-entry s k (ltb-true k entries t) in omega (arith, e, leads-closed (nth s (link_at k))))
    (λ t. let e : stride s k ≡ k = stride-stop s k (ltb-false k entries t) in omega (arith, e))

strides-closed : (s : List ℕ) (n k : ℕ) → k < stops → strides s n k < stops
unfolding strides
strides-closed s zero k h = h
strides-closed s (suc n) k h = strides-closed s n (stride s k) (stride-closed s k h)

pub table-closed : (s : List ℕ) (n : ℕ) (t : List ℕ) → Table s n t → Closed t
table-closed s n t h k o = let e : get_or t k 0 ≡ strides s n k = h k o in omega (arith, e, strides-closed s n k o)

-- steps after steps

strides-add : (s : List ℕ) (m n l k : ℕ) → l ≡ m + n → strides s l k ≡ strides s n (strides s m k)
unfolding strides
strides-add s zero n l k e = let q : l ≡ n = omega arith in rw q
strides-add s (suc m) n zero k e = absurd (omega arith)
strides-add s (suc m) n (suc l) k e = strides-add s m n l (stride s k) (omega arith)

pub strides_none : (s : List ℕ) (n k i : ℕ) → n ≤ k → strides s (4 * (n - k)) i ≡ i
unfolding strides
strides_none s n k i h = let z : 4 * (n - k) ≡ 0 = omega arith in rw z

strides-one : (s : List ℕ) (k : ℕ) → strides s 1 k ≡ stride s k
unfolding strides
strides-one s k = refl

-- a table that is filled number by number

pub table_on : (f : ℕ → ℕ) (t : List ℕ) (e v : ℕ) → ((k : ℕ) → k < e → get_or t k 0 ≡ f k) → e < length t → v ≡ f e → (k : ℕ) → k < e + 1 → get_or (set t e v) k 0 ≡ f k
table_on f t e v h l x k o =
    by_cases (ltb k e)
    (λ u. let j : k < e = ltb-true k e u in get_or-set_other t e k v 0 (λ q. absurd (omega arith)) ∙ h k j)
    (λ u.
    let q : k ≡ e = omega (arith, ltb-false k e u) in
    ap (λ (j : ℕ). get_or (set t e v) j 0) q ∙ get_or-set_same t e v 0 l ∙ x ∙ ap f (sym q))

pub table-one : (s t : List ℕ) → ((k : ℕ) → k < stops → get_or t k 0 ≡ stride s k) → Table s 1 t
table-one s t h k o = h k o ∙ sym (strides-one s k)

pub table-twice : (s : List ℕ) (n m : ℕ) (t u : List ℕ) → m ≡ n + n → Table s n t → ((k : ℕ) → k < stops → get_or u k 0 ≡ get_or t (get_or t k 0) 0) → Table s m u
table-twice s n m t u e h g k o =
    let a : get_or t k 0 ≡ strides s n k = h k o in
    g k o ∙ ap (λ (j : ℕ). get_or t j 0) a ∙ h (strides s n k) (strides-closed s n k o) ∙ sym (strides-add s n n m k e)

-- the number that fills the table of one step

pub stride-of : (s : List ℕ) (k w v : ℕ) → k < entries → w ≡ nth s (link_at k) → v ≡ leads w → v ≡ stride s k
stride-of s k w v h e f = f ∙ ap leads e ∙ sym (stride-entry s k h)

pub stride-self : (s : List ℕ) (k : ℕ) → entries ≤ k → k ≡ stride s k
stride-self s k h = sym (stride-stop s k h)

-- four steps at a time

pub four_on : (s : List ℕ) (t : List ℕ) (a n k : ℕ) → Table s 4 t → a < stops → k < n → strides s (4 * (n - k)) a ≡ strides s (4 * (n - (k + 1))) (get_or t a 0)
four_on s t a n k h o z =
    strides-add s 4 (4 * (n - (k + 1))) (4 * (n - k)) a (omega arith) ∙ ap (λ (j : ℕ). strides s (4 * (n - (k + 1))) j) (sym (h a o))

-- an entry's eighteen bytes as three numbers

pub eighteen : (xs : List ℕ) (p a b d : ℕ) → eqb a 0 ≡ quiet xs (p + 2) 6 → eqb b 0 ≡ quiet xs (p + 8) 8 → eqb d 0 ≡ quiet xs (p + 16) 4
    → eqb (bit_or (bit_or a b) d) 0 ≡ quiet xs (p + 2) (2 * data_words)
eighteen xs p a b d ea eb ed =
    or-zero (bit_or a b) d ∙ ap (λ (t : Bool). t && eqb d 0) (or-zero a b)
    ∙ rw (ea, eb, ed) (sym (quiet-join xs 4 14 18 (p + 2) (p + 16) refl (omega arith) ∙ ap (λ (t : Bool). t && quiet xs (p + 16) 4) (quiet-join xs 8 6 14 (p + 2) (p + 8) refl (omega arith))))

pub free_of : (s : List ℕ) (e at x : ℕ) → at ≡ 2 * link_at e → eqb x 0 ≡ quiet s (at + 2) (2 * data_words) → eqb x 0 ≡ free_entry s e
unfolding free_entry
free_of s e at x a h =
    let p : at + 2 ≡ 2 * data_at e = omega arith in
    let q : eqb x 0 ≡ quiet s (2 * data_at e) (2 * data_words) = rw p at h in
    q ∙ zero-bytes s data_words (data_at e)

-- the list from an entry, all entries being free

leads-ends : (w : ℕ) → eqb (leads w) ended ≡ eqb w nil
leads-ends w =
    by_cases (ltb w entries)
    (λ t.
    let o : w < entries = ltb-true w entries t in
    let e : leads w ≡ w = leads-entry w o in
    ne_eqb (leads w) ended (λ q. absurd (omega (arith, e, q))) ∙ sym (ne_eqb w nil (λ q. absurd (omega arith))))
    (λ t.
    by_cases (eqb w nil)
    (λ u. eq-eqb (leads w) ended (leads-end w (eqb-true w nil u)) ∙ sym u)
    (λ u.
    let e : leads w ≡ astray = leads-astray w (ltb-false w entries t) (eqb-false w nil u) in
    ne_eqb (leads w) ended (λ q. absurd (omega (arith, e, q))) ∙ sym u))

leads-off : (w : ℕ) → entries ≤ w → entries ≤ leads w
leads-off w h =
    by_cases (eqb w nil)
    (λ u. let e : leads w ≡ ended = leads-end w (eqb-true w nil u) in omega (arith, e))
    (λ u. let e : leads w ≡ astray = leads-astray w h (eqb-false w nil u) in omega (arith, e))

ends-by-off : (s : List ℕ) (n k : ℕ) → entries ≤ strides s n k → ends_by s n k ≡ false
unfolding ends_by
ends-by-off s n k h = rw (le-ltb (strides s n k) entries h)

ends-by-none : (s : List ℕ) (k : ℕ) → k < entries → ends_by s zero k ≡ eqb (stride s k) ended
unfolding ends_by strides
ends-by-none s k h = rw (lt-ltb k entries h)

ends-by-step : (s : List ℕ) (n k j : ℕ) → stride s k ≡ j → ends_by s (suc n) k ≡ ends_by s n j
unfolding ends_by strides
ends-by-step s n k j e = ap (λ (i : ℕ). ltb (strides s n i) entries && eqb (stride s (strides s n i)) ended) e

module _ (s : List ℕ) (free : (x : ℕ) → x < entries → free_entry s x ≡ true) where
  ends-strides : (n v : ℕ) → v < entries → free_ends s (link_at v) n ≡ ends_by s n v
  ends-strides zero v h =
      sym (ends-nil s (link_at v) zero (omega arith)) ∙ sym (leads-ends (nth s (link_at v)))
      ∙ sym (ends-by-none s v h ∙ ap (λ (j : ℕ). eqb j ended) (stride-entry s v h))
  ends-strides (suc n) v h =
      by_cases (ltb (nth s (link_at v)) entries)
      (λ t.
      let o : nth s (link_at v) < entries = ltb-true (nth s (link_at v)) entries t in
      let m : suc n - 1 ≡ n = omega arith in
      let a : free_ends s (link_at v) (suc n) ≡ ends_from s (nth s (link_at v)) (suc n - 1) = ends_on s (link_at v) (suc n) (nth s (link_at v)) refl (omega arith) o in
      rw m at a ∙ from_on s (nth s (link_at v)) n (free (nth s (link_at v)) o) ∙ ends-strides n (nth s (link_at v)) o
      ∙ sym (ends-by-step s n v (nth s (link_at v)) (stride-entry s v h ∙ leads-entry (nth s (link_at v)) o)))
      (λ t.
      let o : entries ≤ nth s (link_at v) = ltb-false (nth s (link_at v)) entries t in
      let z : entries ≤ leads (nth s (link_at v)) = leads-off (nth s (link_at v)) o in
      let q : strides s n (leads (nth s (link_at v))) ≡ leads (nth s (link_at v)) = strides-stop s n (leads (nth s (link_at v))) z in
      ends-off s (link_at v) (suc n) (nth s (link_at v)) refl (omega arith) o
      ∙ sym (ends-by-step s n v (leads (nth s (link_at v))) (stride-entry s v h) ∙ ends-by-off s n (leads (nth s (link_at v))) (omega (arith, q, z))))

-- entries that are free, one after the other

pub bare_step : (s : List ℕ) (e n : ℕ) → 0 < n → free_entry s e ≡ true → bare_from s e n ≡ bare_from s (e + 1) (n - 1)
unfolding bare_from
bare_step s e zero o h = absurd (omega arith)
bare_step s e (suc n) o h = let m : suc n - 1 ≡ n = omega arith in rw (m, add-one e, h, bare_from)

pub bare-bad : (s : List ℕ) (e n : ℕ) → 0 < n → free_entry s e ≡ false → bare_from s e n ≡ false
unfolding bare_from
bare-bad s e zero o h = absurd (omega arith)
bare-bad s e (suc n) o h = rw (h, bare_from)

-- the same where a number is 0 exactly if the entry is free, and e of all entries are passed

module _ (s : List ℕ) (e n x : ℕ) (o : e < n) (h : eqb x 0 ≡ free_entry s e) where
  pub bare-on : x ≡ 0 → bare_from s e (n - e) ≡ bare_from s (e + 1) (n - (e + 1))
  bare-on z =
      let m : n - e - 1 ≡ n - (e + 1) = omega arith in
      let r : bare_from s e (n - e) ≡ bare_from s (e + 1) (n - e - 1) = bare_step s e (n - e) (omega arith) (sym h ∙ eq-eqb x 0 z) in
      rw m at r

  pub bare-off : (x ≡ 0 → ⊥) → bare_from s e (n - e) ≡ false
  bare-off d = bare-bad s e (n - e) (omega arith) (sym h ∙ ne_eqb x 0 d)

pub bare-end : (s : List ℕ) (e n : ℕ) → n ≤ 0 → bare_from s e n ≡ true
unfolding bare_from
bare-end s e zero o = refl
bare-end s e (suc n) o = absurd (omega arith)

after : (x e : ℕ) → e ≤ x → (x ≡ e → ⊥) → e + 1 ≤ x
after x e a d = by_cases (ltb e x) (λ t. omega (arith, ltb-true e x t)) (λ t. absurd (d (omega (arith, ltb-false e x t))))

each_bare : (s : List ℕ) (n e : ℕ) → bare_from s e n ≡ true → (x : ℕ) → e ≤ x → x < e + n → free_entry s x ≡ true
each_bare s zero e h x a b = absurd (omega arith)
each_bare s (suc n) e h x a b = by_cases (free_entry s e) (on (each_bare s n (e + 1))) (λ t. absurd (true≢false (sym h ∙ bare-bad s e (suc n) (omega arith) t)))
  where
    on : (bare_from s (e + 1) n ≡ true → (y : ℕ) → e + 1 ≤ y → y < e + 1 + n → free_entry s y ≡ true) → free_entry s e ≡ true → free_entry s x ≡ true
    on ih t =
        let m : suc n - 1 ≡ n = omega arith in
        let r : bare_from s e (suc n) ≡ bare_from s (e + 1) (suc n - 1) = bare_step s e (suc n) (omega arith) t in
        let r' : bare_from s e (suc n) ≡ bare_from s (e + 1) n = rw m at r in
        by_cases (eqb x e)
        (λ u. ap (λ (j : ℕ). free_entry s j) (eqb-true x e u) ∙ t)
        (λ u. let d : x ≡ e → ⊥ = eqb-false x e u in ih (sym r' ∙ h) x (after x e a d) (omega arith))

all-bare-from : (s : List ℕ) (n e : ℕ) → ((x : ℕ) → x < e + n → free_entry s x ≡ true) → bare_from s e n ≡ true
all-bare-from s zero e h = bare-end s e zero (omega arith)
all-bare-from s (suc n) e h =
    let m : suc n - 1 ≡ n = omega arith in
    let r : bare_from s e (suc n) ≡ bare_from s (e + 1) (suc n - 1) = bare_step s e (suc n) (omega arith) (h e (omega arith)) in
    rw m at r ∙ all-bare-from s n (e + 1) (λ x o. h x (omega arith))

-- the whole list

pub not-bare : (s : List ℕ) (p : ℕ) → bare_from s 0 entries ≡ false → free_ends s p entries ≡ false
not-bare s p h =
    by_cases (free_ends s p entries)
    (λ t. absurd (true≢false (sym (all-bare-from s entries 0 (λ x o. all-bare s p t x (omega arith))) ∙ h)))
    (λ t. t)

pub by-strides : (s : List ℕ) (p v : ℕ) → bare_from s 0 entries ≡ true → v ≡ nth s p → v < entries → ends_by s (entries - 1) v ≡ free_ends s p entries
by-strides s p v h e o =
    let free : (x : ℕ) → x < entries → free_entry s x ≡ true = λ x l. each_bare s entries 0 h x (omega arith) (omega arith) in
    sym (ends_on s p entries v e (omega arith) o ∙ from_on s v (entries - 1) (free v o) ∙ ends-strides s free (entries - 1) v o)

-- what the tables lead to: two steps, one more, and the rest by fours

pub tables-lead : (s one two : List ℕ) (head a b last : ℕ) → Table s 1 one → Table s 2 two → head < stops → a ≡ get_or two head 0 → b ≡ get_or one a 0
    → last ≡ strides s 124 b → last ≡ strides s (entries - 1) head
tables-lead s one two head a b last h₁ h₂ o ea eb el =
    let x : a ≡ strides s 2 head = ea ∙ h₂ head o in
    let l : a < stops = omega (arith, x, strides-closed s 2 head o) in
    let y : b ≡ strides s 1 a = eb ∙ h₁ a l in
    el ∙ ap (λ (j : ℕ). strides s 124 j) y ∙ sym (strides-add s 1 124 125 a refl) ∙ ap (λ (j : ℕ). strides s 125 j) x ∙ sym (strides-add s 2 125 127 head refl)

pub far-off : (s : List ℕ) (n k last : ℕ) → last ≡ strides s n k → entries ≤ last → false ≡ ends_by s n k
far-off s n k last e h = sym (ends-by-off s n k (rw e at h))

pub far-on : (s one : List ℕ) (n k last : ℕ) → Table s 1 one → last ≡ strides s n k → last < entries → eqb (get_or one last 0) ended ≡ ends_by s n k
unfolding ends_by
far-on s one n k last h e o =
    let x : get_or one last 0 ≡ stride s last = h last (omega arith) ∙ strides-one s last in
    rw (← e, lt-ltb last entries o, x)
