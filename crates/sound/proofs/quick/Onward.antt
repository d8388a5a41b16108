-- Entries of the free list that follow in order: what their bytes say, and the walk over one of them and over four.
use Prim.Native.Nat.{ℕ, zero, suc, ◌+◌, ◌*◌, ◌-◌, ◌≤◌, ◌<◌}
use mathlib.Core.Path.{◌≡◌, refl, sym, ap, ◌∙◌}
use mathlib.Core.Bool.{Bool, true, false, ◌&&◌}
use mathlib.Core.List.{List}
use native.Mathlib.Omega.{arith}
use borrow.Author.Tests.{ne_eqb}
use lib.Dec.{eqb}
use lib.ListN.{get_or, set}
use lib.Seq.{get_or-set_other}
use lib.Bits.{bit_or, bit_xor}
use Rattle.rules.specs.Limits.{entries}
use Rattle.words.specs.Word.{quiet}
use Rattle.words.specs.Led.{Led, Lone}
use Rattle.words.proofs.Led.{none}
use Rattle.words.proofs.Ors.{or_left, or_right, xor_same}
use Rattle.segment.specs.Layout.{nil, data_words, link_at, data_at}
use Rattle.segment.specs.Table.{nth}
use Rattle.sound.specs.Walks.{walked, free_entry, free_walk}
use Rattle.sound.specs.quick.Onward.{Linked, free_from}
use Rattle.sound.proofs.Steps.{free-end, free-bad, free_step, both-held}
use Rattle.sound.proofs.Bytes.{zero-bytes}
use Rattle.words.proofs.Joins.{both-quiet}

-- what an entry's bytes are where the numbers that they make are 0, or a link's

pub led-twenty : (xs : List ℕ) (p a b d n : ℕ) → ((m : ℕ) → m < 256 → a ≡ m * 256 → Led xs p m 6) → eqb b 0 ≡ quiet xs (p + 8) 8 → eqb d 0 ≡ quiet xs (p + 16) 4 → n < 256
    → bit_or (bit_or (bit_xor a (n * 256)) b) d ≡ 0 → Linked xs p n
unfolding Led
led-twenty xs p a b d n f eb ed k e =
    let t : bit_or (bit_xor a (n * 256)) b ≡ 0 = or_left (bit_or (bit_xor a (n * 256)) b) d e in
    let v = f n k (xor_same a (n * 256) (or_left (bit_xor a (n * 256)) b t)) in
    let y : quiet xs (p + 8) 8 ≡ true = none xs (p + 8) 8 b eb (or_right (bit_xor a (n * 256)) b t) in
    let z : quiet xs (p + 16) 4 ≡ true = none xs (p + 16) 4 d ed (or_right (bit_or (bit_xor a (n * 256)) b) d e) in
    (v.0, v.1, both-quiet xs 6 12 18 (p + 2) (p + 8) refl (omega arith) v.2 (both-quiet xs 8 4 12 (p + 8) (p + 16) refl (omega arith) y z))

pub led-forty : (xs : List ℕ) (p a b d e f n : ℕ) → ((m : ℕ) → m < 256 → a ≡ m * 256 → Led xs p m 6) → eqb b 0 ≡ quiet xs (p + 8) 8
    → ((m : ℕ) → m < 256 → d ≡ m * 1099511627776 → Lone xs (p + 16) 4 m 2) → eqb e 0 ≡ quiet xs (p + 24) 8 → eqb f 0 ≡ quiet xs (p + 32) 8 → n + 1 < 256
    → bit_or (bit_or (bit_or (bit_or (bit_xor a (n * 256)) b) (bit_xor d ((n + 1) * 1099511627776))) e) f ≡ 0 → Linked xs p n × Linked xs (p + 20) (n + 1)
unfolding Led Lone
led-forty xs p a b d e f n ka eb kd ee ef k h =
    let x : ℕ = bit_xor a (n * 256) in
    let y : ℕ = bit_xor d ((n + 1) * 1099511627776) in
    let h₄ : bit_or (bit_or (bit_or x b) y) e ≡ 0 = or_left (bit_or (bit_or (bit_or x b) y) e) f h in
    let h₃ : bit_or (bit_or x b) y ≡ 0 = or_left (bit_or (bit_or x b) y) e h₄ in
    let h₂ : bit_or x b ≡ 0 = or_left (bit_or x b) y h₃ in
    let v = ka n (omega arith) (xor_same a (n * 256) (or_left x b h₂)) in
    let w = kd (n + 1) k (xor_same d ((n + 1) * 1099511627776) (or_right (bit_or x b) y h₃)) in
    let q : quiet xs (p + 8) 8 ≡ true = none xs (p + 8) 8 b eb (or_right x b h₂) in
    let r : quiet xs (p + 24) 8 ≡ true = none xs (p + 24) 8 e ee (or_right (bit_or (bit_or x b) y) e h₄) in
    let s : quiet xs (p + 32) 8 ≡ true = none xs (p + 32) 8 f ef (or_right (bit_or (bit_or (bit_or x b) y) e) f h) in
    let at : p + 16 + 4 ≡ p + 20 = omega arith in
    let w₀ : get_or xs (p + 20) 0 ≡ 0 = rw at at w.1.0 in
    let w₁ : get_or xs (p + 20 + 1) 0 ≡ n + 1 = rw at at w.1.1 in
    let w₂ : quiet xs (p + 20 + 2) 2 ≡ true = rw at at w.1.2 in (
      (v.0, v.1, both-quiet xs 6 12 18 (p + 2) (p + 8) refl (omega arith) v.2 (both-quiet xs 8 4 12 (p + 8) (p + 16) refl (omega arith) q w.0)),
      (w₀, w₁, both-quiet xs 2 16 18 (p + 20 + 2) (p + 24) refl (omega arith) w₂ (both-quiet xs 8 8 16 (p + 24) (p + 32) refl (omega arith) r s)),
    )

-- two entries and two more
pub four-of-two : (xs : List ℕ) (p e : ℕ) → Linked xs p (e + 1) × Linked xs (p + 20) (e + 1 + 1) → Linked xs (p + 40) (e + 3) × Linked xs (p + 40 + 20) (e + 3 + 1)
    → Linked xs p (e + 1) × Linked xs (p + 20) (e + 2) × Linked xs (p + 40) (e + 3) × Linked xs (p + 60) (e + 4)
four-of-two xs p e a b =
    let x : e + 1 + 1 ≡ e + 2 = omega arith in
    let y : e + 3 + 1 ≡ e + 4 = omega arith in
    let z : p + 40 + 20 ≡ p + 60 = omega arith in
    (a.0, rw x at a.1, b.0, rw (y, z) at b.1)

-- the walk

-- the steps left, where some were taken
pub fewer : (s seen busy : List ℕ) (r a b : ℕ) → a ≡ b → free_from s r seen busy a ≡ free_from s r seen busy b
fewer s seen busy r a b e = ap (λ (k : ℕ). free_from s r seen busy k) e

pub stays : (s seen busy : List ℕ) (e m : ℕ) → free_from s e seen busy m ≡ free_from s e seen busy (m - (e - e))
stays s seen busy e m = fewer s seen busy e m (m - (e - e)) (omega arith)

pub from-bad : (s seen busy : List ℕ) (e m : ℕ) → (eqb (get_or seen e 0) 0 && free_entry s e) ≡ false → free_from s e seen busy m ≡ walked false seen busy
unfolding free_from
from-bad s seen busy e m h = rw (h, free_from)

pub from-good : (s seen busy : List ℕ) (e m : ℕ) → (eqb (get_or seen e 0) 0 && free_entry s e) ≡ true → free_from s e seen busy m ≡ free_walk s (link_at e) (set seen e 1) busy m
unfolding free_from
from-good s seen busy e m h = rw (h, free_from)

pub slot-holds : (s seen busy : List ℕ) (p n v : ℕ) → v ≡ nth s p → 0 < n → v < entries → free_walk s p seen busy n ≡ free_from s v seen busy (n - 1)
slot-holds s seen busy p n v e a h = go (eqb (get_or seen v 0) 0 && free_entry s v) refl
  where
    go : (t : Bool) → (eqb (get_or seen v 0) 0 && free_entry s v) ≡ t → free_walk s p seen busy n ≡ free_from s v seen busy (n - 1)
    go true d = free_step s p seen busy v e n a h d ∙ sym (from-good s seen busy v (n - 1) d)
    go false d = free-bad s p seen busy v e n a h d ∙ sym (from-bad s seen busy v (n - 1) d)

-- what a slot holds, byte by byte

pub low_byte : (s : List ℕ) (p v : ℕ) → v ≡ get_or s (2 * p + 1) 0 → get_or s (2 * p) 0 ≡ 0 → v ≡ nth s p
unfolding nth
low_byte s p v e z = omega arith

pub high_byte : (s : List ℕ) (p v : ℕ) → v ≡ nth s p → (get_or s (2 * p) 0 ≡ 0 → ⊥) → entries ≤ v
unfolding nth
high_byte s p v e d = le (get_or s (2 * p) 0) refl
  where
    le : (x : ℕ) → get_or s (2 * p) 0 ≡ x → entries ≤ v
    le zero z = absurd (d z)
    le (suc x) z = omega arith

pub high-place : (s : List ℕ) (p : ℕ) → (get_or s (2 * p) 0 ≡ 0 → ⊥) → entries ≤ nth s p
high-place s p d = high_byte s p (nth s p) refl d

pub end_low : (s seen busy : List ℕ) (p n v : ℕ) → v ≡ get_or s (2 * p + 1) 0 → get_or s (2 * p) 0 ≡ 0 → 0 < n → entries ≤ v → v < 256 → free_walk s p seen busy n ≡ walked false seen busy
end_low s seen busy p n v e z a h l =
    free-end s p seen busy v (low_byte s p v e z) n a h ∙ ap (λ (b : Bool). walked b seen busy) (ne_eqb v nil (λ q. absurd (omega arith)))

-- one entry that is linked to the next

pub linked : (s : List ℕ) (e at n : ℕ) → at ≡ 2 * link_at e → Linked s at n → nth s (link_at e) ≡ n
unfolding Led nth
linked s e at n a l =
    let h : get_or s (2 * link_at e) 0 ≡ 0 = rw a at l.0 in
    let k : get_or s (2 * link_at e + 1) 0 ≡ n = rw a at l.1 in
    omega (arith, h, k)

pub clean : (s : List ℕ) (e at n : ℕ) → at ≡ 2 * link_at e → Linked s at n → free_entry s e ≡ true
unfolding Led free_entry
clean s e at n a l =
    let p : at + 2 ≡ 2 * data_at e = omega arith in
    let q : quiet s (2 * data_at e) 18 ≡ true = rw p at l.2 in
    sym (zero-bytes s data_words (data_at e)) ∙ q

-- the plain walk goes on to the next number
pub onto : (s seen busy : List ℕ) (e at n m : ℕ) → at ≡ 2 * link_at e → n ≡ e + 1 → Linked s at n → get_or seen e 0 ≡ 0 → n < entries → 0 < m
    → free_from s e seen busy m ≡ free_from s n (set seen e 1) busy (m - 1)
onto s seen busy e at n m a q l x h o =
    from-good s seen busy e m (both-held x (clean s e at n a l)) ∙ slot-holds s (set seen e 1) busy (link_at e) m n (sym (linked s e at n a l)) o h

apart : (xs : List ℕ) (i j : ℕ) → i < j → get_or xs j 0 ≡ 0 → get_or (set xs i 1) j 0 ≡ 0
apart xs i j l h = get_or-set_other xs i j 1 0 (λ q. absurd (omega arith)) ∙ h

-- the walk goes over four entries
pub onto-four : (s seen busy : List ℕ) (e at m : ℕ) → at ≡ 2 * link_at e → Linked s at (e + 1) → Linked s (at + 20) (e + 2) → Linked s (at + 40) (e + 3) → Linked s (at + 60) (e + 4)
    → get_or seen e 0 ≡ 0 → get_or seen (e + 1) 0 ≡ 0 → get_or seen (e + 2) 0 ≡ 0 → get_or seen (e + 3) 0 ≡ 0 → e + 4 < entries → 4 ≤ m
    → free_from s e seen busy m ≡ free_from s (e + 4) (set (set (set (set seen e 1) (e + 1) 1) (e + 2) 1) (e + 3) 1) busy (m - 4)
onto-four s seen busy e at m a l₁ l₂ l₃ l₄ x₀ x₁ x₂ x₃ h o =
    let t₁ : List ℕ = set seen e 1 in
    let t₂ : List ℕ = set t₁ (e + 1) 1 in
    let t₃ : List ℕ = set t₂ (e + 2) 1 in
    let y₁ : get_or t₁ (e + 1) 0 ≡ 0 = apart seen e (e + 1) (omega arith) x₁ in
    let y₂ : get_or t₂ (e + 2) 0 ≡ 0 = apart t₁ (e + 1) (e + 2) (omega arith) (apart seen e (e + 2) (omega arith) x₂) in
    let y₃ : get_or t₃ (e + 3) 0 ≡ 0 = apart t₂ (e + 2) (e + 3) (omega arith) (apart t₁ (e + 1) (e + 3) (omega arith) (apart seen e (e + 3) (omega arith) x₃)) in
    onto s seen busy e at (e + 1) m a refl l₁ x₀ (omega arith) (omega arith)
    ∙ onto s t₁ busy (e + 1) (at + 20) (e + 2) (m - 1) (omega arith) (omega arith) l₂ y₁ (omega arith) (omega arith)
    ∙ onto s t₂ busy (e + 2) (at + 40) (e + 3) (m - 1 - 1) (omega arith) (omega arith) l₃ y₂ (omega arith) (omega arith)
    ∙ onto s t₃ busy (e + 3) (at + 60) (e + 4) (m - 1 - 1 - 1) (omega arith) (omega arith) l₄ y₃ (omega arith) (omega arith)
    ∙ fewer s (set t₃ (e + 3) 1) busy (e + 4) (m - 1 - 1 - 1 - 1) (m - 4) (omega arith)
