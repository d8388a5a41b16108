-- What a change of the segment does to one chain of entries, and where the walks along it end.
use Prim.Native.Nat.{ℕ, ◌-◌, ◌≤◌, ◌<◌}
use mathlib.Core.Path.{◌≡◌, refl, sym, ◌∙◌}
use mathlib.Core.List.{List, [], ◌∷◌, ◌++◌}
use native.Mathlib.Omega.{arith}
use borrow.Author.Tests.{lt-ltb, le-ltb}
use lib.ListN.{length}
use Rattle.rules.specs.Limits.{entries}
use Rattle.occurrences.specs.Count.{count}
use Rattle.occurrences.proofs.Counts.{count_head, count-append, count-apart, bit-eq}
use Rattle.occurrences.proofs.Pigeons.{Below}
use Rattle.segment.specs.Layout.{link_at, segment_bytes, file_rows}
use Rattle.segment.specs.Table.{nth, put_nth}
use Rattle.segment.proofs.Rows.{length-put_nth, nth-same, nth-other}
use Rattle.segment.proofs.Apart.{Slot, slot-link}
use Rattle.ports.specs.Slots.{end_slot, insert, unlink}
use Rattle.ports.specs.Lists.{Chain}
use Rattle.ports.proofs.Steps.{end-stop, end_step}

-- the slot after the entries xs of a chain at p
abbrev pub slot_at : ℕ → List ℕ → ℕ
slot_at p [] = p
slot_at p (x ∷ xs) = slot_at (link_at x) xs

-- The slot after one entry more is that entry's link.
pub slot-after : (p : ℕ) (xs : List ℕ) (e : ℕ) → slot_at p (xs ++ e ∷ []) ≡ link_at e
slot-after p [] e = refl
slot-after p (x ∷ xs) e = slot-after (link_at x) xs e

-- slot p is no link of an entry of xs
abbrev pub Off : ℕ → List ℕ → Type 0
Off p xs = (z : ℕ) → 1 ≤ count z xs → p ≡ link_at z → ⊥

-- a chain is one in any segment with the same words at its slots; its first word may have moved
pub chain-move : (s t : List ℕ) (p q : ℕ) (xs : List ℕ) → Chain s p xs → nth t q ≡ nth s p
    → ((z : ℕ) → 1 ≤ count z xs → nth t (link_at z) ≡ nth s (link_at z)) → Chain t q xs
unfolding Chain count
chain-move s t p q [] c h f = h ∙ c
chain-move s t p q (x ∷ xs) c h f =
    (h ∙ c.0, c.1, chain-move s t (link_at x) (link_at x) xs c.2 (f x (count_head x xs)) (λ z k. f z (omega arith)))

pub chain-below : (s : List ℕ) (p : ℕ) (xs : List ℕ) → Chain s p xs → Below entries xs
unfolding Chain
chain-below s p [] c = tt
chain-below s p (x ∷ xs) c = (c.1, chain-below s (link_at x) xs c.2)

-- slots

pub slot-at : (p : ℕ) (xs ys : List ℕ) → Below entries (xs ++ ys) → Slot p → Slot (slot_at p xs)
slot-at p [] ys b h = h
slot-at p (x ∷ xs) ys b h = slot-at (link_at x) xs ys b.1 (slot-link x b.0)

-- a slot apart from p and the links of xs is not the one after xs
pub off-slot : (r p : ℕ) (xs : List ℕ) → (r ≡ p → ⊥) → Off r xs → r ≡ slot_at p xs → ⊥
unfolding count
off-slot r p [] d o e = d e
off-slot r p (x ∷ xs) d o e = off-slot r (link_at x) xs (o x (count_head x xs)) (λ z k. o z (omega arith)) e

-- the first of a list in which none stands twice is off the rest
pub off-first : (x : ℕ) (xs : List ℕ) → ((z : ℕ) → count z (x ∷ xs) ≤ 1) → Off (link_at x) xs
unfolding count
off-first x xs n z k e = omega (arith, n z, bit-eq x z (omega arith))

-- what the slot after xs holds

pub slot-word : (s : List ℕ) (p : ℕ) (xs : List ℕ) (e : ℕ) (ys : List ℕ) → Chain s p (xs ++ e ∷ ys) → (nth s (slot_at p xs) ≡ e) × (e < entries)
unfolding Chain
slot-word s p [] e ys c = (c.0, c.1)
slot-word s p (x ∷ xs) e ys c = slot-word s (link_at x) xs e ys c.2

pub slot-end : (s : List ℕ) (p : ℕ) (xs : List ℕ) → Chain s p xs → entries ≤ nth s (slot_at p xs)
unfolding Chain
slot-end s p [] c = omega arith
slot-end s p (x ∷ xs) c = slot-end s (link_at x) xs c.2

-- the walk to the end comes there
pub end_is : (s : List ℕ) (p : ℕ) (xs : List ℕ) (n : ℕ) → Chain s p xs → length xs ≤ n → end_slot s p n ≡ slot_at p xs
unfolding Chain
end_is s p [] n c h = end-stop s p (nth s p) refl n (omega arith)
end_is s p (x ∷ xs) n c h = end_step s p x (sym c.0) n (omega arith) c.1 ∙ end_is s (link_at x) xs (n - 1) c.2 (omega arith)

-- an entry is put in
module _ (s : List ℕ) (size : length s ≡ segment_bytes) (e : ℕ) (small : e < entries) where
  insert-here : (q : ℕ) → q < file_rows → nth (insert s q e) q ≡ e
  unfolding insert
  insert-here q h = nth-same (put_nth s (link_at e) (nth s q)) q e (rw length-put_nth (omega arith))

  insert-link : (q : ℕ) → (link_at e ≡ q → ⊥) → nth (insert s q e) (link_at e) ≡ nth s q
  unfolding insert
  insert-link q d = nth-other (put_nth s (link_at e) (nth s q)) q e (link_at e) d ∙ nth-same s (link_at e) (nth s q) (omega arith)

  pub insert-other : (q r : ℕ) → (r ≡ q → ⊥) → (r ≡ link_at e → ⊥) → nth (insert s q e) r ≡ nth s r
  unfolding insert
  insert-other q r d f = nth-other (put_nth s (link_at e) (nth s q)) q e r d ∙ nth-other s (link_at e) (nth s q) r f

  -- an entry that is in no slot of the chain is put in after xs
  pub chain-insert : (p : ℕ) (xs ys : List ℕ) → p < file_rows → Chain s p (xs ++ ys) → ((z : ℕ) → count z (xs ++ ys) ≤ 1) → count e (xs ++ ys) ≡ 0
      → Off p (xs ++ ys) → (p ≡ link_at e → ⊥) → Chain (insert s (slot_at p xs) e) p (xs ++ e ∷ ys)
  unfolding Chain count
  chain-insert p [] ys h c n a o d = (
    insert-here p h,
    small,
    chain-move s (insert s p e) p (link_at e) ys c (insert-link p (λ u. d (sym u)))
        (λ z k. insert-other p (link_at z) (λ u. o z k (sym u)) (λ u. count-apart z e ys k a (omega arith))),
  )
  chain-insert p (x ∷ xs) ys h c n a o d =
      let l = c.1 in (
        insert-other (slot_at (link_at x) xs) p (off-slot p (link_at x) xs (o x (count_head x (xs ++ ys))) (λ z k. o z (omega (arith, count-append z xs ys)))) d ∙ c.0,
        l,
        chain-insert (link_at x) xs ys (omega arith) c.2 (λ z. let f = n z in omega arith) (omega arith) (off-first x (xs ++ ys) n)
            (λ u. omega (arith, bit-eq x e (omega arith))),
      )

-- an entry is taken out

pub unlink-is : (s : List ℕ) (q e : ℕ) → nth s q ≡ e → e < entries → unlink s q ≡ put_nth s q (nth s (link_at e))
unfolding unlink
unlink-is s q e w h = rw (w, lt-ltb e entries h)

pub unlink-none : (s : List ℕ) (q : ℕ) → entries ≤ nth s q → unlink s q ≡ s
unfolding unlink
unlink-none s q h = rw (le-ltb (nth s q) entries h)

-- the entry after xs is taken out
pub chain-unlink : (s : List ℕ) → length s ≡ segment_bytes → (p : ℕ) (xs : List ℕ) (e : ℕ) (ys : List ℕ) → p < file_rows → Chain s p (xs ++ e ∷ ys)
    → ((z : ℕ) → count z (xs ++ e ∷ ys) ≤ 1) → Off p (xs ++ e ∷ ys) → Chain (put_nth s (slot_at p xs) (nth s (link_at e))) p (xs ++ ys)
unfolding Chain count
chain-unlink s size p [] e ys h c n o =
    chain-move s (put_nth s p (nth s (link_at e))) (link_at e) p ys c.2 (nth-same s p (nth s (link_at e)) (omega arith))
    (λ z k. nth-other s p (nth s (link_at e)) (link_at z) (λ u. o z (omega arith) (sym u)))
chain-unlink s size p (x ∷ xs) e ys h c n o =
    let l = c.1 in (
      nth-other s (slot_at (link_at x) xs) (nth s (link_at e)) p
          (off-slot p (link_at x) xs (o x (count_head x (xs ++ e ∷ ys))) (λ z k. o z (omega (arith, count-append z xs (e ∷ ys))))) ∙ c.0,
      l,
      chain-unlink s size (link_at x) xs e ys (omega arith) c.2 (λ z. let f = n z in omega arith) (off-first x (xs ++ e ∷ ys) n),
    )
