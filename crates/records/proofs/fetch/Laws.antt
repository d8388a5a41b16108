-- Open and close records at the head of a ring go, one by one.
use Prim.Native.Nat.{ℕ, ◌+◌, ◌≤◌, ◌<◌}
use mathlib.Core.Path.{◌≡◌, refl, sym, ap, ◌∙◌, subst}
use mathlib.Core.Bool.{false}
use mathlib.Core.List.{List, [], ◌∷◌}
use native.Mathlib.Omega.{arith}
use lib.ListN.{length}
use Rattle.words.specs.Word.{word_at}
use Rattle.rules.specs.State.{Rec, Geo, Store}
use Rattle.rules.specs.Store.{advance, discard}
use Rattle.shares.specs.Holds.{Sized, InShare}
use Rattle.shares.specs.Back.{rec_at}
use Rattle.shares.specs.Places.{place_in, head_at}
use Rattle.shares.proofs.Taken.{share-advance}
use Rattle.shares.proofs.Holds.{holds-advance}
use Rattle.shares.proofs.Places.{head_at-read}
use Rattle.ring.specs.declared.Ring.{Ring}
use Rattle.ring.specs.Ring.{geo, ring_of, advanced}
use Rattle.ring.specs.Held.{Held}
use Rattle.ring.proofs.Stores.{ring-advance}
use Rattle.records.proofs.reading.Stores.{discard-none, discard-stop, discard-on}
use Rattle.records.specs.Fetch.{Stores, ahead, Comes}

-- a list is empty, or has a first
pub empty-or : (P : List Rec → Type 0) (l : List Rec) → (length l ≡ 0 → P []) → ((r : Rec) (rest : List Rec) → l ≡ r ∷ rest → P (r ∷ rest)) → P l
empty-or P [] n c = n refl
empty-or P (r ∷ rest) n c = c r rest refl

pub comes-here : (w : ℕ) (q : Ring) (xs : List ℕ) → Comes w q q xs
comes-here w q xs = record { to = λ s S. s; holds = λ s S. S.holds; ring = λ s S. S.ring; share = λ s S. S.share; same = λ s S. refl }

module _ (w : ℕ) (q r : Ring) (xs : List ℕ) (k : Comes w q r xs) (h : Held w q xs) where
  abbrev g : Geo
  g = geo w q

  abbrev sized : Sized g
  sized = h.fitted.sized

  module _ (s : Store) (S : Stores w q xs s) where
    abbrev t : Store
    t = k.to s S

    count : length t.recs ≡ r.held
    count = ap (λ (x : Ring). x.held) (k.ring s S)

    -- the type word of the head record
    head-typ : (d : Rec) (rest : List Rec) → t.recs ≡ d ∷ rest → word_at xs (place_in (geo w r) xs r.block r.spent + 2) ≡ d.typ
    unfolding head_at rec_at
    head-typ d rest e =
        subst (λ (x : Ring). word_at xs (place_in (geo w x) xs x.block x.spent + 2) ≡ d.typ) (k.ring s S)
        (subst (λ (ys : List ℕ). word_at ys (place_in g ys t.block t.spent + 2) ≡ d.typ) (k.share s S)
        (ap (λ (x : Rec). x.typ) (head_at-read g t d rest sized (k.holds s S) e)))

    -- a data record at the head, or none
    pub comes-stop : 0 < r.held → word_at xs (place_in (geo w r) xs r.block r.spent + 2) ≡ 0 → r ≡ ring_of g (ahead g false s)
    unfolding ahead
    comes-stop l z =
        sym (k.ring s S) ∙ ap (ring_of g)
        (empty-or (λ (x : List Rec). t.recs ≡ x → t ≡ discard g s) t.recs (λ n e. absurd (omega (arith, n, count)))
        (λ d rest e _. sym (discard-stop g t d rest e (sym (head-typ d rest e) ∙ z)) ∙ k.same s S) refl)

    pub comes-end : r.held ≤ 0 → r ≡ ring_of g (ahead g false s)
    unfolding ahead
    comes-end l =
        sym (k.ring s S) ∙ ap (ring_of g)
        (empty-or (λ (x : List Rec). t.recs ≡ x → t ≡ discard g s) t.recs (λ n e. sym (discard-none g t e) ∙ k.same s S)
        (λ d rest e _. absurd (omega (arith, ap length e, count))) refl)

  -- an open or close record at the head goes
  module _ (l : 0 < r.held) (z : word_at xs (place_in (geo w r) xs r.block r.spent + 2) ≡ 0 → ⊥) where
    next : (s : Store) → Stores w q xs s → Store
    next s S = advance g (t s S)

    on : (P : Store → Type 0) (s : Store) (S : Stores w q xs s) → ((d : Rec) (rest : List Rec) → (t s S).recs ≡ d ∷ rest → P (advance g (t s S))) → P (next s S)
    unfolding next
    on P s S c =
        empty-or (λ (x : List Rec). (t s S).recs ≡ x → P (advance g (t s S))) (t s S).recs (λ n e. absurd (omega (arith, n, count s S))) (λ d rest e _. c d rest e) refl

    pub comes-on : Comes w q (advanced r) xs
    unfolding next
    comes-on = record {
      to = next;
      holds = λ s S. on (InShare g) s S (λ d rest e. holds-advance g (t s S) d rest e (k.holds s S));
      ring = λ s S. on (λ x. ring_of g x ≡ advanced r) s S (λ d rest e. ring-advance g (t s S) d rest (k.holds s S).block e ∙ ap advanced (k.ring s S));
      share = λ s S. share-advance g (t s S) ∙ k.share s S;
      same = λ s S. on (λ x. discard g x ≡ discard g s) s S
          (λ d rest e. sym (discard-on g (t s S) d rest e (λ y. z (head-typ s S d rest e ∙ y))) ∙ k.same s S);
    }
