-- What a read leaves of a store: it uses no more places, and where nothing is found it is empty.
use mathlib.Core.Path.{◌≡◌, refl, ap}
use mathlib.Core.Bool.{Bool, true, false, ◌||◌}
use mathlib.Core.List.{List, [], ◌∷◌}
use mathlib.Core.Option.{none, some-ne-none}
use Prim.Native.Nat.{◌+◌, ◌≤◌}
use native.Mathlib.Omega.{arith}
use lib.Dec.{eqb}
use lib.ListN.{length}
use Rattle.rules.specs.State.{Rec, Geo, Store}
use Rattle.rules.specs.Store.{used, advance, advance_by, dropped, discard, take_head, fetch}
use Rattle.rules.proofs.Split.{both}
use Rattle.shares.proofs.Taken.{recs-advance, take_head-none, take_head-some}

used-advance : (g : Geo) (s : Store) (r : Rec) (rest : List Rec) → s.recs ≡ r ∷ rest → used (advance g s) ≤ used s
unfolding used
used-advance g s r rest e =
    let less : (advance g s).spent ≤ s.spent + 1 = unfold advance in both (λ (t : Store). t.spent ≤ s.spent + 1) (eqb (length s.recs) 1 || eqb (s.spent + 1) g.factor) (λ _. omega arith) (λ _. omega arith) in
    rw (recs-advance g s r rest e) (omega (arith, less, ap length e))

used-dropped : (g : Geo) (l : List Rec) (s : Store) → s.recs ≡ l → used (advance_by (length (dropped l)) g s) ≤ used s
unfolding dropped advance_by
used-dropped g [] s e = omega arith
used-dropped g (r ∷ rest) s e =
    both (λ (x : List Rec). used (advance_by (length x) g s) ≤ used s) (eqb r.typ 0) (λ _. omega arith)
    (λ _. omega (arith, used-dropped g rest (advance g s) (recs-advance g s r rest e), used-advance g s r rest e))

used-take_head : (g : Geo) (keep : Bool) (went : List Rec) (s : Store) (l : List Rec) → s.recs ≡ l → used (take_head g keep went s).store ≤ used s
used-take_head g keep went s [] e = rw (take_head-none g keep went s e) (omega arith)
used-take_head g true went s (r ∷ rest) e = rw (take_head-some g true went s r rest e) (omega arith)
used-take_head g false went s (r ∷ rest) e = rw (take_head-some g false went s r rest e) (used-advance g s r rest e)

pub used-fetch : (g : Geo) (typed keep : Bool) (s : Store) → used (fetch g typed keep s).store ≤ used s
unfolding fetch discard
used-fetch g true keep s = used-take_head g keep [] s s.recs refl
used-fetch g false keep s = omega (arith, used-take_head g keep (dropped s.recs) (discard g s) (discard g s).recs refl, used-dropped g s.recs s refl)

-- an empty store: nothing is found, and it stays; and where nothing is found it is empty

discard-empty : (g : Geo) (s : Store) → s.recs ≡ [] → discard g s ≡ s
unfolding discard dropped advance_by
discard-empty g s e = ap (λ (l : List Rec). advance_by (length (dropped l)) g s) e

pub fetch-empty : (g : Geo) (typed keep : Bool) (s : Store) → s.recs ≡ [] → fetch g typed keep s ≡ record { store = s; got = none; went = []; took = none }
unfolding fetch
fetch-empty g true keep s e = take_head-none g keep [] s e
fetch-empty g false keep s e = rw (discard-empty g s e, ap dropped e) (unfold dropped in take_head-none g keep [] s e)

take_head-left : (g : Geo) (keep : Bool) (went : List Rec) (s : Store) (l : List Rec) → s.recs ≡ l → (take_head g keep went s).got ≡ none → (take_head g keep went s).store.recs ≡ []
take_head-left g keep went s [] q = rw (take_head-none g keep went s q) (λ _. q)
take_head-left g true went s (r ∷ rest) q = rw (take_head-some g true went s r rest q) (λ e. absurd (some-ne-none r e))
take_head-left g false went s (r ∷ rest) q = rw (take_head-some g false went s r rest q) (λ e. absurd (some-ne-none r e))

pub recs-fetch-none : (g : Geo) (typed keep : Bool) (s : Store) → (fetch g typed keep s).got ≡ none → (fetch g typed keep s).store.recs ≡ []
unfolding fetch
recs-fetch-none g true keep s e = take_head-left g keep [] s s.recs refl e
recs-fetch-none g false keep s e = take_head-left g keep (dropped s.recs) (discard g s) (discard g s).recs refl e
