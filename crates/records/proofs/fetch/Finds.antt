-- What a read finds is what stands ahead of it.
use mathlib.Core.Path.{◌≡◌, refl}
use mathlib.Core.Bool.{Bool, true, false, cond}
use mathlib.Core.List.{List, [], ◌∷◌}
use mathlib.Core.Option.{none, some}
use Rattle.rules.specs.State.{Rec, Geo, Store}
use Rattle.rules.specs.Store.{advance, take_head, fetch, dropped, discard}
use Rattle.records.specs.Fetch.{ahead}
use Rattle.shares.proofs.Taken.{take_head-none, take_head-some}

pub fetch-none : (g : Geo) (typed keep : Bool) (s : Store) → (ahead g typed s).recs ≡ [] → ((fetch g typed keep s).got ≡ none) × ((fetch g typed keep s).store ≡ ahead g typed s)
unfolding fetch ahead
fetch-none g true keep s e = rw (take_head-none g keep [] s e) (refl, refl)
fetch-none g false keep s e = rw (take_head-none g keep (dropped s.recs) (discard g s) e) (refl, refl)

take-some : (g : Geo) (keep : Bool) (went : List Rec) (s : Store) (r : Rec) (rest : List Rec) → s.recs ≡ r ∷ rest
    → ((take_head g keep went s).got ≡ some r) × ((take_head g keep went s).store ≡ cond keep s (advance g s))
take-some g true went s r rest e = rw (take_head-some g true went s r rest e) (refl, refl)
take-some g false went s r rest e = rw (take_head-some g false went s r rest e) (refl, refl)

pub fetch-some : (g : Geo) (typed keep : Bool) (s : Store) (r : Rec) (rest : List Rec) → (ahead g typed s).recs ≡ r ∷ rest
    → ((fetch g typed keep s).got ≡ some r) × ((fetch g typed keep s).store ≡ cond keep (ahead g typed s) (advance g (ahead g typed s)))
unfolding fetch ahead
fetch-some g true keep s r rest e = take-some g keep [] s r rest e
fetch-some g false keep s r rest e = take-some g keep (dropped s.recs) (discard g s) r rest e
