-- A file at rest: it is empty if a reader waits, and no record fits if a writer waits.
use Rattle.std.specs.Prelude.{◌≡◌, Bool, false, List, [], ◌∷◌, ℕ}
use Rattle.rules.specs.State.{Rec, Built}
use Rattle.rules.specs.Requests.{fits}

pub record Resting (rq wq : List ℕ) (recs : List Rec) (fit : Bool) : Type 0 where
  pub reads : (p : ℕ) (l : List ℕ) → rq ≡ p ∷ l → recs ≡ []
  pub writes : (p : ℕ) (l : List ℕ) → wq ≡ p ∷ l → fit ≡ false

abbrev pub Rest : Built → Type 0
Rest b = Resting b.rq b.wq b.store.recs (fits b)
