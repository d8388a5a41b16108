-- A share and a ring stand for a store of the rules.
use Rattle.std.specs.Prelude.{ℕ, ◌≡◌, List}
use Rattle.rules.specs.State.{Store}
use Rattle.shares.specs.Holds.{InShare}
use Rattle.ring.specs.declared.Ring.{Ring}
use Rattle.ring.specs.Ring.{geo, Fitted, ring_of}

pub record Held (w : ℕ) (r : Ring) (xs : List ℕ) : Type 0 where
  pub fitted : Fitted w r
  pub store : Store
  pub holds : InShare (geo w r) store
  pub ring : ring_of (geo w r) store ≡ r
  pub share : store.share ≡ xs
