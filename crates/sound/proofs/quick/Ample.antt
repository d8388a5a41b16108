-- Room for more records than a file has places.
use Prim.Native.Nat.{ℕ, ◌+◌, ◌*◌, ◌≤◌}
use mathlib.Core.Path.{◌≡◌}
use mathlib.Core.Bool.{true, ◌&&◌}
use mathlib.Core.List.{List}
use native.Mathlib.Omega.{arith}
use borrow.Author.Tests.{le-leb}
use lib.Dec.{leb}
use Rattle.rules.specs.Limits.{places}
use Rattle.accessors.specs.Sides.{count_side}
use Rattle.accessors.proofs.Turns.{sides-few}

pub room-ample : (s : List ℕ) (f used most : ℕ) → used + (places + 1) ≤ most → (leb (used + count_side s f 2) most && leb (count_side s f 2 + 1) most) ≡ true
room-ample s f used most h =
    let w : count_side s f 2 ≤ places = sides-few s 2 (places * f) places in
    let a : leb (used + count_side s f 2) most ≡ true = le-leb (used + count_side s f 2) most (omega (arith, w)) in
    let b : leb (count_side s f 2 + 1) most ≡ true = le-leb (count_side s f 2 + 1) most (omega (arith, w)) in
    rw (a, b)
