-- What lay in the memories before the desk was made fresh does not matter.
use mathlib.Core.Path.{◌≡◌, sym, ◌∙◌}
use mathlib.Core.Bool.{true}
use mathlib.Core.List.{List, ◌∷◌}
use Rattle.memory.specs.Memories.{Memories}
use Rattle.promises.specs.Promise.{HostCall, fresh, Given, sized}
use Rattle.runs.specs.Run.{Run}
use Rattle.runs.proofs.Condition2.{condition-2}
use Rattle.runs.proofs.Holds.{holds_same}

-- The same calls, with answer, record and output memories alike, from memories of any two contents of the right lengths: the host is given the same, and the
-- memories at the end are the same, to the last byte.
pub one-desk : (m n p q : Memories) (xs : List HostCall) (gs hs : List Given)
    → sized m ≡ true → Run m (fresh ∷ xs) gs n → sized p ≡ true → Run p (fresh ∷ xs) hs q → (gs ≡ hs) × (n ≡ q)
one-desk m n p q xs gs hs a R b S =
    let C = condition-2 m n xs gs a R in
    let D = condition-2 p q xs hs b S in
    (C.given ∙ sym D.given, holds_same n q _ _ C.memories D.memories)
