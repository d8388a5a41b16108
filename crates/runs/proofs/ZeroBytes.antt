-- The bytes that no call reads are zero after every run of the five calls.
use mathlib.Core.Path.{◌≡◌}
use mathlib.Core.Bool.{true}
use mathlib.Core.List.{List, [], ◌∷◌}
use Rattle.rules.specs.Desk.{fresh_desk, after}
use Rattle.memory.specs.Memories.{Memories}
use Rattle.memory.proofs.Swept.{reached-buffers, reached-tails, reached-swept}
use Rattle.promises.specs.Promise.{HostCall, fresh, Given, sized}
use Rattle.runs.specs.Run.{Run}
use Rattle.runs.specs.Condition2.{since}
use Rattle.runs.specs.ZeroBytes.{ZeroBytes}
use Rattle.runs.proofs.Condition2.{condition-2}

-- The theorem: as in `condition-2`, any memories made fresh, and then any calls.
pub otherwise-zero : (m n : Memories) (xs : List HostCall) (gs : List Given) → sized m ≡ true → Run m (fresh ∷ xs) gs n → ZeroBytes (after fresh_desk (since [] xs)) n
otherwise-zero m n xs gs h R =
    let H = (condition-2 m n xs gs h R).memories in
    record {
      buffers = reached-buffers (since [] xs) n H.stands.stands.bodies H.blank;
      tails = reached-tails (since [] xs) n H.stands.stands.bodies H.blank;
      all = reached-swept (since [] xs) n H.stands.stands.bodies H.blank;
    }
