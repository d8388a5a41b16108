-- The refusal number of a call of an accessor, given the accessor that it names; and of an open, given what is open in its file.
use Rattle.std.specs.Prelude.{ℕ, Bool, cond, ◌||◌, ltb, leb, eqb, Result, Ok, Err}
use Rattle.kinds.specs.declared.Outstanding.{Outstanding}
use Rattle.rules.specs.Limits.{places}
use Rattle.rules.specs.State.{Built}
use Rattle.rules.specs.Requests.{count_acc, opened}
use Rattle.rules.specs.Open.{sharing_of, other_share, crowded, room_to_open}
use Rattle.accessors.specs.declared.Accessor.{Accessor}
use Rattle.kinds.specs.declared.refusals.Refusal.{Refusal}
use Rattle.kinds.specs.Refusals.{number}
use Rattle.refusing.specs.Verdicts.{modes_in_range}

-- the number of a refused accessor, or what g says of an open one
unfoldable pub judged : (ℕ → ℕ → Outstanding → ℕ) → Result Accessor Refusal → ℕ
judged g (Err r) = number r
judged g (Ok a) = g a.words a.side a.request

-- whether an open is forbidden: multiaccess 3, another share, or a second accessor that the share forbids
unfoldable pub forbidden : ℕ → ℕ → ℕ → Built → Bool
forbidden access share multi b = eqb multi 3 || ltb 0 (count_acc (other_share (sharing_of share)) b.accs) || crowded (ltb 0 access) (sharing_of share) b

unfoldable pub open_refusal : ℕ → ℕ → ℕ → Built → ℕ
open_refusal access share multi b =
    cond (modes_in_range access share multi)
    (cond (forbidden access share multi b) 40 (cond (leb places (opened b)) 41 (cond (ltb 0 access) (cond (room_to_open access b) 0 42) 0)))
    35
