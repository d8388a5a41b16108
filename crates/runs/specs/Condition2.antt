-- Condition 2: every answer, stored record, waiting request and running timeout is what the manual and document 01 say for the calls made since the desk
-- was fresh.
use Rattle.std.specs.Prelude.{ℕ, ◌<◌, ◌≡◌, List, [], ◌∷◌, ◌++◌, get_or, drop}
use Rattle.rules.specs.Limits.{files}
use Rattle.rules.specs.Reply.{Reply, shows}
use Rattle.rules.specs.Desk.{Call, fresh_desk, file_of, replies, after}
use Rattle.rules.specs.Allocation.{fresh_alloc, alloc_after}
use Rattle.rules.specs.Memories as bytes
use Rattle.promises.specs.Promise.{HostCall, fresh, Given}
use Rattle.runs.specs.Run.{anew, unfit, asks, meant, gives, Holds}
use Rattle.runs.specs.Shown.{records_in, records_of, desk_shown}
use Rattle.memory.specs.Memories.{Memories, memories}

-- the calls of the rules until the desk is made fresh again
unfoldable pub stretch : List HostCall → List Call
stretch [] = []
stretch (x ∷ xs) = elim (meant x) [ anew ↦ [] | unfit ↦ stretch xs | asks c ↦ c ∷ stretch xs ]

-- what the host is given, where rs are the rules' replies to the calls until the next fresh call; after that, the rules reply from a fresh desk
unfoldable pub heard : List HostCall → List Reply → List Given
heard [] rs = []
heard (x ∷ xs) rs =
    elim (meant x) [
      | anew ↦ gives x (shows 0 []) ∷ heard xs (replies fresh_desk (stretch xs))
      | unfit ↦ gives x (shows 29 []) ∷ heard xs rs
      | asks c ↦ gives x (get_or rs 0 (shows 29 [])) ∷ heard xs (drop 1 rs)
    ]

-- the calls made since the desk was last fresh, where cs are those made before xs
unfoldable pub since : List Call → List HostCall → List Call
since cs [] = cs
since cs (x ∷ xs) = elim (meant x) [ anew ↦ since [] xs | unfit ↦ since cs xs | asks c ↦ since (cs ++ (c ∷ [])) xs ]

-- condition 2 of a fresh call and the calls xs after it: the host was given gs, and they left m
pub record Condition2 (xs : List HostCall) (gs : List Given) (m : Memories) : Type 0 where
  -- every status, every length and every byte of answer, record and output memory
  pub given : gs ≡ heard (fresh ∷ xs) []
  -- the records of each file, read back from its row and its share
  pub records : (f : ℕ) → f < files → records_in f m ≡ records_of (file_of (after fresh_desk (since [] xs)) f)
  -- the desk that the bytes show: its records, accessors, waiting and completed requests in their order, and remaining timeouts
  pub shown : desk_shown m ≡ after fresh_desk (since [] xs)
  -- the memories, to the last byte
  pub memories : Holds m (after fresh_desk (since [] xs)) (alloc_after fresh_desk (since [] xs) fresh_alloc)
  pub blocks : m.blocks ≡ bytes.blocks (after fresh_desk (since [] xs))
  pub buffers : m.buffers ≡ bytes.buffers (after fresh_desk (since [] xs))
