-- The round trip for the code: what holds of every result that meets the promises of save and load.
use Rattle.std.specs.Prelude.{ℕ, ◌≤◌, ◌≡◌, List, length, take}
use Rattle.rules.specs.State.{Built, built}
use Rattle.rules.specs.Desk.{Desk, file_of, load, respond}
use Rattle.promises.specs.Promise.{save, written, Promise}
use Rattle.memory.specs.Memories.{Memories}

-- the file b was saved as a text; loaded into file g of desk c it gave a status and left the memories m
pub record Carried (b : Built) (text : List ℕ) (c : Desk) (g status : ℕ) (m : Memories) : Type 0 where
  pub loads : status ≡ 0
  -- a saved sheet loads back to the same geometry and records
  pub back : Built
  pub leaves : file_of (respond c (load g text)).desk g ≡ built back
  pub geo : back.geo ≡ b.geo
  pub recs : back.store.recs ≡ b.store.recs
  -- saving that file gives the same sheet, in any output that the sheet fits
  pub again : (output output' : List ℕ) (st n : ℕ) (m' : Memories) → Promise m (save g output) (written st n output') m' → length text ≤ length output
      → (st ≡ 0) × (n ≡ length text) × (take n output' ≡ text)
