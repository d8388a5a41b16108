-- A file's share holds the records of its store, laid out as document 01 says.
use Rattle.std.specs.Prelude.{ℕ, suc, ◌+◌, ◌*◌, ◌%◌, ◌≤◌, ◌<◌, ◌≡◌, List, [], ◌∷◌, length, drop}
use Rattle.words.proofs.Stands.{BytesAt}
use Rattle.rules.specs.Limits.{share_words, share_bytes}
use Rattle.rules.specs.State.{Rec, Geo, Store}
use Rattle.rules.specs.Geometry.{block_size}
use Rattle.rules.specs.Store.{block_bytes}
use Rattle.shares.specs.Image.{image}
use Rattle.shares.specs.Groups.{Small, flat, Shape, Begun}

-- a geometry that was built or loaded
pub record Sized (g : Geo) : Type 0 where
  pub factor : 0 < g.factor
  pub blocks : 0 < g.blocks
  pub fits : g.blocks * block_size g.words g.factor ≤ share_words

-- the groups lie in the blocks of the ring, starting at block k modulo the number of blocks, no record longer than its place
unfoldable pub At : Geo → List ℕ → ℕ → List (List Rec) → Type 0
At g xs k [] = Unit {0}
At g xs k (q ∷ qs) = Small (g.words + 3) q × BytesAt xs (k % g.blocks * block_bytes g) (image q) × At g xs (suc k) qs

-- the share holds the store: `groups` are the records held, and before them those of the oldest block that are spent
pub record InShare (g : Geo) (s : Store) : Type 0 where
  pub long : length s.share ≡ share_bytes
  pub block : s.block < g.blocks
  pub groups : List (List Rec)
  pub few : length groups ≤ g.blocks
  pub shape : Shape g.factor groups
  pub begun : Begun s.spent groups
  pub recs : drop s.spent (flat groups) ≡ s.recs
  pub at : At g s.share s.block groups
