-- What a read or a look finds.
use Rattle.std.specs.Prelude.{ℕ, zero, suc, ◌+◌, ◌≡◌, Bool, true, false, cond, List, ltb, eqb, Option, Some, None}
use Rattle.std.proofs.Math.Option as math
use Rattle.words.specs.Word.{word_at}
use Rattle.rules.specs.State.{Rec, Geo, Store}
use Rattle.rules.specs.Store.{discard}
use Rattle.shares.specs.Holds.{InShare}
use Rattle.shares.specs.Back.{rec_at}
use Rattle.shares.specs.Places.{place_of}
use Rattle.ring.specs.declared.Ring.{Ring}
use Rattle.ring.specs.Ring.{geo, ring_of}
use Rattle.records.specs.declared.cursor.Cursor.{Cursor}

-- the share and the ring stand for the store
pub record Stores (w : ℕ) (r : Ring) (xs : List ℕ) (s : Store) : Type 0 where
  pub holds : InShare (geo w r) s
  pub ring : ring_of (geo w r) s ≡ r
  pub share : s.share ≡ xs

-- the store whose head a read takes: with control 46 as it is, else without the open and close records at its head
unfoldable pub ahead : Geo → Bool → Store → Store
ahead g typed s = cond typed s (discard g s)

-- every store of ring q becomes one of ring r when records at its head are discarded
pub record Comes (w : ℕ) (q r : Ring) (xs : List ℕ) : Type 0 where
  pub to : (s : Store) → Stores w q xs s → Store
  pub holds : (s : Store) (S : Stores w q xs s) → InShare (geo w q) (to s S)
  pub ring : (s : Store) (S : Stores w q xs s) → ring_of (geo w q) (to s S) ≡ r
  pub share : (s : Store) (S : Stores w q xs s) → (to s S).share ≡ xs
  pub same : (s : Store) (S : Stores w q xs s) → discard (geo w q) (to s S) ≡ discard (geo w q) s

-- "the file's oldest data record" of n records, starting at the one that has u before it
unfoldable pub oldest_of : Geo → List ℕ → ℕ → ℕ → ℕ → Option ℕ
oldest_of g xs k u zero = None
oldest_of g xs k u (suc n) =
    elim (eqb (word_at xs (place_of g xs k u + 2)) 0) [ true ↦ Some (place_of g xs k u) | false ↦ oldest_of g xs k (suc u) n ]

unfoldable pub found : List ℕ → Option ℕ → math.Option Rec
found xs None = math.none
found xs (Some p) = math.some (rec_at xs p)

-- the place of the record under a cursor, or none if its ring holds none
unfoldable pub shown : Cursor → Option ℕ
shown c = elim (ltb 0 c.ring.held) [ true ↦ Some c.at | false ↦ None ]
