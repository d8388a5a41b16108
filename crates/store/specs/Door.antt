-- What passes the door: the file in hand after a record is put, after one is fetched, after all are purged; and what that keeps in the midst of every call.
use Rattle.std.specs.Prelude.{ℕ, ◌+◌, ◌≡◌, Bool, true, false, cond, List, [], ◌∷◌, leb}
use Rattle.std.proofs.Math.Option.{Option, none, some}
use Rattle.rules.specs.State.{Rec, Geo, Store, purges, Built}
use Rattle.rules.specs.Store.{purge, fetch}
use Rattle.rules.specs.Geometry.{capacity}
use Rattle.rules.specs.Requests.{with_store, say, behind}
use Rattle.rules.specs.Memories.{share_at}
use Rattle.shares.specs.Holds.{InShare}
use Rattle.shares.specs.Back.{rec_at}
use Rattle.shares.specs.Places.{head_at}
use Rattle.laws.specs.Changes.{GoodGeo}
use Rattle.ring.specs.declared.Ring.{Ring}
use Rattle.ring.specs.Ring as ring
use Rattle.ring.specs.Ring.{geo, ring_of, advanced, used}
use Rattle.records.specs.Fetch.{ahead}
use Rattle.midst.specs.declared.File as hand
use Rattle.midst.specs.Mid.{Start, Mid}
use Rattle.store.specs.declared.Fetched.{Fetched}
use Rattle.memory.specs.Memories.{memories}

-- what the door asks of the file in hand; `Bare`: it says nothing of the next file, and leaves that to its caller
abbrev pub Stored : Built → Type 0
Stored b = GoodGeo b.geo × InShare b.geo b.store

abbrev pub Bare : Built → Type 0
Bare b = Unit {0}

-- the midst of every call of file f is kept: if the file in hand x stood for b, y stands for the next file
abbrev pub Keeps : ℕ → (Built → Built) → List ℕ → hand.File → List ℕ → hand.File → Type 0
Keeps f next blocks x blocks' y = (o : Start) (xs buffers : List ℕ) (b : Built) → Mid Stored f o (memories xs blocks buffers) x b → Mid Bare f o (memories xs blocks' buffers) y (next b)

-- the file in hand after a record is put
abbrev pub put_in : hand.File → hand.File
put_in x = record { words = x.words; ring = ring.put x.ring }

-- the ring after the head record is taken; under control 47 it stays
unfoldable pub taken_ring : Bool → Ring → Ring
taken_ring keep r = cond keep r (advanced r)

unfoldable pub is_some : Option Rec → Bool
is_some none = false
is_some (some r) = true

-- what a read finds in a store that the file in hand stands for
unfoldable pub fetched_of : hand.File → Bool → Bool → Store → Fetched
fetched_of x typed keep s =
    let g : Geo = geo x.words x.ring in
    record {
      got = is_some (fetch g typed keep s).got;
      at = head_at g (ahead g typed s);
      file = record { words = x.words; ring = ring_of g (fetch g typed keep s).store };
    }

-- the file after the read at p
abbrev pub fetching : ℕ → Bool → Bool → Built → Built
fetching p typed keep b = behind p (fetch b.geo typed keep b.store) b

-- the record that was fetched, read from the share
unfoldable pub got_at : Fetched → List ℕ → Option Rec
got_at r xs = elim r.got [ true ↦ some (rec_at xs r.at) | false ↦ none ]

-- the record that was fetched is the one that the rules' read gets
abbrev pub Gets : ℕ → Bool → Bool → List ℕ → hand.File → Fetched → Type 0
Gets f typed keep blocks x r =
    (o : Start) (xs buffers : List ℕ) (b : Built) → Mid Stored f o (memories xs blocks buffers) x b → (fetch b.geo typed keep b.store).got ≡ got_at r (share_at f blocks)

-- the file in hand after a purge
abbrev pub purged_of : hand.File → hand.File
purged_of x = record { words = x.words; ring = ring.purged x.ring }

unfoldable pub emptied : Built → Built
emptied b = say (purges ∷ []) (with_store (purge b.geo b.store) b)

-- "a data record fits exactly when used + W + 1 ≤ C"
unfoldable pub fits_ring : Ring → ℕ → Bool
fits_ring r w = leb (used r + w + 1) (capacity r.factor r.blocks)
