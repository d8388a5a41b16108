-- The small changes that make up every call, and what a law has to show of each to hold over all runs.
use Rattle.std.specs.Prelude.{◌≡◌, Bool, true, false, List, ℕ, ◌*◌, ◌≤◌, ◌<◌, length}
use Rattle.std.proofs.Math.Option.{some}
use Rattle.rules.specs.Limits.{room_words, most_factor, share_words, buffer_bytes, least_capacity}
use Rattle.rules.specs.Geometry.{capacity, block_size}
use Rattle.rules.specs.State.{Rec, Wanted, Offered, Brought, Wrote, Req, idle, reading, writing, read_done, write_done, Acc, Geo, Built}
use Rattle.rules.specs.Store.{empty_store, fetch}
use Rattle.rules.specs.Requests.{is_writer, fits, acc_at, alter_acc, put_rec, behind, finish, cancel, wait, freed}
use Rattle.rules.specs.Settle.{data_rec, settle}
use Rattle.rules.specs.Open.{new_file, new_acc, open_rec, enter, purged, room_to_open}
use Rattle.rules.specs.Close.{close_rec, vacate}
use Rattle.rules.specs.Time.{lessen}
use Rattle.rules.specs.Sheet.{Sheet, loaded}
use Rattle.shares.specs.Groups.{All}
use Rattle.shares.specs.Laid.{GoodRec}
use Rattle.laws.specs.Bounds.{least_refusal}
use Rattle.laws.specs.Outstanding.{awaits, uncollected}

-- a geometry that build or load makes
pub record GoodGeo (g : Geo) : Type 0 where
  pub words-low : 1 ≤ g.words
  pub words-high : g.words ≤ room_words
  pub factor-low : 1 ≤ g.factor
  pub factor-high : g.factor ≤ most_factor
  pub room : least_capacity ≤ capacity g.factor g.blocks
  pub share : g.blocks * block_size g.words g.factor ≤ share_words

-- records that a file of records of `words` words may hold
unfoldable pub GoodRecs : ℕ → List Rec → Type 0
GoodRecs words rs = All (λ r. GoodRec r × (length r.body ≤ 2 * words)) rs

pub record GoodSheet (s : Sheet) : Type 0 where
  pub geo : GoodGeo s.geo
  pub few : length s.recs ≤ capacity s.geo.factor s.geo.blocks
  pub recs : GoodRecs s.geo.words s.recs

-- a change of an accessor that leaves its side and its request as they are
unfoldable pub Mild : (Acc → Acc) → Type 0
Mild f = (a : Acc) → (is_writer (f a) ≡ is_writer a) × ((f a).ident ≡ a.ident) × ((f a).sharing ≡ a.sharing) × ((f a).req ≡ a.req)

-- a waiting request, and what it may complete as with status st, which is no refusal number
pub data Ends (st : ℕ) : Req → Req → Type 0 where
  read_ends : {x : Wanted} {y : Brought} → y.status ≡ st → length y.bytes ≤ x.limit → st < least_refusal → Ends st (reading x) (read_done y)
  write_ends : {x : Offered} {y : Wrote} → y.status ≡ st → st < least_refusal → Ends st (writing x) (write_done y)

-- I is kept when a waiting request completes
abbrev pub Finishes : (Built → Type 0) → Type 0
Finishes I = (p st : ℕ) (q : Req) (a : Acc) (r : Req) (b : Built) → acc_at b p ≡ some a → a.req ≡ r → Ends st r q → I b → I (finish p st q b)

-- every change that a call makes keeps I, or J n while the close record of a writer with the ID n is owed
pub record Walks (I : Built → Type 0) (J : ℕ → Built → Type 0) : Type 0 where
  pub mild : (p : ℕ) (f : Acc → Acc) (b : Built) → Mild f → I b → I (alter_acc p f b)
  pub finishes : Finishes I
  pub cancels : (p : ℕ) (a : Acc) (b : Built) → acc_at b p ≡ some a → awaits a.req ≡ 1 → I b → I (cancel p b)
  pub read_waits : (p n : ℕ) (q : Wanted) (a : Acc) (b : Built) → acc_at b p ≡ some a → a.req ≡ idle → a.writer ≡ false → q.limit ≤ buffer_bytes → I b → I (wait false p n (reading q) b)
  pub write_waits : (p n : ℕ) (q : Offered) (a : Acc) (b : Built) → acc_at b p ≡ some a → a.req ≡ idle → a.writer ≡ true → length q.bytes ≤ 2 * b.geo.words → I b → I (wait true p n (writing q) b)
  pub frees : (p : ℕ) (a : Acc) (b : Built) → acc_at b p ≡ some a → uncollected a.req ≡ 1 → I b → I (freed p b)
  pub fetches : (p : ℕ) (typed keep : Bool) (b : Built) → I b → I (behind p (fetch b.geo typed keep b.store) b)
  -- a data record is put: at once, and for a waiting writer
  pub writes : (p : ℕ) (a : Acc) (d : List ℕ) (b : Built) → acc_at b p ≡ some a → a.writer ≡ true → length d ≤ 2 * b.geo.words → fits b ≡ true → I b → I (put_rec (data_rec a d) b)
  pub serves : (p : ℕ) (a : Acc) (q : Offered) (b : Built) → acc_at b p ≡ some a → a.req ≡ writing q → fits b ≡ true → I b → I (put_rec (data_rec a q.bytes) b)
  -- a reader enters, a writer enters
  pub enters : (s : ℕ) (b : Built) → I b → I (enter (new_acc false 0 s) b)
  pub joins : (access n s : ℕ) (b : Built) → 1 ≤ n → room_to_open access b ≡ true → I b → I (enter (new_acc true n s) (put_rec (open_rec n) (purged access b)))
  -- a reader leaves; a writer leaves, the last one's readers end, its close record is put
  pub leaves : (p : ℕ) (a : Acc) (b : Built) → acc_at b p ≡ some a → a.req ≡ idle → a.writer ≡ false → I b → I (vacate p b)
  pub parts : (p : ℕ) (a : Acc) (b : Built) → acc_at b p ≡ some a → a.req ≡ idle → a.writer ≡ true → I b → J a.ident (vacate p b)
  pub endings : (n : ℕ) → Finishes (J n)
  pub closes : (n : ℕ) (b : Built) → J n b → I (put_rec (close_rec n) b)

-- R holds of a file that has settled, and changes of calls that do not settle keep it
pub record Settles (I R : Built → Type 0) : Type 0 where
  pub rests : (b : Built) → I (settle b) → R (settle b)
  pub milds : (p : ℕ) (f : Acc → Acc) (b : Built) → Mild f → R b → R (alter_acc p f b)
  pub finishes : (p st : ℕ) (q : Req) (b : Built) → R b → R (finish p st q b)
  pub cancels : (p : ℕ) (b : Built) → R b → R (cancel p b)
  pub frees : (p : ℕ) (b : Built) → R b → R (freed p b)
  pub lessens : (e : ℕ) (b : Built) → R b → R (lessen e b)

-- I holds of a new file
pub record Starts (I : Built → Type 0) : Type 0 where
  pub built : (g : Geo) → GoodGeo g → I (new_file g empty_store)
  pub loads : (s : Sheet) → GoodSheet s → I (loaded s)
