-- A file's share holds its records, and one place is kept for each close record, used + W ≤ C: after any run from a fresh desk.
use mathlib.Core.Path.{◌≡◌, subst}
use mathlib.Core.Bool.{Bool, true, false}
use mathlib.Core.List.{List, [], ◌∷◌}
use mathlib.Core.Option.{none, some}
use Prim.Native.Nat.{ℕ, ◌+◌, ◌*◌, ◌≤◌}
use native.Mathlib.Omega.{arith}
use lib.ListN.{length, set}
use borrow.Author.Tests.{leb-true}
use Rattle.rules.specs.Geometry.{capacity}
use Rattle.rules.specs.State.{Rec, Req, idle, writing, Acc, Geo, Store, Built}
use Rattle.rules.specs.Store.{used, put, fetch, purge}
use Rattle.rules.specs.Settle.{data_rec}
use Rattle.rules.specs.Requests.{count_acc, is_writer, writers, acc_at, capacity_of, fits, with_accs, with_queues, with_timers, with_store, alter_acc, say, put_rec, behind, requeue, leave, finish, cancel, wait, freed, with_buffers, request}
use Rattle.rules.specs.Reply.{hushed}
use Rattle.rules.specs.Open.{new_file, new_acc, open_rec, enter, purged, room_to_open}
use Rattle.rules.specs.Close.{close_rec, vacate}
use Rattle.rules.specs.Time.{lessen}
use Rattle.rules.specs.Sheet.{loaded}
use Rattle.rules.specs.Desk.{Call, fresh_desk, file_of, after}
use Rattle.shares.specs.Groups.{All, Small}
use Rattle.shares.specs.Holds.{Sized, InShare}
use Rattle.shares.proofs.Good.{geometry-sized}
use Rattle.shares.proofs.Says.{used-most}
use Rattle.shares.proofs.Holds.{holds-empty, holds-fetch, holds-purge}
use Rattle.shares.proofs.Put.{holds-put}
use Rattle.shares.proofs.PutAll.{used-put, holds-loaded}
use Rattle.shares.proofs.Image.{record_words-most}
use Rattle.laws.specs.Runs.{OnFile}
use Rattle.laws.specs.Changes.{GoodGeo, GoodRecs, Mild, Walks, Starts}
use Rattle.laws.specs.Bounds.{Bounded, Bounds}
use Rattle.laws.specs.Room.{Kept, Roomy, Owing}
use Rattle.laws.proofs.Stores.{used-fetch}
use Rattle.laws.proofs.Files.{on-file}
use Rattle.laws.proofs.Accessors.{writers-with_req, count_acc-alter, count_acc-enter, count_acc-vacate, wait-keeps, purged-keeps}
use Rattle.laws.proofs.Bounds.{bounds-at, bounds-walks, bounds-starts, bounds-lessen, bounds-hushed}
use Rattle.laws.proofs.Walk.{lapsed}
use Rattle.laws.proofs.Lift.{lifted}

pub good-sized : (g : Geo) → GoodGeo g → Sized g
good-sized g k = geometry-sized g k.factor-low k.room k.share

-- the writers stay, and the store

room-mild : (p : ℕ) (f : Acc → Acc) (b : Built) → Mild f → Roomy b → Roomy (alter_acc p f b)
unfolding alter_acc with_accs Mild writers
room-mild p f b h k = rw (count_acc-alter is_writer f (λ a. (h a).0) b.accs p) k

room-wait : (side : Bool) (p n : ℕ) (q : Req) (b : Built) → Roomy b → Roomy (wait side p n q b)
room-wait side p n q b k = wait-keeps Roomy side p n q b (λ r w ts hs. unfold writers in rw (writers-with_req q b p) k)

-- records go; one is put

room-behind : (p : ℕ) (typed keep : Bool) (b : Built) → Roomy b → Roomy (behind p (fetch b.geo typed keep b.store) b)
unfolding behind say with_store writers
room-behind p typed keep b k = record {
  geo = k.geo;
  holds = holds-fetch b.geo typed keep b.store k.holds;
  places = omega (arith, k.places, used-fetch b.geo typed keep b.store);
  one_more = k.one_more;
}

kept_put : (g : Geo) (r : Rec) (s : Store) (w : ℕ) → GoodGeo g → InShare g s → length r.body ≤ 2 * g.words → used s + w + 1 ≤ capacity g.factor g.blocks → Kept g (put g r s) w
kept_put g r s w k h l u = record {
  geo = k;
  holds = holds-put g r s (good-sized g k) (record_words-most g.words r l) (omega arith) h;
  places = omega (arith, used-put g r s);
  one_more = omega arith;
}

room-data : (a : Acc) (d : List ℕ) (b : Built) → length d ≤ 2 * b.geo.words → fits b ≡ true → Roomy b → Roomy (put_rec (data_rec a d) b)
unfolding put_rec say with_store writers
room-data a d b l e k = kept_put b.geo (data_rec a d) b.store (writers b) k.geo k.holds (unfold data_rec in l) (unfold fits capacity_of in leb-true _ _ e)

room-close : (n : ℕ) (b : Built) → Owing n b → Roomy (put_rec (close_rec n) b)
unfolding put_rec say with_store writers
room-close n b k = kept_put b.geo (close_rec n) b.store (writers b) k.geo k.holds (unfold close_rec in omega arith) (omega (arith, k.places))

-- who enters and who leaves

room-enter : (s : ℕ) (b : Built) → Roomy b → Roomy (enter (new_acc false 0 s) b)
unfolding enter with_accs new_acc is_writer writers
room-enter s b k =
    let h = count_acc-enter is_writer (new_acc false 0 s) b.accs in
    record { geo = k.geo; holds = k.holds; places = omega (arith, k.places); one_more = omega (arith, k.one_more) }

room-seat : (n s : ℕ) (b : Built) → GoodGeo b.geo → InShare b.geo b.store → used b.store + writers b + 2 ≤ capacity_of b → Roomy (enter (new_acc true n s) (put_rec (open_rec n) b))
unfolding enter put_rec say with_store with_accs new_acc is_writer capacity_of writers
room-seat n s b k r u =
    let h = count_acc-enter is_writer (new_acc true n s) b.accs in
    kept_put b.geo (open_rec n) b.store _ k r (unfold open_rec in omega arith) (omega (arith, u))

room-join : (access n s : ℕ) (b : Built) → room_to_open access b ≡ true → Roomy b → Roomy (enter (new_acc true n s) (put_rec (open_rec n) (purged access b)))
unfolding room_to_open say with_store writers capacity_of
room-join access n s b e k =
    purged-keeps (λ c. used c.store + writers b + 2 ≤ capacity_of b → Roomy (enter (new_acc true n s) (put_rec (open_rec n) c))) access b
    (λ hs u. room-seat n s (say hs (with_store (purge b.geo b.store) b)) k.geo (holds-purge b.geo b.store k.holds) u)
    (λ u. room-seat n s b k.geo k.holds u)
    (leb-true _ _ e)

room-leave : (p : ℕ) (a : Acc) (b : Built) → acc_at b p ≡ some a → a.writer ≡ false → Roomy b → Roomy (vacate p b)
unfolding vacate with_accs writers acc_at is_writer
room-leave p a b e w k = let h : count_acc is_writer (set b.accs p none) + 0 ≡ writers b = rw w at (count_acc-vacate is_writer a b.accs p e) in
    subst (Kept b.geo b.store) (omega arith) k

room-part : (p : ℕ) (a : Acc) (b : Built) → acc_at b p ≡ some a → a.writer ≡ true → Roomy b → Owing a.ident (vacate p b)
unfolding vacate with_accs writers acc_at is_writer
room-part p a b e w k = let h : count_acc is_writer (set b.accs p none) + 1 ≡ writers b = rw w at (count_acc-vacate is_writer a b.accs p e) in
    subst (Kept b.geo b.store) (omega arith) k

-- a waiting write's data fit, so both go together

abbrev pub Sound : Built → Type 0
Sound b = Bounds b × Roomy b

abbrev pub Owed : ℕ → Built → Type 0
Owed n b = Bounds b × Owing n b

pub sound-walks : Walks Sound Owed
unfolding finish cancel freed leave requeue request with_buffers alter_acc with_accs with_queues with_timers say writers Bounded
sound-walks = record {
  mild = λ p f b m s. (bounds-walks.mild p f b m s.0, room-mild p f b m s.1);
  finishes = λ p st q a r b e i k s. (bounds-walks.finishes p st q a r b e i k s.0, rw (writers-with_req q b p) s.1);
  cancels = λ p a b e i s. (bounds-walks.cancels p a b e i s.0, rw (writers-with_req idle b p) s.1);
  read_waits = λ p n q a b e i w h s. (bounds-walks.read_waits p n q a b e i w h s.0, room-wait false p n _ b s.1);
  write_waits = λ p n q a b e i w h s. (bounds-walks.write_waits p n q a b e i w h s.0, room-wait true p n _ b s.1);
  frees = λ p a b e i s. (bounds-walks.frees p a b e i s.0, rw (writers-with_req idle b p) s.1);
  fetches = λ p typed keep b s. (bounds-walks.fetches p typed keep b s.0, room-behind p typed keep b s.1);
  writes = λ p a d b e w l f s. (bounds-walks.writes p a d b e w l f s.0, room-data a d b l f s.1);
  serves = λ p a q b e i f s. (bounds-walks.serves p a q b e i f s.0, room-data a q.bytes b (bounds-at p a (writing q) b e i s.0) f s.1);
  enters = λ k b s. (bounds-walks.enters k b s.0, room-enter k b s.1);
  joins = λ access n k b h e s. (bounds-walks.joins access n k b h e s.0, room-join access n k b e s.1);
  leaves = λ p a b e i w s. (bounds-walks.leaves p a b e i w s.0, room-leave p a b e w s.1);
  parts = λ p a b e i w s. (bounds-walks.parts p a b e i w s.0, room-part p a b e w s.1);
  endings = λ n p st q a r b e i k s. (bounds-walks.endings n p st q a r b e i k s.0, rw (writers-with_req q b p) s.1);
  closes = λ n b s. (bounds-walks.closes n b s.0, room-close n b s.1);
}

-- a new file

pub small : (words : ℕ) (rs : List Rec) → GoodRecs words rs → Small (words + 3) rs
unfolding GoodRecs All
small words [] h = tt
small words (r ∷ rs) h = (record_words-most words r h.0.1, small words rs h.1)

kept_new : (g : Geo) (s : Store) → GoodGeo g → InShare g s → Kept g s 0
kept_new g s k h = record { geo = k; holds = h; places = omega (arith, used-most g s h); one_more = omega (arith, k.room) }

pub sound-starts : Starts Sound
unfolding new_file writers count_acc loaded say
sound-starts = record {
  built = λ g k. (bounds-starts.built g k, kept_new g _ k (holds-empty g (good-sized g k)));
  loads = λ s k. (bounds-starts.loads s k, kept_new s.geo _ k.geo (holds-loaded s.geo s.recs (good-sized s.geo k.geo) (small s.geo.words s.recs k.recs) k.few));
}

pub roomy : (f : ℕ) (cs : List Call) → OnFile Roomy (file_of (after fresh_desk cs) f)
roomy f cs =
    on-file Sound Roomy (λ b s. s.1) (file_of (after fresh_desk cs) f)
    (lifted Sound Owed sound-walks
    (lapsed Sound Owed sound-walks (λ e b s. (bounds-lessen e b s.0, unfold lessen with_timers writers in s.1))) sound-starts
    (λ b s. (bounds-hushed b s.0, unfold hushed writers in s.1)) f cs)

-- a close record always has its place
pub close-fits : (f : ℕ) (cs : List Call) → OnFile (λ b. used b.store + writers b ≤ capacity_of b) (file_of (after fresh_desk cs) f)
close-fits f cs = on-file Roomy (λ b. used b.store + writers b ≤ capacity_of b) (λ b k. unfold capacity_of in k.places) (file_of (after fresh_desk cs) f) (roomy f cs)
