-- The records of a file are good, after any run from a fresh desk.
use mathlib.Core.Path.{◌≡◌, refl, subst}
use mathlib.Core.Bool.{true, false}
use mathlib.Core.List.{List, [], ◌∷◌}
use mathlib.Core.Option.{some}
use Prim.Native.Nat.{ℕ, ◌+◌, ◌*◌, ◌≤◌, ◌<◌}
use native.Mathlib.Omega.{arith}
use lib.ListN.{length}
use borrow.Author.Tests.{leb-true}
use Rattle.rules.specs.Limits.{most_type}
use Rattle.rules.specs.Geometry.{capacity}
use Rattle.rules.specs.State.{Rec, Offered, writing, Acc, Geo, Built}
use Rattle.rules.specs.Store.{used, empty_store, purge}
use Rattle.rules.specs.Requests.{writers, capacity_of, fits, acc_at, with_accs, with_queues, with_timers, with_store, alter_acc, say, put_rec, behind, requeue, leave, finish, cancel, freed, with_buffers, request}
use Rattle.rules.specs.Settle.{data_rec}
use Rattle.rules.specs.Reply.{hushed}
use Rattle.rules.specs.Open.{new_file, new_acc, open_rec, enter, purged, room_to_open}
use Rattle.rules.specs.Close.{close_rec, vacate}
use Rattle.rules.specs.Time.{lessen, lapse}
use Rattle.rules.specs.Sheet.{loaded}
use Rattle.rules.specs.Desk.{Call, fresh_desk, file_of, after}
use Rattle.shares.specs.Groups.{All}
use Rattle.shares.specs.Laid.{GoodRec}
use Rattle.shares.specs.Holds.{InShare}
use Rattle.shares.specs.Back.{used_recs}
use Rattle.shares.proofs.Image.{record_words-most}
use Rattle.shares.proofs.Holds.{holds-empty, holds-purge}
use Rattle.shares.proofs.Used.{all-put, all-fetch, all-purge, all-put_all, all-unspent}
use Rattle.laws.specs.Runs.{OnFile}
use Rattle.laws.specs.Changes.{GoodGeo, GoodRecs, Walks, Starts}
use Rattle.laws.specs.Room.{Roomy}
use Rattle.laws.specs.Bounds.{Bounded}
use Rattle.laws.specs.Sides.{Fitting, Sides}
use Rattle.laws.specs.Records.{Records}
use Rattle.laws.proofs.Files.{on-file}
use Rattle.laws.proofs.Accessors.{wait-keeps, purged-keeps}
use Rattle.laws.proofs.Bounds.{bounds-at, bounds-lessen, bounds-hushed}
use Rattle.laws.proofs.Room.{good-sized, small, Sound, Owed, sound-walks, sound-starts}
use Rattle.laws.proofs.Sides.{sides-walks, sides-starts}
use Rattle.laws.proofs.Walk.{lapsed}
use Rattle.laws.proofs.Lift.{lifted}

-- the three records that are put

good-data : (a : Acc) (d : List ℕ) → 1 ≤ a.ident → GoodRec (data_rec a d)
unfolding data_rec
good-data a d h = record { kind = omega arith; from = h; bare = λ z. absurd (z refl) }

good-bare : (t n : ℕ) → t ≤ most_type → 1 ≤ n → GoodRec (record { typ = t; wid = n; body = [] })
good-bare t n k h = record { kind = k; from = h; bare = λ _. refl }

records-put : (r : Rec) (b : Built) → GoodGeo b.geo → InShare b.geo b.store → length r.body ≤ 2 * b.geo.words → used b.store < capacity b.geo.factor b.geo.blocks → GoodRec r → Records b → Records (put_rec r b)
unfolding put_rec say with_store
records-put r b k h l u g s = all-put GoodRec b.geo (good-sized b.geo k) r b.store (record_words-most b.geo.words r l) u g h s

-- a writer's ID is not 0; one whose write waits is a writer
writer-id : (p : ℕ) (a : Acc) (b : Built) → acc_at b p ≡ some a → a.writer ≡ true → Sides b → 1 ≤ a.ident
writer-id p a b e w s = (s p a e).writer w

waiting-writer : (p : ℕ) (a : Acc) (q : Offered) (b : Built) → acc_at b p ≡ some a → a.req ≡ writing q → Sides b → a.writer ≡ true
unfolding Fitting
waiting-writer p a q b e i s = subst (Fitting a.writer) i (s p a e).request

pub used-fits : (b : Built) → fits b ≡ true → used b.store < capacity b.geo.factor b.geo.blocks
unfolding fits capacity_of
used-fits b e = omega (arith, leb-true (used b.store + writers b + 1) (capacity b.geo.factor b.geo.blocks) e)

records-join : (access n k : ℕ) (b : Built) → 1 ≤ n → room_to_open access b ≡ true → Roomy b → Records b → Records (enter (new_acc true n k) (put_rec (open_rec n) (purged access b)))
unfolding room_to_open capacity_of enter with_accs say with_store open_rec
records-join access n k b o e r s =
    purged-keeps (λ c. used c.store + writers b + 2 ≤ capacity b.geo.factor b.geo.blocks → Records (put_rec (open_rec n) c)) access b
    (λ hs u. records-put (open_rec n) (say hs (with_store (purge b.geo b.store) b)) r.geo (holds-purge b.geo b.store r.holds) (omega arith) (omega (arith, u)) (good-bare 1 n (omega arith) o)
    (all-purge GoodRec b.geo (good-sized b.geo r.geo) b.store r.holds))
    (λ u. records-put (open_rec n) b r.geo r.holds (omega arith) (omega (arith, u)) (good-bare 1 n (omega arith) o) s)
    (leb-true _ _ e)

-- with room, bounds and sides

abbrev pub Whole : Built → Type 0
Whole b = Sound b × Sides b × Records b

abbrev pub Parting : ℕ → Built → Type 0
Parting n b = Owed n b × Sides b × Records b × (1 ≤ n)

pub whole_walks : Walks Whole Parting
unfolding alter_acc with_accs with_queues with_timers with_store say requeue request with_buffers leave finish cancel freed behind enter vacate Bounded
whole_walks = record {
  mild = λ p f b m s. (sound-walks.mild p f b m s.0, sides-walks.mild p f b m s.1, s.2);
  finishes = λ p st q a r b e i k s. (sound-walks.finishes p st q a r b e i k s.0, sides-walks.finishes p st q a r b e i k s.1, s.2);
  cancels = λ p a b e i s. (sound-walks.cancels p a b e i s.0, sides-walks.cancels p a b e i s.1, s.2);
  read_waits = λ p n q a b e i w h s. (sound-walks.read_waits p n q a b e i w h s.0, sides-walks.read_waits p n q a b e i w h s.1, wait-keeps Records false p n _ b (λ _ _ _ _. s.2));
  write_waits = λ p n q a b e i w h s. (sound-walks.write_waits p n q a b e i w h s.0, sides-walks.write_waits p n q a b e i w h s.1, wait-keeps Records true p n _ b (λ _ _ _ _. s.2));
  frees = λ p a b e i s. (sound-walks.frees p a b e i s.0, sides-walks.frees p a b e i s.1, s.2);
  fetches = λ p typed keep b s. (
    sound-walks.fetches p typed keep b s.0,
    sides-walks.fetches p typed keep b s.1,
    all-fetch GoodRec b.geo (good-sized b.geo s.0.1.geo) typed keep b.store s.0.1.holds s.2,
  );
  writes = λ p a d b e w l f s. (
    sound-walks.writes p a d b e w l f s.0,
    sides-walks.writes p a d b e w l f s.1,
    records-put (data_rec a d) b s.0.1.geo s.0.1.holds (unfold data_rec in l) (used-fits b f) (good-data a d (writer-id p a b e w s.1)) s.2,
  );
  serves = λ p a q b e i f s. (
    sound-walks.serves p a q b e i f s.0,
    sides-walks.serves p a q b e i f s.1,
    records-put (data_rec a q.bytes) b s.0.1.geo s.0.1.holds (unfold data_rec in bounds-at p a (writing q) b e i s.0.0) (used-fits b f) (good-data a q.bytes (writer-id p a b e (waiting-writer p a q b e i s.1) s.1)) s.2,
  );
  enters = λ k b s. (sound-walks.enters k b s.0, sides-walks.enters k b s.1, s.2);
  joins = λ access n k b h e s. (sound-walks.joins access n k b h e s.0, sides-walks.joins access n k b h e s.1, records-join access n k b h e s.0.1 s.2);
  leaves = λ p a b e i w s. (sound-walks.leaves p a b e i w s.0, sides-walks.leaves p a b e i w s.1, s.2);
  parts = λ p a b e i w s. (sound-walks.parts p a b e i w s.0, sides-walks.parts p a b e i w s.1, s.2, writer-id p a b e w s.1);
  endings = λ n p st q a r b e i k s. (sound-walks.endings n p st q a r b e i k s.0, sides-walks.endings n p st q a r b e i k s.1, s.2, s.3);
  closes = λ n b s. (
    sound-walks.closes n b s.0,
    sides-walks.closes n b s.1,
    records-put (close_rec n) b s.0.1.geo s.0.1.holds (unfold close_rec in omega arith) (omega (arith, s.0.1.places)) (unfold close_rec in good-bare 2 n (omega arith) s.3) s.2,
  );
}

-- a new file

good-list : (words : ℕ) (rs : List Rec) → GoodRecs words rs → All GoodRec rs
unfolding GoodRecs All
good-list words [] h = tt
good-list words (r ∷ rs) h = (h.0.0, good-list words rs h.1)

records-empty : (g : Geo) → GoodGeo g → All GoodRec (used_recs g empty_store)
records-empty g k = all-unspent GoodRec g (good-sized g k) empty_store (holds-empty g (good-sized g k)) (unfold empty_store in refl) (unfold empty_store All in tt)

pub whole-starts : Starts Whole
unfolding new_file loaded say
whole-starts = record {
  built = λ g k. (sound-starts.built g k, sides-starts.built g k, records-empty g k);
  loads = λ s k. (
    sound-starts.loads s k,
    sides-starts.loads s k,
    all-put_all GoodRec s.geo (good-sized s.geo k.geo) s.recs empty_store (small s.geo.words s.recs k.recs) (unfold used empty_store in omega (arith, k.few))
        (good-list s.geo.words s.recs k.recs) (holds-empty s.geo (good-sized s.geo k.geo)) (records-empty s.geo k.geo),
  );
}

pub whole-lapse : (e : ℕ) (b : Built) → Whole b → Whole (lapse e b)
whole-lapse =
    lapsed Whole Parting whole_walks
    (λ e b s. ((bounds-lessen e b s.0.0, unfold lessen with_timers writers in s.0.1), unfold lessen with_timers acc_at in s.1, unfold lessen with_timers in s.2))

pub whole-hushed : (b : Built) → Whole b → Whole (hushed b)
whole-hushed b s = ((bounds-hushed b s.0.0, unfold hushed writers in s.0.1), unfold hushed acc_at in s.1, unfold hushed in s.2)

pub records : (f : ℕ) (cs : List Call) → OnFile Records (file_of (after fresh_desk cs) f)
records f cs = on-file Whole Records (λ b s. s.2) (file_of (after fresh_desk cs) f) (lifted Whole Parting whole_walks whole-lapse whole-starts whole-hushed f cs)
