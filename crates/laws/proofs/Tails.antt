-- A file's share is zero after the last record of each of its blocks, and after its last block, after any run from a fresh desk.
use mathlib.Core.Path.{◌≡◌}
use mathlib.Core.Bool.{true, false}
use mathlib.Core.List.{List}
use Prim.Native.Nat.{ℕ, ◌+◌, ◌*◌, ◌≤◌, ◌<◌}
use native.Mathlib.Omega.{arith}
use lib.ListN.{length}
use borrow.Author.Tests.{leb-true}
use Rattle.rules.specs.Geometry.{capacity}
use Rattle.rules.specs.State.{Rec, writing, Built}
use Rattle.rules.specs.Store.{used, empty_store, put, purge}
use Rattle.rules.specs.Requests.{writers, capacity_of, with_accs, with_queues, with_timers, with_store, with_buffers, alter_acc, say, put_rec, behind, request, requeue, leave, finish, cancel, freed}
use Rattle.rules.specs.Settle.{data_rec}
use Rattle.rules.specs.Reply.{hushed}
use Rattle.rules.specs.Open.{new_file, new_acc, open_rec, enter, purged, room_to_open}
use Rattle.rules.specs.Close.{close_rec, vacate}
use Rattle.rules.specs.Time.{lessen, lapse}
use Rattle.rules.specs.Sheet.{loaded}
use Rattle.rules.specs.Desk.{Call, fresh_desk, file_of, after}
use Rattle.shares.specs.Holds.{InShare}
use Rattle.shares.proofs.Image.{record_words-most}
use Rattle.shares.proofs.Holds.{holds-empty, holds-purge, share-fetch}
use Rattle.shares.proofs.Tails.{Tails, tails-true, tails-put, tails-empty, tails-put_all}
use Rattle.laws.specs.Runs.{OnFile}
use Rattle.laws.specs.Changes.{GoodGeo, Walks, Starts}
use Rattle.laws.specs.Room.{Roomy}
use Rattle.laws.specs.Bounds.{Bounded}
use Rattle.laws.specs.Tails.{TailsZero}
use Rattle.laws.proofs.Files.{on-file}
use Rattle.laws.proofs.Accessors.{wait-keeps, purged-keeps}
use Rattle.laws.proofs.Bounds.{bounds-at, bounds-lessen, bounds-hushed}
use Rattle.laws.proofs.Records.{used-fits}
use Rattle.laws.proofs.Room.{good-sized, small, Sound, Owed, sound-walks, sound-starts}
use Rattle.laws.proofs.Walk.{lapsed}
use Rattle.laws.proofs.Lift.{lifted}

abbrev Zero : Built → Type 0
Zero b = Tails b.geo b.store.share

zero-put : (r : Rec) (b : Built) → GoodGeo b.geo → InShare b.geo b.store → length r.body ≤ 2 * b.geo.words → used b.store < capacity b.geo.factor b.geo.blocks → Zero b → Zero (put_rec r b)
unfolding put_rec say with_store put
zero-put r b k h l u t = tails-put b.geo r b.store (good-sized b.geo k) (record_words-most b.geo.words r l) h u t

zero-join : (access n k : ℕ) (b : Built) → room_to_open access b ≡ true → Roomy b → Zero b → Zero (enter (new_acc true n k) (put_rec (open_rec n) (purged access b)))
unfolding room_to_open capacity_of enter with_accs say with_store open_rec purge
zero-join access n k b e r t =
    purged-keeps (λ c. used c.store + writers b + 2 ≤ capacity b.geo.factor b.geo.blocks → Zero (put_rec (open_rec n) c)) access b
    (λ hs u. zero-put (open_rec n) (say hs (with_store (purge b.geo b.store) b)) r.geo (holds-purge b.geo b.store r.holds) (omega arith) (omega (arith, u)) t)
    (λ u. zero-put (open_rec n) b r.geo r.holds (omega arith) (omega (arith, u)) t)
    (leb-true _ _ e)

-- with bounds and room

abbrev Zeroed : Built → Type 0
Zeroed b = Sound b × Zero b

abbrev Parting : ℕ → Built → Type 0
Parting n b = Owed n b × Zero b

zeroed-walks : Walks Zeroed Parting
unfolding alter_acc with_accs with_queues with_timers with_store with_buffers say request requeue leave finish cancel freed behind enter vacate Bounded
zeroed-walks = record {
  mild = λ p f b m s. (sound-walks.mild p f b m s.0, s.1);
  finishes = λ p st q a r b e i k s. (sound-walks.finishes p st q a r b e i k s.0, s.1);
  cancels = λ p a b e i s. (sound-walks.cancels p a b e i s.0, s.1);
  read_waits = λ p n q a b e i w h s. (sound-walks.read_waits p n q a b e i w h s.0, wait-keeps Zero false p n _ b (λ _ _ _ _. s.1));
  write_waits = λ p n q a b e i w h s. (sound-walks.write_waits p n q a b e i w h s.0, wait-keeps Zero true p n _ b (λ _ _ _ _. s.1));
  frees = λ p a b e i s. (sound-walks.frees p a b e i s.0, s.1);
  fetches = λ p typed keep b s. (sound-walks.fetches p typed keep b s.0, rw (share-fetch b.geo typed keep b.store) s.1);
  writes = λ p a d b e w l f s. (
    sound-walks.writes p a d b e w l f s.0,
    zero-put (data_rec a d) b s.0.1.geo s.0.1.holds (unfold data_rec in l) (used-fits b f) s.1,
  );
  serves = λ p a q b e i f s. (
    sound-walks.serves p a q b e i f s.0,
    zero-put (data_rec a q.bytes) b s.0.1.geo s.0.1.holds (unfold data_rec in bounds-at p a (writing q) b e i s.0.0) (used-fits b f) s.1,
  );
  enters = λ k b s. (sound-walks.enters k b s.0, s.1);
  joins = λ access n k b h e s. (sound-walks.joins access n k b h e s.0, zero-join access n k b e s.0.1 s.1);
  leaves = λ p a b e i w s. (sound-walks.leaves p a b e i w s.0, s.1);
  parts = λ p a b e i w s. (sound-walks.parts p a b e i w s.0, s.1);
  endings = λ n p st q a r b e i k s. (sound-walks.endings n p st q a r b e i k s.0, s.1);
  closes = λ n b s. (
    sound-walks.closes n b s.0,
    zero-put (close_rec n) b s.0.1.geo s.0.1.holds (unfold close_rec in omega arith) (omega (arith, s.0.1.places)) s.1,
  );
}

zeroed-starts : Starts Zeroed
unfolding new_file loaded say
zeroed-starts = record {
  built = λ g k. (sound-starts.built g k, tails-empty g);
  loads = λ s k. (
    sound-starts.loads s k,
    tails-put_all s.geo s.recs empty_store (good-sized s.geo k.geo) (small s.geo.words s.recs k.recs) (unfold used empty_store in omega (arith, k.few))
        (holds-empty s.geo (good-sized s.geo k.geo)) (tails-empty s.geo),
  );
}

zeroed-lapse : (e : ℕ) (b : Built) → Zeroed b → Zeroed (lapse e b)
zeroed-lapse = lapsed Zeroed Parting zeroed-walks (λ e b s. ((bounds-lessen e b s.0.0, unfold lessen with_timers writers in s.0.1), unfold lessen with_timers in s.1))

zeroed-hushed : (b : Built) → Zeroed b → Zeroed (hushed b)
zeroed-hushed b s = ((bounds-hushed b s.0.0, unfold hushed writers in s.0.1), unfold hushed in s.1)

-- "Build and load zero the share, and a block is zeroed again when its first record is put"
pub tails-zero : (f : ℕ) (cs : List Call) → OnFile TailsZero (file_of (after fresh_desk cs) f)
tails-zero f cs = on-file Zeroed TailsZero (λ b s. tails-true b.geo b.store.share s.1) (file_of (after fresh_desk cs) f)
    (lifted Zeroed Parting zeroed-walks zeroed-lapse zeroed-starts zeroed-hushed f cs)
