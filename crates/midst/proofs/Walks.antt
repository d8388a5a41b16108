-- What every change that a call makes keeps: the file is fine, and while a writer's close record is owed it is fine except for that.
use Prim.Native.Nat.{ℕ}
use Rattle.rules.specs.State.{Built}
use Rattle.laws.specs.Changes.{Walks}
use Rattle.laws.specs.Lying.{Lying}
use Rattle.laws.proofs.Room.{Sound}
use Rattle.laws.proofs.Room as room
use Rattle.laws.proofs.Lying.{lying-walks}
use Rattle.laws.proofs.Timers.{Timed, timed-walks}
use Rattle.laws.proofs.Records.{Whole, Parting, whole_walks}
use Rattle.memory.specs.Fine.{Fine}

abbrev pub Owed : ℕ → Built → Type 0
Owed n b = Parting n b × Timed b × Lying b

pub whole : {b : Built} → Fine b → Whole b
whole i = ((i.bounds, i.room), i.sides, i.records)

pub ticks : {b : Built} → Fine b → Timed b
ticks i = (i.queues, i.timers)

pub lain : {b : Built} → Fine b → Sound b × Lying b
lain i = ((i.bounds, i.room), i.buffers)

pub fine : {b : Built} → Whole b → Timed b → Sound b × Lying b → Fine b
fine w q l = record { room = w.0.1; records = w.2; bounds = w.0.0; buffers = l.1; queues = q.0; timers = q.1; sides = w.1 }

pub fine-walks : Walks Fine Owed
fine-walks =
    let W : Walks Whole Parting = whole_walks in
    let T : Walks Timed (λ n. Timed) = timed-walks in
    let L : Walks (λ b. Sound b × Lying b) (λ n b. room.Owed n b × Lying b) = lying-walks in
    record {
      mild = λ p f b m i. fine (W.mild p f b m (whole i)) (T.mild p f b m (ticks i)) (L.mild p f b m (lain i));
      finishes = λ p st q a r b e h k i. fine (W.finishes p st q a r b e h k (whole i)) (T.finishes p st q a r b e h k (ticks i)) (L.finishes p st q a r b e h k (lain i));
      cancels = λ p a b e h i. fine (W.cancels p a b e h (whole i)) (T.cancels p a b e h (ticks i)) (L.cancels p a b e h (lain i));
      read_waits = λ p n q a b e h u v i. fine (W.read_waits p n q a b e h u v (whole i)) (T.read_waits p n q a b e h u v (ticks i)) (L.read_waits p n q a b e h u v (lain i));
      write_waits = λ p n q a b e h u v i. fine (W.write_waits p n q a b e h u v (whole i)) (T.write_waits p n q a b e h u v (ticks i)) (L.write_waits p n q a b e h u v (lain i));
      frees = λ p a b e h i. fine (W.frees p a b e h (whole i)) (T.frees p a b e h (ticks i)) (L.frees p a b e h (lain i));
      fetches = λ p typed keep b i. fine (W.fetches p typed keep b (whole i)) (T.fetches p typed keep b (ticks i)) (L.fetches p typed keep b (lain i));
      writes = λ p a d b e h u v i. fine (W.writes p a d b e h u v (whole i)) (T.writes p a d b e h u v (ticks i)) (L.writes p a d b e h u v (lain i));
      serves = λ p a q b e h u i. fine (W.serves p a q b e h u (whole i)) (T.serves p a q b e h u (ticks i)) (L.serves p a q b e h u (lain i));
      enters = λ s b i. fine (W.enters s b (whole i)) (T.enters s b (ticks i)) (L.enters s b (lain i));
      joins = λ access n s b h u i. fine (W.joins access n s b h u (whole i)) (T.joins access n s b h u (ticks i)) (L.joins access n s b h u (lain i));
      leaves = λ p a b e h u i. fine (W.leaves p a b e h u (whole i)) (T.leaves p a b e h u (ticks i)) (L.leaves p a b e h u (lain i));
      parts = λ p a b e h u i. (W.parts p a b e h u (whole i), T.parts p a b e h u (ticks i), (L.parts p a b e h u (lain i)).1);
      endings = λ n p st q a r b e h k i. (
        W.endings n p st q a r b e h k i.0,
        T.endings n p st q a r b e h k i.1,
        (L.endings n p st q a r b e h k (i.0.0, i.2)).1,
      );
      closes = λ n b i. fine (W.closes n b i.0) (T.closes n b i.1) (L.closes n b (i.0.0, i.2));
    }
