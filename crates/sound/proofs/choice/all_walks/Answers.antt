use mathlib.Core.Path.{sym, ◌∙◌}
use Rattle.sound.proofs.Steps.{well, ill}
use Rattle.sound.proofs.Whole.{all-off, reads-off, writes-off, ports-off, ports-on}
use Rattle.sound.proofs.choice.all_walks.Goals as goal
use mathlib.Core.Path.{ap}
use mathlib.Core.Bool.{not}

pub returns-then-not-free_walk : goal.returns-then-not-free_walk
returns-then-not-free_walk c =
    sym
    (all-off _ _ _ c.requires.0 c.requires.1 _ _
    (ill _ _ _ (c.free_walk.ensures _) (ap not c.if-not-free_walk.true)))

pub returns-then-not-queue_walks : goal.returns-then-not-queue_walks
returns-then-not-queue_walks c =
    sym
    (reads-off _ _ _ c.requires.0 c.requires.1 _ _ (well _ _ _ (c.free_walk.ensures _) (ap not c.if-not-free_walk.false))
    _ _ (ill _ _ _ c.queue_walks.ensures (ap not c.if-not-queue_walks.true)))

pub returns-then-not-queue_walks-2 : goal.returns-then-not-queue_walks-2
returns-then-not-queue_walks-2 c =
    sym
    (writes-off _ _ _ c.requires.0 c.requires.1 _ _ (well _ _ _ (c.free_walk.ensures _) (ap not c.if-not-free_walk.false))
    _ _ (well _ _ _ c.queue_walks.ensures (ap not c.if-not-queue_walks.false)) _ _
    (ill _ _ _ c.queue_walks-2.ensures (ap not c.if-not-queue_walks-2.true)))

pub returns-then-not-port_walks : goal.returns-then-not-port_walks
returns-then-not-port_walks c =
    sym
    (ports-off _ _ _ c.requires.0 c.requires.1 _ _ (well _ _ _ (c.free_walk.ensures _) (ap not c.if-not-free_walk.false))
    _ _ (well _ _ _ c.queue_walks.ensures (ap not c.if-not-queue_walks.false)) _ _ (well _ _ _ c.queue_walks-2.ensures (ap not c.if-not-queue_walks-2.false)) _ _
    (ill _ _ _ c.port_walks.ensures (ap not c.if-not-port_walks.true)))

pub returns : goal.returns
returns c =
    c.timer_walk.ensures
    ∙ sym
    (ports-on _ _ _ c.requires.0 c.requires.1 _ _ (well _ _ _ (c.free_walk.ensures _) (ap not c.if-not-free_walk.false))
    _ _ (well _ _ _ c.queue_walks.ensures (ap not c.if-not-queue_walks.false)) _ _ (well _ _ _ c.queue_walks-2.ensures (ap not c.if-not-queue_walks-2.false)) _
    _ (well _ _ _ c.port_walks.ensures (ap not c.if-not-port_walks.false)))
