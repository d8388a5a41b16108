use Rattle.desk.proofs.Writes.{rest-is, write-long}
use Rattle.desk.proofs.Events.{ok-build, act-build, ok-open, act-open, ok_read, act-read, ok-write, act-write, ok-control, act-control, ok-collect, act-collect, ok-close, act-close, counts-stand, counted, act-time}
use Rattle.kinds.specs.declared.Frame.TheVariants as what
use Rattle.judges.specs.Refused.{purges_by}
use native.Mathlib.Omega.{arith}
use mathlib.Core.Path.{ap, ◌∙◌}
use Rattle.desk.proofs.acts.act.Goals as goal

pub build-requires : goal.build-requires
build-requires c =
    (c.requires.event_lent.0, ok-build _ c.requires.unrefused _ _ _ _ _ (c.requires.event_lent.2 ∙ ap what.Event c.in-Build.is))

pub open-requires-clause-sound : goal.open-requires-clause-sound
unfolding purges_by
open-requires-clause-sound c =
    (c.requires.event_lent.0, ok-open _ c.requires.unrefused _ _ _ _ (c.requires.event_lent.2 ∙ ap what.Event c.in-Open.is))

pub open-requires-clause-purges_value : goal.open-requires-clause-purges_value
unfolding purges_by
open-requires-clause-purges_value c =
    c.requires.event_lent.3 ∙ ap (purges_by _) c.in-Open.is

pub read-requires-clause-sound : goal.read-requires-clause-sound
read-requires-clause-sound c =
    (c.requires.event_lent.0, ok_read _ c.requires.unrefused _ _ _ (c.requires.event_lent.2 ∙ ap what.Event c.in-Read.is))

pub slice_bounds-write-count : goal.slice_bounds-write-count
slice_bounds-write-count c =
    let l = write-long _ _ _ _ (c.requires.event_lent.2 ∙ ap what.Event c.in-Write.is) in
    omega (arith, l.0)

pub slice_bounds-write-start : goal.slice_bounds-write-start
slice_bounds-write-start c =
    let l = write-long _ _ _ _ (c.requires.event_lent.2 ∙ ap what.Event c.in-Write.is) in
    omega (arith, l.0)

pub write-requires-clause-sound : goal.write-requires-clause-sound
write-requires-clause-sound c =
    rw (rest-is c.args.frame.now) (c.requires.event_lent.0, ok-write _ c.requires.unrefused _ _ _ (c.requires.event_lent.2 ∙ ap what.Event c.in-Write.is))

pub write-requires-clause-data_len : goal.write-requires-clause-data_len
write-requires-clause-data_len c =
    rw (rest-is c.args.frame.now) (write-long _ _ _ _ (c.requires.event_lent.2 ∙ ap what.Event c.in-Write.is)).1

pub control-requires : goal.control-requires
control-requires c =
    let (d, s, S) = c.requires.event_lent.0 in (
      _,
      d,
      s,
      S,
      ok-control _ c.requires.unrefused _ _ _
          (c.requires.event_lent.2 ∙ ap what.Event c.in-Control.is) d s S,
    )

pub collect-requires-clause-by_index : goal.collect-requires-clause-by_index
collect-requires-clause-by_index c = (
  _,
  c.requires.event_lent.0,
  ok-collect _ c.requires.unrefused _ _ (c.requires.event_lent.2 ∙ ap what.Event c.in-Collect.is),
)

pub close-requires : goal.close-requires
close-requires c =
    (c.requires.event_lent.0, ok-close _ c.requires.unrefused _ _ (c.requires.event_lent.2 ∙ ap what.Event c.in-Close.is))

pub counts-requires : goal.counts-requires
counts-requires c =
    let (d, s, S) = c.requires.event_lent.0 in
    counts-stand _ c.requires.unrefused _
    (c.requires.event_lent.2 ∙ ap what.Event c.in-Counts.is) d s S

pub returns-in-Build : goal.returns-in-Build
returns-in-Build c =
    λ d s S.
    rw c.plain.ensures
    (act-build _ c.requires.unrefused _ _ _ _ _ (c.requires.event_lent.2 ∙ ap what.Event c.in-Build.is) d s S _ _ _
    (c.build.ensures d s S))

pub returns-in-Open : goal.returns-in-Open
returns-in-Open c =
    let open-call = c.«open» in
    λ d s S.
    rw c.plain-in-Open.ensures
    (act-open _ c.requires.unrefused _ _ _ _ (c.requires.event_lent.2 ∙ ap what.Event c.in-Open.is) d s S _ _ _
    (open-call.ensures d s S))

pub returns-in-Read : goal.returns-in-Read
returns-in-Read c =
    λ d s S.
    act-read _ c.requires.unrefused _ _ _ (c.requires.event_lent.2 ∙ ap what.Event c.in-Read.is) d s S _ _ _ _ _
    (c.read.ensures d s S)

pub returns-in-Write : goal.returns-in-Write
returns-in-Write c =
    λ d s S.
    rw c.plain-in-Write.ensures
    (act-write _ c.requires.unrefused _ _ _ (c.requires.event_lent.2 ∙ ap what.Event c.in-Write.is) d s S _ _ _
    (rw (rest-is c.args.frame.now) at (c.write.ensures d s S)))

pub returns-in-Control : goal.returns-in-Control
returns-in-Control c =
    λ d s S.
    rw c.plain-in-Control.ensures
    (act-control _ c.requires.unrefused _ _ _ (c.requires.event_lent.2 ∙ ap what.Event c.in-Control.is) d s S _ _ _
    (c.control.ensures _ d s S
    (ok-control _ c.requires.unrefused _ _ _ (c.requires.event_lent.2 ∙ ap what.Event c.in-Control.is) d s S)))

pub returns-in-Collect : goal.returns-in-Collect
returns-in-Collect c =
    λ d s S.
    act-collect _ c.requires.unrefused _ _ (c.requires.event_lent.2 ∙ ap what.Event c.in-Collect.is) d s S _ _ _ _ _
    (c.collect.ensures _ d s S
    (ok-collect _ c.requires.unrefused _ _ (c.requires.event_lent.2 ∙ ap what.Event c.in-Collect.is) d s S))

pub returns-in-Close : goal.returns-in-Close
returns-in-Close c =
    λ d s S.
    rw c.plain-in-Close.ensures
    (act-close _ c.requires.unrefused _ _ (c.requires.event_lent.2 ∙ ap what.Event c.in-Close.is) d s S _ _ _
    (c.close.ensures d s S))

pub returns-in-Time : goal.returns-in-Time
returns-in-Time c =
    λ d s S.
    rw c.plain-in-Time.ensures
    (act-time _ c.requires.unrefused _ (c.requires.event_lent.2 ∙ ap what.Event c.in-Time.is) d s S _ _ _
    (c.pass_time.ensures.stands d s _ S) (c.pass_time.ensures.others d s _ S))

pub returns-in-Counts : goal.returns-in-Counts
returns-in-Counts c =
    λ d s S.
    rw c.plain-in-Counts.ensures
    (counted _ c.requires.unrefused _ (c.requires.event_lent.2 ∙ ap what.Event c.in-Counts.is) _
    c.counts.ensures d s S _)
