use mathlib.Core.Path.{refl}
use Rattle.midst.specs.Outcome.{refusal_of, reply_status, status_of}
use Rattle.rules.specs.Desk.{frame_asks, answered}
use Rattle.judges.specs.Refused.{purges_by}
use Rattle.judges.proofs.judge.Goals as goal

pub returns-in-Build-clause-by_index : goal.returns-in-Build-clause-by_index
unfolding frame_asks purges_by
returns-in-Build-clause-by_index c =
    λ t. rw (c.plain.ensures.0, c.in-Build.is) c.judge_build.ensures

pub returns-in-Build-clause-purges_value : goal.returns-in-Build-clause-purges_value
unfolding frame_asks purges_by
returns-in-Build-clause-purges_value c =
    rw c.in-Build.is c.plain.ensures.1

pub returns-in-Open-clause-by_index : goal.returns-in-Open-clause-by_index
unfolding frame_asks purges_by
returns-in-Open-clause-by_index c =
    λ t. rw c.in-Open.is c.judge_open.ensures.refuses

pub returns-in-Open-clause-purges_value : goal.returns-in-Open-clause-purges_value
unfolding frame_asks purges_by
returns-in-Open-clause-purges_value c =
    rw c.in-Open.is c.judge_open.ensures.purges_value

pub returns-in-Read-clause-by_index : goal.returns-in-Read-clause-by_index
unfolding frame_asks purges_by
returns-in-Read-clause-by_index c =
    λ t. rw (c.plain-in-Read.ensures.0, c.in-Read.is) c.judge_read.ensures

pub returns-in-Read-clause-purges_value : goal.returns-in-Read-clause-purges_value
unfolding frame_asks purges_by
returns-in-Read-clause-purges_value c =
    rw c.in-Read.is c.plain-in-Read.ensures.1

pub returns-in-Write-clause-by_index : goal.returns-in-Write-clause-by_index
unfolding frame_asks purges_by
returns-in-Write-clause-by_index c =
    λ t. rw (c.plain-in-Write.ensures.0, c.in-Write.is) (c.judge_write.ensures t)

pub returns-in-Write-clause-purges_value : goal.returns-in-Write-clause-purges_value
unfolding frame_asks purges_by
returns-in-Write-clause-purges_value c =
    rw c.in-Write.is c.plain-in-Write.ensures.1

pub returns-in-Control-clause-by_index : goal.returns-in-Control-clause-by_index
unfolding frame_asks purges_by
returns-in-Control-clause-by_index c =
    λ t. rw (c.plain-in-Control.ensures.0, c.in-Control.is) c.judge_control.ensures

pub returns-in-Control-clause-purges_value : goal.returns-in-Control-clause-purges_value
unfolding frame_asks purges_by
returns-in-Control-clause-purges_value c =
    rw c.in-Control.is c.plain-in-Control.ensures.1

pub returns-in-Collect-clause-by_index : goal.returns-in-Collect-clause-by_index
unfolding frame_asks purges_by
returns-in-Collect-clause-by_index c =
    λ t. rw (c.plain-in-Collect.ensures.0, c.in-Collect.is) c.judge_collect.ensures

pub returns-in-Collect-clause-purges_value : goal.returns-in-Collect-clause-purges_value
unfolding frame_asks purges_by
returns-in-Collect-clause-purges_value c =
    rw c.in-Collect.is c.plain-in-Collect.ensures.1

pub returns-in-Close-clause-by_index : goal.returns-in-Close-clause-by_index
unfolding frame_asks purges_by
returns-in-Close-clause-by_index c =
    λ t. rw (c.plain-in-Close.ensures.0, c.in-Close.is) c.judge_close.ensures

pub returns-in-Close-clause-purges_value : goal.returns-in-Close-clause-purges_value
unfolding frame_asks purges_by
returns-in-Close-clause-purges_value c =
    rw c.in-Close.is c.plain-in-Close.ensures.1

pub returns-in-Time-clause-by_index : goal.returns-in-Time-clause-by_index
unfolding frame_asks purges_by answered refusal_of reply_status status_of
returns-in-Time-clause-by_index c =
    λ t. rw c.in-Time.is (λ blocks buffers d s S. refl)

pub returns-in-Time-clause-purges_value : goal.returns-in-Time-clause-purges_value
unfolding frame_asks purges_by answered refusal_of reply_status status_of
returns-in-Time-clause-purges_value c =
    rw c.in-Time.is

pub returns-in-Counts-clause-by_index : goal.returns-in-Counts-clause-by_index
unfolding frame_asks purges_by
returns-in-Counts-clause-by_index c =
    λ t. rw (c.plain-in-Counts.ensures.0, c.in-Counts.is) c.judge_counts.ensures

pub returns-in-Counts-clause-purges_value : goal.returns-in-Counts-clause-purges_value
unfolding frame_asks purges_by
returns-in-Counts-clause-purges_value c =
    rw c.in-Counts.is c.plain-in-Counts.ensures.1
