use mathlib.Core.Path.{◌∙◌}
use native.Mathlib.Omega.{arith}
use Rattle.transfers.specs.Rows.{write_entry}
use Rattle.segment.specs.Fields.{entry_words}
use Rattle.transfers.proofs.Tests.{byte_bit}
use Rattle.transfers.proofs.waiting.wait_write.Goals as goal

pub wait-requires : goal.wait-requires
unfolding write_entry entry_words
wait-requires c =
    (omega (arith, c.requires.f_lt_files.0), c.requires.f_lt_files.3, rw (c.waiting_write-m.ensures, c.from.ensures ∙ byte_bit c.args.by_words) c.requires.free_list_bound)

pub returns-clause-segment : goal.returns-clause-segment
unfolding write_entry entry_words
returns-clause-segment c =
    rw (← (c.from.ensures ∙ byte_bit c.args.by_words)) (rw c.waiting_write-m.ensures at c.wait.ensures)
