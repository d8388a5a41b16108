use Rattle.words.specs.Word.{Bytes}
use Rattle.kinds.proofs.Numbers.{number-high}
use Rattle.memory.specs.Memories.{was}
use Rattle.loading.proofs.Done.{refused-load, done-asks, done-load, Asks}
use Rattle.loading.proofs.load.Goals as goal
use Rattle.loading.proofs.load.Goals.{In_default}

-- what is asked of the memories and of the text, where the load is not refused
asks : (c : In_default) → Asks (was c.args.segment.now c.args.blocks.now c.args.buffers.now) c.args.file c.args.text.now
unfolding Bytes
asks c =
    done-asks _ _ _ (λ i. (c.slice_known-1.given i).fits) (λ i. (c.slice_known-2-1.given i).fits) (λ i. (c.slice_known-3-1.given i).fits) c.in_default.ensures

pub returns-in-Err : goal.returns-in-Err
returns-in-Err c = refused-load _ _ _ _ c.in-Err.ensures (number-high _)

pub returns-in_default-as_mut_array : goal.returns-in_default-as_mut_array
returns-in_default-as_mut_array c =
    absurd (c.in_default-as_mut_array.ensures.cases (asks (goal.at.returns-in_default-as_mut_array c).In_default).0.0)

pub returns-in_default-as_mut_array-2 : goal.returns-in_default-as_mut_array-2
returns-in_default-as_mut_array-2 c = absurd (c.in_default-as_mut_array-2.ensures.cases (asks (goal.at.returns-in_default-as_mut_array-2 c).In_default).0.1)

pub returns-in_default-as_mut_array-3 : goal.returns-in_default-as_mut_array-3
returns-in_default-as_mut_array-3 c = absurd (c.in_default-as_mut_array-3.ensures.cases (asks (goal.at.returns-in_default-as_mut_array-3 c).In_default).0.2)

pub lay_out-requires-clause-f_lt_files : goal.lay_out-requires-clause-f_lt_files
lay_out-requires-clause-f_lt_files c = (asks (goal.at.lay_out-requires-clause-f_lt_files c).In_default).0.3

pub lay_out-requires-clause-text_value : goal.lay_out-requires-clause-text_value
lay_out-requires-clause-text_value c = (asks (goal.at.lay_out-requires-clause-text_value c).In_default).1

pub returns : goal.returns
unfolding Bytes
returns c =
    done-load _ _ _ c.in_default.ensures _
    (rw (c.in-Some.ensures.cases.same, c.in-Some-as_mut_array.ensures.cases.same, c.in-Some-as_mut_array-2.ensures.cases.same) at c.lay_out.ensures)
    (λ i. (c.type_inv.segment i).fits)
    (λ i. (c.type_inv.blocks i).fits) (λ i. (c.type_inv.buffers i).fits)
