use Rattle.geometry.proofs.Sizes.{in-range-is, in-range-fits}
use Rattle.refusing.proofs.Tests.{held, failed}
use Rattle.refusing.specs.Verdicts.{build_refusal}
use Rattle.refusing.proofs.build_refusal.Goals as goal

pub returns-then-not-in_range : goal.returns-then-not-in_range
unfolding build_refusal
returns-then-not-in_range c = rw (failed c.in_range.ensures c.if-not-in_range.true)

pub data_blocks-blocks-requires-clause-le_records : goal.data_blocks-blocks-requires-clause-le_records
data_blocks-blocks-requires-clause-le_records c = let k = in-range-is _ _ _ _ (held c.in_range.ensures c.if-not-in_range.false) in
    k.2

pub data_blocks-blocks-requires-clause-le_factor : goal.data_blocks-blocks-requires-clause-le_factor
data_blocks-blocks-requires-clause-le_factor c = let k = in-range-is _ _ _ _ (held c.in_range.ensures c.if-not-in_range.false) in
    k.1

pub data_blocks-blocks-requires-clause-le_extents : goal.data_blocks-blocks-requires-clause-le_extents
data_blocks-blocks-requires-clause-le_extents c = let k = in-range-is _ _ _ _ (held c.in_range.ensures c.if-not-in_range.false) in
    k.3

pub fits_share-requires : goal.fits_share-requires
fits_share-requires c =
    in-range-fits _ _ _ _ (held c.in_range.ensures c.if-not-in_range.false)

pub returns-then-not-fits_share : goal.returns-then-not-fits_share
unfolding build_refusal
returns-then-not-fits_share c =
    rw (
      held c.in_range.ensures c.if-not-in_range.false,
      ← c.data_blocks-blocks.ensures.value,
      failed c.fits_share.ensures c.if-not-fits_share.true,
    )

pub returns : goal.returns
unfolding build_refusal
returns c =
    rw (
      held c.in_range.ensures c.if-not-in_range.false,
      ← c.data_blocks-blocks.ensures.value,
      held c.fits_share.ensures c.if-not-fits_share.false,
    )
