use Rattle.looking.proofs.Parts.{block_inside, buffer-inside, refused-part, block-part, buffer-part}
use borrow.Author.Rules.{rules}
use Rattle.looking.proofs.part.Goals as goal

pub overflow_add-result : goal.overflow_add-result
overflow_add-result g c = let h = block_inside _ _ _ c.requires _ c.in-Ok.is _ _ c.in-Block.is in search rules

pub slice_bounds-result-end-in-Block : goal.slice_bounds-result-end-in-Block
slice_bounds-result-end-in-Block g c =
    let h = block_inside _ _ _ c.requires _ c.in-Ok.is _ _ c.in-Block.is in
    search rules

pub overflow_add-result-in-Buffer : goal.overflow_add-result-in-Buffer
overflow_add-result-in-Buffer g c = let h = buffer-inside _ _ _ c.requires _ c.in-Ok.is _ _ c.in-Buffer.is in search rules

pub slice_bounds-result-end-in-Buffer : goal.slice_bounds-result-end-in-Buffer
slice_bounds-result-end-in-Buffer g c =
    let h = buffer-inside _ _ _ c.requires _ c.in-Ok.is _ _ c.in-Buffer.is in
    search rules

pub returns-in_default : goal.returns-in_default
returns-in_default g c = refused-part _ _ _ c.in_default.not-Ok

pub returns-in-Block : goal.returns-in-Block
returns-in-Block g c = block-part _ _ _ _ c.in-Ok.is _ _ c.in-Block.is

pub returns-in-Buffer : goal.returns-in-Buffer
returns-in-Buffer g c = buffer-part _ _ _ _ c.in-Ok.is _ _ c.in-Buffer.is
