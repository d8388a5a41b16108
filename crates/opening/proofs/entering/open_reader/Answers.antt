use Rattle.opening.proofs.Enters.{each_at, place-low, reader-in, reader-done}
use Rattle.opening.proofs.entering.open_reader.Goals as goal

pub enter-requires : goal.enter-requires
enter-requires c =
    let (d, s, S) = c.requires.0 in
    let (hf, b, e, k) = c.requires.1 d s S in
    (hf, place-low S _ hf b e _ c.free_place-acc.ensures.0 k)

pub conclude-requires : goal.conclude-requires
conclude-requires c =
    let (d, s, S) = c.requires.0 in
    let (hf, b, e, k) = c.requires.1 d s S in
    (_, _, reader-in S _ hf b e _ _ _ _ k c.free_place-acc.ensures.0 c.take_file-file.ensures c.enter.ensures)

pub returns : goal.returns
returns c =
    λ d s b S e.
    let (hf, k) = each_at c.requires.1 d s b S e in
    reader-done S _ hf b e _ _ _ c.free_place-acc.ensures.0
    (c.conclude.ensures _ _
    (reader-in S _ hf b e _ _ _ _ k c.free_place-acc.ensures.0 c.take_file-file.ensures c.enter.ensures)
    S.stands.bodies)
