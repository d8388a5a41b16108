use Rattle.opening.proofs.Enters.{each_at, place-low, row-ranged, writer-ready, writer_in, writer-done}
use Rattle.opening.proofs.entering.open_writer.Goals as goal

pub take-file-requires : goal.take-file-requires
take-file-requires c =
    let ((d, s, S), (access, (known, each))) = c.requires in
    let (hf, b, e, k) = each d s S in
    (hf, row-ranged S _ hf b e)

pub put-written-requires-clause-ready : goal.put-written-requires-clause-ready
put-written-requires-clause-ready c =
    let ((d, s, S), (access, (known, each))) = c.requires in
    let (hf, b, e, k) = each d s S in
    (writer-ready S _ hf b e access _ (c.take-file.ensures access known)).1

pub enter-requires : goal.enter-requires
enter-requires c =
    let ((d, s, S), (access, (known, each))) = c.requires in
    let (hf, b, e, k) = each d s S in
    (hf, place-low S _ hf b e _ c.free_place-acc.ensures.0 k.0)

pub conclude-requires : goal.conclude-requires
conclude-requires c =
    let ((d, s, S), (access, (known, each))) = c.requires in
    let (hf, b, e, k) = each d s S in (
      _,
      _,
      writer_in S _ hf b e access _ (c.take-file.ensures access known) _ _ _ _ _ _ k c.free_place-acc.ensures.0 c.free_id-id.ensures
          c.put-written.ensures.keeps c.enter.ensures,
    )

pub returns : goal.returns
returns c =
    λ access (known, each) d s b S e.
    let (hf, k) = each_at each d s b S e in
    writer-done S _ hf b e access _ (c.take-file.ensures access known) _ _ _ _ c.free_place-acc.ensures.0 c.free_id-id.ensures
    (c.conclude.ensures _ _
    (writer_in S _ hf b e access _ (c.take-file.ensures access known) _ _ _ _ _ _ k c.free_place-acc.ensures.0 c.free_id-id.ensures
    c.put-written.ensures.keeps c.enter.ensures) S.stands.bodies)
