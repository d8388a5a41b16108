use Rattle.board.proofs.Files.{counts-are, counts-only, ring-ranged, room-low, words-low, file-is}
use Rattle.texts.proofs.Runs.{◌then◌, put_as, put-within}
use native.Mathlib.Omega.{arith}
use Rattle.board.proofs.put_file.Goals as goal

pub returns-in_default : goal.returns-in_default
returns-in_default c =
    λ buffers d s b S e. absurd (counts-only b _ (c.counts-counts.ensures buffers d s b S e) c.in_default.not-Counted)

pub room_left-room-requires : goal.room_left-room-requires
room_left-room-requires c =
    let p = c.requires.0 in
    let n = counts-are p.b _ (c.counts-counts.ensures _ _ _ _ p.stands p.is) _ _ _ _ c.in-Counted.is in
    (ring-ranged p.stands _ p.file p.b p.is _ c.take_file-file.ensures, room-low p.stands _ p.file p.b p.is _ c.take_file-file.ensures _ n.2)

pub put_geometry-a-requires : goal.put_geometry-a-requires
put_geometry-a-requires c =
    let p = c.requires.0 in
    (omega (arith, c.requires.1), omega (arith, p.file), words-low p.stands _ p.file p.b p.is _ c.take_file-file.ensures)

pub returns : goal.returns
returns c =
    λ buffers d s b S e.
    let n = counts-are b _ (c.counts-counts.ensures buffers d s b S e) _ _ _ _ c.in-Counted.is in
    put-within _ (omega arith)
    (put_as (file-is S _ c.requires.0.file b e _ c.take_file-file.ensures _ _ _ _ n.0 n.1 n.2 c.room_left-room.ensures)
    (c.put_geometry-a.ensures then c.put_held-b.ensures then c.put_accessors.ensures))
