use Rattle.settling.proofs.WriteTurns.{turn-nobody, turn-full, data-ready, served}
use Rattle.settling.proofs.FirstWriter.{writer_of, writer-under, writer-size}
use Rattle.store.proofs.Hands.{fine-stored, hand-ranged}
use Rattle.settling.proofs.Beside.{count_most}
use native.Mathlib.Omega.{arith}
use mathlib.Core.Path.{◌≡◌}
use Rattle.accessors.specs.Sides.{count_side}
use Rattle.settling.proofs.writers.serve_writer.Goals as goal
use Rattle.settling.proofs.writers.serve_writer.Goals.{Else-e-ge-ENTRIES}

counted : (c : Else-e-ge-ENTRIES) → c.args.writers ≡ count_side c.args.segment.now c.args.f 2
counted c = c.requires.1 (rw (← c.get-e.ensures) c.if-e-ge-ENTRIES.false)

pub returns-then-e-ge-ENTRIES : goal.returns-then-e-ge-ENTRIES
returns-then-e-ge-ENTRIES c = λ o b M. turn-nobody M _ c.get-e.ensures c.if-e-ge-ENTRIES.true

pub fits-requires : goal.fits-requires
fits-requires c =
    let M = c.requires.0.2 in
    (hand-ranged M (fine-stored M.good), omega (arith, counted c, count_most c.args.segment.now c.args.f 2))

pub returns-then-not-fits : goal.returns-then-not-fits
returns-then-not-fits c =
    λ o b M.
    turn-full M (writer_of M (rw (← c.get-e.ensures) c.if-e-ge-ENTRIES.false))
    (rw (← counted (goal.at.returns-then-not-fits c).Else-e-ge-ENTRIES, ← c.fits.ensures) c.if-not-fits.true)

pub read_place-row-requires : goal.read_place-row-requires
read_place-row-requires c =
    let M = c.requires.0.2 in
    writer-under M (writer_of M (rw (← c.get-e.ensures) c.if-e-ge-ENTRIES.false)) _ _ c.get-e.ensures
    c.read_entry-m.ensures

pub take-next-requires-clause-place_lt_desk_places : goal.take-next-requires-clause-place_lt_desk_places
take-next-requires-clause-place_lt_desk_places c =
    let M = c.requires.0.2 in
    let r = writer_of M (rw (← c.get-e.ensures) c.if-e-ge-ENTRIES.false) in (
      writer-under M r _ _ c.get-e.ensures c.read_entry-m.ensures,
      writer-size M r _ _ c.get-e.ensures c.read_entry-m.ensures,
      rw (← c.get-e.ensures) c.if-e-ge-ENTRIES.false,
    )

pub take-next-requires-clause-ready : goal.take-next-requires-clause-ready
take-next-requires-clause-ready c =
    let M = c.requires.0.2 in
    let r = writer_of M (rw (← c.get-e.ensures) c.if-e-ge-ENTRIES.false) in
    (data-ready M r _ _ c.get-e.ensures c.read_entry-m.ensures).1

pub returns : goal.returns
returns c =
    λ o b M.
    served M (writer_of M (rw (← c.get-e.ensures) c.if-e-ge-ENTRIES.false)) _ _ c.get-e.ensures c.read_entry-m.ensures _
    c.read_place-row.ensures (rw (← counted (goal.at.returns c).Else-e-ge-ENTRIES, ← c.fits.ensures) c.if-not-fits.false) _ _
    c.take-next.ensures.put c.take-next.ensures.buffers c.take-next.ensures.segment
