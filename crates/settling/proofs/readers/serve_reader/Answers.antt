use Rattle.settling.proofs.ReadTurns.{Seen, turn-nobody, turn-nothing, handed-short, served}
use Rattle.settling.proofs.FirstReader.{reader-of, reader-under}
use Rattle.store.proofs.Hands.{fine-stored, hand-held}
use Rattle.segment.specs.Layout.{read_queue}
use Rattle.segment.specs.Table.{nth}
use Rattle.rules.specs.Limits.{entries}
use borrow.Author.Tests.{not-true, not-false}
use Prim.Native.Nat.{◌<◌}
use Rattle.settling.proofs.readers.serve_reader.Goals as goal
use Rattle.settling.proofs.readers.serve_reader.Goals.{After-fetch-found}

-- what the code has seen when it has fetched
seen : (c : After-fetch-found)
    → Seen c.args.f c.args.segment.now c.args.blocks.now c.args.file c.get-e.result c.read_entry-m.result c.read_place-row.result c.fetch-found.result
seen c = record {
  first = c.get-e.ensures;
  entry = c.read_entry-m.ensures;
  place = c.read_place-row.ensures;
  keeps = c.fetch-found.ensures.keeps;
  gets = c.fetch-found.ensures.gets;
}

somebody : (c : After-fetch-found) → nth c.args.segment.now (read_queue c.args.f) < entries
somebody c = rw (← c.get-e.ensures) c.if-e-ge-ENTRIES.false

pub returns-then-e-ge-ENTRIES : goal.returns-then-e-ge-ENTRIES
returns-then-e-ge-ENTRIES c = λ o b M. turn-nobody M _ c.get-e.ensures c.if-e-ge-ENTRIES.true

pub read_place-row-requires : goal.read_place-row-requires
read_place-row-requires c =
    reader-under c.requires.2 (reader-of c.requires.2 (rw (← c.get-e.ensures) c.if-e-ge-ENTRIES.false)) _ _
    c.get-e.ensures c.read_entry-m.ensures

pub fetch-found-requires-clause-held : goal.fetch-found-requires-clause-held
fetch-found-requires-clause-held c =
    (hand-held c.requires.2 (fine-stored c.requires.2.good)).1

pub returns-then-not-found : goal.returns-then-not-found
returns-then-not-found c =
    λ o b M.
    turn-nothing M (reader-of M (somebody (goal.at.returns-then-not-found c).After-fetch-found)) (seen (goal.at.returns-then-not-found c).After-fetch-found) (not-true _ c.if-not-found.true)

pub hand_over-requires-clause-place_lt_desk_places : goal.hand_over-requires-clause-place_lt_desk_places
hand_over-requires-clause-place_lt_desk_places c =
    let M = c.requires.2 in
    let v = seen (goal.at.hand_over-requires-clause-place_lt_desk_places c).After-fetch-found in
    let r = reader-of M (somebody (goal.at.hand_over-requires-clause-place_lt_desk_places c).After-fetch-found) in (
      reader-under M r _ _ v.first v.entry,
      handed-short M r v (not-false _ c.if-not-found.false) _ c.share.ensures _ c.handed-bytes.ensures,
      somebody (goal.at.hand_over-requires-clause-place_lt_desk_places c).After-fetch-found,
    )

pub returns : goal.returns
returns c =
    λ o b M.
    served M (reader-of M (somebody (goal.at.returns c).After-fetch-found)) (seen (goal.at.returns c).After-fetch-found) (not-false _ c.if-not-found.false) _ c.share.ensures _ c.handed-bytes.ensures _ _
    c.hand_over.ensures.segment c.hand_over.ensures.buffers
