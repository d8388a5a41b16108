use Prim.Native.Nat.{◌-◌}
use mathlib.Core.Path.{◌≡◌}
use Rattle.reader.specs.Sheets.{good_from}
use Rattle.reader.proofs.good_records.Given as goal

abbrev pub invariant-loop : goal.invariant-loop
invariant-loop l = record {
  text : l.reader.text.now ≡ l.text;
  rest : good_from l.head.words l.text l.head.at l.head.held ≡ good_from l.head.words l.text l.reader.at (l.head.held - l.counter);
}
