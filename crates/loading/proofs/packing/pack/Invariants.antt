use Prim.Native.Nat.{◌-◌}
use mathlib.Core.Option.{some}
use mathlib.Core.Path.{◌≡◌}
use Rattle.rules.specs.Sheet.{Sheet, read_sheet}
use Rattle.loading.proofs.Packed.{Packing}
use Rattle.loading.proofs.packing.pack.Given as goal

-- the records handed out so far are packed, and the reader stands at the next line of the text
abbrev pub invariant-loop : goal.invariant-loop
invariant-loop l = record {
  packs : (s : Sheet) → read_sheet l.text ≡ some s → Packing s l.f l.initial.blocks l.text l.reader.at (l.end - l.counter) l.file l.blocks;
  text : l.reader.text.now ≡ l.text;
}
