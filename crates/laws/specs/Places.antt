-- "each with eight accessor places, 0 to 7"
use Rattle.std.specs.Prelude.{◌≡◌, length}
use Rattle.rules.specs.Limits.{places}
use Rattle.rules.specs.State.{Built}

abbrev pub Eight : Built → Type 0
Eight b = length b.accs ≡ places
