-- Whether a request waits.
use Rattle.std.specs.Prelude.{Bool, true, false}
use Rattle.kinds.specs.declared.Outstanding.{Outstanding}
use Rattle.kinds.specs.declared.Outstanding.TheVariants.{Nothing, Waiting, Completed}

unfoldable pub is_waiting : Outstanding → Bool
is_waiting Nothing = false
is_waiting Waiting = true
is_waiting Completed = false
