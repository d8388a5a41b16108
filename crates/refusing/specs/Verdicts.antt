-- The refusal number of each event, from what was found out; 0 if it is not refused.
use Rattle.std.specs.Prelude.{ℕ, ◌*◌, Bool, true, false, cond, ◌&&◌, leb, eqb}
use Rattle.kinds.specs.declared.Control.{Control}
use Rattle.kinds.specs.declared.Control.TheVariants.{Timeout, Verify, Abort, Extended, Typed, Keep}
use Rattle.kinds.specs.declared.Outstanding.{Outstanding}
use Rattle.kinds.specs.declared.Outstanding.TheVariants.{Nothing, Waiting, Completed}
use Rattle.rules.specs.Limits.{most_mode}
use Rattle.rules.specs.Geometry.{data_blocks, in_range, fits_share}
use Rattle.rules.specs.TransferCounts.{count_bytes, readable}

unfoldable pub free : Outstanding → Bool
free Nothing = true
free Waiting = false
free Completed = false

-- 33 while a request is outstanding, else n
unfoldable pub while_free : Outstanding → ℕ → ℕ
while_free o n = cond (free o) n 33

unfoldable pub read_refusal : ℕ → ℕ → Outstanding → ℕ
read_refusal count side o = while_free o (cond (eqb side 2) 34 (cond (readable count) 0 35))

unfoldable pub write_refusal : ℕ → ℕ → ℕ → Outstanding → ℕ
write_refusal count words side o = while_free o (cond (eqb side 2) (cond (leb (count_bytes count) (2 * words)) 0 35) 34)

-- the refusal of a setting that is not "with 0 or 1"
unfoldable pub switch_refusal : ℕ → ℕ
switch_refusal v = cond (leb v 1) 0 35

-- the refusal of "46 or 47 by a writer", or of their setting
unfoldable pub reader_refusal : ℕ → ℕ → ℕ
reader_refusal side v = cond (eqb side 2) 34 (switch_refusal v)

-- the refusal of "collect or 43 with nothing outstanding"
unfoldable pub nothing_refusal : Outstanding → ℕ
nothing_refusal o = cond (free o) 39 0

unfoldable pub control_refusal : Control → ℕ → Outstanding → ℕ
control_refusal (Timeout v) side o = while_free o 0
control_refusal (Verify v) side o = while_free o 0
control_refusal (Abort v) side o = nothing_refusal o
control_refusal (Extended v) side o = while_free o (switch_refusal v)
control_refusal (Typed v) side o = while_free o (reader_refusal side v)
control_refusal (Keep v) side o = while_free o (reader_refusal side v)

-- "Any other code, 48 too, is refused 35"
unfoldable pub code_refusal : Outstanding → ℕ
code_refusal o = while_free o 35

-- the refusal of "close with a completed one uncollected"
unfoldable pub close_refusal : Outstanding → ℕ
close_refusal Nothing = 0
close_refusal Waiting = 0
close_refusal Completed = 33

-- the refusal of a build of a file that is not built
unfoldable pub build_refusal : ℕ → ℕ → ℕ → ℕ → ℕ
build_refusal r b n x = cond (in_range r b n x) (cond (fits_share r b (data_blocks n b x)) 0 38) 35

-- whether the numbers of an open are in their ranges
unfoldable pub modes_in_range : ℕ → ℕ → ℕ → Bool
modes_in_range access share multi = leb access most_mode && leb share most_mode && leb multi most_mode
