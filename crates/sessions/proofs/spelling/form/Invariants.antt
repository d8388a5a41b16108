use Rattle.std.proofs.Common.{length}
use Rattle.sessions.proofs.spelling.form.Given as goal

abbrev pub decreases-loop-name : goal.decreases-loop-name
decreases-loop-name l = length l.forms
