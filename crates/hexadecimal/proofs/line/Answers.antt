use Rattle.hexadecimal.proofs.Printed.{line-printed}
use Rattle.hexadecimal.proofs.line.Goals as goal

pub returns-clause-printed : goal.returns-clause-printed
returns-clause-printed c =
    line-printed _ c.args.out.now _ _ _ c.encode.ensures.size c.requires
    c.encode.ensures.bytes
