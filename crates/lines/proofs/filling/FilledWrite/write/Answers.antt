use Prim.Native.Nat.{◌+◌, ◌-◌}
use native.Mathlib.Omega.{arith}
use Rattle.std.proofs.lemmas.Slice.{drop-put_mid}
use Rattle.lines.proofs.filling.FilledWrite.write.Goals as goal

pub returns-clause-rest : goal.returns-clause-rest
returns-clause-rest g c =
    let used = c.args.self.now.len in
    let end = used + c.min-n.result in
    drop-put_mid used (end - used) c.args.self.now.bytes c.copy_from_slice.new.self end (omega arith) (omega arith) (omega arith)
