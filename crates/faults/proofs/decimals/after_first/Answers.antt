use Rattle.faults.proofs.Powers.{logarithm}
use Rattle.faults.proofs.decimals.after_first.Goals as goal

pub returns : goal.returns
returns c =
    let k = c.checked_ilog10.ensures in
    rw c.unwrap_or.ensures (logarithm c.args.n c.checked_ilog10.result k.none k.power_le k.next_power_gt k.bound)
