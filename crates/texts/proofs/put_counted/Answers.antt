use Rattle.texts.specs.Numbers.{counted}
use Rattle.texts.proofs.Runs.{◌then◌}
use Rattle.texts.proofs.put_counted.Goals as goal

pub returns : goal.returns
unfolding counted
returns c =
    c.put_number-a.ensures then c.put_text-b.ensures then c.put_ending.ensures
