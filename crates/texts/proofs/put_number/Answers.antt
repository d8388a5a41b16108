use Rattle.texts.proofs.Numbers.{number_put}
use Rattle.texts.proofs.put_number.Goals as goal

pub returns : goal.returns
returns c =
    number_put _ _ _ _ _ _ _ c.digit.ensures c.digit-2.ensures c.digit-3.ensures c.digit-4.ensures c.digit-5.ensures c.leading_zeros-zeros.ensures.0
    c.put_text.ensures
