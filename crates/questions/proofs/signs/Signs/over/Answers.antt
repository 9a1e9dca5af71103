use Rattle.std.proofs.Common.{is_some, ap}
use Rattle.questions.proofs.Telling.{answered_ok}
use Rattle.questions.proofs.signs.Signs.over.Goals as goal

pub invariant_of-result : goal.invariant_of-result
invariant_of-result c =
    let told = answered_ok _ _ _ c.requires in
    record { accepted = ap is_some told.0; outlined = told.1 }
