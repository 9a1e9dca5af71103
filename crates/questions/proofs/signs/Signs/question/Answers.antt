use Rattle.std.proofs.Common.{arith}
use Rattle.questions.proofs.Asking.{first_there}
use Rattle.questions.proofs.signs.Signs.question.Goals as goal

pub at-requires : goal.at-requires
at-requires c = omega (arith, first_there c.args.self.now)
