use Rattle.questions.proofs.Asking.{Reached}
use Rattle.questions.proofs.signs.Question.begin.Given as goal

abbrev pub invariant-loop-i : goal.invariant-loop-i
invariant-loop-i l = Reached l.self l._i l.sign
