use Rattle.std.proofs.Common.{◌-◌}
use Rattle.questions.specs.Views.{signs_in}
use Rattle.question_cases.proofs.asking.+list_question.Given as goal

-- the signs from this one on
abbrev pub decreases-list_question : goal.decreases-list_question
decreases-list_question l = signs_in l.question.now.signs.now - l.question.now.sign
