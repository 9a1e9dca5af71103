use Rattle.std.proofs.Common.{◌+◌, ◌-◌, ◌*◌}
use Rattle.questions.proofs.reading.Source.+questions.Given as goal

-- twice the signs left, and one more before the first of several questions
abbrev pub decreases-question : goal.decreases-question
decreases-question l = 2 * (9 - l.sign)

abbrev pub decreases-further : goal.decreases-further
decreases-further l = 2 * (9 - l.sign) + 1
