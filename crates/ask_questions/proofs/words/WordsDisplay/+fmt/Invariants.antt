use Rattle.std.proofs.Common.{◌-◌, ◌+◌}
use Rattle.std.specs.Fmt.{HasWritten, IsPlainFormatter}
use Rattle.questions.specs.Views.{asked_at, signs_in}
use Rattle.ask_questions.proofs.Saying.{said_first}
use Rattle.ask_questions.proofs.words.WordsDisplay.+fmt.Given as goal

-- the signs from this one on
abbrev pub decreases-fmt : goal.decreases-fmt
decreases-fmt g l = signs_in l.self.now.question.signs.now - l.self.now.question.sign

-- the first parts are said
abbrev pub invariant-loop-i : goal.invariant-loop-i
invariant-loop-i g l =
    IsPlainFormatter l.fn.f → HasWritten g.W.Write.write_str_gives l.fn.f (said_first (asked_at l.question) l.i) l.f

abbrev pub invariant-loop-i-2 : goal.invariant-loop-i-2
invariant-loop-i-2 g l =
    IsPlainFormatter l.fn.f → HasWritten g.W.Write.write_str_gives l.fn.f (said_first (asked_at l.question) (l.tests + l.i)) l.f
