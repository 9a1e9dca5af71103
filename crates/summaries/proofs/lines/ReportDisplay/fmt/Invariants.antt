use Rattle.std.specs.Fmt.{HasWritten, IsPlainFormatter}
use Rattle.summaries.proofs.Telling.{first_lines}
use Rattle.summaries.proofs.lines.ReportDisplay.fmt.Given as goal

-- the lines of the first registers are written
abbrev pub invariant-loop-register : goal.invariant-loop-register
invariant-loop-register g l =
    IsPlainFormatter l.initial.f → HasWritten g.W.Write.write_str_gives l.initial.f (first_lines l.self.registers.base.now l.register-counter) l.f
