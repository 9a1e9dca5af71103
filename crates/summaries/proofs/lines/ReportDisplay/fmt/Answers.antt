use Rattle.std.proofs.Common.{refl}
use Rattle.std.proofs.Output.{has_written_append, has_written_of_eq}
use Rattle.summaries.proofs.Telling.{lines_all, lines_more}
use Rattle.summaries.proofs.lines.ReportDisplay.fmt.Goals as goal

pub loop-register-preserved : goal.loop-register-preserved
loop-register-preserved g c p =
    has_written_of_eq _ _ _ _ _
    (lines_more c.args.self.now.registers.base.now c.loop-register.register-counter c.summaries-summary-items.result.now c.summaries-summary-items.ensures c.loop-register-test.true)
    (has_written_append _ _ _ _ _ _ (c.loop-register.invariant p) (c.in_ok-writeln.ensures.writes (c.loop-register.invariant p).plain refl))

pub returns-clause-writes : goal.returns-clause-writes
returns-clause-writes g c p ok =
    has_written_of_eq _ _ _ _ _
    (lines_all c.args.self.now.registers.base.now _ _ c.summaries-summary-items.ensures c.loop-register.auto.register-counter-end c.loop-register-test.false)
    (c.loop-register.invariant p)
