use Rattle.registers.proofs.Noting.{Noting}
use Rattle.registers.proofs.registers.Register.enter.Given as goal

abbrev pub invariant-loop-i : goal.invariant-loop-i
invariant-loop-i l = Noting l.self.base.now l.self.section.columns l.initial.at l.self.section.blocks l.i l.at l.table l.places
