use Rattle.registers.proofs.Checking.{Passing}
use Rattle.registers.proofs.registers.Register.scan.Given as goal

abbrev pub invariant-loop : goal.invariant-loop
invariant-loop l = Passing l.self.base.now l.self.section.columns l.initial.at l.key l.counter l.at
