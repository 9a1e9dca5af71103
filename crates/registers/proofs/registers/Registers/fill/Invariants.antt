use Rattle.registers.proofs.Placing.{Placed}
use Rattle.registers.proofs.registers.Registers.fill.Given as goal

abbrev pub invariant-loop-t : goal.invariant-loop-t
invariant-loop-t l = Placed l.self.base.now l.t l.slots l.places
