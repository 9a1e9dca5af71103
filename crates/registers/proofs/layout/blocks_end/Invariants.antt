use Rattle.registers.proofs.Fitting.{Walked}
use Rattle.registers.proofs.layout.blocks_end.Given as goal

abbrev pub invariant-loop : goal.invariant-loop
invariant-loop l = Walked l.base l.columns l.start l.counter l.at
