use Rattle.registers.proofs.Ways.{Probing}
use Rattle.registers.proofs.table.probe.Given as goal

abbrev pub invariant-loop : goal.invariant-loop
invariant-loop l = Probing l.table l.key l.counter l.at
