use Rattle.registers.specs.Base.{register}
use Rattle.registers.specs.Layout.{base_of}
use Rattle.summaries.proofs.Summing.{Summed}
use Rattle.summaries.proofs.summary.sum_up.Given as goal

abbrev pub invariant-loop-i : goal.invariant-loop-i
invariant-loop-i l = Summed (register (base_of l.index.registers.base.now) l.t) l.i l.rows l.contested
