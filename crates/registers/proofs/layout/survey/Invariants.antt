use Rattle.std.proofs.Common.{◌≡◌, length, ◌++◌, drop, replicate}
use Rattle.registers.specs.Survey.{no_section}
use Rattle.registers.proofs.Surveying.{Passed}
use Rattle.registers.proofs.layout.survey.Given as goal

abbrev pub invariant-loop-t : goal.invariant-loop-t
invariant-loop-t l = (length l.section-items ≡ l.count) × Passed l.base l.t l.at l.blocks (l.section-items ++ drop l.count (replicate 8 no_section))
