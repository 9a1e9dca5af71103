use Rattle.registers.proofs.Limits.{limits_hold}
use Rattle.registers.proofs.theorems.limits_hold.Goals as goal

pub returns : goal.returns
returns c = limits_hold
