use Rattle.std.proofs.Common.{refl}
use Rattle.registers.specs.Table.{home_of}
use Rattle.registers.proofs.table.home.Goals as goal

pub returns : goal.returns
unfolding home_of
returns c = refl
