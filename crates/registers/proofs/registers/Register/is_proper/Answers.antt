use Rattle.std.proofs.Common.{arith, lit≤}
use Rattle.registers.proofs.Fitting.{fit_from}
use Rattle.registers.proofs.Noting.{stands_blocks, stands_part}
use Rattle.registers.proofs.registers.Register.is_proper.Goals as goal

pub try_enter-requires : goal.try_enter-requires
try_enter-requires c = (lit≤ tt, (omega arith, c.if-self-le256.true))

pub try_enter-requires-else-self-le256 : goal.try_enter-requires-else-self-le256
try_enter-requires-else-self-le256 c =
    let blocks = stands_blocks _ _ (stands_part c.args.self.now) in
    let few = (fit_from _ _ c.args.self.now.fits).few_blocks in
    (lit≤ tt, (omega arith, omega arith))
