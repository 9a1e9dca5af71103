use Rattle.std.proofs.Common.{lit≤}
use Rattle.registers.proofs.Placing.{there_enough}
use Rattle.registers.proofs.registers.Registers.try_all.Goals as goal

pub try_fill-requires : goal.try_fill-requires
try_fill-requires c =
    (lit≤ tt, there_enough c.args.self.now 16 _ _ c.if-blocks-le16.true (lit≤ tt) (lit≤ tt))

pub try_fill-requires-then-blocks-le512 : goal.try_fill-requires-then-blocks-le512
try_fill-requires-then-blocks-le512 c =
    (lit≤ tt, there_enough c.args.self.now 512 _ _ c.if-blocks-le512.true (lit≤ tt) (lit≤ tt))
