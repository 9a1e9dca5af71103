use Rattle.std.proofs.Common.{arith, lit≤}
use Rattle.registers.proofs.Placing.{enough_all, there_enough}
use Rattle.bench.proofs.searches.Times.add_run.Goals as goal

pub add_in_room-requires-clause-enough : goal.add_in_room-requires-clause-enough
add_in_room-requires-clause-enough c =
    there_enough c.in_ok-registers.registers 16 _ _ (omega arith) (lit≤ tt) (lit≤ tt)

pub add_in_room-requires-in-17-to-512-clause-enough : goal.add_in_room-requires-in-17-to-512-clause-enough
add_in_room-requires-in-17-to-512-clause-enough c =
    there_enough c.in_ok-registers.registers 512 _ _ (omega arith) (lit≤ tt) (lit≤ tt)

pub add_in_room-requires-in_default-clause-enough : goal.add_in_room-requires-in_default-clause-enough
add_in_room-requires-in_default-clause-enough c =
    let registers = c.in_ok-registers.registers in
    enough_all _ _ registers.fits registers.surveyed
