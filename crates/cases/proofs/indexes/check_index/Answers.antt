use Rattle.std.proofs.Common.{◌≤◌, arith, lit≤}
use Rattle.registers.proofs.Placing.{room_of, there_enough}
use Rattle.cases.proofs.indexes.check_index.Goals as goal

pub indexed-requires : goal.indexed-requires
indexed-requires g c =
    let few : c.in_ok-registers.registers.directory.blocks ≤ 16 = omega arith in
    room_of _ _ _ _ 40 16 c.new.result.slots_free c.new.result.places_free
    (there_enough c.in_ok-registers.registers 16 _ _ few (lit≤ tt) (lit≤ tt))
