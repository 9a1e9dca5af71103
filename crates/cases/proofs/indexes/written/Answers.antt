use Rattle.std.proofs.Common.{ℕ, List, subst}
use Rattle.registers.specs.Indexing.{Enough}
use Rattle.registers.proofs.Placing.{enough_all, room_of}
use Rattle.cases.proofs.indexes.written.Goals as goal

pub indexed-requires : goal.indexed-requires
indexed-requires g c =
    let surveyed = c.in_ok-directory.field-0 in
    room_of _ _ _ _ 65544 32768 c.new.result.slots_free c.new.result.places_free
    (subst (λ (xs : List ℕ). Enough xs surveyed.directory 65544 32768) c.in_ok-directory.ensures (enough_all _ _ surveyed.fits surveyed.surveyed))
