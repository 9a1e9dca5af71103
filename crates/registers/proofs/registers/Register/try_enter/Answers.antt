use Rattle.std.proofs.Common.{◌+◌, ◌*◌, ◌∙◌, List, ap, take, arith}
use Rattle.std.proofs.lemmas.List.{length-take, take-replicate}
use Rattle.registers.specs.Table.{Slot, free}
use Rattle.registers.proofs.registers.Register.try_enter.Goals as goal

pub enter-requires : goal.enter-requires
enter-requires g c =
    let blocks = c.args.self.now.section.blocks in
    record {
      slots = ap (λ (xs : List Slot). take (2 * blocks + 1) xs) c.args.room.slots_free ∙ take-replicate (2 * blocks + 1) g.row.SLOTS free c.requires.0;
      room = simp length-take (omega (arith, c.requires.1));
    }
