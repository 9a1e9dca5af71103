use Rattle.registers.proofs.Placing.{there}
use Rattle.registers.proofs.registers.Registers.register.Goals as goal

pub invariant_of-result : goal.invariant_of-result
invariant_of-result c =
    let stands = (there c.args.self.now _ _ c.requires c.section.ensures).1 in
    record { fits = stands.fits; section_is = stands.section_is }
