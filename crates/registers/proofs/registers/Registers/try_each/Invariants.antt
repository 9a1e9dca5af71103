use Rattle.std.proofs.Common.{◌≡◌, None}
use Rattle.registers.specs.Base.{proper_register}
use Rattle.registers.specs.Layout.{register_at, register_place}
use Rattle.registers.specs.Refusals.{first_failing}
use Rattle.registers.proofs.registers.Registers.try_each.Given as goal

abbrev pub invariant-loop-t : goal.invariant-loop-t
invariant-loop-t l = first_failing (λ i. proper_register (register_at l.self.base.now (register_place l.self.base.now i))) l.t ≡ None
