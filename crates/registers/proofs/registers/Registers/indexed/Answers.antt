use Rattle.std.proofs.Common.{refl}
use Rattle.registers.specs.declared.index.Index.{Index}
use Rattle.registers.proofs.Checking.{answered_err, answered_ok, handed_on, refusal_blocks}
use Rattle.registers.proofs.registers.Registers.indexed.Goals as goal

pub returns-in_err-fill : goal.returns-in_err-fill
returns-in_err-fill c =
    handed_on {T = Index} c.from_residual.result _ _ _ c.from_residual.ensures.1
    (refusal_blocks c.args.self _ _ refl (answered_err _ _ _ c.in_err-fill.ensures.answer))

pub returns : goal.returns
returns c = (c.over.ensures, refusal_blocks c.args.self _ _ refl (answered_ok _ _ _ c.in_ok-fill.ensures.answer).0)
