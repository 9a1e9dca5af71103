use Rattle.registers.specs.declared.registers.Registers.{Registers}
use Rattle.registers.proofs.Checking.{answered_err, answered_ok, handed_on, refusal_blocks, refusal_layout}
use Rattle.registers.proofs.entry.checked.Goals as goal

pub returns-in_err-registers : goal.returns-in_err-registers
returns-in_err-registers c =
    handed_on {T = Registers} c.from_residual.result _ _ _ c.from_residual.ensures.1 (refusal_layout _ _ c.in_err-registers.ensures)

pub returns-in_err-try_all : goal.returns-in_err-try_all
returns-in_err-try_all c =
    handed_on {T = Registers} c.from_residual-in_err-try_all.result _ _ _ c.from_residual-in_err-try_all.ensures.1
    (refusal_blocks c.in_ok-registers.registers _ _ c.in_ok-registers.ensures (answered_err _ _ _ c.in_err-try_all.ensures))

pub returns : goal.returns
returns c =
    (c.in_ok-registers.ensures, refusal_blocks c.in_ok-registers.registers _ _ c.in_ok-registers.ensures (answered_ok _ _ _ c.in_ok-try_all.ensures).0)
