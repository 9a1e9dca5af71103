use Rattle.std.proofs.Common.{ℕ, ◌<◌, List, Option, sym, ap, ◌∙◌, subst, ap₂, arith}
use Rattle.std.specs.Borrow.{Bor}
use Rattle.registers.specs.Answers.{Shows}
use Rattle.registers.specs.Base.{Register, has_key}
use Rattle.registers.specs.Layout.{count_of, register_at, register_place}
use Rattle.registers.proofs.Checking.{handed_on}
use Rattle.registers.proofs.Placing.{there, there_count}
use Rattle.registers.proofs.Views.{register_beyond, register_there}
use Rattle.registers.proofs.entry.look_up.Goals as goal

pub returns-in_err-registers : goal.returns-in_err-registers
returns-in_err-registers c =
    handed_on {T = Option (Bor (List ℕ))} c.from_residual.result _ _ _ c.from_residual.ensures.1 c.in_err-registers.ensures

pub returns-then-register-registers : goal.returns-then-register-registers
unfolding has_key
returns-then-register-registers c =
    let sound = c.in_ok-registers.ensures in
    let count = there_count c.in_ok-registers.registers ∙ ap count_of sound.0 in
    (sound.1, ap (has_key c.args.key) (register_beyond c.args.base.now c.args.register (omega arith)))

pub returns : goal.returns
returns c =
    let sound = c.in_ok-registers.ensures in
    let u = (there c.in_ok-registers.registers _ _ c.if-register-registers.false c.register.ensures.section).0 in (
      sound.1,
      subst (λ (r : Register). Shows r c.args.key c.scan.result)
          (ap₂ register_at (c.register.ensures.base ∙ sound.0) (u.place ∙ ap (λ (xs : List ℕ). register_place xs c.args.register) sound.0)
          ∙ sym (register_there c.args.base.now c.args.register (subst (λ (xs : List ℕ). c.args.register < count_of xs) sound.0 u.less)))
          c.scan.ensures,
    )
