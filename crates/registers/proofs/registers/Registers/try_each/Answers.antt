use Rattle.std.proofs.Common.{◌≡◌, ℕ, List, sym, refl, ap, ◌∙◌, ap₂, arith}
use Rattle.registers.specs.declared.refusals.Refusal.TheVariants.{Blocks}
use Rattle.registers.specs.Base.{proper_register}
use Rattle.registers.specs.Layout.{count_of, register_at}
use Rattle.registers.specs.Refusals.{first_failing, misstated}
use Rattle.registers.proofs.Placing.{there, there_count}
use Rattle.registers.proofs.Surveying.{first_failing_is, first_failing_more, told_at, told_ok}
use Rattle.registers.proofs.registers.Registers.try_each.Goals as goal

pub loop-t-init : goal.loop-t-init
unfolding first_failing
loop-t-init c = refl

pub returns-then-not-is_proper : goal.returns-then-not-is_proper
unfolding misstated
returns-then-not-is_proper c =
    let u = (there c.args.self.now _ _ c.loop-t-test.true c.register.ensures.section).0 in
    told_at Blocks _ _ _
    (first_failing_is _ _ c.loop-t.t u.less c.loop-t.invariant
    (ap₂ (λ (xs : List ℕ) (p : ℕ). proper_register (register_at xs p)) (sym c.register.ensures.base) (sym u.place) ∙ sym c.if-not-is_proper.ensures))

pub loop-t-preserved : goal.loop-t-preserved
loop-t-preserved c =
    let u = (there c.args.self.now _ _ c.loop-t-test.true c.register.ensures.section).0 in
    first_failing_more _ _ c.loop-t.invariant
    (ap₂ (λ (xs : List ℕ) (p : ℕ). proper_register (register_at xs p)) (sym c.register.ensures.base) (sym u.place) ∙ sym c.if-not-is_proper.ensures)

pub returns : goal.returns
unfolding misstated
returns c =
    let count = there_count c.args.self.now in
    let all : count_of c.args.self.now.base.now ≡ c.loop-t.t = omega arith in
    told_ok Blocks _ _ _ (ap (first_failing _) all ∙ c.loop-t.invariant) refl
