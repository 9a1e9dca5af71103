use Rattle.std.proofs.Common.{ℕ, ◌+◌, refl, sym, ◌∙◌, subst, arith}
use Rattle.registers.proofs.Checking.{Passing, passing_more, passing_none, scan_found, scan_lacks}
use Rattle.registers.proofs.Fitting.{fit_from}
use Rattle.registers.proofs.Noting.{stands_block, stands_part}
use Rattle.registers.proofs.registers.Register.scan.Goals as goal

pub overflow_add-at : goal.overflow_add-at
overflow_add-at c = omega (arith, (fit_from _ _ c.args.self.now.fits).heading)

pub loop-init : goal.loop-init
loop-init c = passing_none _ _ _ _

pub block-block-requires : goal.block-block-requires
block-block-requires c = stands_block c.args.self.now _ _ c.loop.invariant.place c.loop-test.true

pub returns-then-block-key : goal.returns-then-block-key
returns-then-block-key c =
    let found = scan_found _ _ _ _ _ _ (stands_part c.args.self.now) c.loop.invariant c.loop-test.true (sym c.block-block.ensures.key ∙ c.if-block-key.true) refl in
    (found.0, c.block-block.ensures.cells ∙ found.1)

pub loop-preserved : goal.loop-preserved
loop-preserved c =
    subst (λ (a : ℕ). Passing c.args.self.now.base.now c.args.self.now.section.columns (c.args.self.now.section.place + 2) c.args.key (c.loop.counter + 1) a)
    (omega (arith, c.block-block.ensures.end))
    (passing_more _ _ _ _ _ _ c.loop.invariant (λ e. c.if-block-key.false (c.block-block.ensures.key ∙ e)))

pub returns : goal.returns
returns c = scan_lacks _ _ _ _ _ (stands_part c.args.self.now) c.loop.invariant c.loop-test.false c.loop.auto.counter-end
