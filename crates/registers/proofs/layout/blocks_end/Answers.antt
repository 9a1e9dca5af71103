use Rattle.std.proofs.Common.{ℕ, ◌+◌, sym, ◌∙◌, subst}
use Rattle.registers.proofs.Fitting.{Walked, from_none, from_some, walked_more, walked_none, walked_stops}
use Rattle.registers.proofs.layout.blocks_end.Goals as goal

pub loop-init : goal.loop-init
loop-init c = walked_none _ _ _ c.requires.0

pub block_end-requires : goal.block_end-requires
block_end-requires c = (c.loop.invariant.inside, c.requires.1)

pub returns-in_err-at : goal.returns-in_err-at
returns-in_err-at c =
    c.from_residual.ensures
    ∙ walked_stops _ _ _ _ _ _ _ _ c.loop.invariant c.loop-test.true (from_none _ _ c.in_err-at.ensures)

pub loop-preserved : goal.loop-preserved
loop-preserved c =
    let got = from_some _ _ _ c.in_ok-at.ensures in
    subst (λ (e : ℕ). Walked c.args.base.now c.args.columns c.args.start (c.loop.counter + 1) e) (sym got.1) (walked_more _ _ _ _ _ c.loop.invariant got.0)
