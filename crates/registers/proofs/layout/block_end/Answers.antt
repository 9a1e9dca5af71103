use Rattle.std.proofs.Common.{sym, arith}
use Rattle.std.proofs.lemmas.Bool.{cond-false, cond-true}
use Rattle.registers.specs.Layout.{block_end}
use Rattle.registers.proofs.Fitting.{block_fits_all, block_fits_cut, item_there}
use Rattle.registers.proofs.layout.block_end.Goals as goal

pub returns-then-end-base : goal.returns-then-end-base
unfolding block_end
returns-then-end-base c =
    let rows = (item_there c.args.base.now _ c.in_ok-rows.field-0 c.in_ok-rows.ensures.lookup).1 in
    sym (cond-false _ _ _ (block_fits_cut c.args.base.now c.args.columns c.args.at (rw rows at c.if-end-base.true)))

pub returns : goal.returns
unfolding block_end
returns c =
    let rows = item_there c.args.base.now _ c.in_ok-rows.field-0 c.in_ok-rows.ensures.lookup in
    rw rows.1
    (sym (cond-true _ _ _
    (block_fits_all c.args.base.now c.args.columns c.args.at (omega (arith, rows.0)) (rw rows.1 at c.if-rows-gt-MAX_ROWS.false) (rw rows.1 at c.if-end-base.false))))
