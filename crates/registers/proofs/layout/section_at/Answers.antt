use Rattle.std.proofs.Common.{◌≡◌, ℕ, true, Some, sym, ap, ◌∙◌, arith}
use Rattle.std.proofs.lemmas.Bool.{cond-true, cond-false, le-leb, lt-leb}
use Rattle.registers.specs.Layout.{register_end, columns_at, blocks_at}
use Rattle.registers.specs.Refusals.{register_fits}
use Rattle.registers.proofs.Small.{run, run_le_length}
use Rattle.registers.proofs.Fitting.{from_some, from_none, item_there, register_fits_no_heading, register_fits_limits, register_fits_cut, register_fits_there}
use Rattle.registers.proofs.layout.section_at.Goals as goal

pub overflow_add-at : goal.overflow_add-at
overflow_add-at c = omega (arith, run_le_length c.args.base.now)

pub returns-in_err-columns : goal.returns-in_err-columns
returns-in_err-columns c =
    c.from_residual.ensures
    ∙ sym (cond-false _ _ _ (register_fits_no_heading c.args.base.now c.args.at (omega (arith, run_le_length c.args.base.now, c.in_err-columns.ensures.lookup.3))))

pub returns-then-blocks-gt-MAX_BLOCKS : goal.returns-then-blocks-gt-MAX_BLOCKS
returns-then-blocks-gt-MAX_BLOCKS c =
    let columns = (item_there c.args.base.now _ c.in_ok-columns.field-0 c.in_ok-columns.ensures.lookup).1 in
    sym (cond-false _ _ _
    (register_fits_limits c.args.base.now c.args.at (λ a b d. omega (arith, columns, c.then-blocks-gt-MAX_BLOCKS.either))))

pub returns-in_err-end : goal.returns-in_err-end
returns-in_err-end c =
    let columns = (item_there c.args.base.now _ c.in_ok-columns.field-0 c.in_ok-columns.ensures.lookup).1 in
    c.from_residual-in_err-end.ensures
    ∙ sym (cond-false _ _ _ (register_fits_cut c.args.base.now c.args.at (rw columns at (from_none _ _ c.in_err-end.ensures))))

pub returns-then-end-large : goal.returns-then-end-large
unfolding register_end
returns-then-end-large c =
    let columns = item_there c.args.base.now _ c.in_ok-columns.field-0 c.in_ok-columns.ensures.lookup in
    let got = from_some _ _ _ (rw columns.1 at c.in_ok-end.ensures) in
    sym (cond-false _ _ _
    (register_fits_there c.args.base.now c.args.at (omega arith) (omega (arith, columns.0)) c.if-blocks-gt-MAX_BLOCKS.false (omega (arith, columns.1)) (rw columns.1 at c.if-columns-gt-MAX_COLUMNS.false) got.0
    ∙ lt-leb (register_end c.args.base.now c.args.at) (run c.args.base.now) (omega arith)))

pub returns : goal.returns
unfolding register_end
returns c =
    let columns = item_there c.args.base.now _ c.in_ok-columns.field-0 c.in_ok-columns.ensures.lookup in
    let got = from_some _ _ _ (rw columns.1 at c.in_ok-end.ensures) in
    let fits : register_fits c.args.base.now c.args.at ≡ true =
    register_fits_there c.args.base.now c.args.at (omega arith) (omega (arith, columns.0)) c.if-blocks-gt-MAX_BLOCKS.false (omega (arith, columns.1)) (rw columns.1 at c.if-columns-gt-MAX_COLUMNS.false) got.0
    ∙ le-leb (register_end c.args.base.now c.args.at) (run c.args.base.now) (omega arith) in
    rw columns.1
    (ap (λ (e : ℕ). Some (record { place = c.args.at; end = e; blocks = blocks_at c.args.base.now c.args.at; columns = columns_at c.args.base.now c.args.at; first = c.args.first })) got.1 ∙ sym (cond-true _ _ _ fits))
