use Rattle.std.proofs.Common.{◌<◌, length, inl, inr, arith}
use Rattle.registers.specs.Base.{register}
use Rattle.registers.specs.Layout.{base_of}
use Rattle.registers.proofs.Limits.{index_within}
use Rattle.registers.proofs.Views.{register_inside}
use Rattle.summaries.proofs.Summing.{held_rows, same_summary, summed_all, summed_more}
use Rattle.summaries.proofs.summary.sum_up.Goals as goal
use Rattle.summaries.proofs.summary.sum_up.Goals.{then-block-gt1, else-block-gt1}

pub overflow_add-rows : goal.overflow_add-rows
overflow_add-rows c =
    let there : c.loop-i.i < length (register (base_of c.args.index.now.registers.base.now) c.args.t) = omega (arith, c.blocks-i-end.ensures) in
    let few = (index_within c.args.index.now).few_rows c.args.t c.loop-i.i (register_inside _ _ _ there) there in
    omega (arith, c.loop-i.invariant.few_rows, held_rows (register (base_of c.args.index.now.registers.base.now) c.args.t) c.loop-i.i c.block-block.result c.block-block.ensures.block, (index_within c.args.index.now).few_blocks c.args.t (register_inside (base_of c.args.index.now.registers.base.now) c.args.t c.loop-i.i there))

pub loop-i-preserved : goal.loop-i-preserved
loop-i-preserved c =
    let there : c.loop-i.i < length (register (base_of c.args.index.now.registers.base.now) c.args.t) = omega (arith, c.blocks-i-end.ensures) in
    summed_more _ _ _ _ c.block-block.result _ c.loop-i.invariant there c.block-block.ensures.block
    ((index_within c.args.index.now).few_rows c.args.t c.loop-i.i (register_inside _ _ _ there) there)
    (elim c.if-block-gt1.branch [ then-block-gt1 w ↦ inl (w.if-block-gt1.true, w.contested-is) | else-block-gt1 w ↦ inr (w.if-block-gt1.false, w.contested-is) ])

pub returns : goal.returns
returns c =
    let sums = summed_all _ _ _ _ c.loop-i.invariant (omega (arith, c.blocks-i-end.ensures)) in
    same_summary c.blocks-2.ensures c.columns.ensures sums.0 sums.1
