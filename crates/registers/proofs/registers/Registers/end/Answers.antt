use Rattle.std.proofs.Common.{arith}
use Rattle.registers.proofs.Placing.{count_few, misfit_none, there_count, there_end, there_some}
use Rattle.registers.proofs.registers.Registers.end.Goals as goal

pub overflow_sub-result : goal.overflow_sub-result
overflow_sub-result c = there_some c.args.self.now

pub offset_bounds-self-self : goal.offset_bounds-self-self
offset_bounds-self-self c =
    let few = count_few c.args.self.now.base.now (misfit_none c.args.self.now.base.now c.args.self.now.fits).0 in
    let count = there_count c.args.self.now in
    omega arith

pub bounds-self-self : goal.bounds-self-self
bounds-self-self c =
    let some = there_some c.args.self.now in
    let few = count_few c.args.self.now.base.now (misfit_none c.args.self.now.base.now c.args.self.now.fits).0 in
    let count = there_count c.args.self.now in
    omega arith

pub returns : goal.returns
returns c =
    let some = there_some c.args.self.now in
    there_end c.args.self.now _ (omega arith)
