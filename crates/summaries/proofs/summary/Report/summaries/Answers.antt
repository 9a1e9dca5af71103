use Rattle.std.proofs.Common.{arith}
use Rattle.registers.proofs.Placing.{count_few, misfit_none, there_count}
use Rattle.summaries.proofs.summary.Report.summaries.Goals as goal

pub shared_ref_as_front-result : goal.shared_ref_as_front-result
shared_ref_as_front-result c =
    let few = count_few c.args.self.now.registers.base.now (misfit_none c.args.self.now.registers.base.now c.args.self.now.registers.fits).0 in
    omega (arith, there_count c.args.self.now.registers)

pub returns : goal.returns
returns c = c.args.self.now.told
