use Rattle.std.proofs.Common.{sym, arith}
use Rattle.registers.proofs.Small.{run_all}
use Rattle.registers.proofs.layout.before_large.Goals as goal

pub returns-then-all_bits-lt-NUMBER_LIMIT : goal.returns-then-all_bits-lt-NUMBER_LIMIT
returns-then-all_bits-lt-NUMBER_LIMIT c =
    sym (run_all c.args.numbers.now (λ k h. omega (arith, c.all_bits.ensures k h, c.if-all_bits-lt-NUMBER_LIMIT.true)))
