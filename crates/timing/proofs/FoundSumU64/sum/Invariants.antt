use Rattle.std.proofs.Common.{◌≡◌}
use Rattle.timing.specs.Finds.{found_of}
use Rattle.timing.proofs.FoundSumU64.sum.Given as goal

abbrev pub invariant-loop-part : goal.invariant-loop-part
invariant-loop-part g l = l.found ≡ found_of l.yielded
