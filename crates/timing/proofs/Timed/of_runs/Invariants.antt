use Rattle.timing.specs.Runs.{IsOfRuns}
use Rattle.timing.proofs.Timed.of_runs.Given as goal

abbrev pub invariant-loop-run : goal.invariant-loop-run
invariant-loop-run g l = IsOfRuns (goal.F-post g l.work) l._run l.timed
