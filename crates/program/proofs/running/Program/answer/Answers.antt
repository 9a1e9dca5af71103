use Rattle.std.proofs.Common.{◌≡◌, Ok, Err, OnOk, Result, refl, subst}
use Rattle.std.specs.Result.{IsErrAnd, MatchResult}
use Rattle.program.proofs.running.Program.answer.Goals as goal

-- what is told where no error was put in the place of another
told : {E F Q : Type 0} (R : E → F → Type 0) (r : Result (Unit {0}) E) (o : Result (Unit {0}) F) → MatchResult r (λ x. o ≡ Ok x) (λ e. IsErrAnd o (R e)) → (r ≡ Ok tt → Q) → OnOk o Q
told R (Ok x) (Ok y) h k = k refl
told R (Ok x) (Err e) h k = tt
told R (Err e) (Ok y) h k = absurd h
told R (Err e) (Err f) h k = tt

pub returns : goal.returns
returns g c = told _ c.tell.result c.map_err.result c.map_err.ensures.cases (λ is. (_, subst (goal.F-post g c.args.tell _) is c.tell.ensures))
