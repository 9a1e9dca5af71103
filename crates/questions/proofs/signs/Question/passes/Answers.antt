use Rattle.std.proofs.Common.{rules, length, get_or, ◌∙◌, arith}
use Rattle.std.proofs.lemmas.Iterator.{YieldsList-from_range}
use Rattle.std.proofs.lemmas.Iterator.Search.{all_from_yields_List}
use Rattle.questions.specs.declared.kinds.Kind.TheVariants.{Is}
use Rattle.questions.specs.declared.kinds.Test.{Test}
use Rattle.questions.specs.Questions.{tests_of}
use Rattle.questions.specs.Tests.{passes}
use Rattle.questions.specs.Views.{asked_at}
use Rattle.questions.proofs.Testing.{pass_counted}
use Rattle.questions.proofs.signs.Question.passes.Goals as goal
use borrow.Author.Tests.{tests}

pub returns : goal.returns
returns c =
    let ts = tests_of (asked_at c.args.self.now) in
    let d : Test = record { column = 0; kind = Is; number = 0 } in
    all_from_yields_List (λ i. passes (get_or ts i d) c.args.row.now) _ _ _ c.all.ensures.ran (YieldsList-from_range 0 (length ts) (length ts) (cc) (omega arith)) (λ x b q k. search (rules, tests))
    ∙ pass_counted ts d c.args.row.now
