use Rattle.std.proofs.Common.{rules, ap, ◌∙◌, arith}
use Rattle.std.proofs.lemmas.Iterator.{YieldsList-from_range}
use Rattle.std.proofs.lemmas.Iterator.Search.{all_from_yields_List}
use Rattle.questions.specs.Signs.{test_fits, each_below}
use Rattle.questions.proofs.Fitting.{each_counted}
use Rattle.questions.proofs.layout.Sign.tests_fit.Goals as goal
use borrow.Author.Tests.{tests}

pub returns : goal.returns
returns c =
    let fits = test_fits c.args.columns c.args.self.now.numbers.now c.args.self.now.sign in
    all_from_yields_List fits _ _ _ c.all.ensures.ran (YieldsList-from_range 0 c.tests.result c.tests.result (cc) (omega arith)) (λ x b q k. search (rules, tests))
    ∙ each_counted fits c.tests.result
    ∙ ap (each_below fits) c.tests.ensures
