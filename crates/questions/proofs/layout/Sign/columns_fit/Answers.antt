use Rattle.std.proofs.Common.{rules, ap, ◌∙◌, arith}
use Rattle.std.proofs.lemmas.Iterator.{YieldsList-from_range}
use Rattle.std.proofs.lemmas.Iterator.Search.{all_from_yields_List}
use Rattle.questions.specs.Signs.{column_fits, each_below}
use Rattle.questions.proofs.Fitting.{each_counted}
use Rattle.questions.proofs.layout.Sign.columns_fit.Goals as goal
use borrow.Author.Tests.{tests}

pub returns : goal.returns
returns c =
    let fits = column_fits c.args.columns c.args.self.now.numbers.now c.args.self.now.sign in
    all_from_yields_List fits _ _ _ c.all.ensures.ran (YieldsList-from_range 0 c.further.result c.further.result (cc) (omega arith)) (λ x b q k. search (rules, tests))
    ∙ each_counted fits c.further.result
    ∙ ap (each_below fits) c.further.ensures
