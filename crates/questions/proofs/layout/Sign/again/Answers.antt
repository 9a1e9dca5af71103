use Rattle.std.proofs.Common.{rules, ◌≡◌, eqb, map, ◌∙◌, ap₂, arith}
use Rattle.std.specs.Bool.{then_some}
use Rattle.std.specs.List.{range_with_len}
use Rattle.std.proofs.lemmas.Iterator.{YieldsList-from_range}
use Rattle.std.proofs.lemmas.Iterator.Search.{any_from_yields_List}
use Rattle.questions.specs.Questions.{has}
use Rattle.questions.specs.Signs.{register_at}
use Rattle.questions.proofs.Going.{has_counted}
use Rattle.questions.proofs.layout.Sign.again.Goals as goal
use borrow.Author.Tests.{tests}

pub returns : goal.returns
returns c =
    let s = c.args.self.now.sign in
    let f = register_at c.args.self.now.numbers.now in
    let again : c.any.result ≡ has (map f (range_with_len 0 s)) (f s) =
    any_from_yields_List (λ i. eqb (f i) (f s)) _ _ _ c.any.ensures.ran (YieldsList-from_range 0 s s (cc) (omega arith)) (λ x b q k. search (rules, tests))
    ∙ has_counted f (f s) (range_with_len 0 s) in
    c.then_some.ensures ∙ ap₂ then_some again c.register-register.ensures
