use Rattle.std.proofs.Common.{rules, ◌≡◌, Err, sym, ◌∙◌, arith}
use Rattle.questions.proofs.Meaning.{means}
use Rattle.questions.proofs.Passing.{outcome_bounds}
use Rattle.questions.proofs.Telling.{answered_none, outlined, told_left, told_long, told_unread, told_whole}
use Rattle.questions.proofs.reading.read.Goals as goal

pub returns-then-signs : goal.returns-then-signs
returns-then-signs c =
    let value = told_long c.args.widths.now c.args.signs.now c.if-signs.true in
    record { value = value; means = means _ _ _ value }

pub returns-in_err-count : goal.returns-in_err-count
returns-in_err-count c =
    let told : c.from_residual.result ≡ Err c.in_err-count.field-0.0 = search rules in
    let value = told_unread _ _ c.if-signs.false _ (sym c.in_err-count.was ∙ c.question.ensures.answer) in
    rw told (record { value = value; means = means _ _ _ value })

pub overflow_mul-count : goal.overflow_mul-count
overflow_mul-count c =
    let bounds = outcome_bounds _ _ c.if-signs.false _ _ (sym c.in_ok-count.was ∙ c.question.ensures.answer) in
    omega (arith, bounds.1)

pub returns-then-count-signs : goal.returns-then-count-signs
returns-then-count-signs c =
    let value = told_left _ _ c.if-signs.false _ (sym c.in_ok-count.was ∙ c.question.ensures.answer) c.if-count-signs.true in
    record { value = value; means = means _ _ _ value }

pub returns-in-Some : goal.returns-in-Some
returns-in-Some c =
    let value = told_whole _ _ c.if-signs.false _ _ (sym c.in_ok-count.was ∙ c.question.ensures.answer) c.if-count-signs.false (sym c.in-Some.is ∙ c.gone_twice.ensures) in
    record { value = value; means = means _ _ _ value }

pub over-requires : goal.over-requires
over-requires c =
    let answer = sym c.in_ok-count.was ∙ c.question.ensures.answer in
    answered_none _ _ _
    (told_whole _ _ c.if-signs.false _ _ answer c.if-count-signs.false (sym c.in_default.is ∙ c.gone_twice.ensures))
    (outlined _ _ c.if-signs.false _ _ answer c.if-count-signs.false c.question.array_long c.in_ok-count.ensures.noted)

pub returns : goal.returns
returns c =
    let none = told_whole _ _ c.if-signs.false _ _ (sym c.in_ok-count.was ∙ c.question.ensures.answer) c.if-count-signs.false (sym c.in_default.is ∙ c.gone_twice.ensures) in
    record { value = (none, c.over.ensures.widths, c.over.ensures.numbers); means = means _ _ _ none }
