use Rattle.std.proofs.Common.{rules, ◌≡◌, true, false, Ok, Err, sym, ap, ◌∙◌, arith}
use Rattle.std.proofs.lemmas.Grind.{common_steps}
use Rattle.questions.specs.declared.refusals.Refusal.TheVariants.{Signs}
use Rattle.questions.specs.Signs.{further_count, sign_fits}
use Rattle.questions.proofs.Passing.{next_err, next_ok, noted_none, noted_rest, noted_sign, outcome_bounds, outcome_more, outcome_unfit, passed_more, passed_none}
use Rattle.questions.proofs.reading.Source.+questions.Goals as goal
use Rattle.questions.proofs.reading.Source.+questions.Goals.{question-then-left-eq0, question-else-left-eq0+in_ok-end}

pub further-returns-then-left-eq0-clause-answer : goal.further-returns-then-left-eq0-clause-answer
further-returns-then-left-eq0-clause-answer t c =
    passed_none _ c.args.left c.args.sign c.if-left-eq0.true

pub further-returns-in_err-next-clause-answer : goal.further-returns-in_err-next-clause-answer
further-returns-in_err-next-clause-answer t c =
    let told : c.from_residual.result ≡ Err c.in_err-next.field-0.0 = search rules in
    next_err _ _ _ _ told (told ∙ sym c.in_err-next.was ∙ c.question.ensures.answer)
    ∙ sym (passed_more _ c.args.left c.args.sign c.if-left-eq0.false)

pub further-further-requires : goal.further-further-requires
further-further-requires t c =
    let bounds = outcome_bounds _ _ c.args.self.now.short c.args.sign c.in_ok-next.next (sym c.in_ok-next.was ∙ c.question.ensures.answer) in
    (omega arith, bounds.1)

pub further-returns-clause-answer : goal.further-returns-clause-answer
further-returns-clause-answer t c =
    next_ok _ _ _ c.in_ok-next.next (sym c.in_ok-next.was ∙ c.question.ensures.answer) c.further.ensures.answer
    ∙ sym (passed_more _ c.args.left c.args.sign c.if-left-eq0.false)

pub further-returns-clause-noted : goal.further-returns-clause-noted
further-returns-clause-noted t c =
    let read = sym c.in_ok-next.was ∙ c.question.ensures.answer in
    let bounds = outcome_bounds _ _ c.args.self.now.short c.args.sign c.in_ok-next.next read in
    noted_rest _ _ c.args.self.now.short _ _ _ _ _ _ _ bounds c.further.ensures.answer c.in_ok-next.ensures.noted c.further.ensures.noted

pub question-returns-in_err-here-clause-answer : goal.question-returns-in_err-here-clause-answer
question-returns-in_err-here-clause-answer t c =
    let unfit : sign_fits c.args.self.now.widths.now c.args.self.now.signs.now c.args.sign ≡ false = grind (arith, common_steps) in
    let told : c.from_residual.result ≡ Err (Signs c.args.sign) = search rules in
    told ∙ sym (outcome_unfit _ _ c.args.self.now.short _ unfit)

pub question-returns-in_err-end-clause-answer : goal.question-returns-in_err-end-clause-answer
question-returns-in_err-end-clause-answer t c =
    let fit : true ≡ sign_fits c.args.self.now.widths.now c.args.self.now.signs.now c.args.sign = grind (arith, common_steps) in
    let count : c.further-left.result ≡ further_count c.args.self.now.signs.now c.args.sign = grind (arith, common_steps) in
    let told : c.from_residual-in_err-end.result ≡ Err c.in_err-end.field-0.0 = search rules in
    outcome_more _ _ c.args.self.now.short _ _ _ fit count (told ∙ sym c.in_err-end.was ∙ c.further.ensures.answer)

pub question-returns-clause-answer : goal.question-returns-clause-answer
question-returns-clause-answer t c =
    let fit : true ≡ sign_fits c.args.self.now.widths.now c.args.self.now.signs.now c.args.sign = grind (arith, common_steps) in
    let count : c.further-left.result ≡ further_count c.args.self.now.signs.now c.args.sign = grind (arith, common_steps) in
    outcome_more _ _ c.args.self.now.short _ _ _ fit count
    (elim c.if-left-eq0.branch [
      | question-then-left-eq0 w ↦ ap Ok w.end-is ∙ passed_none _ _ _ w.if-left-eq0.true
      | question-else-left-eq0+in_ok-end w ↦ ap Ok w.end-is ∙ sym w.in_ok-end.was ∙ w.further.ensures.answer
    ])

pub question-returns-clause-noted : goal.question-returns-clause-noted
question-returns-clause-noted t c =
    let answer = question-returns-clause-answer t c in
    let bounds = outcome_bounds _ _ c.args.self.now.short c.args.sign c.if-left-eq0.end answer in
    noted_sign _ _ c.args.self.now.short _ _ _ _ bounds.0 (omega (arith, c.if-left-eq0.array_long)) answer
    (elim c.if-left-eq0.branch [
      | question-then-left-eq0 w ↦ rw w.end-is (rw w.ends-is (noted_none _ _ c.args.self.now.short _ _))
      | question-else-left-eq0+in_ok-end w ↦ rw w.end-is (rw w.ends-is w.in_ok-end.ensures.noted)
    ])
