use Rattle.std.proofs.Common.{◌≡◌, ℕ, [], get_or, refl, ap, ◌∙◌, arith}
use Rattle.questions.specs.Questions.{ask, further_of, no_more, questions_in}
use Rattle.questions.specs.Reading.{question_of}
use Rattle.questions.specs.Views.{asked_at}
use Rattle.questions.proofs.Asking.{reached_first, reached_here, reached_more, signs_few}
use Rattle.questions.proofs.signs.Question.begin.Goals as goal

pub overflow_add-sign : goal.overflow_add-sign
overflow_add-sign c = omega (arith, c.args.self.now.there, signs_few c.args.self.now.signs.now)

pub loop-i-init : goal.loop-i-init
loop-i-init c = reached_first c.args.self.now

pub offset_bounds-self-sign : goal.offset_bounds-self-sign
offset_bounds-self-sign c =
    omega (arith, (reached_here c.args.self.now c.loop-i._i c.loop-i.sign (omega arith) c.loop-i.invariant).few)

pub bounds-self-sign : goal.bounds-self-sign
bounds-self-sign c =
    omega (arith, (reached_here c.args.self.now c.loop-i._i c.loop-i.sign (omega arith) c.loop-i.invariant).few)

pub loop-i-preserved : goal.loop-i-preserved
loop-i-preserved c = reached_more c.args.self.now c.loop-i._i c.loop-i.sign (omega arith) c.loop-i.invariant

pub invariant_of-result : goal.invariant_of-result
invariant_of-result c =
    record { there = (reached_here c.args.self.now c.loop-i._i c.loop-i.sign (omega arith) c.loop-i.invariant).less }

pub returns : goal.returns
returns c =
    let here = reached_here c.args.self.now c.loop-i._i c.loop-i.sign (omega arith) c.loop-i.invariant in
    let end : c.loop-i._i ≡ c.args.i = omega arith in
    record {
      signs = refl;
      question = ap question_of here.is ∙ here.ith ∙ ap (λ (n : ℕ). get_or (questions_in (further_of (asked_at c.args.self.now))) n (ask 0 [] no_more)) end;
      behind = c.loop-i.invariant.behind;
    }
