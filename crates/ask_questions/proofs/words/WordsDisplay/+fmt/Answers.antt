use Rattle.std.proofs.Common.{◌≡◌, ℕ, ◌+◌, ◌++◌, ◌<◌, length, List, refl, ap, ◌∙◌, arith}
use Rattle.std.proofs.Output.{has_written_append, has_written_of_eq}
use Rattle.questions.specs.Views.{asked_at}
use Rattle.questions.specs.Questions.{further_of, questions_in, tests_of}
use Rattle.questions.proofs.Asking.{further_few, tests_few}
use Rattle.std.specs.Prelude.{codes, decimal}
use Rattle.std.proofs.lemmas.List.{append_assoc}
use Rattle.ask_questions.specs.Words.{question_words}
use Rattle.ask_questions.proofs.Saying.{length_parts, parts_of, said_all, said_first, said_further, said_none, said_test}
use Rattle.ask_questions.proofs.words.WordsDisplay.+fmt.Goals as goal
use Rattle.ask_questions.proofs.words.WordsDisplay.+fmt.Goals.{else-tests-eq0-via-then-tests-eq0+else-further-eq0, else-tests-eq0-via-else-tests-eq0}

pub overflow_add-tests : goal.overflow_add-tests
overflow_add-tests g t c =
    omega (arith, tests_few c.args.self.now.question, further_few c.args.self.now.question, c.tests-tests.ensures, c.further-further.ensures, c.loop-i-2.auto.i-end, c.loop-i-2-test.true)

pub loop-i-preserved : goal.loop-i-preserved
loop-i-preserved g t c p =
    let there : c.loop-i.i < length (tests_of (asked_at c.args.self.now.question)) = omega (arith, c.loop-i-test.true, c.tests-tests.ensures) in
    has_written_of_eq _ _ _ _ _
    (said_test (asked_at c.args.self.now.question) c.loop-i.i _ c.test.result there c.separator.ensures c.test.ensures.value)
    (has_written_append _ _ _ _ _ _ (c.loop-i.invariant p) (c.in_ok-write-2.ensures.writes (c.loop-i.invariant p).plain refl))

pub returns-then-further-eq0-clause-writes : goal.returns-then-further-eq0-clause-writes
returns-then-further-eq0-clause-writes g t c p ok =
    let first = c.in_ok-write.ensures.writes p refl in
    let none : length (parts_of (asked_at c.args.self.now.question)) ≡ 0 = omega (arith, length_parts (asked_at c.args.self.now.question), c.tests-tests.ensures, c.if-tests-eq0.true, c.further-further.ensures, c.if-further-eq0.true) in
    has_written_of_eq _ _ _ _ _ (said_none (asked_at c.args.self.now.question) c.register.result c.register.ensures.value none)
    (has_written_append _ _ _ _ _ _ first (c.write_str.ensures.writes first.plain ok))

pub returns-clause-writes : goal.returns-clause-writes
returns-clause-writes g t c p ok =
    let some : 0 < length (parts_of (asked_at c.args.self.now.question)) =
    elim c.else-tests-eq0.branch [ else-tests-eq0-via-then-tests-eq0+else-further-eq0 w ↦ omega (arith, length_parts (asked_at c.args.self.now.question), c.further-further.ensures, w.if-further-eq0.false) | else-tests-eq0-via-else-tests-eq0 w ↦ omega (arith, length_parts (asked_at c.args.self.now.question), c.tests-tests.ensures, w.if-tests-eq0.false) ] in
    has_written_of_eq _ _ _ _ _ (said_all (asked_at c.args.self.now.question) _ some (omega (arith, length_parts (asked_at c.args.self.now.question), c.further-further.ensures, c.tests-tests.ensures, c.loop-i-2-test.false))) (c.loop-i-2.invariant p)

pub loop-i-2-preserved : goal.loop-i-2-preserved
loop-i-2-preserved g t c p =
    let some = c.loop-i-2.invariant p in
    let front = c.in_ok-write-3.ensures.writes some.plain refl in
    let inner = c.in_ok-fmt.ensures.writes front.plain refl in
    let last = c.in_ok-write_str.ensures.writes inner.plain refl in
    let there : c.loop-i-2.i < length (questions_in (further_of (asked_at c.args.self.now.question))) = omega (arith, c.loop-i-2-test.true, c.further-further.ensures) in
    has_written_of_eq _ _ _ _ _
    (ap (λ (w : List ℕ). said_first (asked_at c.args.self.now.question) (c.tests-tests.result + c.loop-i-2.i) ++ w)
    (nested c.separator-between.result.now (decimal c.column-column.result) (question_words (asked_at c.begin.result)))
    ∙ said_further (asked_at c.args.self.now.question) c.tests-tests.result c.loop-i-2.i c.separator-between.result.now c.column-column.result (asked_at c.begin.result) c.tests-tests.ensures there c.separator-between.ensures c.column-column.ensures.value c.begin.ensures.question)
    (has_written_append _ _ _ _ _ _ some (has_written_append _ _ _ _ _ _ front (has_written_append _ _ _ _ _ _ inner last)))
  where
    nested : (between column words : List ℕ) → (between ++ (codes "column " ++ (column ++ codes " is a key of ("))) ++ (words ++ codes ")") ≡ between ++ (codes "column " ++ column ++ codes " is a key of (" ++ words ++ codes ")")
    nested between column words = simp append_assoc
