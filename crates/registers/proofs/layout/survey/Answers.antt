use Rattle.std.proofs.Common.{rules, ◌≡◌, Err, Some, None, length, sym, ap, ◌∙◌, arith}
use Rattle.std.specs.Option.{option_copied}
use Rattle.std.proofs.lemmas.Bool.{cond-true, cond-false, le-leb, lt-leb}
use Rattle.std.proofs.lemmas.Bool.Decides.{nat_tests}
use Rattle.registers.specs.declared.layout.Section.{Section}
use Rattle.registers.specs.declared.refusals.Refusal.TheVariants.{Layout}
use Rattle.registers.specs.Layout.{blocks_at}
use Rattle.registers.specs.Refusals.{refused_at}
use Rattle.registers.specs.Survey.{no_section}
use Rattle.registers.proofs.Small.{run}
use Rattle.registers.proofs.Fitting.{fit_from, from_some, from_none}
use Rattle.registers.proofs.Surveying.{passed_begins, passed_item, misfit_count, misfit_stops, misfit_ends, directory_ends, first_none, first_some, run_begins}
use Rattle.registers.proofs.layout.survey.Goals as goal

pub returns-in_err-count : goal.returns-in_err-count
returns-in_err-count c =
    let told : c.from_residual.result ≡ Err (Layout 8) = search rules in
    let nothing : c.first.result ≡ None = search rules in
    let none = first_none c.args.base.now (ap option_copied (sym nothing) ∙ c.first.ensures.value) in
    rw told (ap (refused_at Layout) (misfit_count c.args.base.now (grind (arith, nat_tests))))

pub returns-then-count-eq0 : goal.returns-then-count-eq0
returns-then-count-eq0 c =
    let something : c.first.result ≡ Some c.in_ok-count.field-0 = search rules in
    let some = first_some c.args.base.now _ (ap option_copied (sym something) ∙ c.first.ensures.value) in
    let limit = c.then-count-eq0.either in
    ap (refused_at Layout) (misfit_count c.args.base.now (grind (arith, nat_tests)))

pub loop-t-init : goal.loop-t-init
loop-t-init c =
    let something : c.first.result ≡ Some c.in_ok-count.field-0 = search rules in
    let some = first_some c.args.base.now _ (ap option_copied (sym something) ∙ c.first.ensures.value) in
    let none : c.default-sections.result ≡ no_section = search rules in
    rw none (passed_begins _ _ (omega (arith, c.if-count.false)) (run_begins c.args.base.now some.0 (omega (arith, c.if-count.false))))

pub returns-in_err-section : goal.returns-in_err-section
returns-in_err-section c =
    let told : c.from_residual-in_err-section.result ≡ Err (Layout c.loop-t.t) = search rules in
    let nothing : c.section_at.result ≡ None = search rules in
    let something : c.first.result ≡ Some c.in_ok-count.field-0 = search rules in
    let some = first_some c.args.base.now _ (ap option_copied (sym something) ∙ c.first.ensures.value) in
    rw told
    (ap (refused_at Layout)
    (misfit_stops c.args.base.now c.loop-t.t c.loop-t.at c.loop-t.blocks _ c.loop-t.invariant.1
    (grind (arith, nat_tests)) (omega (arith, c.loop-t-test.true)) (from_none _ _ (sym nothing ∙ c.section_at.ensures))))

pub overflow_add-blocks : goal.overflow_add-blocks
overflow_add-blocks c =
    let something : c.section_at.result ≡ Some c.in_ok-section.field-0 = search rules in
    let got = from_some _ _ _ (sym something ∙ c.section_at.ensures) in
    let fit = fit_from c.args.base.now c.loop-t.at got.0 in
    let same : c.in_ok-section.field-0.blocks ≡ blocks_at c.args.base.now c.loop-t.at = ap (λ (s : Section). s.blocks) got.1 in
    omega (arith, fit.few_blocks, c.loop-t.invariant.1.few)

pub loop-t-preserved : goal.loop-t-preserved
loop-t-preserved c =
    let something : c.section_at.result ≡ Some c.in_ok-section.field-0 = search rules in
    let got = from_some _ _ _ (sym something ∙ c.section_at.ensures) in
    rw got.1 (passed_item _ _ _ _ _ _ _ c.loop-t.invariant (omega arith) got.0)

pub returns-then-large-base : goal.returns-then-large-base
returns-then-large-base c =
    let something : c.first.result ≡ Some c.in_ok-count.field-0 = search rules in
    let some = first_some c.args.base.now _ (ap option_copied (sym something) ∙ c.first.ensures.value) in
    ap (refused_at Layout)
    (misfit_ends c.args.base.now c.loop-t.t c.loop-t.at c.loop-t.blocks _ c.loop-t.invariant.1 (omega arith) (grind (arith, nat_tests))
    ∙ cond-false _ _ _ (lt-leb (length c.args.base.now) (run c.args.base.now) (omega arith)))

pub invariant_of-result : goal.invariant_of-result
invariant_of-result c =
    let something : c.first.result ≡ Some c.in_ok-count.field-0 = search rules in
    let some = first_some c.args.base.now _ (ap option_copied (sym something) ∙ c.first.ensures.value) in
    let none : c.default-sections.result ≡ no_section = search rules in
    record {
      fits = misfit_ends c.args.base.now c.loop-t.t c.loop-t.at c.loop-t.blocks _ c.loop-t.invariant.1 (omega arith) (grind (arith, nat_tests))
          ∙ cond-true _ _ _ (le-leb (length c.args.base.now) (run c.args.base.now) (omega arith));
      surveyed = rw none (directory_ends c.args.base.now _ c.loop-t.t c.loop-t.at c.loop-t.blocks _ c.loop-t.invariant.1 some.1 (omega arith));
    }
