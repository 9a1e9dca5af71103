use Rattle.std.proofs.Common.{rules, sym, ap, ◌∙◌}
use Rattle.summaries.specs.declared.summary.Report.{Report}
use Rattle.registers.specs.Refusals.{refusal}
use Rattle.registers.proofs.Placing.{count_few, enough_all, misfit_none, room_of, there_count}
use Rattle.registers.proofs.Checking.{handed_on, refusal_layout}
use Rattle.summaries.specs.Summary.{summary_of}
use Rattle.summaries.proofs.Summing.{given_first}
use Rattle.summaries.proofs.summary.summarize.Goals as goal

pub returns-in_err-registers : goal.returns-in_err-registers
returns-in_err-registers c =
    handed_on {T = Report} c.from_residual.result _ _ _ c.from_residual.ensures.1 (refusal_layout _ _ c.in_err-registers.ensures)

pub indexed-requires : goal.indexed-requires
indexed-requires c =
    room_of _ _ _ _ 65544 32768 c.new.result.slots_free c.new.result.places_free
    (enough_all _ _ c.in_ok-registers.registers.fits c.in_ok-registers.registers.surveyed)

pub returns-in_err-index : goal.returns-in_err-index
returns-in_err-index c =
    handed_on {T = Report} c.from_residual-in_err-index.result _ _ _ c.from_residual-in_err-index.ensures.1
    (ap refusal (sym c.in_ok-registers.ensures) ∙ c.in_err-index.ensures)

pub invariant_of-result : goal.invariant_of-result
invariant_of-result c =
    let few = count_few c.in_ok-registers.registers.base.now (misfit_none c.in_ok-registers.registers.base.now c.in_ok-registers.registers.fits).0 in
    record {
      sound = c.in_ok-index.ensures.1;
      told = given_first _ _ (summary_of c.in_ok-registers.registers.base.now) (λ t s q k. search rules) _ _ _ _ c.from_fn-summaries.ensures.items (there_count c.in_ok-registers.registers) few;
    }
