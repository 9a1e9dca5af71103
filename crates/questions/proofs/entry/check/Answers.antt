use Rattle.std.proofs.Common.{rules, ◌≡◌, Err, List, None, Some, Option, ℕ, length, take, sym, ap, ◌∙◌, subst, arith}
use Rattle.std.proofs.lemmas.List.{length-take}
use Rattle.registers.proofs.Ways.{none_some}
use Rattle.questions.specs.declared.refusals.Refusal.{Refusal}
use Rattle.questions.specs.declared.refusals.Refusal.TheVariants.{Registers}
use Rattle.questions.specs.Meaning.{Means}
use Rattle.questions.specs.Refusals.{answered}
use Rattle.questions.proofs.Columns.{columns_by, length_widths, refused_first, refused_next, widths_few}
use Rattle.questions.proofs.entry.check.Goals as goal

pub returns-in_err-registers : goal.returns-in_err-registers
returns-in_err-registers c =
    let told : c.from_residual.result ≡ Err (Registers c.in_err-registers.field-0.0) = search rules in
    rw told
    (record {
      value = ap (λ (o : Option Refusal). answered o tt) (sym (refused_first _ c.args.signs.now _ c.in_err-registers.ensures));
      means = λ none. absurd (none_some (sym none ∙ c.in_err-registers.ensures));
    })

pub slice_bounds-widths-end : goal.slice_bounds-widths-end
slice_bounds-widths-end c =
    omega (arith, widths_few c.in_ok-registers.registers, ap length c.widths-widths.ensures, length_widths c.in_ok-registers.registers.directory)

pub slice_bounds-read-end : goal.slice_bounds-read-end
slice_bounds-read-end c =
    omega (arith, widths_few c.in_ok-registers.registers, ap length c.widths-widths.ensures, length_widths c.in_ok-registers.registers.directory, length-take c.in_ok-registers.registers.directory.count c.widths-widths.result)

pub returns-in_err-read : goal.returns-in_err-read
returns-in_err-read c =
    let told : c.from_residual-in_err-read.result ≡ Err c.in_err-read.field-0.0 = search rules in
    let sound = c.in_ok-registers.ensures in
    let widths = ap (take c.in_ok-registers.registers.directory.count) c.widths-widths.ensures in
    rw told
    (record {
      value = ap (λ (o : Option Refusal). answered o tt) (sym (refused_next c.in_ok-registers.registers _ _ _ _ sound.0 sound.1 widths c.in_err-read.ensures.value));
      means = λ none. subst (λ (ws : List ℕ). Means ws c.args.signs.now (Some c.in_err-read.field-0.0)) (columns_by c.in_ok-registers.registers _ _ sound.0 widths) c.in_err-read.ensures.means;
    })

pub returns : goal.returns
returns c =
    let sound = c.in_ok-registers.ensures in
    let widths = ap (take c.in_ok-registers.registers.directory.count) c.widths-widths.ensures in
    record {
      value = ap (λ (o : Option Refusal). answered o tt) (sym (refused_next c.in_ok-registers.registers _ _ _ _ sound.0 sound.1 widths c.in_ok-read.ensures.value.0));
      means = λ none. subst (λ (ws : List ℕ). Means ws c.args.signs.now None) (columns_by c.in_ok-registers.registers _ _ sound.0 widths) c.in_ok-read.ensures.means;
    }
