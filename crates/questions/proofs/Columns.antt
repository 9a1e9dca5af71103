-- The columns of registers that are not refused, as a survey tells them; and the refusal put together.
use Rattle.std.proofs.Common.{◌≡◌, ℕ, ◌≤◌, List, map, length, get_or, take, Some, None, Option, sym, refl, ap, ◌∙◌, ap₂, arith}
use Rattle.std.specs.List.{range_with_len}
use Rattle.std.proofs.lemmas.List.FromFn.{fill_by_all, get_or-map-range_with_len, length-map-range_with_len, take-map-range_with_len}
use Rattle.registers.specs.declared.layout.Directory.{Directory}
use Rattle.registers.specs.declared.refusals.Refusal.{Refusal as RegistersRefusal}
use Rattle.registers.specs.declared.registers.Registers.{Registers as Surveyed}
use Rattle.registers.specs.Layout.{columns_at, columns_of, register_place}
use Rattle.registers.specs.Refusals.{or_else, refusal}
use Rattle.registers.specs.Survey.{no_section}
use Rattle.registers.proofs.Placing.{count_few, misfit_none, there, there_count}
use Rattle.questions.specs.declared.refusals.Refusal.{Refusal}
use Rattle.questions.specs.declared.refusals.Refusal.TheVariants.{Registers}
use Rattle.questions.specs.Reading.{widths_of}
use Rattle.questions.specs.Refusals.{of_registers, refusal_of, signs_refusal}

pub length_widths : (directory : Directory) → length (widths_of directory) ≡ 8
unfolding widths_of
length_widths directory = length-map-range_with_len (λ t. (get_or directory.sections t no_section).columns) 0 8

pub widths_few : (r : Surveyed) → r.directory.count ≤ 8
widths_few r = omega (arith, there_count r, count_few r.base.now (misfit_none r.base.now r.fits).0)

pub widths_are : (r : Surveyed) → take r.directory.count (widths_of r.directory) ≡ columns_of r.base.now
unfolding widths_of columns_of
widths_are r =
    let f : ℕ → ℕ = λ t. (get_or r.directory.sections t no_section).columns in
    take-map-range_with_len f 0 8 r.directory.count (widths_few r)
    ∙ fill_by_all (λ t. columns_at r.base.now (register_place r.base.now t)) (map f (range_with_len 0 r.directory.count)) r.directory.count 0 (length-map-range_with_len f 0 r.directory.count)
    (λ t l. get_or-map-range_with_len f 0 r.directory.count t t 0 l (omega arith) ∙ (there r t (get_or r.directory.sections t no_section) l refl).0.columns)
    ∙ ap (λ (n : ℕ). map (λ t. columns_at r.base.now (register_place r.base.now t)) (range_with_len 0 n)) (there_count r)

-- the refusal of registers comes first
pub refused_first : (base xs : List ℕ) (e : RegistersRefusal) → refusal base ≡ Some e → refusal_of base xs ≡ Some (Registers e)
unfolding refusal_of
refused_first base xs e h = ap (λ (o : Option RegistersRefusal). or_else (of_registers o) (signs_refusal (columns_of base) xs)) h

-- and then that of signs, or none
pub refused_next : (r : Surveyed) (base xs widths : List ℕ) (o : Option Refusal) → r.base.now ≡ base → refusal base ≡ None → widths ≡ take r.directory.count (widths_of r.directory) → signs_refusal widths xs ≡ o → refusal_of base xs ≡ o
unfolding refusal_of
refused_next r base xs widths o is none w told =
    ap₂ (λ (p : Option RegistersRefusal) (ws : List ℕ). or_else (of_registers p) (signs_refusal ws xs)) none (ap columns_of (sym is) ∙ sym (widths_are r) ∙ sym w)
    ∙ told

pub columns_by : (r : Surveyed) (base widths : List ℕ) → r.base.now ≡ base → widths ≡ take r.directory.count (widths_of r.directory) → widths ≡ columns_of base
columns_by r base widths is w = w ∙ widths_are r ∙ ap columns_of is
