use Rattle.std.proofs.Common.{ℕ, List, replicate, sym, refl, ap, ◌∙◌, subst, ap₂, arith}
use Rattle.std.proofs.lemmas.List.Edits.{length-between}
use Rattle.registers.specs.declared.refusals.Refusal.TheVariants.{Blocks}
use Rattle.registers.specs.Base.{proper_register}
use Rattle.registers.specs.Indexing.{Entered}
use Rattle.registers.specs.Layout.{register_at}
use Rattle.registers.specs.Table.{free}
use Rattle.registers.proofs.Surveying.{told_at, told_ok}
use Rattle.registers.proofs.Placing.{enough_count, placed_awaits, placed_ends, placed_more, placed_none, placed_stops, length_put_mid, turn}
use Rattle.registers.proofs.registers.Registers.fill.Goals as goal

pub loop-t-init : goal.loop-t-init
loop-t-init c = placed_none _ _ _ _ c.requires

pub table-requires : goal.table-requires
table-requires c = omega (arith, (turn _ _ _ _ _ _ c.loop-t.t _ c.requires c.loop-t-test.true c.loop-t.auto.slots c.loop-t.auto.places c.register-register.ensures.section).0.table)

pub slice_bounds-enter-end : goal.slice_bounds-enter-end
slice_bounds-enter-end c = omega (arith, (turn _ _ _ _ _ _ c.loop-t.t _ c.requires c.loop-t-test.true c.loop-t.auto.slots c.loop-t.auto.places c.register-register.ensures.section).0.table)

pub slice_bounds-enter-end-in-loop-t : goal.slice_bounds-enter-end-in-loop-t
slice_bounds-enter-end-in-loop-t c = omega (arith, (turn _ _ _ _ _ _ c.loop-t.t _ c.requires c.loop-t-test.true c.loop-t.auto.slots c.loop-t.auto.places c.register-register.ensures.section).0.noted)

pub offset_bounds-slots-table : goal.offset_bounds-slots-table
offset_bounds-slots-table c = omega (arith, (turn _ _ _ _ _ _ c.loop-t.t _ c.requires c.loop-t-test.true c.loop-t.auto.slots c.loop-t.auto.places c.register-register.ensures.section).0.table)

pub enter-requires : goal.enter-requires
enter-requires c =
    let u = turn _ _ _ _ _ _ c.loop-t.t _ c.requires c.loop-t-test.true c.loop-t.auto.slots c.loop-t.auto.places c.register-register.ensures.section in
    let free = placed_awaits _ _ _ _ _ _ _ _ _ c.loop-t.invariant u.0 c.table.ensures.start c.table.ensures.end c.noted.ensures.start c.noted.ensures.end in
    record { slots = free.1; room = free.2 }

pub returns-then-not-enter : goal.returns-then-not-enter
returns-then-not-enter c =
    let u = (turn _ _ _ _ _ _ c.loop-t.t _ c.requires c.loop-t-test.true c.loop-t.auto.slots c.loop-t.auto.places c.register-register.ensures.section).0 in
    let table = c.enter.auto.table ∙ length-between c.loop-t.slots _ _ (omega (arith, u.table)) in
    let noted = c.enter.auto.places ∙ length-between c.loop-t.places _ _ (omega (arith, u.noted)) in
    record {
      answer = told_at Blocks _ _ _
          (placed_stops _ _ _ _ c.loop-t.invariant u.less
          (ap₂ (λ (xs : List ℕ) (p : ℕ). proper_register (register_at xs p)) (sym c.register-register.ensures.base) (sym u.place) ∙ sym c.if-not-enter.ensures.proper));
      room = (
        c.clear.ensures.slots ∙ ap (λ (n : ℕ). replicate n free) (length_put_mid _ _ c.loop-t.slots _ table (omega arith) ∙ c.loop-t.auto.slots) ∙ sym c.requires.slots_free,
        c.clear.ensures.places ∙ ap (λ (n : ℕ). replicate n 0) (length_put_mid _ _ c.loop-t.places _ noted (omega arith) ∙ c.loop-t.auto.places) ∙ sym c.requires.places_free,
      );
    }

pub loop-t-preserved : goal.loop-t-preserved
loop-t-preserved c =
    let u = (turn _ _ _ _ _ _ c.loop-t.t _ c.requires c.loop-t-test.true c.loop-t.auto.slots c.loop-t.auto.places c.register-register.ensures.section).0 in
    placed_more _ _ _ _ _ _ _ _ _ _ _ c.loop-t.invariant u c.table.ensures.start c.table.ensures.end c.noted.ensures.start c.noted.ensures.end
    (c.enter.auto.table ∙ length-between c.loop-t.slots _ _ (omega (arith, u.table)))
    (c.enter.auto.places ∙ length-between c.loop-t.places _ _ (omega (arith, u.noted)))
    (ap (λ (xs : List ℕ). proper_register (register_at xs c.register-register.result.section.place)) (sym c.register-register.ensures.base) ∙ sym c.if-not-enter.ensures.proper)
    (subst (λ (xs : List ℕ). Entered xs c.register-register.result.section.place c.enter.new.table c.enter.new.places) c.register-register.ensures.base (c.if-not-enter.ensures.entered refl))

pub returns : goal.returns
returns c =
    let count = enough_count _ _ _ _ c.requires.enough in
    let ends = placed_ends _ _ _ _ _ _ c.loop-t.t c.requires c.loop-t.invariant (omega arith) c.loop-t.auto.slots c.loop-t.auto.places in
    record { answer = told_ok Blocks _ _ _ ends.0 refl; room = ends.1 }
