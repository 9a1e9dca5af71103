use Rattle.std.proofs.Common.{◌≡◌, ℕ, ◌+◌, length, get_or, set, sym, ap, ◌∙◌, inl, inr, subst, arith}
use Rattle.std.proofs.lemmas.Bool.{true≢false}
use Rattle.registers.specs.Base.{proper_register}
use Rattle.registers.specs.Layout.{block_end}
use Rattle.registers.specs.Table.{Probed, slot_of}
use Rattle.registers.proofs.Fitting.{fit_from}
use Rattle.registers.proofs.Noting.{Noting, entered_ends, noting_more, noting_none, noting_open, noting_stops, stands_block, stands_blocks, stands_key, stands_part, stands_register}
use Rattle.registers.proofs.Ways.{entry_in, no_entry_in}
use Rattle.registers.proofs.registers.Register.enter.Goals as goal
use Rattle.registers.proofs.registers.Register.enter.Goals.{then-block-eq0-via-then-block-eq0, then-block-eq0-via-else-block-eq0+then-is_some}

pub overflow_add-at : goal.overflow_add-at
overflow_add-at c = omega (arith, (fit_from _ _ c.args.self.now.fits).heading)

pub loop-i-init : goal.loop-i-init
loop-i-init c = noting_none _ _ _ _ _ _ c.requires.slots c.requires.room

pub block-block-requires : goal.block-block-requires
block-block-requires c = stands_block c.args.self.now _ _ c.loop-i.invariant.place (omega arith)

pub probe-slot-requires : goal.probe-slot-requires
probe-slot-requires c =
    noting_open _ _ _ _ _ _ _ _ c.loop-i.invariant (omega arith)
    (omega (arith, (fit_from _ _ c.args.self.now.fits).few_blocks, stands_blocks _ _ (stands_part c.args.self.now)))

pub returns-then-block-eq0 : goal.returns-then-block-eq0
returns-then-block-eq0 c =
    record {
      proper = sym (ap proper_register (sym (stands_register _ _ (stands_part c.args.self.now)))
          ∙ noting_stops _ _ _ _ _ _ _ _ c.loop-i.invariant c.probe-slot.result (omega arith)
          (subst (λ (k : ℕ). Probed c.loop-i.table k c.probe-slot.result) c.block-block.ensures.key c.probe-slot.ensures)
          (elim c.then-block-eq0.branch [ then-block-eq0-via-then-block-eq0 w ↦ inl (sym c.block-block.ensures.rows ∙ w.if-block-eq0.true) | then-block-eq0-via-else-block-eq0+then-is_some w ↦ inr (entry_in _ (sym w.if-is_some.ensures)) ]));
      entered = λ e. absurd (true≢false (sym e));
    }

pub overflow_cast-table : goal.overflow_cast-table
overflow_cast-table c =
    let small = stands_key c.args.self.now _ _ c.loop-i.invariant.place (omega arith) in
    omega (arith, c.block-block.ensures.key)

pub overflow_cast-table-in-loop-i : goal.overflow_cast-table-in-loop-i
overflow_cast-table-in-loop-i c =
    omega (arith, (fit_from _ _ c.args.self.now.fits).few_blocks, stands_blocks _ _ (stands_part c.args.self.now))

pub loop-i-preserved : goal.loop-i-preserved
loop-i-preserved c =
    let end : block_end c.args.self.now.base.now c.args.self.now.section.columns c.loop-i.at ≡ c.loop-i.at + (2 + length c.block-block.result.cells.now) = omega (arith, c.block-block.ensures.end) in
    subst (λ (k : ℕ). Noting c.args.self.now.base.now c.args.self.now.section.columns (c.args.self.now.section.place + 2) c.args.self.now.section.blocks (c.loop-i.i + 1) (c.loop-i.at + (2 + length c.block-block.result.cells.now)) (set c.loop-i.table c.probe-slot.result (slot_of k c.loop-i.i)) (set c.loop-i.places c.loop-i.i c.loop-i.at))
    (sym c.block-block.ensures.key)
    (subst (λ (a : ℕ). Noting c.args.self.now.base.now c.args.self.now.section.columns (c.args.self.now.section.place + 2) c.args.self.now.section.blocks (c.loop-i.i + 1) a (set c.loop-i.table c.probe-slot.result (slot_of (get_or c.args.self.now.base.now c.loop-i.at 0) c.loop-i.i)) (set c.loop-i.places c.loop-i.i c.loop-i.at))
    end
    (noting_more _ _ _ _ _ _ _ _ c.loop-i.invariant c.probe-slot.result (omega arith)
    (subst (λ (k : ℕ). Probed c.loop-i.table k c.probe-slot.result) c.block-block.ensures.key c.probe-slot.ensures)
    (no_entry_in _ (sym c.if-is_some.ensures)) (λ e. c.if-block-eq0.false (c.block-block.ensures.rows ∙ e))))

pub returns : goal.returns
returns c =
    let ends = entered_ends _ _ _ _ _ _ (stands_part c.args.self.now) c.loop-i.invariant (omega arith) (omega arith) in
    record { proper = sym ends.0; entered = λ e. ends.1 }
