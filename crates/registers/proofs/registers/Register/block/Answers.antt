use Rattle.std.proofs.Common.{◌≡◌, ℕ, ◌+◌, ◌-◌, ◌*◌, get_or, take, drop, refl, ap, arith}
use Rattle.std.proofs.lemmas.List.{length-drop, length-take}
use Rattle.registers.specs.Layout.{block_end}
use Rattle.registers.proofs.Finding.{held_there}
use Rattle.registers.proofs.Fitting.{inside_from}
use Rattle.registers.proofs.registers.Register.block.Goals as goal

pub overflow_mul-to : goal.overflow_mul-to
overflow_mul-to c = omega (arith, (inside_from c.args.self.now.base.now c.args.self.now.section.columns c.args.at c.requires).rows)

pub overflow_add-to : goal.overflow_add-to
overflow_add-to c = omega (arith, (inside_from c.args.self.now.base.now c.args.self.now.section.columns c.args.at c.requires).rows)

pub slice_bounds-result-end : goal.slice_bounds-result-end
slice_bounds-result-end c = omega (arith, (inside_from c.args.self.now.base.now c.args.self.now.section.columns c.args.at c.requires).rows)

pub returns : goal.returns
unfolding block_end
returns c =
    let b = inside_from c.args.self.now.base.now c.args.self.now.section.columns c.args.at c.requires in
    let size : c.args.at + 2 + get_or c.args.self.now.base.now (c.args.at + 1) 0 * c.args.self.now.section.columns - (c.args.at + 2) ≡ get_or c.args.self.now.base.now (c.args.at + 1) 0 * c.args.self.now.section.columns = omega arith in
    record {
      key = refl;
      rows = refl;
      columns = refl;
      block = held_there c.args.self.now.base.now c.args.self.now.section.columns c.args.at _ size;
      cells = ap (λ (n : ℕ). take n (drop (c.args.at + 2) c.args.self.now.base.now)) size;
      end = simp (length-take, length-drop) (omega (arith, b.rows));
      inside = simp (length-take, length-drop) (omega (arith, b.rows));
    }
