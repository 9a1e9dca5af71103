use Rattle.std.proofs.Common.{◌≡◌, ℕ, ◌+◌, ◌-◌, ◌*◌, ◌≤◌, take, drop, sym, ◌∙◌, ap₂, mul-le-mul_right, arith}
use Rattle.registers.proofs.Views.{row_there}
use Rattle.registers.proofs.blocks.Block.row.Goals as goal

pub offset_bounds-self-from : goal.offset_bounds-self-from
offset_bounds-self-from c =
    let whole : (c.args.i + 1) * c.args.self.now.columns ≤ c.args.self.now.rows * c.args.self.now.columns = mul-le-mul_right c.args.self.now.columns (omega (arith, c.requires)) in
    omega (arith, c.args.self.now.shaped)

pub slice_bounds-result-end : goal.slice_bounds-result-end
slice_bounds-result-end c =
    let whole : (c.args.i + 1) * c.args.self.now.columns ≤ c.args.self.now.rows * c.args.self.now.columns = mul-le-mul_right c.args.self.now.columns (omega (arith, c.requires)) in
    omega (arith, c.args.self.now.shaped)

pub returns : goal.returns
returns c =
    let start : c.args.i * c.args.self.now.columns ≡ 0 + c.args.i * c.args.self.now.columns = omega arith in
    let wide : c.args.i * c.args.self.now.columns + c.args.self.now.columns - c.args.i * c.args.self.now.columns ≡ c.args.self.now.columns = omega arith in
    ap₂ (λ (a n : ℕ). take n (drop a c.args.self.now.cells.now)) start wide
    ∙ sym (row_there c.args.self.now.cells.now c.args.self.now.columns 0 c.args.self.now.rows c.args.i c.requires)
