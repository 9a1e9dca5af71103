use Rattle.std.proofs.Common.{◌≡◌, None, sym, refl, ap, ◌∙◌, arith}
use Rattle.registers.specs.Base.{register}
use Rattle.registers.specs.Indexing.{number_under}
use Rattle.registers.specs.Layout.{base_of}
use Rattle.registers.proofs.Finding.{index_count, index_finds, index_lacks, index_open, index_turn, meant}
use Rattle.registers.proofs.Views.{register_beyond, register_there}
use Rattle.registers.proofs.index.Index.find.Goals as goal

pub returns-then-t-self : goal.returns-then-t-self
unfolding number_under
returns-then-t-self c =
    let value : None ≡ number_under c.args.key (register (base_of c.args.self.now.registers.base.now) c.args.t) =
    sym (ap (number_under c.args.key) (register_beyond c.args.self.now.registers.base.now c.args.t (omega (arith, index_count _ _ _ _ c.args.self.now.sound, c.if-t-self.true)))) in
    record { value = value; means = meant _ _ _ value }

pub table-requires : goal.table-requires
table-requires c = omega (arith, (index_turn _ _ _ _ c.args.self.now.sound c.args.t _ c.if-t-self.false c.register.ensures.section).table)

pub offset_bounds-self-table : goal.offset_bounds-self-table
offset_bounds-self-table c = omega (arith, (index_turn _ _ _ _ c.args.self.now.sound c.args.t _ c.if-t-self.false c.register.ensures.section).table)

pub slice_bounds-table-end : goal.slice_bounds-table-end
slice_bounds-table-end c = omega (arith, (index_turn _ _ _ _ c.args.self.now.sound c.args.t _ c.if-t-self.false c.register.ensures.section).table)

pub probe-requires : goal.probe-requires
probe-requires c = index_open _ _ _ _ c.args.self.now.sound c.args.t _ c.if-t-self.false c.register.ensures.section _ _ _ c.table.ensures.start c.table.ensures.end refl

pub offset_bounds-table-probe : goal.offset_bounds-table-probe
offset_bounds-table-probe c =
    let short = (index_open _ _ _ _ c.args.self.now.sound c.args.t _ c.if-t-self.false c.register.ensures.section _ _ _ c.table.ensures.start c.table.ensures.end refl).short in
    omega (arith, c.probe.ensures.inside)

pub returns-in_err-entry : goal.returns-in_err-entry
returns-in_err-entry c =
    let u = index_turn _ _ _ _ c.args.self.now.sound c.args.t _ c.if-t-self.false c.register.ensures.section in
    let value =
    c.from_residual.ensures
    ∙ index_lacks _ _ _ _ c.args.self.now.sound c.args.t _ c.if-t-self.false c.register.ensures.section _ _ _ c.table.ensures.start c.table.ensures.end refl c.args.key c.probe.result c.probe.ensures c.in_err-entry.was
    ∙ sym (ap (number_under c.args.key) (register_there c.args.self.now.registers.base.now c.args.t u.less)) in
    record { value = value; means = meant _ _ _ value }

pub returns : goal.returns
returns c =
    let u = index_turn _ _ _ _ c.args.self.now.sound c.args.t _ c.if-t-self.false c.register.ensures.section in
    let value =
    index_finds _ _ _ _ c.args.self.now.sound c.args.t _ c.if-t-self.false c.register.ensures.section _ _ _ c.table.ensures.start c.table.ensures.end refl c.args.key c.probe.result _ c.probe.ensures c.in_ok-entry.was
    ∙ sym (ap (number_under c.args.key) (register_there c.args.self.now.registers.base.now c.args.t u.less)) in
    record { value = value; means = meant _ _ _ value }
