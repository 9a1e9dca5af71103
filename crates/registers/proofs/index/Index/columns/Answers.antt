use Rattle.std.proofs.Common.{sym, ap, ◌∙◌, ⊎_elim, arith}
use Rattle.std.proofs.lemmas.Bool.{cases_lt}
use Rattle.registers.specs.declared.layout.Section.{Section}
use Rattle.registers.proofs.Finding.{index_count, index_turn}
use Rattle.registers.proofs.Placing.{there_none}
use Rattle.registers.proofs.Views.{columns_beyond, columns_there}
use Rattle.registers.proofs.index.Index.columns.Goals as goal

pub returns : goal.returns
returns c =
    let count = index_count _ _ _ _ c.args.self.now.sound in
    ⊎_elim
    (λ below.
    let u = index_turn _ _ _ _ c.args.self.now.sound c.args.t _ below c.section.ensures in
    u.columns ∙ sym (columns_there c.args.self.now.registers.base.now c.args.t u.less))
    (λ beyond.
    ap (λ (s : Section). s.columns) (c.section.ensures ∙ there_none c.args.self.now.registers c.args.t beyond)
    ∙ sym (columns_beyond c.args.self.now.registers.base.now c.args.t (omega arith)))
    (cases_lt c.args.t c.args.self.now.registers.directory.count)
