use Rattle.std.proofs.Common.{length, sym, ap, ◌∙◌, ⊎_elim, arith}
use Rattle.std.proofs.lemmas.Bool.{cases_lt}
use Rattle.registers.specs.declared.layout.Section.{Section}
use Rattle.registers.proofs.Finding.{index_count, index_turn}
use Rattle.registers.proofs.Placing.{there_none}
use Rattle.registers.proofs.Views.{length_register, register_beyond, register_there}
use Rattle.registers.proofs.index.Index.blocks.Goals as goal

pub returns : goal.returns
returns c =
    let count = index_count _ _ _ _ c.args.self.now.sound in
    ⊎_elim
    (λ below.
    let u = index_turn _ _ _ _ c.args.self.now.sound c.args.t _ below c.section.ensures in
    u.blocks ∙ sym (ap length (register_there c.args.self.now.registers.base.now c.args.t u.less) ∙ length_register c.args.self.now.registers.base.now _))
    (λ beyond.
    ap (λ (s : Section). s.blocks) (c.section.ensures ∙ there_none c.args.self.now.registers c.args.t beyond)
    ∙ sym (ap length (register_beyond c.args.self.now.registers.base.now c.args.t (omega arith))))
    (cases_lt c.args.t c.args.self.now.registers.directory.count)
