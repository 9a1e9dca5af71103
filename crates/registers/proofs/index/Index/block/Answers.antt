use Rattle.std.proofs.Common.{ℕ, ◌+◌, List, get_or, sym, ap, ◌∙◌, arith}
use Rattle.registers.specs.Layout.{block_at}
use Rattle.registers.specs.Refusals.{block_fits}
use Rattle.registers.proofs.Finding.{index_there, located}
use Rattle.registers.proofs.Views.{columns_there}
use Rattle.registers.proofs.index.Index.block.Goals as goal

pub register-register-requires : goal.register-register-requires
register-register-requires c = index_there _ _ _ _ c.args.t c.args.number c.args.self.now.sound c.requires

pub overflow_add-register : goal.overflow_add-register
overflow_add-register c =
    let b = located _ _ _ _ c.args.t c.args.number _ c.args.self.now.sound c.requires c.register-register.ensures.section in
    omega arith

pub offset_bounds-self-register : goal.offset_bounds-self-register
offset_bounds-self-register c =
    let b = located _ _ _ _ c.args.t c.args.number _ c.args.self.now.sound c.requires c.register-register.ensures.section in
    omega arith

pub bounds-self-register : goal.bounds-self-register
bounds-self-register c =
    let b = located _ _ _ _ c.args.t c.args.number _ c.args.self.now.sound c.requires c.register-register.ensures.section in
    omega arith

pub block-requires : goal.block-requires
block-requires c =
    let b = located _ _ _ _ c.args.t c.args.number _ c.args.self.now.sound c.requires c.register-register.ensures.section in
    ap (λ (xs : List ℕ). block_fits xs c.register-register.result.section.columns (get_or c.args.self.now.places.now (c.register-register.result.section.first + c.args.number) 0)) c.register-register.ensures.base ∙ b.fits

pub returns : goal.returns
returns c =
    let b = located _ _ _ _ c.args.t c.args.number _ c.args.self.now.sound c.requires c.register-register.ensures.section in
    record {
      block = c.block.ensures.block ∙ ap (λ (xs : List ℕ). block_at xs c.register-register.result.section.columns (get_or c.args.self.now.places.now (c.register-register.result.section.first + c.args.number) 0)) c.register-register.ensures.base ∙ b.block_is;
      columns = c.block.ensures.columns ∙ b.turn.columns ∙ sym (columns_there c.args.self.now.registers.base.now c.args.t b.turn.less);
    }
