-- What an index and a block in memory stand for. Assumes nothing: these are definitions.
use Rattle.std.specs.Prelude.{ℕ, slice_index}
use Rattle.registers.specs.declared.index.Index.{Index}
use Rattle.registers.specs.declared.blocks.Block.{Block as Part}
use Rattle.registers.specs.declared.registers.Register.{Register as RegisterPart}
use Rattle.registers.specs.Base.{Base, Block, Register}
use Rattle.registers.specs.Layout.{base_of, columns_of, register_at, rows_from}

-- the registers over which an index stands, and how many columns they have
abbrev pub indexed : Index → Base
indexed ix = base_of ix.registers.base.now

abbrev pub columns_in : Index → ℕ → ℕ
columns_in ix t = slice_index (columns_of ix.registers.base.now) t

-- the register that a part of the slice holds
abbrev pub register_held : RegisterPart → Register
register_held r = register_at r.base.now r.section.place

-- the block that a part of the slice holds
abbrev pub held : Part → Block
held p = record { key = p.key; rows = rows_from p.cells.now p.columns 0 p.rows }
