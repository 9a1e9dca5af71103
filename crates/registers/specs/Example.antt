-- Sluices, polders and boards in a slice: the definitions tried on an example. Assumes nothing: these are definitions.
use Rattle.std.specs.Prelude.{◌≡◌, ℕ, List, [], ◌∷◌, take, Some, None, slice_set}
use Rattle.registers.specs.declared.refusals.Refusal.TheVariants.{Blocks, Layout}
use Rattle.registers.specs.Base.{Register, rows_under, register}
use Rattle.registers.specs.Layout.{base_of, columns_of}
use Rattle.registers.specs.Refusals.{refusal}

-- register 0, sluices: polder and width; register 1, polders: level and board; register 2, boards: 1 if at work
abbrev pub sluices : Register
sluices =
    record { key = 1; rows = (10 ∷ 4 ∷ []) ∷ [] }
    ∷ record { key = 2; rows = (10 ∷ 6 ∷ []) ∷ (11 ∷ 6 ∷ []) ∷ [] }
    ∷ record { key = 3; rows = (12 ∷ 5 ∷ []) ∷ [] }
    ∷ record { key = 4; rows = (11 ∷ 9 ∷ []) ∷ (11 ∷ 8 ∷ []) ∷ [] }
    ∷ []

abbrev pub polders : Register
polders =
    record { key = 10; rows = (3 ∷ 7 ∷ []) ∷ [] }
    ∷ record { key = 11; rows = (3 ∷ 7 ∷ []) ∷ (5 ∷ 7 ∷ []) ∷ [] }
    ∷ record { key = 12; rows = (2 ∷ 8 ∷ []) ∷ [] }
    ∷ []

abbrev pub boards : Register
boards = record { key = 7; rows = (1 ∷ []) ∷ [] } ∷ record { key = 8; rows = (1 ∷ []) ∷ (0 ∷ []) ∷ [] } ∷ []

abbrev pub example : List ℕ
example =
    3
    ∷ 4 ∷ 2 ∷ 1 ∷ 1 ∷ 10 ∷ 4 ∷ 2 ∷ 2 ∷ 10 ∷ 6 ∷ 11 ∷ 6 ∷ 3 ∷ 1 ∷ 12 ∷ 5 ∷ 4 ∷ 2 ∷ 11 ∷ 9 ∷ 11 ∷ 8
    ∷ 3 ∷ 2 ∷ 10 ∷ 1 ∷ 3 ∷ 7 ∷ 11 ∷ 2 ∷ 3 ∷ 7 ∷ 5 ∷ 7 ∷ 12 ∷ 1 ∷ 2 ∷ 8
    ∷ 2 ∷ 1 ∷ 7 ∷ 1 ∷ 1 ∷ 8 ∷ 2 ∷ 1 ∷ 0
    ∷ []

-- what the definitions say of it
pub record ExampleStands : Type 0 where
  pub base : base_of example ≡ sluices ∷ polders ∷ boards ∷ []
  pub columns : columns_of example ≡ 2 ∷ 2 ∷ 1 ∷ []
  pub accepted : refusal example ≡ None
  pub rows : rows_under 11 (register (base_of example) 1) ≡ (3 ∷ 7 ∷ []) ∷ (5 ∷ 7 ∷ []) ∷ []
  pub absent : rows_under 5 (register (base_of example) 0) ≡ []

-- and of what is made of it
pub record DamageRefused : Type 0 where
  pub empty : refusal [] ≡ Some (Layout 8)
  pub no_register : refusal (slice_set example 0 0) ≡ Some (Layout 8)
  pub a_register_more : refusal (slice_set example 0 4) ≡ Some (Layout 3)
  pub cut_early : refusal (take 22 example) ≡ Some (Layout 0)
  pub cut_late : refusal (take 47 example) ≡ Some (Layout 2)
  pub no_column : refusal (slice_set example 24 0) ≡ Some (Layout 1)
  pub large_cell : refusal (slice_set example 27 4294967296) ≡ Some (Layout 1)
  pub double_key : refusal (slice_set example 17 1) ≡ Some (Blocks 0)
  pub later_first : refusal (slice_set (slice_set example 17 1) 47 4294967296) ≡ Some (Layout 2)
