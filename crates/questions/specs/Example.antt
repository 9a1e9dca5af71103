-- Two questions about sluices, polders and boards: the definitions tried on an example. Assumes nothing: these are
-- definitions.
use Rattle.std.specs.Prelude.{◌≡◌, ℕ, true, List, [], ◌∷◌, ◌++◌, take, Some, None, slice_set}
use Rattle.registers.specs.declared.refusals.Refusal.TheVariants.{Blocks}
use Rattle.questions.specs.declared.refusals.Refusal.TheVariants.{Registers, Signs, Twice}
use Rattle.registers.specs.Example.{example}
use Rattle.questions.specs.declared.kinds.Kind.TheVariants.{Is, AtLeast, AtMost}
use Rattle.questions.specs.Questions.{Question, ask, and_at, goes_to, no_more, simple}
use Rattle.questions.specs.Refusals.{refusal_of}
use Rattle.questions.specs.Signs.{asked, read}

-- a sluice whose polder has a level of at most 3 and a board at work
abbrev pub drained : Question
drained =
    ask 0 []
    (and_at 0
    (ask 1 (record { column = 0; kind = AtMost; number = 3 } ∷ [])
    (and_at 1 (ask 2 (record { column = 0; kind = Is; number = 1 } ∷ []) no_more) no_more))
    no_more)

abbrev pub drained_signs : List ℕ
drained_signs =
    0 ∷ 0 ∷ 0 ∷ 0 ∷ 0 ∷ 0 ∷ 0 ∷ 0 ∷ 0 ∷ 0 ∷ 0 ∷ 0 ∷ 0 ∷ 0 ∷ 1 ∷ 0 ∷ 0 ∷ 0 ∷ 0
    ∷ 1 ∷ 1 ∷ 0 ∷ 3 ∷ 3 ∷ 0 ∷ 0 ∷ 0 ∷ 0 ∷ 0 ∷ 0 ∷ 0 ∷ 0 ∷ 0 ∷ 1 ∷ 1 ∷ 0 ∷ 0 ∷ 0
    ∷ 2 ∷ 1 ∷ 0 ∷ 0 ∷ 1 ∷ 0 ∷ 0 ∷ 0 ∷ 0 ∷ 0 ∷ 0 ∷ 0 ∷ 0 ∷ 0 ∷ 0 ∷ 0 ∷ 0 ∷ 0 ∷ 0
    ∷ []

-- a sluice at least 6 wide
abbrev pub wide : Question
wide = ask 0 (record { column = 1; kind = AtLeast; number = 6 } ∷ []) no_more

abbrev pub wide_signs : List ℕ
wide_signs = 0 ∷ 1 ∷ 1 ∷ 2 ∷ 6 ∷ 0 ∷ 0 ∷ 0 ∷ 0 ∷ 0 ∷ 0 ∷ 0 ∷ 0 ∷ 0 ∷ 0 ∷ 0 ∷ 0 ∷ 0 ∷ 0 ∷ []

-- what the definitions say of them, over the registers of the example, whose columns are 2, 2 and 1
pub record ExampleStands : Type 0 where
  pub drained_read : asked (2 ∷ 2 ∷ 1 ∷ []) drained_signs ≡ read drained 3
  pub drained_goes : goes_to drained ≡ 0 ∷ 1 ∷ 2 ∷ []
  pub drained_simple : simple drained ≡ true
  pub drained_accepted : refusal_of example drained_signs ≡ None
  pub wide_read : asked (2 ∷ 2 ∷ 1 ∷ []) wide_signs ≡ read wide 1
  pub wide_accepted : refusal_of example wide_signs ≡ None

-- and of what is made of them
pub record DamageRefused : Type 0 where
  pub no_sign : refusal_of example [] ≡ Some (Signs 0)
  pub cut_in_a_sign : refusal_of example (take 56 drained_signs) ≡ Some (Signs 2)
  pub missing_sign : refusal_of example (take 38 drained_signs) ≡ Some (Signs 2)
  pub left_over : refusal_of example (wide_signs ++ wide_signs) ≡ Some (Signs 1)
  pub number_left_over : refusal_of example (wide_signs ++ 0 ∷ []) ≡ Some (Signs 1)
  pub nine_signs : refusal_of example (drained_signs ++ drained_signs ++ drained_signs) ≡ Some (Signs 8)
  pub no_register : refusal_of example (slice_set drained_signs 38 3) ≡ Some (Signs 2)
  pub no_column : refusal_of example (slice_set wide_signs 2 2) ≡ Some (Signs 0)
  pub no_column_for_further : refusal_of example (slice_set drained_signs 34 2) ≡ Some (Signs 1)
  pub no_kind : refusal_of example (slice_set wide_signs 3 4) ≡ Some (Signs 0)
  pub five_tests : refusal_of example (slice_set wide_signs 1 5) ≡ Some (Signs 0)
  pub five_further : refusal_of example (slice_set drained_signs 33 5) ≡ Some (Signs 1)
  pub twice : refusal_of example (slice_set drained_signs 38 0) ≡ Some (Twice 0)
  pub unread_before_twice : refusal_of example (slice_set (slice_set drained_signs 19 0) 41 4) ≡ Some (Signs 2)
  pub registers_first : refusal_of (slice_set example 17 1) [] ≡ Some (Registers (Blocks 0))
  pub junk_unused : refusal_of example (slice_set (slice_set wide_signs 5 99) 15 99) ≡ None
