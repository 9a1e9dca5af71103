-- Tests of a row: one of its columns against a number. Assumes nothing: these are definitions.
use Rattle.std.specs.Prelude.{ℕ, Bool, true, not, ◌&&◌, List, [], ◌∷◌, ◌==◌, nat_le, slice_index}
use Rattle.registers.specs.Base.{Row}
use Rattle.questions.specs.declared.kinds.Kind.{Kind}
use Rattle.questions.specs.declared.kinds.Kind.TheVariants.{Is, IsNot, AtLeast, AtMost}
use Rattle.questions.specs.declared.kinds.Test.{Test}

-- the number in the column is that number, is not that number, is at least or at most that number
abbrev pub compares : Kind → (cell number : ℕ) → Bool
compares Is cell number = cell == number
compares IsNot cell number = not (cell == number)
compares AtLeast cell number = nat_le number cell
compares AtMost cell number = nat_le cell number

abbrev pub passes : Test → Row → Bool
passes test row = compares test.kind (slice_index row test.column) test.number

-- a row passes all tests
unfoldable pub all_pass : List Test → Row → Bool
all_pass [] row = true
all_pass (test ∷ tests) row = passes test row && all_pass tests row
