-- Questions that go from register to register. Assumes nothing: these are definitions.
use Rattle.std.specs.Prelude.{ℕ, Bool, true, false, cond, not, ◌&&◌, ◌||◌, List, [], ◌∷◌, ◌++◌, Some, None, Option, ◌==◌}
use Rattle.questions.specs.declared.kinds.Test.{Test}

-- a question names a register, tests on its columns, and further questions, each at a column in which its keys stand
mutual
  pub data Question : Type 0 where
    ask : ℕ → List Test → Further → Question

  pub data Further : Type 0 where
    no_more : Further
    and_at : ℕ → Question → Further → Further

abbrev pub register_of : Question → ℕ
register_of (ask t tests further) = t

abbrev pub tests_of : Question → List Test
tests_of (ask t tests further) = tests

abbrev pub further_of : Question → Further
further_of (ask t tests further) = further

-- the columns of further questions, and these themselves, in order
unfoldable pub columns_in : Further → List ℕ
columns_in no_more = []
columns_in (and_at c q further) = c ∷ columns_in further

unfoldable pub questions_in : Further → List Question
questions_in no_more = []
questions_in (and_at c q further) = q ∷ questions_in further

-- the registers to which a question goes, in reading order
unfoldable mutual
  pub goes_to : Question → List ℕ
  goes_to (ask t tests further) = t ∷ all_go further

  pub all_go : Further → List ℕ
  all_go no_more = []
  all_go (and_at c q further) = goes_to q ++ all_go further

unfoldable pub has : List ℕ → ℕ → Bool
has [] n = false
has (m ∷ ms) n = m == n || has ms n

unfoldable pub distinct : List ℕ → Bool
distinct [] = true
distinct (n ∷ ns) = not (has ns n) && distinct ns

-- it goes to no register twice
unfoldable pub simple : Question → Bool
simple q = distinct (goes_to q)

-- the first of the numbers to come that is one of those before it
unfoldable pub first_again : (before coming : List ℕ) → Option ℕ
first_again before [] = None
first_again before (n ∷ ns) = cond (has before n) (Some n) (first_again (before ++ n ∷ []) ns)
