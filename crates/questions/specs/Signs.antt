-- Which question a slice of signs stands for, over registers of so many columns each. Assumes nothing: these are
-- definitions.
--
-- A sign is 19 numbers: the register; how many tests; room for four of them, each a column, a kind and a number; how
-- many further questions; room for their four columns. Behind a sign stand its further questions, in order, each with
-- all of its own. Signs count from 0. What is not used is not looked at.
use Rattle.std.specs.Prelude.{◌≡◌, ℕ, zero, suc, ◌+◌, ◌*◌, ◌<◌, ◌≤◌, Bool, true, cond, ◌&&◌, List, [], ◌∷◌, map, length, Result, MatchResult, ◌==◌, nat_le, nat_lt, slice_index}
use Rattle.std.specs.List.{range_with_len}
use Rattle.questions.specs.declared.kinds.Kind.{Kind}
use Rattle.questions.specs.declared.kinds.Kind.TheVariants.{Is, IsNot, AtLeast, AtMost}
use Rattle.questions.specs.declared.kinds.Test.{Test}
use Rattle.questions.specs.declared.kinds.UnknownKind.{UnknownKind}
use Rattle.questions.specs.Questions.{Question, Further, ask, no_more, and_at}

-- how many numbers a sign has
abbrev pub sign_len : ℕ
sign_len = 19

-- how many signs a question has at most, and how many tests and further questions a sign
abbrev pub most_signs : ℕ
most_signs = 8

abbrev pub most_tests : ℕ
most_tests = 4

abbrev pub most_further : ℕ
most_further = 4

-- there are at most so many signs
abbrev pub Short : List ℕ → Type 0
Short xs = length xs ≤ most_signs * sign_len

-- so many signs are all there
abbrev pub There : List ℕ → ℕ → Type 0
There xs signs = signs * sign_len ≤ length xs

-- a number of a sign
abbrev pub number_at : List ℕ → (sign i : ℕ) → ℕ
number_at xs sign i = slice_index xs (sign * sign_len + i)

-- the register that a sign names, and how many tests and further questions it has
abbrev pub register_at : List ℕ → ℕ → ℕ
register_at xs sign = number_at xs sign 0

abbrev pub test_count : List ℕ → ℕ → ℕ
test_count xs sign = number_at xs sign 1

abbrev pub further_count : List ℕ → ℕ → ℕ
further_count xs sign = number_at xs sign 14

-- the kinds of test are 0 to 3
abbrev pub kind_of : ℕ → Kind
kind_of n = cond (n == 0) Is (cond (n == 1) IsNot (cond (n == 2) AtLeast AtMost))

-- a number stands for its kind, or for none
abbrev pub Decodes : ℕ → Result Kind UnknownKind → Type 0
Decodes n r = MatchResult r (λ kind. (n ≤ 3) × (kind ≡ kind_of n)) (λ e. (3 < n) × (e.0 ≡ n))

-- one of its tests
abbrev pub test_at : List ℕ → (sign i : ℕ) → Test
test_at xs sign i =
    record {
      column = number_at xs sign (2 + i * 3);
      kind = kind_of (number_at xs sign (3 + i * 3));
      number = number_at xs sign (4 + i * 3);
    }

-- all of them, and the columns of its further questions
abbrev pub tests_at : List ℕ → ℕ → List Test
tests_at xs sign = map (test_at xs sign) (range_with_len 0 (test_count xs sign))

abbrev pub columns_at : List ℕ → ℕ → List ℕ
columns_at xs sign = map (λ i. number_at xs sign (15 + i)) (range_with_len 0 (further_count xs sign))

-- a test holds of all numbers below n
unfoldable pub each_below : (ℕ → Bool) → ℕ → Bool
each_below f zero = true
each_below f (suc n) = each_below f n && f n

-- the column of a test or of a further question is one of so many, and the kind is one of the four
abbrev pub test_fits : (columns : ℕ) → List ℕ → (sign i : ℕ) → Bool
test_fits columns xs sign i = nat_lt (number_at xs sign (2 + i * 3)) columns && nat_le (number_at xs sign (3 + i * 3)) 3

abbrev pub column_fits : (columns : ℕ) → List ℕ → (sign i : ℕ) → Bool
column_fits columns xs sign i = nat_lt (number_at xs sign (15 + i)) columns

-- a sign that names a register of so many columns has not too many tests and further questions, and all of them fit
unfoldable pub parts_fit : (columns : ℕ) → List ℕ → ℕ → Bool
parts_fit columns xs sign =
    nat_le (test_count xs sign) most_tests
    && (nat_le (further_count xs sign) most_further
    && (each_below (test_fits columns xs sign) (test_count xs sign)
    && each_below (column_fits columns xs sign) (further_count xs sign)))

-- a sign can be read: it is all there, its register is one of them, and its parts fit
unfoldable pub sign_fits : (widths xs : List ℕ) → ℕ → Bool
sign_fits widths xs sign =
    nat_le ((sign + 1) * sign_len) (length xs)
    && (nat_lt (register_at xs sign) (length widths) && parts_fit (slice_index widths (register_at xs sign)) xs sign)

-- THE MEANING. The signs from s on, up to e, stand for a question, and for further questions at these columns.
unfoldable mutual
  pub Stands : (widths xs : List ℕ) → Question → (s e : ℕ) → Type 0
  Stands widths xs (ask t tests further) s e =
      (sign_fits widths xs s ≡ true)
      × (t ≡ register_at xs s)
      × (tests ≡ tests_at xs s)
      × Follow widths xs further (columns_at xs s) (s + 1) e

  pub Follow : (widths xs : List ℕ) → Further → (columns : List ℕ) → (s e : ℕ) → Type 0
  Follow widths xs no_more columns s e = (columns ≡ []) × (s ≡ e)
  Follow widths xs (and_at c q further) columns s e =
      (m : ℕ) × (rest : List ℕ) × (columns ≡ c ∷ rest) × Stands widths xs q s m × Follow widths xs further rest m e

-- READING IT. What comes of reading: a value and the sign behind it, or the first sign that cannot be read.
pub data Reading (A : Type 0) : Type 0 where
  read : A → ℕ → Reading A
  stuck : ℕ → Reading A

-- reading goes on behind what was read
unfoldable pub then : {A B : Type 0} → Reading A → (A → ℕ → Reading B) → Reading B
then (read a s) go = go a s
then (stuck s) go = stuck s

-- further questions, one behind the other
unfoldable pub reads_further : (ℕ → Reading Question) → (columns : List ℕ) → ℕ → Reading Further
reads_further reads [] s = read no_more s
reads_further reads (c ∷ columns) s =
    then (reads s) (λ q m. then (reads_further reads columns m) (λ further e. read (and_at c q further) e))

-- a sign and its further questions
unfoldable pub reads_sign : (ℕ → Reading Question) → (widths xs : List ℕ) → ℕ → Reading Question
reads_sign reads widths xs s =
    cond (sign_fits widths xs s)
    (then (reads_further reads (columns_at xs s) (s + 1)) (λ further e. read (ask (register_at xs s) (tests_at xs s) further) e))
    (stuck s)

-- a question in which further questions stand at most n deep
unfoldable pub reads_deep : ℕ → (widths xs : List ℕ) → ℕ → Reading Question
reads_deep zero widths xs s = stuck s
reads_deep (suc n) widths xs s = reads_sign (reads_deep n widths xs) widths xs s

-- the question that begins at a sign; among eight signs none is deeper
abbrev pub reads : (widths xs : List ℕ) → ℕ → Reading Question
reads widths xs s = reads_deep most_signs widths xs s

-- the question that all signs stand for: at most eight signs, and none left over
unfoldable pub asked : (widths xs : List ℕ) → Reading Question
asked widths xs =
    cond (nat_le (length xs) (most_signs * sign_len))
    (then (reads widths xs 0) (λ q e. cond (e * sign_len == length xs) (read q e) (stuck e)))
    (stuck most_signs)
