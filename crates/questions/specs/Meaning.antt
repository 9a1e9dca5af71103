-- What the answers mean, in what signs stand for alone. Assumes nothing: these are definitions.
use Rattle.std.specs.Prelude.{◌≡◌, ℕ, ◌*◌, ◌<◌, true, false, not, ◌⊎◌, List, [], length, is_some, Some, None, Ok, Err, Option, Result}
use Rattle.questions.specs.declared.refusals.Refusal.{Refusal}
use Rattle.questions.specs.declared.refusals.Refusal.TheVariants.{Registers, Signs, Twice}
use Rattle.questions.specs.Questions.{Question, first_again, goes_to, simple}
use Rattle.questions.specs.Signs.{Short, Stands, asked, most_signs, read, sign_fits, sign_len}

-- all signs stand for a question: so many of them, at most eight, and none is left over
pub record Whole (widths xs : List ℕ) (q : Question) (e : ℕ) : Type 0 where
  pub short : Short xs
  pub stands : Stands widths xs q 0 e
  pub all : e * sign_len ≡ length xs

-- the first sign that cannot be read: those before it can, and it does not fit or is left over
pub record Fault (widths xs : List ℕ) (s : ℕ) : Type 0 where
  pub before : (u : ℕ) → u < s → sign_fits widths xs u ≡ true
  pub here : (sign_fits widths xs s ≡ false) ⊎ ((q : Question) × Stands widths xs q 0 s)

-- they stand for no question; the place is the first sign that cannot be read, or 8 where there are more than eight
pub record Unread (widths xs : List ℕ) (s : ℕ) : Type 0 where
  pub none : (q : Question) (e : ℕ) → Whole widths xs q e → ⊥
  pub fault : Short xs → Fault widths xs s
  pub long : (Short xs → ⊥) → s ≡ most_signs

-- no refusal: they stand for a question that goes to no register twice; 3: they stand for none, and the place is the first
-- sign that cannot be read; 4: they stand for one that goes to a register twice, and that is the first to come again
abbrev pub Means : (widths xs : List ℕ) → Option Refusal → Type 0
Means widths xs None = (q : Question) × (e : ℕ) × Whole widths xs q e × (simple q ≡ true)
Means widths xs (Some (Registers r)) = ⊥
Means widths xs (Some (Signs s)) = Unread widths xs s
Means widths xs (Some (Twice t)) = (q : Question) × (e : ℕ) × Whole widths xs q e × (first_again [] (goes_to q) ≡ Some t)

-- the refusal in an answer
abbrev pub refusal_in : {A : Type 0} → Result A Refusal → Option Refusal
refusal_in (Ok a) = None
refusal_in (Err r) = Some r

-- what is read is what the signs stand for, and what they stand for is read
pub record ReadExactly : Type 0 where
  pub sound : (widths xs : List ℕ) (q : Question) (e : ℕ) → asked widths xs ≡ read q e → Whole widths xs q e
  pub complete : (widths xs : List ℕ) (q : Question) (e : ℕ) → Whole widths xs q e → asked widths xs ≡ read q e

-- a question goes to no register twice exactly if none comes again in reading order
abbrev pub SimpleExactly : Type 0
SimpleExactly = (q : Question) → simple q ≡ not (is_some (first_again [] (goes_to q)))
