-- How a question stands in the input, behind the registers. Assumes nothing: these are definitions.
--
-- It is one byte for how many signs it has, the signs, 19 numbers each, and one number for the column to be summed. A
-- number is four bytes, low byte first. The byte says where the next question begins, whatever else is wrong.
use Rattle.std.specs.Prelude.{◌≡◌, ℕ, ◌+◌, ◌*◌, cond, List, [], ◌∷◌, length, take, drop, Some, Option, MatchOption, nat_lt, slice_index}
use Rattle.input.specs.Numbers.{numbers_of}
use Rattle.ask_questions.specs.declared.parts.Part.{Part}
use Rattle.questions.specs.declared.refusals.Refusal.{Refusal}
use Rattle.questions.specs.declared.refusals.Refusal.TheVariants.{Signs}
use Rattle.questions.specs.Questions.{Question}
use Rattle.questions.specs.Refusals.{signs_refusal}
use Rattle.questions.specs.Signs.{Reading, asked, most_signs, read, sign_len, stuck}

-- all bytes from a question on
abbrev pub bytes_of : Part → List ℕ
bytes_of part = part.signs ∷ part.rest.now

-- how many signs the question says that it has
abbrev pub said : List ℕ → ℕ
said bytes = slice_index bytes 0

-- the numbers of so many signs, as far as they are there
abbrev pub signs_of : (n : ℕ) (bytes : List ℕ) → List ℕ
signs_of n bytes = take (n * sign_len) (numbers_of bytes)

-- the sign at which reading stops, and behind which nothing more is there
abbrev pub stops : Reading Question → ℕ
stops (stuck s) = s
stops (read q e) = e

-- a question of so many signs: what is not all there, up to the number of the column, is refused as one that cannot be
-- read
unfoldable pub cut_refusal : (widths : List ℕ) (n : ℕ) (bytes : List ℕ) → Option Refusal
cut_refusal widths n bytes =
    cond (nat_lt (n * sign_len) (length (numbers_of bytes)))
    (signs_refusal widths (signs_of n bytes))
    (Some (Signs (stops (asked widths (signs_of n bytes)))))

-- the question that the bytes begin with
abbrev pub part_signs : (bytes : List ℕ) → List ℕ
part_signs bytes = signs_of (said bytes) (drop 1 bytes)

unfoldable pub part_refusal : (widths bytes : List ℕ) → Option Refusal
part_refusal widths bytes =
    cond (nat_lt most_signs (said bytes)) (Some (Signs most_signs)) (cut_refusal widths (said bytes) (drop 1 bytes))

-- how many bytes a question of so many signs takes: the one in front, those of the column, and those of the signs
abbrev pub size_of : (signs : ℕ) → ℕ
size_of signs = 1 + 4 + signs * (sign_len * 4)

-- going from question to question: where bytes are left, a question begins with the first of them, and the next one
-- begins behind it; after the end nothing is left either
abbrev pub Steps : (before : List ℕ) → Option Part → (after : List ℕ) → Type 0
Steps before part after =
    MatchOption part
    ((before ≡ []) × (after ≡ []))
    (λ p. (before ≡ bytes_of p) × (after ≡ drop (size_of p.signs) before))
