-- What the signs of a question in memory stand for, and what reading answers. Assumes nothing: these are definitions.
use Rattle.std.specs.Prelude.{◌≡◌, ℕ, List, Some, None, Option, Result, MatchResult, slice_index}
use Rattle.questions.specs.declared.refusals.Refusal.{Refusal}
use Rattle.questions.specs.declared.signs.Question.{Question as Cursor}
use Rattle.questions.specs.declared.signs.Signs.{Signs}
use Rattle.questions.specs.Questions.{Question, register_of}
use Rattle.questions.specs.Reading.{question_of}
use Rattle.questions.specs.Signs.{reads}

-- how many signs there are
abbrev pub signs_in : Signs → ℕ
signs_in q = q.outline.count

-- the question that begins at a sign; the first sign is the whole question
abbrev pub question_at : Signs → ℕ → Question
question_at q sign = question_of (reads q.widths.now q.numbers.now sign)

-- how many columns the register of a question has
abbrev pub width_of : Signs → Question → ℕ
width_of q p = slice_index q.widths.now (register_of p)

-- the question that is asked at a sign, and how many columns its register has
abbrev pub asked_at : Cursor → Question
asked_at q = question_at q.signs.now q.sign

abbrev pub width_at : Cursor → ℕ
width_at q = width_of q.signs.now (asked_at q)

-- what reading answers of signs over registers of so many columns each: the signs where they are not refused, or the
-- refusal
abbrev pub Answers : (widths xs : List ℕ) → Option Refusal → Result Signs Refusal → Type 0
Answers widths xs refusal r =
    MatchResult r
    (λ s. (refusal ≡ None) × (s.widths.now ≡ widths) × (s.numbers.now ≡ xs))
    (λ e. refusal ≡ Some e)
