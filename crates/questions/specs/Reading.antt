-- Over which registers signs are read, and where their questions end: what reading answers to the crates above. Assumes
-- nothing: these are definitions.
use Rattle.std.specs.Prelude.{◌≡◌, ℕ, zero, suc, ◌<◌, ◌≤◌, cond, ◌⊎◌, List, [], map, Ok, Err, Option, Result, nat_lt, slice_index, slice_index_or}
use Rattle.std.specs.Bool.{then_some}
use Rattle.std.specs.List.{range_with_len}
use Rattle.registers.specs.declared.layout.Directory.{Directory}
use Rattle.questions.specs.declared.refusals.Refusal.{Refusal}
use Rattle.questions.specs.declared.refusals.Refusal.TheVariants.{Signs}
use Rattle.registers.specs.Survey.{no_section}
use Rattle.questions.specs.declared.outline.Outline.{Outline}
use Rattle.questions.specs.Questions.{Question, ask, has, no_more}
use Rattle.questions.specs.Signs.{Reading, read, register_at, stuck, reads, asked}

-- how many columns each register has, in room for eight
unfoldable pub widths_of : Directory → List ℕ
widths_of directory = map (λ t. (slice_index_or directory.sections t no_section).columns) (range_with_len 0 8)

-- the sign behind what was read, or the refusal
abbrev pub outcome : {A : Type 0} → Reading A → Result ℕ Refusal
outcome (read a e) = Ok e
outcome (stuck s) = Err (Signs s)

-- the sign behind what was read
abbrev pub end_of : {A : Type 0} → Reading A → ℕ
end_of (read a e) = e
end_of (stuck s) = 0

-- the question that was read
abbrev pub question_of : Reading Question → Question
question_of (read q e) = q
question_of (stuck s) = ask 0 [] no_more

-- how many signs the question has
unfoldable pub count_of : (widths xs : List ℕ) → ℕ
count_of widths xs = end_of (asked widths xs)

-- for each sign the sign behind the question that begins there, in room for eight
unfoldable pub ends_of : (widths xs : List ℕ) → List ℕ
ends_of widths xs = map (λ s. cond (nat_lt s (count_of widths xs)) (end_of (reads widths xs s)) 0) (range_with_len 0 8)

unfoldable pub outline_of : (widths xs : List ℕ) → Outline
outline_of widths xs = record { count = count_of widths xs; ends = ends_of widths xs }

-- HOW IT IS WORKED OUT. So many questions, one behind the other.
abbrev pub next : Result ℕ Refusal → (ℕ → Result ℕ Refusal) → Result ℕ Refusal
next (Ok e) go = go e
next (Err r) go = Err r

unfoldable pub passed : (ℕ → Result ℕ Refusal) → (left s : ℕ) → Result ℕ Refusal
passed go zero s = Ok s
passed go (suc left) s = next (go s) (passed go left)

-- the register of a sign, if an earlier sign goes there
abbrev pub again_at : List ℕ → ℕ → Option ℕ
again_at xs sign =
    then_some (has (map (register_at xs) (range_with_len 0 sign)) (register_at xs sign)) (register_at xs sign)

-- the ends of the questions that begin from one sign up to another are noted, and no other place is written
pub record Noted (widths xs : List ℕ) (from to : ℕ) (before after : List ℕ) : Type 0 where
  pub noted : (s : ℕ) → from ≤ s → s < to → slice_index after s ≡ end_of (reads widths xs s)
  pub kept : (s : ℕ) → (s < from) ⊎ (to ≤ s) → slice_index after s ≡ slice_index before s
