-- In which words a question is said. Assumes nothing: these are definitions.
use Rattle.std.specs.Prelude.{ℕ, List, [], ◌∷◌, ◌++◌, codes, decimal, map}
use Rattle.std.specs.List.{join_by}
use Rattle.questions.specs.Questions.{Question, Further, ask, no_more, and_at}
use Rattle.questions.specs.Words.{test_words}

-- the parts of a question in a row, with a comma between each two; without parts it asks nothing of a row
abbrev pub parts_words : List (List ℕ) → List ℕ
parts_words [] = codes "any row"
parts_words (part ∷ parts) = join_by (λ p. p) (codes ", ") (part ∷ parts)

-- a question: its register, its tests, and its further questions in brackets
unfoldable mutual
  pub question_words : Question → List ℕ
  question_words (ask t tests further) =
      codes "register " ++ decimal t ++ codes ": " ++ parts_words (map test_words tests ++ further_words further)

  pub further_words : Further → List (List ℕ)
  further_words no_more = []
  further_words (and_at c q further) =
      (codes "column " ++ decimal c ++ codes " is a key of (" ++ question_words q ++ codes ")") ∷ further_words further
