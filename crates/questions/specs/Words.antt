-- The words for tests and for refusals. Assumes nothing: these are definitions.
use Rattle.std.specs.Prelude.{ℕ, List, ◌++◌, codes, decimal}
use Rattle.questions.specs.declared.kinds.Kind.{Kind}
use Rattle.questions.specs.declared.kinds.Kind.TheVariants.{Is, IsNot, AtLeast, AtMost}
use Rattle.questions.specs.declared.kinds.Test.{Test}
use Rattle.questions.specs.declared.kinds.UnknownKind.{UnknownKind}
use Rattle.questions.specs.declared.refusals.Refusal.{Refusal}
use Rattle.questions.specs.Refusals.{number, place}

abbrev pub kind_words : Kind → List ℕ
kind_words Is = codes "is"
kind_words IsNot = codes "is not"
kind_words AtLeast = codes "at least"
kind_words AtMost = codes "at most"

abbrev pub test_words : Test → List ℕ
test_words test =
    codes "column " ++ decimal test.column ++ codes " " ++ kind_words test.kind ++ codes " " ++ decimal test.number

abbrev pub unknown_words : UnknownKind → List ℕ
unknown_words e = codes "no kind of test has number " ++ decimal e.0

abbrev pub refusal_words : Refusal → List ℕ
refusal_words refusal = codes "refused " ++ decimal (number refusal) ++ codes " " ++ decimal (place refusal)
