-- Going over the tests of a question.
use Rattle.std.proofs.Common.{◌≡◌, ◌&&◌, List, [], ◌∷◌, length, get_or, sym, refl, ap, ◌∙◌}
use Rattle.std.specs.List.{list_all, range_with_len}
use Rattle.std.proofs.lemmas.List.Folds.{list_all-map}
use Rattle.std.proofs.lemmas.List.FromFn.{fill_by_all}
use Rattle.registers.specs.Base.{Row}
use Rattle.questions.specs.declared.kinds.Test.{Test}
use Rattle.questions.specs.Tests.{all_pass, passes}

pass_all : (tests : List Test) (row : Row) → list_all (λ t. passes t row) tests ≡ all_pass tests row
unfolding all_pass
pass_all [] row = refl
pass_all (test ∷ tests) row = ap (◌&&◌ (passes test row)) (pass_all tests row)

-- each of them by its number
pub pass_counted : (tests : List Test) (d : Test) (row : Row) → list_all (λ i. passes (get_or tests i d) row) (range_with_len 0 (length tests)) ≡ all_pass tests row
pass_counted tests d row =
    sym (list_all-map (λ t. passes t row) (λ i. get_or tests i d) (range_with_len 0 (length tests)))
    ∙ ap (list_all (λ t. passes t row)) (sym (fill_by_all (λ i. get_or tests i d) tests (length tests) d refl (λ k l. refl)))
    ∙ pass_all tests row
