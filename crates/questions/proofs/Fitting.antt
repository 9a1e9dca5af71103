-- A test that holds of all numbers below some, and what is known of a sign that can be read.
use Rattle.std.proofs.Common.{◌≡◌, ℕ, zero, suc, ◌+◌, ◌*◌, ◌<◌, ◌≤◌, Bool, true, ◌&&◌, List, [], ◌∷◌, map, length, get_or, sym, refl, ap, ◌∙◌, ap₂, ⊎_elim, arith}
use Rattle.std.specs.List.{list_all, range_with_len}
use Rattle.std.proofs.Math.Bool.{and-true}
use Rattle.std.proofs.lemmas.Bool.{and_parts, cases_eq, leb-true, ltb-true}
use Rattle.std.proofs.lemmas.List.Folds.{list_all-append, list_all-map}
use Rattle.std.proofs.lemmas.List.FromFn.{map-range_with_len_more}
use Rattle.questions.specs.Signs.{column_fits, each_below, number_at, parts_fit, register_at, sign_fits, test_fits}

pub each_counted : (f : ℕ → Bool) (n : ℕ) → list_all f (range_with_len 0 n) ≡ each_below f n
unfolding each_below
each_counted f zero = refl
each_counted f (suc n) =
    let more : suc n ≡ n + 1 = omega arith in
    sym (list_all-map (λ b. b) f (range_with_len 0 (suc n)))
    ∙ ap (λ (m : ℕ). list_all (λ b. b) (map f (range_with_len 0 m))) more
    ∙ ap (list_all (λ b. b)) (map-range_with_len_more f 0 n n (omega arith))
    ∙ list_all-append (λ b. b) (map f (range_with_len 0 n)) (f n ∷ [])
    ∙ ap₂ ◌&&◌ (list_all-map (λ b. b) f (range_with_len 0 n) ∙ each_counted f n) (and-true (f n))

-- what holds of all holds of each
pub each_at : (f : ℕ → Bool) (n i : ℕ) → i < n → each_below f n ≡ true → f i ≡ true
unfolding each_below
each_at f zero i l h = absurd (omega arith)
each_at f (suc n) i l h =
    let parts = and_parts (each_below f n) (f n) h in
    ⊎_elim
    (λ same. rw same parts.1)
    (λ other. each_at f n i (omega arith) parts.0)
    (cases_eq i n)

-- a sign that can be read
pub record Fit (widths xs : List ℕ) (sign : ℕ) : Type 0 where
  pub there : (sign + 1) * 19 ≤ length xs
  pub register : register_at xs sign < length widths
  pub few_tests : number_at xs sign 1 ≤ 4
  pub few_further : number_at xs sign 14 ≤ 4
  pub tests : each_below (test_fits (get_or widths (register_at xs sign) 0) xs sign) (number_at xs sign 1) ≡ true
  pub columns : each_below (column_fits (get_or widths (register_at xs sign) 0) xs sign) (number_at xs sign 14) ≡ true

pub fit_from : (widths xs : List ℕ) (sign : ℕ) → sign_fits widths xs sign ≡ true → Fit widths xs sign
unfolding sign_fits parts_fit
fit_from widths xs sign h =
    let a = and_parts _ _ h in
    let b = and_parts _ _ a.1 in
    let c = and_parts _ _ b.1 in
    let d = and_parts _ _ c.1 in
    let e = and_parts _ _ d.1 in
    record {
      there = leb-true _ _ a.0;
      register = ltb-true _ _ b.0;
      few_tests = leb-true _ _ c.0;
      few_further = leb-true _ _ d.0;
      tests = e.0;
      columns = e.1;
    }
