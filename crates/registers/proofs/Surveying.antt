-- Going over the registers of a slice: the first that fails a test, and where those stand that were passed.
use Rattle.std.proofs.Common.{◌≡◌, ℕ, zero, suc, ◌+◌, ◌*◌, ◌<◌, ◌≤◌, Bool, true, false, cond, ltb, leb, List, [], ◌∷◌, length, get_or, take, drop, set, ◌++◌, replicate, length-append, Some, None, Ok, Err, Option, slice_get, sym, refl, ap, subst, ◌∙◌, ap₂, ⊎_elim, add-one, arith}
use Rattle.std.proofs.lemmas.List.{get_or-set_same, get_or-set_other, length-set, length-take, get_or-replicate, set-append_left, take-append-drop}
use Rattle.std.proofs.lemmas.List.FromFn.{fill_by_all}
use Rattle.std.proofs.lemmas.Bool.{cases_eq, cond-true, cond-false}
use Rattle.std.proofs.lemmas.Bool.Decides.{nat_tests}
use Rattle.registers.specs.declared.layout.Section.{Section}
use Rattle.registers.specs.declared.refusals.Refusal.{Refusal}
use Rattle.registers.specs.Layout.{blocks_at, blocks_before, count_of, register_end, register_place}
use Rattle.registers.specs.Refusals.{answered, count_fits, first_failing, misfit, refused_at, register_fits, small}
use Rattle.registers.specs.Survey.{directory_of, no_section, section_at, section_of}
use Rattle.registers.proofs.Small.{run, run_le_length, small_drop}
use Rattle.registers.proofs.Fitting.{fit_from, fit_before_large}

-- no test failed so far
pub first_failing_more : (f : ℕ → Bool) (n : ℕ) → first_failing f n ≡ None → f n ≡ true → first_failing f (n + 1) ≡ None
unfolding first_failing
first_failing_more f n e h = rw add-one (rw e (rw h refl))

-- the first test that fails is the first of any more
pub first_failing_is : (f : ℕ → Bool) (n t : ℕ) → t < n → first_failing f t ≡ None → f t ≡ false → first_failing f n ≡ Some t
unfolding first_failing
first_failing_is f zero t h e k = absurd (omega arith)
first_failing_is f (suc n) t h e k =
    ⊎_elim
    (λ same. let b : first_failing f n ≡ None = rw same at e in let g : f n ≡ false = rw same at k in rw b (rw g (ap Some (sym same))))
    (λ other. let less : t < n = omega arith in rw (first_failing_is f n t less e k) refl)
    (cases_eq t n)

pub register_place_more : (xs : List ℕ) (t : ℕ) → register_place xs (t + 1) ≡ register_end xs (register_place xs t)
unfolding register_place
register_place_more xs t = rw add-one

pub blocks_before_more : (xs : List ℕ) (t : ℕ) → blocks_before xs (t + 1) ≡ blocks_before xs t + blocks_at xs (register_place xs t)
unfolding blocks_before
blocks_before_more xs t = rw add-one

-- what the survey knows when it comes to the t-th register
pub record Passed (xs : List ℕ) (t at blocks : ℕ) (sections : List Section) : Type 0 where
  pub place : at ≡ register_place xs t
  pub reached : at ≤ run xs
  pub fit : first_failing (λ i. register_fits xs (register_place xs i)) t ≡ None
  pub total : blocks ≡ blocks_before xs t
  pub few : blocks ≤ 4096 * t
  pub wide : length sections ≡ 8
  pub noted : (i : ℕ) → i < 8 → get_or sections i no_section ≡ cond (ltb i t) (section_of xs i) no_section

pub passed_none : (xs : List ℕ) → 1 ≤ run xs → Passed xs 0 1 0 (replicate 8 no_section)
unfolding register_place blocks_before first_failing
passed_none xs h =
    record { place = refl; reached = h; fit = refl; total = refl; few = omega arith; wide = refl; noted = λ i l. get_or-replicate 8 i no_section no_section l ∙ sym (cond-false (ltb i 0) (section_of xs i) no_section (grind (arith, nat_tests))) }

pub passed_more : (xs : List ℕ) (t at blocks : ℕ) (sections : List Section) → Passed xs t at blocks sections → t < 8 → register_fits xs at ≡ true → Passed xs (t + 1) (register_end xs at) (blocks + blocks_at xs at) (set sections t (section_at xs at blocks))
passed_more xs t at blocks sections k h f =
    let fit = fit_from xs at f in
    let here : section_at xs at blocks ≡ section_of xs t = ap₂ (section_at xs) k.place k.total in
    record {
      place = ap (register_end xs) k.place ∙ sym (register_place_more xs t);
      reached = fit_before_large xs at k.reached fit;
      fit = first_failing_more _ t k.fit (ap (register_fits xs) (sym k.place) ∙ f);
      total = ap₂ (λ (a b : ℕ). a + b) k.total (ap (blocks_at xs) k.place) ∙ sym (blocks_before_more xs t);
      few = omega (arith, fit.few_blocks);
      wide = length-set sections t _ ∙ k.wide;
      noted = λ i l.
          ⊎_elim
          (λ same.
          let wide : t < length sections = omega arith in
          ap (λ (j : ℕ). get_or (set sections t (section_at xs at blocks)) j no_section) same
          ∙ get_or-set_same sections t (section_at xs at blocks) no_section wide
          ∙ here
          ∙ ap (section_of xs) (sym same)
          ∙ sym (cond-true (ltb i (t + 1)) (section_of xs i) no_section (grind (arith, nat_tests))))
          (λ other.
          get_or-set_other sections t i (section_at xs at blocks) no_section other
          ∙ k.noted i l
          ∙ ap (λ (b : Bool). cond b (section_of xs i) no_section) (grind (arith, nat_tests)))
          (cases_eq i t);
    }

-- the same where the registers that are to be noted stand apart from the places that are left over
pub passed_begins : (xs : List ℕ) (n : ℕ) → n ≤ 8 → 1 ≤ run xs → (length (take n (replicate 8 no_section)) ≡ n) × Passed xs 0 1 0 (take n (replicate 8 no_section) ++ drop n (replicate 8 no_section))
passed_begins xs n few h = (
  length-take n (replicate 8 no_section) ∙ omega arith,
  subst (Passed xs 0 1 0) (sym (take-append-drop n (replicate 8 no_section))) (passed_none xs h),
)

pub passed_item : (xs : List ℕ) (t at blocks n : ℕ) (items left : List Section) → (length items ≡ n) × Passed xs t at blocks (items ++ left) → t < n → register_fits xs at ≡ true → (length (set items t (section_at xs at blocks)) ≡ n) × Passed xs (t + 1) (register_end xs at) (blocks + blocks_at xs at) (set items t (section_at xs at blocks) ++ left)
passed_item xs t at blocks n items left k h f = (
  length-set items t _ ∙ k.0,
  subst
      (Passed xs (t + 1) (register_end xs at) (blocks + blocks_at xs at))
      (set-append_left items left t _ (omega (arith, k.0)))
      (passed_more xs t at blocks (items ++ left) k.1 (omega (arith, k.0, k.1.wide, length-append items left)) f),
)

-- where the survey stops, and where it comes to the end
pub misfit_count : (xs : List ℕ) → count_fits xs ≡ false → misfit xs ≡ Some 8
unfolding misfit
misfit_count xs h = simp h

pub misfit_stops : (xs : List ℕ) (t at blocks : ℕ) (sections : List Section) → Passed xs t at blocks sections → count_fits xs ≡ true → t < count_of xs → register_fits xs at ≡ false → misfit xs ≡ Some t
unfolding misfit
misfit_stops xs t at blocks sections k c h f =
    let first : first_failing (λ i. register_fits xs (register_place xs i)) (count_of xs) ≡ Some t =
    first_failing_is _ (count_of xs) t h k.fit (ap (register_fits xs) (sym k.place) ∙ f) in
    simp (c, first)

pub misfit_ends : (xs : List ℕ) (t at blocks : ℕ) (sections : List Section) → Passed xs t at blocks sections → t ≡ count_of xs → count_fits xs ≡ true → misfit xs ≡ cond (leb (length xs) (run xs)) None (Some 8)
unfolding misfit
misfit_ends xs t at blocks sections k e c =
    let none : first_failing (λ i. register_fits xs (register_place xs i)) (count_of xs) ≡ None = rw e at k.fit in
    let small-tail : small (drop (register_place xs (count_of xs)) xs) ≡ leb (length xs) (run xs) =
    ap (λ (p : ℕ). small (drop p xs)) (sym (k.place ∙ ap (register_place xs) e))
    ∙ small_drop xs at k.reached (omega (arith, k.reached, run_le_length xs)) in
    simp (c, none, small-tail)

pub directory_ends : (xs : List ℕ) (n t at blocks : ℕ) (sections : List Section) → Passed xs t at blocks sections → n ≡ count_of xs → t ≡ count_of xs → record { count = n; blocks = blocks; sections = sections } ≡ directory_of xs
unfolding directory_of
directory_ends xs n t at blocks sections k c e =
    let total = k.total ∙ ap (blocks_before xs) e in
    let noted = fill_by_all (λ i. cond (ltb i (count_of xs)) (section_of xs i) no_section) sections 8 no_section k.wide
    (λ i l. k.noted i l ∙ ap (λ (m : ℕ). cond (ltb i m) (section_of xs i) no_section) e) in
    λ i. record { count = c i; blocks = total i; sections = noted i }

-- the answer that is told where a test fails at some place, and where it fails at none
pub told_at : {A : Type 0} (f : ℕ → Refusal) (o : Option ℕ) (t : ℕ) (a : A) → o ≡ Some t → Err (f t) ≡ answered (refused_at f o) a
told_at f o t a e = simp e

pub told_ok : {A : Type 0} (f : ℕ → Refusal) (o : Option ℕ) (x a : A) → o ≡ None → x ≡ a → Ok x ≡ answered (refused_at f o) a
told_ok f o x a e h = simp (e, h)

-- a slice that begins with a small number has a first place before its first large number
pub run_begins : (xs : List ℕ) → 1 ≤ length xs → get_or xs 0 0 ≤ 8 → 1 ≤ run xs
run_begins [] h l = absurd (omega arith)
run_begins (x ∷ xs) h l = let e : ltb x 4294967296 ≡ true = grind (arith, nat_tests) in rw e (omega arith)

-- what the first number of a slice tells of it
pub first_none : (xs : List ℕ) → None ≡ slice_get xs 0 → length xs ≡ 0
first_none [] e = refl
first_none (x ∷ xs) e = let z : ◌≡◌ {A = ℕ} 0 1 = cc in absurd (omega arith)

pub first_some : (xs : List ℕ) (x : ℕ) → Some x ≡ slice_get xs 0 → (1 ≤ length xs) × (x ≡ count_of xs)
first_some [] x e = let z : ◌≡◌ {A = ℕ} 0 1 = cc in absurd (omega arith)
first_some (y ∷ xs) x e = (omega arith, cc)
