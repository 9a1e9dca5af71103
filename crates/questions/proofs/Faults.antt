-- Where reading stops: the signs before can be read, and that one cannot.
use Rattle.std.proofs.Common.{◌≡◌, ℕ, zero, suc, ◌+◌, ◌*◌, ◌<◌, ◌≤◌, true, false, List, [], ◌∷◌, length, sym, ap, ◌∙◌, ⊎_elim, arith}
use Rattle.std.proofs.lemmas.Bool.{cases_Bool, cases_lt, cond-false, cond-true}
use Rattle.std.proofs.lemmas.Bool.Decides.{nat_tests}
use Rattle.questions.specs.Signs.{columns_at, reads_deep, reads_further, reads_sign, sign_fits, sign_len, stuck}
use Rattle.questions.proofs.Deep.{then_stuck}
use Rattle.questions.proofs.Trees.{deep_stands, stands_bounds, stands_fits}

-- reading that began at a sign stopped at another
pub record Stopped (widths xs : List ℕ) (s p : ℕ) : Type 0 where
  pub low : s ≤ p
  pub before : (u : ℕ) → s ≤ u → u < p → sign_fits widths xs u ≡ true
  pub here : sign_fits widths xs p ≡ false

module _ (widths xs : List ℕ) where
  -- behind a question, or behind a sign, it is the same
  stopped_behind : (s m p : ℕ) → s ≤ m → ((u : ℕ) → s ≤ u → u < m → sign_fits widths xs u ≡ true) → Stopped widths xs m p → Stopped widths xs s p
  stopped_behind s m p l fits k =
      record {
        low = omega (arith, k.low);
        before = λ u a b. ⊎_elim (λ first. fits u a first) (λ later. k.before u later b) (cases_lt u m);
        here = k.here;
      }

  -- further questions stop where one of them does
  stopped_further : (n from : ℕ) → ((u p : ℕ) → from ≤ u → reads_deep n widths xs u ≡ stuck p → Stopped widths xs u p) → (columns : List ℕ) (s p : ℕ) → from ≤ s → reads_further (reads_deep n widths xs) columns s ≡ stuck p → Stopped widths xs s p
  unfolding reads_further
  stopped_further n from each [] s p l h = cc
  stopped_further n from each (c ∷ columns) s p l h =
      ⊎_elim
      (λ first. each s p l first)
      (λ went.
      let stands = deep_stands widths xs went.0 n s went.1 went.2 in
      let bounds = stands_bounds widths xs went.0 s went.1 stands in
      ⊎_elim
      (λ later.
      stopped_behind s went.1 p (omega arith) (λ u a b. stands_fits widths xs went.0 s went.1 u stands a b)
      (stopped_further n from each columns went.1 p (omega arith) later))
      (λ done. let end = done.3 in cc)
      (then_stuck (reads_further (reads_deep n widths xs) columns went.1) _ p went.3))
      (then_stuck (reads_deep n widths xs s) _ p h)

  -- a sign that is not all there
  cut_off : (s : ℕ) → length xs < (s + 1) * sign_len → sign_fits widths xs s ≡ false
  unfolding sign_fits
  cut_off s l = grind (arith, nat_tests)

  -- so does a question, if it may go as deep as there are signs
  pub deep_stops : (n s p : ℕ) → length xs < (s + n + 1) * sign_len → reads_deep n widths xs s ≡ stuck p → Stopped widths xs s p
  unfolding reads_deep reads_sign
  deep_stops zero s p l h =
      let same : s ≡ p = cc in
      record { low = omega arith; before = λ u a b. absurd (omega arith); here = ap (sign_fits widths xs) (sym same) ∙ cut_off s (omega arith) }
  deep_stops (suc n) s p l h =
      ⊎_elim
      (λ fits.
      ⊎_elim
      (λ behind.
      stopped_behind s (s + 1) p (omega arith)
      (λ u a b. let same : u ≡ s = omega arith in ap (sign_fits widths xs) same ∙ fits)
      (stopped_further n (s + 1) (λ u q a. deep_stops n u q (omega arith)) (columns_at xs s) (s + 1) p (omega arith) behind))
      (λ done. let end = done.3 in cc)
      (then_stuck (reads_further (reads_deep n widths xs) (columns_at xs s) (s + 1)) _ p (sym (cond-true _ _ _ fits) ∙ h)))
      (λ unfit.
      let stop = sym (cond-false _ _ _ unfit) ∙ h in
      let same : s ≡ p = cc in
      record { low = omega arith; before = λ u a b. absurd (omega arith); here = ap (sign_fits widths xs) (sym same) ∙ unfit })
      (cases_Bool (sign_fits widths xs s))
