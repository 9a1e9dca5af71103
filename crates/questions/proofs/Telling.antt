-- What reading tells of all signs: the refusal, or where the questions end.
use Rattle.std.proofs.Common.{◌≡◌, ℕ, ◌*◌, ◌<◌, cond, eqb, ltb, List, [], map, length, replicate, Some, None, Ok, Err, Option, sym, refl, ap, ◌∙◌, ap₂, inr, ⊎_elim, arith}
use Rattle.std.specs.List.{range_with_len}
use Rattle.std.proofs.lemmas.List.FromFn.{fill_by_all}
use Rattle.std.proofs.lemmas.List.{get_or-replicate}
use Rattle.std.proofs.lemmas.Bool.{cases_lt, cond-false, cond-true, le-leb, le-ltb, lt-leb, lt-ltb, ne_eqb}
use Rattle.questions.specs.declared.refusals.Refusal.{Refusal}
use Rattle.questions.specs.declared.refusals.Refusal.TheVariants.{Signs, Twice}
use Rattle.questions.specs.Questions.{Question, first_again, goes_to}
use Rattle.questions.specs.Reading.{Noted, count_of, end_of, ends_of, outcome, outline_of}
use Rattle.questions.specs.Refusals.{answered, refused_at, refused, signs_refusal}
use Rattle.questions.specs.Signs.{asked, read, Reading, reads, register_at, Short, stuck, then}
use Rattle.questions.proofs.Meaning.{read_complete}
use Rattle.questions.proofs.Passing.{outcome_ok}
use Rattle.questions.proofs.Trees.{read_stands, stands_goes}

-- there is an answer exactly where there is no refusal
pub answered_ok : {A : Type 0} (o : Option Refusal) (x y : A) → Ok x ≡ answered o y → (o ≡ None) × (x ≡ y)
answered_ok None x y h = (refl, cc)
answered_ok (Some e) x y h = cc

pub answered_none : {A : Type 0} (o : Option Refusal) (x y : A) → o ≡ None → x ≡ y → Ok x ≡ answered o y
answered_none o x y none same = ap Ok same ∙ ap (λ (p : Option Refusal). answered p y) (sym none)

outcome_err : {A : Type 0} (r : Reading A) (x : Refusal) → Err x ≡ outcome r → (s : ℕ) × (r ≡ stuck s) × (Signs s ≡ x)
outcome_err (read a m) x h = cc
outcome_err (stuck s) x h = (s, refl, cc)

module _ (widths xs : List ℕ) where
  -- signs that cannot be read
  told_stuck : (s : ℕ) → asked widths xs ≡ stuck s → signs_refusal widths xs ≡ Some (Signs s)
  unfolding signs_refusal
  told_stuck s h = ap refused h

  -- more than eight
  pub told_long : 8 * 19 < length xs → signs_refusal widths xs ≡ Some (Signs 8)
  unfolding asked
  told_long h = told_stuck 8 (cond-false _ _ _ (lt-leb (length xs) (8 * 19) h))

  -- at most eight
  module _ (short : Short xs) where
    asked_short : asked widths xs ≡ then (reads widths xs 0) (λ q e. cond (eqb (e * 19) (length xs)) (read q e) (stuck e))
    unfolding asked
    asked_short = cond-true _ _ _ (le-leb (length xs) (8 * 19) short)

    asked_then : (r : Reading Question) → reads widths xs 0 ≡ r → asked widths xs ≡ then r (λ q e. cond (eqb (e * 19) (length xs)) (read q e) (stuck e))
    asked_then r h = asked_short ∙ ap (λ (x : Reading Question). then x (λ q e. cond (eqb (e * 19) (length xs)) (read q e) (stuck e))) h

    -- one that cannot be read
    pub told_unread : (x : Refusal) → Err x ≡ outcome (reads widths xs 0) → signs_refusal widths xs ≡ Some x
    unfolding then
    told_unread x h =
        let at = outcome_err (reads widths xs 0) x h in
        told_stuck at.0 (asked_then (stuck at.0) at.1) ∙ ap Some at.2

    -- a question, and signs left over
    pub told_left : (e : ℕ) → Ok e ≡ outcome (reads widths xs 0) → (e * 19 ≡ length xs → ⊥) → signs_refusal widths xs ≡ Some (Signs e)
    unfolding then
    told_left e h n =
        let got = outcome_ok (reads widths xs 0) e h in
        told_stuck e (asked_then (read got.0 e) got.1 ∙ cond-false _ _ _ (ne_eqb (e * 19) (length xs) n))

    -- a question, and no more
    asked_all : (e : ℕ) → Ok e ≡ outcome (reads widths xs 0) → e * 19 ≡ length xs → (q : Question) × (asked widths xs ≡ read q e) × (goes_to q ≡ map (register_at xs) (range_with_len 0 e))
    asked_all e h n =
        let got = outcome_ok (reads widths xs 0) e h in
        let stands = read_stands widths xs got.0 0 e got.1 in (
          got.0,
          read_complete widths xs got.0 e (record { short = short; stands = stands; all = n }),
          stands_goes widths xs got.0 0 e e stands (omega arith),
        )

    -- the register to which it goes twice, if it does
    pub told_whole : (e : ℕ) (o : Option ℕ) → Ok e ≡ outcome (reads widths xs 0) → e * 19 ≡ length xs → o ≡ first_again [] (map (register_at xs) (range_with_len 0 e)) → signs_refusal widths xs ≡ refused_at Twice o
    unfolding signs_refusal
    told_whole e o h n k =
        let got = asked_all e h n in
        ap refused got.1 ∙ ap (λ (ts : List ℕ). refused_at Twice (first_again [] ts)) got.2 ∙ ap (refused_at Twice) (sym k)

-- where its questions end
module _ (widths xs : List ℕ) (short : Short xs) where
  pub outlined : (e : ℕ) (ends : List ℕ) → Ok e ≡ outcome (reads widths xs 0) → e * 19 ≡ length xs → length ends ≡ 8 → Noted widths xs 0 e (replicate 8 0) ends → record { count = e; ends = ends } ≡ outline_of widths xs
  unfolding outline_of count_of ends_of
  outlined e ends h n l k =
      let count : e ≡ count_of widths xs = ap end_of (sym (asked_all widths xs short e h n).1) in
      ap₂ (λ (m : ℕ) (es : List ℕ). record { count = m; ends = es }) count
      (fill_by_all (λ s. cond (ltb s (count_of widths xs)) (end_of (reads widths xs s)) 0) ends 8 0 l
      (λ s m.
      ⊎_elim
      (λ low. k.noted s (omega arith) low ∙ sym (cond-true _ _ _ (ap (ltb s) (sym count) ∙ lt-ltb s e low)))
      (λ high. k.kept s (inr high) ∙ get_or-replicate 8 s 0 0 m ∙ sym (cond-false _ _ _ (ap (ltb s) (sym count) ∙ le-ltb s e high)))
      (cases_lt s e)))
