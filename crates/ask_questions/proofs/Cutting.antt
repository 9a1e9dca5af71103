-- The signs of a question in the input, all of them or as far as they are there, and its refusal.
use Rattle.std.proofs.Common.{◌≡◌, ℕ, ◌*◌, ◌/◌, ◌<◌, ◌≤◌, min, List, [], ◌∷◌, ◌++◌, length, take, drop, Some, None, Ok, Err, Option, Result, sym, refl, ap, ◌∙◌, subst, ⊎_elim, arith}
use Rattle.std.specs.Result.{result_err}
use Rattle.std.proofs.lemmas.List.{length-take, length-take-le, take_all, take_at}
use Rattle.std.proofs.lemmas.Bool.{cases_lt, cond-false, cond-true, le-ltb, lt-ltb}
use Rattle.input.specs.Numbers.{numbers_of}
use Rattle.questions.specs.declared.refusals.Refusal.{Refusal}
use Rattle.questions.specs.declared.refusals.Refusal.TheVariants.{Registers, Signs, Twice}
use Rattle.questions.specs.declared.signs.Signs.{Signs as Held}
use Rattle.questions.specs.Questions.{Question, first_again, goes_to}
use Rattle.questions.specs.Refusals.{refused_at, refused, signs_refusal}
use Rattle.questions.specs.Signs.{Reading, asked, read, stuck}
use Rattle.questions.specs.Views.{Answers}
use Rattle.questions.proofs.Meaning.{read_sound}
use Rattle.ask_questions.specs.Parts.{cut_refusal, part_refusal, part_signs, said, signs_of, stops}

-- as many numbers as there are, or as there is room for
given_signs : (ns old : List ℕ) (n given : ℕ) → length old ≡ n * 19 → given ≡ min (length ns) (length old) → take given (take given ns ++ drop given old) ≡ take (n * 19) ns
given_signs ns old n given l h =
    let few : given ≤ length ns = omega arith in
    take_at (take given ns) (drop given old) given (length-take-le given ns few)
    ∙ ⊎_elim
    (λ less. let most : given ≡ n * 19 = omega arith in ap (λ (m : ℕ). take m ns) most)
    (λ more. take_all given ns (omega arith) ∙ sym (take_all (n * 19) ns more))
    (cases_lt (n * 19) (length ns))

pub given_count : (ns old : List ℕ) (n given : ℕ) → length old ≡ n * 19 → given ≡ min (length ns) (length old) → given ≡ length (take (n * 19) ns)
given_count ns old n given l h = omega (arith, length-take (n * 19) ns)

-- of as many as are there, written into their room
pub given_told : (widths ns old written : List ℕ) (n given : ℕ) (r : Result Held Refusal) → length old ≡ n * 19 → given ≡ min (length ns) (length old) → written ≡ take given ns ++ drop given old → Answers widths (take given written) (signs_refusal widths (take given written)) r → Answers widths (take (n * 19) ns) (signs_refusal widths (take (n * 19) ns)) r
given_told widths ns old written n given r l h w m =
    subst (λ (xs : List ℕ). Answers widths xs (signs_refusal widths xs) r) (ap (take given) w ∙ given_signs ns old n given l h) m

module _ (widths : List ℕ) (n : ℕ) (bytes : List ℕ) where
  -- a question that is all there is refused as its signs are
  cut_whole : n * 19 < length (numbers_of bytes) → cut_refusal widths n bytes ≡ signs_refusal widths (signs_of n bytes)
  unfolding cut_refusal
  cut_whole h = cond-true _ _ _ (lt-ltb (n * 19) (length (numbers_of bytes)) h)

  pub told_whole : (r : Result Held Refusal) → n * 19 < length (numbers_of bytes) → Answers widths (signs_of n bytes) (signs_refusal widths (signs_of n bytes)) r → Answers widths (signs_of n bytes) (cut_refusal widths n bytes) r
  told_whole r whole h = subst (λ (o : Option Refusal). Answers widths (signs_of n bytes) o r) (sym (cut_whole whole)) h

  -- one that is not is refused at the sign at which reading stops
  cut_short : length (numbers_of bytes) ≤ n * 19 → cut_refusal widths n bytes ≡ Some (Signs (stops (asked widths (signs_of n bytes))))
  unfolding cut_refusal
  cut_short h = cond-false _ _ _ (le-ltb (n * 19) (length (numbers_of bytes)) h)

  -- which is told by the refusal of the signs that are there
  abbrev pub stop : Option Refusal → ℕ
  stop None = length (signs_of n bytes) / 19
  stop (Some (Registers r)) = length (signs_of n bytes) / 19
  stop (Some (Signs s)) = s
  stop (Some (Twice t)) = length (signs_of n bytes) / 19

  stop_is : stop (signs_refusal widths (signs_of n bytes)) ≡ stops (asked widths (signs_of n bytes))
  unfolding signs_refusal
  stop_is = at (asked widths (signs_of n bytes)) refl
    where
      same : (o : Option ℕ) → stop (refused_at Twice o) ≡ length (signs_of n bytes) / 19
      same None = refl
      same (Some t) = refl

      at : (q : Reading Question) → asked widths (signs_of n bytes) ≡ q → stop (refused q) ≡ stops q
      at (stuck s) e = refl
      at (read q e) f =
          let all = (read_sound widths (signs_of n bytes) q e f).all in
          let count : length (signs_of n bytes) / 19 ≡ e = omega arith in
          same (first_again [] (goes_to q)) ∙ count

  pub told_cut : (r : Result Held Refusal) (s : ℕ) → length (numbers_of bytes) ≤ n * 19 → Answers widths (signs_of n bytes) (signs_refusal widths (signs_of n bytes)) r → s ≡ stop (result_err r) → cut_refusal widths n bytes ≡ Some (Signs s)
  told_cut r s cut h e = cut_short cut ∙ ap (λ (m : ℕ). Some (Signs m)) (sym (e ∙ same r h ∙ stop_is))
    where
      same : (r : Result Held Refusal) → Answers widths (signs_of n bytes) (signs_refusal widths (signs_of n bytes)) r → stop (result_err r) ≡ stop (signs_refusal widths (signs_of n bytes))
      same (Ok s) h = ap stop (sym h.0)
      same (Err e) h = ap stop (sym h)

-- the question that the bytes begin with
pub part_long : (widths bytes : List ℕ) → 8 < said bytes → part_refusal widths bytes ≡ Some (Signs 8)
unfolding part_refusal
part_long widths bytes h = cond-true _ _ _ (lt-ltb 8 (said bytes) h)

pub part_short : (widths bytes : List ℕ) → said bytes ≤ 8 → part_refusal widths bytes ≡ cut_refusal widths (said bytes) (drop 1 bytes)
unfolding part_refusal
part_short widths bytes h = cond-false _ _ _ (le-ltb 8 (said bytes) h)

pub told_part : (widths rest : List ℕ) (signs n : ℕ) (r : Result Held Refusal) → n ≡ signs → n ≤ 8 → Answers widths (signs_of n rest) (cut_refusal widths n rest) r → Answers widths (part_signs (signs ∷ rest)) (part_refusal widths (signs ∷ rest)) r
told_part widths rest signs n r count few h =
    subst (λ (o : Option Refusal). Answers widths (part_signs (signs ∷ rest)) o r) (sym (part_short widths (signs ∷ rest) (omega arith)))
    (subst (λ (m : ℕ). Answers widths (signs_of m rest) (cut_refusal widths m rest) r) count h)
