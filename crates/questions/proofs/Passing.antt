-- Going over signs: the sign behind a question or behind several, and the ends that are noted on the way.
use Rattle.std.proofs.Common.{◌≡◌, ℕ, zero, suc, ◌+◌, ◌-◌, ◌<◌, ◌≤◌, true, false, List, [], ◌∷◌, length, get_or, set, IfOk, Ok, Err, Result, sym, refl, ap, ◌∙◌, inl, inr, ⊎_elim, arith}
use Rattle.std.proofs.lemmas.List.FromFn.{length-map-range_with_len}
use Rattle.std.proofs.lemmas.List.{get_or-set_other, get_or-set_same}
use Rattle.std.proofs.lemmas.Bool.{cases_eq, cases_lt, cond-false, cond-true}
use Rattle.questions.specs.declared.refusals.Refusal.{Refusal}
use Rattle.questions.specs.declared.refusals.Refusal.TheVariants.{Signs}
use Rattle.questions.specs.Questions.{Question, and_at, ask}
use Rattle.questions.specs.Reading.{Noted, end_of, next, outcome, passed}
use Rattle.questions.specs.Signs.{columns_at, number_at, read, Reading, reads, reads_further, reads_sign, register_at, Short, sign_fits, stuck, tests_at, then}
use Rattle.questions.proofs.Deep.{reads_is}
use Rattle.questions.proofs.Trees.{read_stands, stands_bounds}

-- what an answer tells of what was read
pub outcome_ok : {A : Type 0} (r : Reading A) (e : ℕ) → Ok e ≡ outcome r → (a : A) × (r ≡ read a e)
outcome_ok (read a m) e h = let same : m ≡ e = cc in (a, ap (λ (n : ℕ). read a n) same)
outcome_ok (stuck s) e h = cc

-- reading that went on ends where its last part ends
outcome_then : {A B : Type 0} (r : Reading A) (go : A → ℕ → Reading B) (on : ℕ → Result ℕ Refusal) → ((a : A) (m : ℕ) → outcome (go a m) ≡ on m) → outcome (then r go) ≡ next (outcome r) on
unfolding then
outcome_then (read a m) go on h = h a m
outcome_then (stuck s) go on h = refl

outcome_made : {A B : Type 0} (r : Reading A) (f : A → B) → outcome (then r (λ a e. read (f a) e)) ≡ outcome r
unfolding then
outcome_made (read a m) f = refl
outcome_made (stuck s) f = refl

-- the columns of further questions do not matter for where they end
outcome_further : (go : ℕ → Reading Question) (columns : List ℕ) (s : ℕ) → outcome (reads_further go columns s) ≡ passed (λ u. outcome (go u)) (length columns) s
unfolding reads_further passed
outcome_further go [] s = refl
outcome_further go (c ∷ columns) s =
    outcome_then (go s) _ (passed (λ u. outcome (go u)) (length columns))
    (λ q m. outcome_made (reads_further go columns m) (and_at c q) ∙ outcome_further go columns m)

-- no question more
pub passed_none : (go : ℕ → Result ℕ Refusal) (left s : ℕ) → left ≡ 0 → Ok s ≡ passed go left s
unfolding passed
passed_none go left s h = sym (ap (λ (n : ℕ). passed go n s) h)

-- one question more
pub passed_more : (go : ℕ → Result ℕ Refusal) (left s : ℕ) → (left ≡ 0 → ⊥) → passed go left s ≡ next (go s) (passed go (left - 1))
unfolding passed
passed_more go zero s h = absurd (h refl)
passed_more go (suc left) s h = let same : left ≡ suc left - 1 = omega arith in ap (λ (n : ℕ). next (go s) (passed go n)) same

next_bounds : (s e : ℕ) (r : Result ℕ Refusal) (on : ℕ → Result ℕ Refusal) → Ok e ≡ next r on → ((m : ℕ) → Ok m ≡ r → (s < m) × (m ≤ 8)) → ((m : ℕ) → m ≤ 8 → Ok e ≡ on m → (m ≤ e) × (e ≤ 8)) → (s ≤ e) × (e ≤ 8)
next_bounds s e (Ok m) on h first rest =
    let a = first m refl in
    let b = rest m a.1 h in
    (omega arith, b.1)
next_bounds s e (Err r) on h first rest = cc

-- an answer that goes on where the first question was read, and where it was not
pub next_ok : (r a : Result ℕ Refusal) (on : ℕ → Result ℕ Refusal) (m : ℕ) → Ok m ≡ r → a ≡ on m → a ≡ next r on
next_ok r a on m h e = e ∙ ap (λ (x : Result ℕ Refusal). next x on) h

pub next_err : (r a : Result ℕ Refusal) (on : ℕ → Result ℕ Refusal) (x : Refusal) → a ≡ Err x → a ≡ r → a ≡ next r on
next_err r a on x h e = h ∙ ap (λ (y : Result ℕ Refusal). next y on) (sym h ∙ e)

module _ (widths xs : List ℕ) (short : Short xs) where
  -- a sign that cannot be read
  pub outcome_unfit : (s : ℕ) → sign_fits widths xs s ≡ false → outcome (reads widths xs s) ≡ Err (Signs s)
  unfolding reads_sign
  outcome_unfit s h = ap outcome (reads_is widths xs s short ∙ cond-false _ _ _ h)

  -- behind one that can be read stand its further questions
  outcome_fit : (s : ℕ) → sign_fits widths xs s ≡ true → outcome (reads widths xs s) ≡ passed (λ u. outcome (reads widths xs u)) (number_at xs s 14) (s + 1)
  unfolding reads_sign
  outcome_fit s h =
      ap outcome (reads_is widths xs s short ∙ cond-true _ _ _ h)
      ∙ outcome_made (reads_further (reads widths xs) (columns_at xs s) (s + 1)) (ask (register_at xs s) (tests_at xs s))
      ∙ outcome_further (reads widths xs) (columns_at xs s) (s + 1)
      ∙ ap (λ (n : ℕ). passed (λ u. outcome (reads widths xs u)) n (s + 1)) (length-map-range_with_len (λ i. number_at xs s (15 + i)) 0 (number_at xs s 14))

  pub outcome_more : (s n : ℕ) (a : Result ℕ Refusal) → true ≡ sign_fits widths xs s → n ≡ number_at xs s 14 → a ≡ passed (λ u. outcome (reads widths xs u)) n (s + 1) → a ≡ outcome (reads widths xs s)
  outcome_more s n a h e k =
      k ∙ ap (λ (m : ℕ). passed (λ u. outcome (reads widths xs u)) m (s + 1)) e ∙ sym (outcome_fit s (sym h))

  -- a question that was read has a sign, and ends among the eight
  pub outcome_bounds : (s e : ℕ) → Ok e ≡ outcome (reads widths xs s) → (s < e) × (e ≤ 8)
  outcome_bounds s e h =
      let got = outcome_ok (reads widths xs s) e h in
      let bounds = stands_bounds widths xs got.0 s e (read_stands widths xs got.0 s e got.1) in
      (bounds.0, omega (arith, bounds.1))

  -- so have several, one behind the other
  pub passed_bounds : (left s e : ℕ) → s ≤ 8 → Ok e ≡ passed (λ u. outcome (reads widths xs u)) left s → (s ≤ e) × (e ≤ 8)
  unfolding passed
  passed_bounds zero s e l h = let same : e ≡ s = cc in (omega arith, omega arith)
  passed_bounds (suc left) s e l h =
      next_bounds s e (outcome (reads widths xs s)) (passed (λ u. outcome (reads widths xs u)) left) h
      (λ m k. outcome_bounds s m k)
      (λ m k g. passed_bounds left m e k g)

  -- nothing is noted so far
  pub noted_none : (s : ℕ) (ends : List ℕ) → Noted widths xs s s ends ends
  noted_none s ends = record { noted = λ u l m. absurd (omega arith); kept = λ u h. refl }

  -- the ends of some questions, and of those behind them
  pub noted_append : (from mid to : ℕ) (before between after : List ℕ) → from ≤ mid → mid ≤ to → Noted widths xs from mid before between → Noted widths xs mid to between after → Noted widths xs from to before after
  noted_append from mid to before between after l m first second =
      record {
        noted = λ u h k.
            ⊎_elim
            (λ low. second.kept u (inl low) ∙ first.noted u h low)
            (λ high. second.noted u high k)
            (cases_lt u mid);
        kept = λ u h.
            ⊎_elim
            (λ low. second.kept u (inl (omega arith)) ∙ first.kept u (inl low))
            (λ high. second.kept u (inr high) ∙ first.kept u (inr (omega arith)))
            h;
      }

  pub noted_rest : (left s m : ℕ) (r : Result ℕ Refusal) (before between after : List ℕ) → (s < m) × (m ≤ 8) → r ≡ passed (λ u. outcome (reads widths xs u)) left m → Noted widths xs s m before between → IfOk r (λ e. Noted widths xs m e between after) → IfOk r (λ e. Noted widths xs s e before after)
  noted_rest left s m (Ok e) before between after l h first rest =
      noted_append s m e before between after (omega arith) (passed_bounds left m e l.1 h).0 first rest
  noted_rest left s m (Err x) before between after l h first rest = tt

  -- the ends of further questions, and of the one to which they belong
  pub noted_sign : (s e : ℕ) (before after : List ℕ) → s < e → s < length after → Ok e ≡ outcome (reads widths xs s) → Noted widths xs (s + 1) e before after → Noted widths xs s e before (set after s e)
  noted_sign s e before after l m h n =
      let here : e ≡ end_of (reads widths xs s) = ap end_of (sym (outcome_ok (reads widths xs s) e h).1) in
      record {
        noted = λ u j k.
            ⊎_elim
            (λ same. ap (λ (i : ℕ). get_or (set after s e) i 0) same ∙ get_or-set_same after s e 0 m ∙ here ∙ ap (λ (i : ℕ). end_of (reads widths xs i)) (sym same))
            (λ other. get_or-set_other after s u e 0 other ∙ n.noted u (omega arith) k)
            (cases_eq u s);
        kept = λ u j.
            let other : u ≡ s → ⊥ = λ same. ⊎_elim (λ low. omega arith) (λ high. omega arith) j in
            get_or-set_other after s u e 0 other
            ∙ n.kept u (⊎_elim (λ low. inl (omega arith)) (λ high. inr high) j);
      }
