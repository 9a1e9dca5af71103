-- What was read, taken apart; and that among eight signs reading does not depend on how deep it may go.
use Rattle.std.proofs.Common.{◌≡◌, ℕ, zero, suc, ◌+◌, ◌*◌, ◌<◌, ◌≤◌, Bool, true, false, cond, ◌⊎◌, List, [], ◌∷◌, length, sym, refl, ap, ◌∙◌, inl, inr, arith}
use Rattle.std.proofs.lemmas.Bool.{cond-false}
use Rattle.std.proofs.lemmas.Bool.Decides.{nat_tests}
use Rattle.questions.specs.declared.kinds.Test.{Test}
use Rattle.questions.specs.Questions.{Question, Further, ask, no_more, and_at}
use Rattle.questions.specs.Signs.{Reading, read, stuck, columns_at, reads, reads_deep, reads_further, reads_sign, register_at, sign_fits, tests_at, then}

-- reading that went on began with something read
pub then_read : {A B : Type 0} (r : Reading A) (go : A → ℕ → Reading B) (b : B) (e : ℕ) → then r go ≡ read b e → (a : A) × (m : ℕ) × (r ≡ read a m) × (go a m ≡ read b e)
unfolding then
then_read (read a m) go b e h = (a, m, refl, h)
then_read (stuck s) go b e h = cc

-- reading that stopped did so at once, or where it went on
pub then_stuck : {A B : Type 0} (r : Reading A) (go : A → ℕ → Reading B) (p : ℕ) → then r go ≡ stuck p → (r ≡ stuck p) ⊎ ((a : A) × (m : ℕ) × (r ≡ read a m) × (go a m ≡ stuck p))
unfolding then
then_stuck (read a m) go p h = inr (a, m, refl, h)
then_stuck (stuck s) go p h = let same : s ≡ p = cc in inl (ap stuck same)

-- it is the same where it goes on in the same way
same_then : {A B : Type 0} (r : Reading A) (f g : A → ℕ → Reading B) → ((a : A) (m : ℕ) → r ≡ read a m → f a m ≡ g a m) → then r f ≡ then r g
unfolding then
same_then (read a m) f g h = h a m refl
same_then (stuck s) f g h = refl

-- a question that was read, by its sign
pub cond_read : {A : Type 0} (b : Bool) (r : Reading A) (s : ℕ) (a : A) (e : ℕ) → cond b r (stuck s) ≡ read a e → (b ≡ true) × (r ≡ read a e)
cond_read true r s a e h = (refl, h)
cond_read false r s a e h = cc

module _ (go : ℕ → Reading Question) (widths xs : List ℕ) where
  pub sign_read : (s t : ℕ) (tests : List Test) (further : Further) (e : ℕ) → reads_sign go widths xs s ≡ read (ask t tests further) e → (sign_fits widths xs s ≡ true) × (t ≡ register_at xs s) × (tests ≡ tests_at xs s) × (reads_further go (columns_at xs s) (s + 1) ≡ read further e)
  unfolding reads_sign
  sign_read s t tests further e h =
      let fits = cond_read (sign_fits widths xs s) _ s _ e h in
      let parts = then_read (reads_further go (columns_at xs s) (s + 1)) (λ f m. read (ask (register_at xs s) (tests_at xs s) f) m) _ e fits.1 in
      let last = parts.3 in
      let same : parts.0 ≡ further = cc in
      let end : parts.1 ≡ e = cc in
      (fits.0, cc, cc, parts.2 ∙ ap (λ (m : ℕ). read parts.0 m) end ∙ ap (λ (f : Further). read f e) same)

-- further questions that were read
module _ (go : ℕ → Reading Question) where
  pub further_end : (columns : List ℕ) (s e : ℕ) → reads_further go columns s ≡ read no_more e → (columns ≡ []) × (s ≡ e)
  unfolding reads_further
  further_end [] s e h = (refl, cc)
  further_end (c ∷ columns) s e h =
      let first = then_read (go s) _ no_more e h in
      let rest = then_read (reads_further go columns first.1) _ no_more e first.3 in
      let last = rest.3 in
      cc

  pub further_read : (columns : List ℕ) (s c : ℕ) (q : Question) (further : Further) (e : ℕ) → reads_further go columns s ≡ read (and_at c q further) e → (m : ℕ) × (rest : List ℕ) × (columns ≡ c ∷ rest) × (go s ≡ read q m) × (reads_further go rest m ≡ read further e)
  unfolding reads_further
  further_read [] s c q further e h = cc
  further_read (d ∷ columns) s c q further e h =
      let first = then_read (go s) _ (and_at c q further) e h in
      let rest = then_read (reads_further go columns first.1) _ (and_at c q further) e first.3 in
      let last = rest.3 in
      let column : d ≡ c = cc in
      let question : first.0 ≡ q = cc in
      let more : rest.0 ≡ further = cc in
      let end : rest.1 ≡ e = cc in (
        first.1,
        columns,
        ap (λ (n : ℕ). n ∷ columns) column,
        first.2 ∙ ap (λ (p : Question). read p first.1) question,
        rest.2 ∙ ap (λ (m : ℕ). read rest.0 m) end ∙ ap (λ (f : Further). read f e) more,
      )

  -- where each question has a sign, so have they
  pub further_grows : ((s : ℕ) (q : Question) (e : ℕ) → go s ≡ read q e → s < e) → (further : Further) (columns : List ℕ) (s e : ℕ) → reads_further go columns s ≡ read further e → s ≤ e
  further_grows grows no_more columns s e h = let end = further_end columns s e h in omega arith
  further_grows grows (and_at c q further) columns s e h =
      let parts = further_read columns s c q further e h in
      let first = grows s q parts.0 parts.3 in
      let rest = further_grows grows further parts.1 parts.0 e parts.4 in
      omega arith

  -- two ways to read questions that agree from a sign on agree on further questions
  same_further : (other : ℕ → Reading Question) → ((s : ℕ) (q : Question) (e : ℕ) → go s ≡ read q e → s < e) → (columns : List ℕ) (s : ℕ) → ((u : ℕ) → s ≤ u → go u ≡ other u) → reads_further go columns s ≡ reads_further other columns s
  unfolding reads_further
  same_further other grows [] s same = refl
  same_further other grows (c ∷ columns) s same =
      same_then (go s) _ _
      (λ q m e.
      let later = grows s q m e in
      ap (λ (r : Reading Further). then r (λ further e. read (and_at c q further) e))
      (same_further other grows columns m (λ u l. same u (omega arith))))
      ∙ ap (λ (r : Reading Question). then r (λ q m. then (reads_further other columns m) (λ further e. read (and_at c q further) e)))
      (same s (omega arith))

module _ (widths xs : List ℕ) where
  deep_grows : (n s : ℕ) (q : Question) (e : ℕ) → reads_deep n widths xs s ≡ read q e → s < e
  unfolding reads_deep
  deep_grows zero s q e h = cc
  deep_grows (suc n) s (ask t tests further) e h =
      let parts = sign_read (reads_deep n widths xs) widths xs s t tests further e h in
      let behind = further_grows (reads_deep n widths xs) (deep_grows n) further (columns_at xs s) (s + 1) e parts.3 in
      omega arith

  -- one deeper is the same where no more signs are there
  deep_same : (n s : ℕ) → length xs < (s + n + 1) * 19 → reads_deep n widths xs s ≡ reads_deep (suc n) widths xs s
  unfolding reads_deep reads_sign sign_fits
  deep_same zero s h =
      let cut : sign_fits widths xs s ≡ false = grind (arith, nat_tests) in
      sym (cond-false (sign_fits widths xs s) _ _ cut)
  deep_same (suc n) s h =
      ap (λ (r : Reading Further). cond (sign_fits widths xs s) (then r (λ further e. read (ask (register_at xs s) (tests_at xs s) further) e)) (stuck s))
      (same_further (reads_deep n widths xs) (reads_deep (suc n) widths xs) (deep_grows n) (columns_at xs s) (s + 1) (λ u l. deep_same n u (omega arith)))

  -- the question that begins at a sign is its sign and the further questions behind it
  pub reads_is : (s : ℕ) → length xs ≤ 8 * 19 → reads widths xs s ≡ reads_sign (reads widths xs) widths xs s
  unfolding reads_deep reads_sign
  reads_is s h =
      ap (λ (r : Reading Further). cond (sign_fits widths xs s) (then r (λ further e. read (ask (register_at xs s) (tests_at xs s) further) e)) (stuck s))
      (same_further (reads_deep 7 widths xs) (reads_deep 8 widths xs) (deep_grows 7) (columns_at xs s) (s + 1) (λ u l. deep_same 7 u (omega arith)))
