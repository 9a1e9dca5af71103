-- The meaning of signs and what is read of them are one; and what the meaning tells of each sign.
use Rattle.std.proofs.Common.{◌≡◌, ℕ, zero, suc, ◌+◌, ◌-◌, ◌*◌, ◌<◌, ◌≤◌, true, List, ◌∷◌, ◌++◌, map, length, sym, ap, ◌∙◌, ap₂, ⊎_elim, arith}
use Rattle.std.specs.List.{range_with_len}
use Rattle.std.proofs.lemmas.List.{map-append}
use Rattle.std.proofs.lemmas.Bool.{cases_eq, cases_lt, cond-true}
use Rattle.questions.specs.Questions.{Question, Further, all_go, ask, and_at, goes_to, no_more}
use Rattle.questions.specs.Signs.{columns_at, Follow, read, Reading, reads, reads_deep, reads_further, reads_sign, register_at, Short, sign_fits, Stands, tests_at, then}
use Rattle.questions.proofs.Deep.{further_end, further_read, reads_is, sign_read}
use Rattle.questions.proofs.Fitting.{fit_from}

-- numbers counted in two parts
counting_append : (a m n b : ℕ) → a + m ≡ b → range_with_len a m ++ range_with_len b n ≡ range_with_len a (m + n)
counting_append a zero n b e =
    let start : b ≡ a = omega arith in
    let all : n ≡ zero + n = omega arith in
    ap₂ range_with_len start all
counting_append a (suc m) n b e =
    let more : suc (m + n) ≡ suc m + n = omega arith in
    ap (λ (ks : List ℕ). a ∷ ks) (counting_append (a + 1) m n b (omega arith)) ∙ ap (range_with_len a) more

module _ (widths xs : List ℕ) where
  -- a question has a sign, and its signs are there
  mutual
    unfolding Stands Follow

    pub stands_bounds : (q : Question) (s e : ℕ) → Stands widths xs q s e → (s < e) × (e * 19 ≤ length xs)
    stands_bounds (ask t tests further) s e h =
        let behind = follow_bounds further (columns_at xs s) (s + 1) e (fit_from widths xs s h.0).there h.3 in
        (omega arith, behind.1)

    pub follow_bounds : (further : Further) (columns : List ℕ) (s e : ℕ) → s * 19 ≤ length xs → Follow widths xs further columns s e → (s ≤ e) × (e * 19 ≤ length xs)
    follow_bounds no_more columns s e l h = let end = h.1 in (omega arith, omega arith)
    follow_bounds (and_at c q further) columns s e l h =
        let first = stands_bounds q s h.0 h.3 in
        let rest = follow_bounds further h.1 h.0 e first.1 h.4 in
        (omega arith, rest.1)

  -- at each of its signs a question begins
  mutual
    unfolding Stands Follow

    pub stands_inside : (q : Question) (s e u : ℕ) → Stands widths xs q s e → s ≤ u → u < e → (p : Question) × (f : ℕ) × Stands widths xs p u f × (f ≤ e)
    stands_inside (ask t tests further) s e u h l m =
        ⊎_elim
        (λ same. (ask t tests further, e, rw same h, omega arith))
        (λ other. follow_inside further (columns_at xs s) (s + 1) e u h.3 (omega arith) m)
        (cases_eq u s)

    follow_inside : (further : Further) (columns : List ℕ) (s e u : ℕ) → Follow widths xs further columns s e → s ≤ u → u < e → (p : Question) × (f : ℕ) × Stands widths xs p u f × (f ≤ e)
    follow_inside no_more columns s e u h l m = let end = h.1 in absurd (omega arith)
    follow_inside (and_at c q further) columns s e u h l m =
        ⊎_elim
        (λ before.
        let first = stands_inside q s h.0 u h.3 l before in
        let rest = follow_bounds further h.1 h.0 e (stands_bounds q s h.0 h.3).1 h.4 in
        (first.0, first.1, first.2, omega (arith, first.3)))
        (λ behind. follow_inside further h.1 h.0 e u h.4 behind m)
        (cases_lt u h.0)

  -- the registers to which it goes are those of its signs, in order
  mutual
    unfolding Stands Follow goes_to all_go

    pub stands_goes : (q : Question) (s e n : ℕ) → Stands widths xs q s e → s + n ≡ e → goes_to q ≡ map (register_at xs) (range_with_len s n)
    stands_goes (ask t tests further) s e zero h n = absurd (let there = stands_bounds (ask t tests further) s e h in omega arith)
    stands_goes (ask t tests further) s e (suc n) h k =
        ap₂ (λ (r : ℕ) (rs : List ℕ). r ∷ rs) h.1 (follow_goes further (columns_at xs s) (s + 1) e n (fit_from widths xs s h.0).there h.3 (omega arith))

    follow_goes : (further : Further) (columns : List ℕ) (s e n : ℕ) → s * 19 ≤ length xs → Follow widths xs further columns s e → s + n ≡ e → all_go further ≡ map (register_at xs) (range_with_len s n)
    follow_goes no_more columns s e n l h k =
        let end = h.1 in
        let none : 0 ≡ n = omega arith in
        ap (λ (i : ℕ). map (register_at xs) (range_with_len s i)) none
    follow_goes (and_at c q further) columns s e n l h k =
        let first = stands_bounds q s h.0 h.3 in
        let rest = follow_bounds further h.1 h.0 e first.1 h.4 in
        let all : h.0 - s + (e - h.0) ≡ n = omega arith in
        ap₂ ◌++◌ (stands_goes q s h.0 (h.0 - s) h.3 (omega arith)) (follow_goes further h.1 h.0 e (e - h.0) first.1 h.4 (omega arith))
        ∙ sym (map-append (register_at xs) (range_with_len s (h.0 - s)) (range_with_len h.0 (e - h.0)))
        ∙ ap (map (register_at xs)) (counting_append s (h.0 - s) (e - h.0) h.0 (omega arith) ∙ ap (range_with_len s) all)

  -- what is read, however deep it may go, is what the signs stand for
  mutual
    unfolding Stands Follow reads_deep

    pub deep_stands : (q : Question) (n s e : ℕ) → reads_deep n widths xs s ≡ read q e → Stands widths xs q s e
    deep_stands (ask t tests further) zero s e h = cc
    deep_stands (ask t tests further) (suc n) s e h =
        let parts = sign_read (reads_deep n widths xs) widths xs s t tests further e h in
        (parts.0, parts.1, parts.2, deep_follow further n (columns_at xs s) (s + 1) e parts.3)

    deep_follow : (further : Further) (n : ℕ) (columns : List ℕ) (s e : ℕ) → reads_further (reads_deep n widths xs) columns s ≡ read further e → Follow widths xs further columns s e
    deep_follow no_more n columns s e h = further_end (reads_deep n widths xs) columns s e h
    deep_follow (and_at c q further) n columns s e h =
        let parts = further_read (reads_deep n widths xs) columns s c q further e h in
        (parts.0, parts.1, parts.2, deep_stands q n s parts.0 parts.3, deep_follow further n parts.1 parts.0 e parts.4)

  pub read_stands : (q : Question) (s e : ℕ) → reads widths xs s ≡ read q e → Stands widths xs q s e
  read_stands q s e h = deep_stands q 8 s e h

  -- each of its signs fits
  first_fits : (q : Question) (s e : ℕ) → Stands widths xs q s e → sign_fits widths xs s ≡ true
  unfolding Stands
  first_fits (ask t tests further) s e h = h.0

  pub stands_fits : (q : Question) (s e u : ℕ) → Stands widths xs q s e → s ≤ u → u < e → sign_fits widths xs u ≡ true
  stands_fits q s e u h l m = let found = stands_inside q s e u h l m in first_fits found.0 u found.1 found.2

  module _ (short : Short xs) where
    -- what the signs stand for is read
    mutual
      unfolding Stands Follow reads_sign reads_further then

      pub stands_read : (q : Question) (s e : ℕ) → Stands widths xs q s e → reads widths xs s ≡ read q e
      stands_read (ask t tests further) s e h =
          reads_is widths xs s short
          ∙ cond-true _ _ _ h.0
          ∙ ap (λ (r : Reading Further). then r (λ f m. read (ask (register_at xs s) (tests_at xs s) f) m)) (follow_read further (columns_at xs s) (s + 1) e h.3)
          ∙ simp (h.1, h.2)

      pub follow_read : (further : Further) (columns : List ℕ) (s e : ℕ) → Follow widths xs further columns s e → reads_further (reads widths xs) columns s ≡ read further e
      follow_read no_more columns s e h = simp (h.0, h.1)
      follow_read (and_at c q further) columns s e h =
          simp (h.2, stands_read q s h.0 h.3, follow_read further h.1 h.0 e h.4)
