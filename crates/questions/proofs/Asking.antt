-- What is known of each sign of a question that is not refused: the laws that the crates above cite.
use Rattle.std.proofs.Common.{◌≡◌, ℕ, suc, ◌+◌, ◌*◌, ◌<◌, ◌≤◌, true, false, cond, ltb, List, [], ◌∷◌, length, get_or, drop, is_some, sym, refl, ap, ◌∙◌, subst, arith}
use Rattle.std.proofs.lemmas.List.FromFn.{get_or-map-range_with_len, length-map-range_with_len}
use Rattle.std.proofs.lemmas.List.{drop_more}
use Rattle.std.proofs.lemmas.Bool.{and_parts, cond-true, leb-true, lt-ltb, ltb-true}
use Rattle.questions.specs.declared.kinds.Test.{Test}
use Rattle.questions.specs.declared.outline.Outline.{Outline}
use Rattle.questions.specs.declared.signs.Question.{Question as Cursor}
use Rattle.questions.specs.declared.signs.Signs.{Signs}
use Rattle.questions.specs.Questions.{Further, Question, and_at, ask, columns_in, further_of, no_more, questions_in, simple, tests_of}
use Rattle.questions.specs.Meaning.{Whole}
use Rattle.questions.specs.Reading.{count_of, end_of, ends_of, outline_of, question_of}
use Rattle.questions.specs.Refusals.{signs_refusal}
use Rattle.questions.specs.Signs.{Follow, Reading, Stands, There, asked, column_fits, columns_at, most_further, most_tests, number_at, read, reads, register_at, test_at, test_fits, tests_at}
use Rattle.questions.specs.Views.{asked_at, question_at, signs_in, width_at, width_of}
use Rattle.questions.proofs.Fitting.{Fit, each_at, fit_from}
use Rattle.questions.proofs.Meaning.{accepted_read, read_sound}
use Rattle.questions.proofs.Trees.{follow_bounds, stands_bounds, stands_inside, stands_read}

-- a question that is not refused is that of all signs, and goes to no register twice
pub whole : (widths xs : List ℕ) → is_some (signs_refusal widths xs) ≡ false → (q : Question) × Whole widths xs q (count_of widths xs) × (simple q ≡ true)
unfolding count_of
whole widths xs h =
    let got = accepted_read widths xs h in
    let count : got.1 ≡ end_of (asked widths xs) = ap end_of (sym got.2) in
    (got.0, subst (Whole widths xs got.0) count (read_sound widths xs got.0 got.1 got.2), got.3)

-- a sign of it, and the further questions behind that sign
pub record Sign (widths xs : List ℕ) (s : ℕ) : Type 0 where
  pub further : Further
  pub end : ℕ
  pub fit : Fit widths xs s
  pub is : reads widths xs s ≡ read (ask (register_at xs s) (tests_at xs s) further) end
  pub follow : Follow widths xs further (columns_at xs s) (s + 1) end
  pub inside : end ≤ count_of widths xs

sign_of : (widths xs : List ℕ) → length xs ≤ 8 * 19 → (s : ℕ) (q : Question) (e : ℕ) → Stands widths xs q s e → e ≤ count_of widths xs → Sign widths xs s
unfolding Stands
sign_of widths xs short s (ask t tests further) e h l =
    record {
      further = further;
      end = e;
      fit = fit_from widths xs s h.0;
      is = stands_read widths xs short (ask t tests further) s e h ∙ simp (h.1, h.2);
      follow = h.3;
      inside = l;
    }

pub sign_at : (widths xs : List ℕ) (s : ℕ) → is_some (signs_refusal widths xs) ≡ false → s < count_of widths xs → Sign widths xs s
sign_at widths xs s h l =
    let w = whole widths xs h in
    let found = stands_inside widths xs w.0 0 (count_of widths xs) s w.1.stands (omega arith) l in
    sign_of widths xs w.1.short s found.0 found.1 found.2 found.3

-- the columns of further questions are those of their sign, and there are as many questions
follow_columns : (widths xs : List ℕ) (further : Further) (columns : List ℕ) (s e : ℕ) → Follow widths xs further columns s e → columns_in further ≡ columns
unfolding Follow columns_in
follow_columns widths xs no_more columns s e h = sym h.0
follow_columns widths xs (and_at c q further) columns s e h =
    ap (λ (cs : List ℕ). c ∷ cs) (follow_columns widths xs further h.1 h.0 e h.4) ∙ sym h.2

pub same_many : (further : Further) → length (questions_in further) ≡ length (columns_in further)
unfolding columns_in questions_in
same_many no_more = refl
same_many (and_at c q further) = ap suc (same_many further)

counted : (q : Signs) → signs_in q ≡ count_of q.widths.now q.numbers.now
unfolding outline_of
counted q = ap (λ (o : Outline). o.count) q.outlined

-- so much of a question in memory
module _ (q : Cursor) where
  -- the numbers of all signs, and how many columns its register has
  abbrev pub numbers : List ℕ
  numbers = q.signs.now.numbers.now

  abbrev pub columns : ℕ
  columns = get_or q.signs.now.widths.now (register_at numbers q.sign) 0

  pub sign_in : Sign q.signs.now.widths.now numbers q.sign
  sign_in = sign_at q.signs.now.widths.now numbers q.sign q.signs.now.accepted (omega (arith, q.there, counted q.signs.now))

  -- it is all there, and so is its register
  pub sign_there : There numbers (q.sign + 1)
  sign_there = sign_in.fit.there

  pub register_there : register_at numbers q.sign < length q.signs.now.widths.now
  register_there = sign_in.fit.register

  pub question_is : asked_at q ≡ ask (register_at numbers q.sign) (tests_at numbers q.sign) sign_in.further
  question_is = ap question_of sign_in.is

  pub width_is : width_at q ≡ columns
  width_is = ap (width_of q.signs.now) question_is

  pub columns_are : columns_in (further_of (asked_at q)) ≡ columns_at numbers q.sign
  columns_are =
      ap (λ (p : Question). columns_in (further_of p)) question_is
      ∙ follow_columns q.signs.now.widths.now numbers sign_in.further _ (q.sign + 1) sign_in.end sign_in.follow

  -- how many further questions
  pub further_are : length (questions_in (further_of (asked_at q))) ≡ number_at numbers q.sign 14
  further_are =
      same_many (further_of (asked_at q))
      ∙ ap length columns_are
      ∙ length-map-range_with_len (λ i. number_at numbers q.sign (15 + i)) 0 (number_at numbers q.sign 14)

  pub further_few : length (questions_in (further_of (asked_at q))) ≤ most_further
  further_few = omega (arith, further_are, sign_in.fit.few_further)

  module _ (i : ℕ) (l : i < length (questions_in (further_of (asked_at q)))) where
    -- the column of one of them
    pub column_is : number_at numbers q.sign (15 + i) ≡ get_or (columns_in (further_of (asked_at q))) i 0
    column_is =
        sym (ap (λ (cs : List ℕ). get_or cs i 0) columns_are
        ∙ get_or-map-range_with_len (λ j. number_at numbers q.sign (15 + j)) 0 (number_at numbers q.sign 14) i i 0 (omega (arith, l, further_are)) (omega arith))

    pub column_within : number_at numbers q.sign (15 + i) < width_at q
    column_within =
        let fits = each_at (column_fits columns numbers q.sign) (number_at numbers q.sign 14) i (omega (arith, l, further_are)) sign_in.fit.columns in
        omega (arith, ltb-true _ columns fits, width_is)

  -- how many tests
  pub tests_are : length (tests_of (asked_at q)) ≡ number_at numbers q.sign 1
  tests_are =
      ap (λ (p : Question). length (tests_of p)) question_is
      ∙ length-map-range_with_len (test_at numbers q.sign) 0 (number_at numbers q.sign 1)

  pub tests_few : length (tests_of (asked_at q)) ≤ most_tests
  tests_few = omega (arith, tests_are, sign_in.fit.few_tests)

  module _ (i : ℕ) (l : i < length (tests_of (asked_at q))) where
    -- one of them
    pub test_is : (d : Test) → test_at numbers q.sign i ≡ get_or (tests_of (asked_at q)) i d
    test_is d =
        sym (ap (λ (p : Question). get_or (tests_of p) i d) question_is
        ∙ get_or-map-range_with_len (test_at numbers q.sign) 0 (number_at numbers q.sign 1) i i d (omega (arith, l, tests_are)) (omega arith))

    test_fit : test_fits columns numbers q.sign i ≡ true
    test_fit = each_at (test_fits columns numbers q.sign) (number_at numbers q.sign 1) i (omega (arith, l, tests_are)) sign_in.fit.tests

    pub test_within : number_at numbers q.sign (2 + i * 3) < width_at q
    test_within = omega (arith, ltb-true _ columns (and_parts _ _ test_fit).0, width_is)

    pub test_kind : number_at numbers q.sign (3 + i * 3) ≤ 3
    test_kind = leb-true _ 3 (and_parts _ _ test_fit).1

-- what the functions of a question cite
pub ruleset laws = (sign_there, register_there, question_is, further_are, further_few, column_is, column_within, tests_are, tests_few, test_is, test_within, test_kind)

-- the sign behind the question that begins at one of the signs
pub end_is : (q : Signs) (s : ℕ) → s < signs_in q → get_or q.outline.ends s 0 ≡ end_of (reads q.widths.now q.numbers.now s)
unfolding ends_of outline_of
end_is q s l =
    let w = whole q.widths.now q.numbers.now q.accepted in
    let few : s < 8 = omega (arith, counted q, w.1.all, w.1.short) in
    ap (λ (o : Outline). get_or o.ends s 0) q.outlined
    ∙ get_or-map-range_with_len (λ u. cond (ltb u (count_of q.widths.now q.numbers.now)) (end_of (reads q.widths.now q.numbers.now u)) 0) 0 8 s s 0 few (omega arith)
    ∙ cond-true _ _ _ (lt-ltb s _ (omega (arith, counted q)))

pub signs_few : (q : Signs) → signs_in q ≤ 8
signs_few q =
    let w = whole q.widths.now q.numbers.now q.accepted in
    omega (arith, counted q, w.1.all, w.1.short)

-- the i-th further question of a sign begins at some sign, and those from it on stand from there on
pub record Reached (q : Cursor) (i at : ℕ) : Type 0 where
  pub left : Further
  pub columns : List ℕ
  pub end : ℕ
  pub follow : Follow q.signs.now.widths.now q.signs.now.numbers.now left columns at end
  pub rest : questions_in left ≡ drop i (questions_in (further_of (asked_at q)))
  pub behind : q.sign < at
  pub there : at * 19 ≤ length q.signs.now.numbers.now
  pub inside : end ≤ signs_in q.signs.now

pub reached_first : (q : Cursor) → Reached q 0 (q.sign + 1)
reached_first q =
    let here = sign_in q in
    record {
      left = here.further;
      columns = columns_at q.signs.now.numbers.now q.sign;
      end = here.end;
      follow = here.follow;
      rest = ap (λ (p : Question). questions_in (further_of p)) (sym (question_is q));
      behind = omega arith;
      there = here.fit.there;
      inside = omega (arith, here.inside, counted q.signs.now);
    }

-- the question there
pub record Here (q : Cursor) (i at : ℕ) : Type 0 where
  pub question : Question
  pub end : ℕ
  pub is : reads q.signs.now.widths.now q.signs.now.numbers.now at ≡ read question end
  pub ith : question ≡ get_or (questions_in (further_of (asked_at q))) i (ask 0 [] no_more)
  pub less : at < signs_in q.signs.now
  pub few : at < 8
  pub next : Reached q (i + 1) end

pub reached_here : (q : Cursor) (i at : ℕ) → i < length (questions_in (further_of (asked_at q))) → Reached q i at → Here q i at
unfolding Follow questions_in
reached_here q i at l r = go r.left r.follow (r.rest ∙ drop_more (questions_in (further_of (asked_at q))) i (ask 0 [] no_more) l)
  where
    go : (left : Further) → Follow q.signs.now.widths.now q.signs.now.numbers.now left r.columns at r.end → questions_in left ≡ get_or (questions_in (further_of (asked_at q))) i (ask 0 [] no_more) ∷ drop (i + 1) (questions_in (further_of (asked_at q))) → Here q i at
    go no_more f e = cc
    go (and_at c p left) f e =
        let w = whole q.signs.now.widths.now q.signs.now.numbers.now q.signs.now.accepted in
        let bounds = stands_bounds q.signs.now.widths.now q.signs.now.numbers.now p at f.0 f.3 in
        let later = follow_bounds q.signs.now.widths.now q.signs.now.numbers.now left f.1 f.0 r.end bounds.1 f.4 in
        let inside = r.inside in
        let behind = r.behind in
        record {
          question = p;
          end = f.0;
          is = stands_read q.signs.now.widths.now q.signs.now.numbers.now w.1.short p at f.0 f.3;
          ith = cc;
          less = omega arith;
          few = omega (arith, signs_few q.signs.now);
          next = record {
            left = left;
            columns = f.1;
            end = r.end;
            follow = f.4;
            rest = cc;
            behind = omega arith;
            there = bounds.1;
            inside = inside;
          };
        }

-- the end of that question is where the next begins
pub reached_more : (q : Cursor) (i at : ℕ) → i < length (questions_in (further_of (asked_at q))) → Reached q i at → Reached q (i + 1) (get_or q.signs.now.outline.ends at 0)
reached_more q i at l r =
    let here = reached_here q i at l r in
    let end : here.end ≡ get_or q.signs.now.outline.ends at 0 = sym (end_is q.signs.now at here.less ∙ ap end_of here.is) in
    subst (Reached q (i + 1)) end here.next

-- the first sign is the whole question: it is there, and goes to no register twice
pub first_there : (q : Signs) → 0 < signs_in q
first_there q =
    let w = whole q.widths.now q.numbers.now q.accepted in
    omega (arith, counted q, (stands_bounds q.widths.now q.numbers.now w.0 0 (count_of q.widths.now q.numbers.now) w.1.stands).0)

pub first_simple : (q : Signs) → simple (question_at q 0) ≡ true
first_simple q =
    let w = whole q.widths.now q.numbers.now q.accepted in
    ap (λ (r : Reading Question). simple (question_of r)) (stands_read q.widths.now q.numbers.now w.1.short w.0 0 _ w.1.stands) ∙ w.2
