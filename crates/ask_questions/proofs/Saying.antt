-- The words of a question, part for part.
use Rattle.std.proofs.Common.{◌≡◌, ℕ, suc, zero, ◌+◌, ◌<◌, ◌≤◌, cond, List, [], ◌∷◌, ◌++◌, map, length, take, get_or, sym, refl, ap, ◌∙◌, arith}
use Rattle.std.specs.Prelude.{codes, decimal, ◌==◌}
use Rattle.std.specs.List.{join_by}
use Rattle.std.proofs.lemmas.List.{append-nil, append_assoc, flat_map_more, get_or-append-add, get_or-map, get_or_append_left, length-append, length-map, length-take-le, take_all, take_more}
use Rattle.std.proofs.Math.Dec.{eqb-suc-zero}
use Rattle.std.proofs.lemmas.Bool.{cond-false}
use Rattle.questions.specs.declared.kinds.Test.{Test}
use Rattle.questions.specs.Questions.{Question, Further, ask, and_at, no_more, columns_in, further_of, questions_in, register_of, tests_of}
use Rattle.questions.specs.Words.{test_words}
use Rattle.ask_questions.specs.Words.{further_words, parts_words, question_words}

-- parts in a row
abbrev pub joined : List (List ℕ) → List ℕ
joined parts = join_by (λ p. p) (codes ", ") parts

-- what stands before a part
abbrev pub before : ℕ → List ℕ
before n = cond (n == 0) [] (codes ", ")

-- all parts of a question
abbrev pub parts_of : Question → List (List ℕ)
parts_of q = map test_words (tests_of q) ++ further_words (further_of q)

-- a question with the first of its parts
abbrev pub said_first : Question → ℕ → List ℕ
said_first q n = codes "register " ++ decimal (register_of q) ++ codes ": " ++ joined (take n (parts_of q))

-- one part more
joined_last : (parts : List (List ℕ)) (part : List ℕ) → joined parts ++ (before (length parts) ++ part) ≡ joined (parts ++ part ∷ [])
joined_last [] part = sym (append-nil part)
joined_last (p ∷ parts) part =
    ap (λ (w : List ℕ). joined (p ∷ parts) ++ (w ++ part)) (cond-false _ [] (codes ", ") (eqb-suc-zero (length parts)))
    ∙ flat_map_more (λ y. codes ", " ++ y) p parts part

said_more : (q : Question) (n : ℕ) (part : List ℕ) → n < length (parts_of q) → get_or (parts_of q) n [] ≡ part → said_first q n ++ (before n ++ part) ≡ said_first q (n + 1)
said_more q n part l e =
    let count : length (take n (parts_of q)) ≡ n = length-take-le n (parts_of q) (omega arith) in
    append_assoc (codes "register " ++ decimal (register_of q) ++ codes ": ") _ _
    ∙ ap (λ (w : List ℕ). codes "register " ++ decimal (register_of q) ++ codes ": " ++ w)
    (ap (λ (m : ℕ). joined (take n (parts_of q)) ++ (before m ++ part)) (sym count)
    ∙ joined_last (take n (parts_of q)) part
    ∙ ap (λ (w : List ℕ). joined (take n (parts_of q) ++ w ∷ [])) (sym e)
    ∙ ap joined (sym (take_more (parts_of q) n [] l)))

-- how many parts there are
length_further : (further : Further) → length (further_words further) ≡ length (questions_in further)
unfolding further_words questions_in
length_further no_more = refl
length_further (and_at c q further) = ap suc (length_further further)

pub length_parts : (q : Question) → length (parts_of q) ≡ length (tests_of q) + length (questions_in (further_of q))
length_parts q = omega (arith, length-append (map test_words (tests_of q)) (further_words (further_of q)), length-map (tests_of q) test_words, length_further (further_of q))

-- a test
pub said_test : (q : Question) (i : ℕ) (between : List ℕ) (test : Test) → i < length (tests_of q) → between ≡ before i → ((d : Test) → test ≡ get_or (tests_of q) i d) → said_first q i ++ (between ++ test_words test) ≡ said_first q (i + 1)
said_test q i between test l b e =
    ap (λ (w : List ℕ). said_first q i ++ (w ++ test_words test)) b
    ∙ said_more q i (test_words test) (omega (arith, length_parts q))
    (get_or_append_left (map test_words (tests_of q)) (further_words (further_of q)) [] i (omega (arith, length-map (tests_of q) test_words))
    ∙ get_or-map test_words (tests_of q) i test [] l
    ∙ ap test_words (sym (e test)))

-- a further question
abbrev pub in_brackets : (column : ℕ) (q : Question) → List ℕ
in_brackets column q = codes "column " ++ decimal column ++ codes " is a key of (" ++ question_words q ++ codes ")"

further_at : (further : Further) (i : ℕ) → i < length (questions_in further) → get_or (further_words further) i [] ≡ in_brackets (get_or (columns_in further) i 0) (get_or (questions_in further) i (ask 0 [] no_more))
unfolding further_words columns_in questions_in
further_at no_more i l = absurd (omega arith)
further_at (and_at c q further) zero l = refl
further_at (and_at c q further) (suc i) l = further_at further i (omega arith)

pub said_further : (q : Question) (tests i : ℕ) (between : List ℕ) (column : ℕ) (p : Question) → tests ≡ length (tests_of q) → i < length (questions_in (further_of q)) → between ≡ before (tests + i) → column ≡ get_or (columns_in (further_of q)) i 0 → p ≡ get_or (questions_in (further_of q)) i (ask 0 [] no_more) → said_first q (tests + i) ++ (between ++ in_brackets column p) ≡ said_first q (tests + (i + 1))
said_further q tests i between column p t l b e f =
    let count : length (map test_words (tests_of q)) ≡ tests = omega (arith, length-map (tests_of q) test_words) in
    let next : tests + i + 1 ≡ tests + (i + 1) = omega arith in
    ap (λ (w : List ℕ). said_first q (tests + i) ++ (w ++ in_brackets column p)) b
    ∙ said_more q (tests + i) (in_brackets column p) (omega (arith, length_parts q))
    (ap (λ (m : ℕ). get_or (parts_of q) (m + i) []) (sym count)
    ∙ get_or-append-add (map test_words (tests_of q)) (further_words (further_of q)) i []
    ∙ further_at (further_of q) i l
    ∙ ap (λ (c : ℕ). in_brackets c (get_or (questions_in (further_of q)) i (ask 0 [] no_more))) (sym e)
    ∙ ap (in_brackets column) (sym f))
    ∙ ap (said_first q) next

-- all parts
pub said_all : (q : Question) (n : ℕ) → 0 < length (parts_of q) → length (parts_of q) ≤ n → said_first q n ≡ question_words q
unfolding question_words
said_all (ask t tests further) n l m =
    ap (λ (ps : List (List ℕ)). codes "register " ++ decimal t ++ codes ": " ++ joined ps) (take_all n _ m)
    ∙ some (parts_of (ask t tests further)) l
  where
    some : (parts : List (List ℕ)) → 0 < length parts → codes "register " ++ decimal t ++ codes ": " ++ joined parts ≡ codes "register " ++ decimal t ++ codes ": " ++ parts_words parts
    some [] h = absurd (omega arith)
    some (p ∷ parts) h = refl

-- no part
pub said_none : (q : Question) (register : ℕ) → register ≡ register_of q → length (parts_of q) ≡ 0 → codes "register " ++ decimal register ++ codes ": " ++ codes "any row" ≡ question_words q
unfolding question_words
said_none (ask t tests further) register r h =
    ap (λ (n : ℕ). codes "register " ++ decimal n ++ codes ": " ++ codes "any row") r ∙ none (parts_of (ask t tests further)) h
  where
    none : (parts : List (List ℕ)) → length parts ≡ 0 → codes "register " ++ decimal t ++ codes ": " ++ codes "any row" ≡ codes "register " ++ decimal t ++ codes ": " ++ parts_words parts
    none [] h = refl
    none (p ∷ parts) h = absurd (omega arith)
