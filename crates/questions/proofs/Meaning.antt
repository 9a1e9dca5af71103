-- What is read is what the signs stand for; a register that comes again is one to which a question goes twice.
use Rattle.std.proofs.Common.{◌≡◌, ℕ, ◌*◌, Bool, true, false, cond, not, ◌&&◌, ◌||◌, eqb, leb, List, [], ◌∷◌, ◌++◌, length, is_some, Some, None, Option, sym, refl, ap, ◌∙◌, subst, ap₂, inl, inr, ⊎_elim, arith}
use Rattle.std.proofs.Math.Bool.{or_assoc}
use Rattle.std.proofs.lemmas.Bool.{cases_lt, cond-false, cond-true, eq-eqb, eqb-true, le-leb, leb-true, lt-leb}
use Rattle.std.proofs.lemmas.Bool.Decides.{nat_tests}
use Rattle.questions.specs.declared.refusals.Refusal.{Refusal}
use Rattle.questions.specs.declared.refusals.Refusal.TheVariants.{Twice}
use Rattle.questions.specs.Meaning.{Fault, Means, ReadExactly, SimpleExactly, Whole}
use Rattle.questions.specs.Questions.{Question, distinct, first_again, goes_to, has, simple}
use Rattle.questions.specs.Refusals.{refused_at, refused, signs_refusal}
use Rattle.questions.specs.Signs.{Reading, Short, Stands, asked, most_signs, read, reads, sign_len, stuck, then}
use Rattle.questions.proofs.Deep.{cond_read, then_read, then_stuck}
use Rattle.questions.proofs.Faults.{deep_stops}
use Rattle.questions.proofs.Trees.{read_stands, stands_fits, stands_read}

-- all signs were read
pub read_sound : (widths xs : List ℕ) (q : Question) (e : ℕ) → asked widths xs ≡ read q e → Whole widths xs q e
unfolding asked
read_sound widths xs q e h =
    let fits = cond_read (leb (length xs) (8 * 19)) _ 8 q e h in
    let short = leb-true (length xs) (8 * 19) fits.0 in
    let parts = then_read (reads widths xs 0) _ q e fits.1 in
    let all = cond_read (eqb (parts.1 * 19) (length xs)) _ _ q e parts.3 in
    let found = all.1 in
    let end : parts.1 ≡ e = cc in
    let question : parts.0 ≡ q = cc in
    record {
      short = short;
      stands = read_stands widths xs q 0 e (parts.2 ∙ ap₂ (λ (p : Question) (m : ℕ). read p m) question end);
      all = ap (λ (m : ℕ). m * 19) (sym end) ∙ eqb-true (parts.1 * 19) (length xs) all.0;
    }

pub read_complete : (widths xs : List ℕ) (q : Question) (e : ℕ) → Whole widths xs q e → asked widths xs ≡ read q e
unfolding asked then
read_complete widths xs q e w =
    cond-true _ _ _ (le-leb (length xs) (8 * 19) w.short)
    ∙ ap (λ (r : Reading Question). then r (λ p m. cond (eqb (m * 19) (length xs)) (read p m) (stuck m))) (stands_read widths xs w.short q 0 e w.stands)
    ∙ cond-true _ _ _ (eq-eqb (e * 19) (length xs) w.all)

pub read_exactly : ReadExactly
read_exactly = record { sound = read_sound; complete = read_complete }

-- none of the numbers is one of those before
none_of : (before ns : List ℕ) → Bool
none_of before [] = true
none_of before (n ∷ ns) = not (has before n) && none_of before ns

has_more : (ms : List ℕ) (m n : ℕ) → has (ms ++ m ∷ []) n ≡ (has ms n || eqb n m)
unfolding has
has_more [] m n = grind (arith, nat_tests)
has_more (k ∷ ms) m n = ap (λ (b : Bool). eqb k n || b) (has_more ms m n) ∙ sym (or_assoc (eqb k n) (has ms n) (eqb n m))

regroup : (a b x h : Bool) → (not (a || b) && (x && not h)) ≡ ((not a && x) && not (b || h))
regroup true b x h = refl
regroup false true true h = refl
regroup false true false h = refl
regroup false false true h = refl
regroup false false false h = refl

none_more : (before : List ℕ) (n : ℕ) (ns : List ℕ) → none_of (before ++ n ∷ []) ns ≡ (none_of before ns && not (has ns n))
unfolding none_of has
none_more before n [] = refl
none_more before n (m ∷ ns) =
    ap₂ (λ (a b : Bool). not a && b) (has_more before n m) (none_more before n ns)
    ∙ regroup (has before m) (eqb m n) (none_of before ns) (has ns n)

again_is : (before ns : List ℕ) → (none_of before ns && distinct ns) ≡ not (is_some (first_again before ns))
unfolding none_of distinct first_again
again_is before [] = refl
again_is before (n ∷ ns) =
    at (has before n) (none_of before ns) (not (has ns n)) (distinct ns) (first_again (before ++ n ∷ []) ns)
    (ap (λ (b : Bool). b && distinct ns) (sym (none_more before n ns)) ∙ again_is (before ++ n ∷ []) ns)
  where
    at : (a x h d : Bool) (o : Option ℕ) → ((x && h) && d) ≡ not (is_some o) → ((not a && x) && (h && d)) ≡ not (is_some (cond a (Some n) o))
    at true x h d o e = refl
    at false true h d o e = e
    at false false h d o e = e

none_before : (ns : List ℕ) → none_of [] ns ≡ true
unfolding none_of has
none_before [] = refl
none_before (n ∷ ns) = none_before ns

pub simple_exactly : SimpleExactly
unfolding simple
simple_exactly q =
    ap (λ (b : Bool). b && distinct (goes_to q)) (sym (none_before (goes_to q))) ∙ again_is [] (goes_to q)

pub simple_once : (q : Question) → first_again [] (goes_to q) ≡ None → simple q ≡ true
simple_once q h = simple_exactly q ∙ ap (λ (o : Option ℕ). not (is_some o)) h

-- signs that are accepted were read
pub accepted_read : (widths xs : List ℕ) → is_some (signs_refusal widths xs) ≡ false → (q : Question) × (e : ℕ) × (asked widths xs ≡ read q e) × (simple q ≡ true)
unfolding signs_refusal
accepted_read widths xs h = at (asked widths xs) refl h
  where
    once : (o : Option ℕ) → is_some (refused_at Twice o) ≡ false → o ≡ None
    once None h = refl
    once (Some t) h = cc

    at : (r : Reading Question) → asked widths xs ≡ r → is_some (refused r) ≡ false → (q : Question) × (e : ℕ) × (asked widths xs ≡ read q e) × (simple q ≡ true)
    at (read q e) k h = (q, e, k, simple_once q (once (first_again [] (goes_to q)) h))
    at (stuck s) k h = cc

-- where reading stopped
asked_fault : (widths xs : List ℕ) (s : ℕ) → Short xs → asked widths xs ≡ stuck s → Fault widths xs s
unfolding asked
asked_fault widths xs s short h =
    ⊎_elim
    (λ first.
    let stopped = deep_stops widths xs 8 0 s (omega arith) first in
    record { before = λ u l. stopped.before u (omega arith) l; here = inl stopped.here })
    (λ went.
    let stands = read_stands widths xs went.0 0 went.1 went.2 in
    let end : went.1 ≡ s = left_over (eqb (went.1 * sign_len) (length xs)) went.0 went.1 s went.3 in
    record {
      before = λ u l. stands_fits widths xs went.0 0 went.1 u stands (omega arith) (omega arith);
      here = inr (went.0, subst (Stands widths xs went.0 0) end stands);
    })
    (then_stuck (reads widths xs 0) _ s (sym (cond-true _ _ _ (le-leb (length xs) (most_signs * sign_len) short)) ∙ h))
  where
    left_over : (b : Bool) (q : Question) (e s : ℕ) → cond b (read q e) (stuck e) ≡ stuck s → e ≡ s
    left_over true q e s h = cc
    left_over false q e s h = cc

asked_long : (widths xs : List ℕ) (s : ℕ) → (Short xs → ⊥) → asked widths xs ≡ stuck s → s ≡ most_signs
unfolding asked
asked_long widths xs s long h =
    ⊎_elim
    (λ more. let stop = sym (cond-false _ _ _ (lt-leb (length xs) (most_signs * sign_len) more)) ∙ h in cc)
    (λ few. absurd (long few))
    (cases_lt (most_signs * sign_len) (length xs))

-- what a refusal means, and what it means that there is none
means_read : (widths xs : List ℕ) (r : Reading Question) → asked widths xs ≡ r → Means widths xs (refused r)
means_read widths xs (stuck s) h =
    record {
      none = λ q e w. let found = read_complete widths xs q e w in cc;
      fault = λ short. asked_fault widths xs s short h;
      long = λ more. asked_long widths xs s more h;
    }
means_read widths xs (read q e) h = at (first_again [] (goes_to q)) refl
  where
    at : (o : Option ℕ) → first_again [] (goes_to q) ≡ o → Means widths xs (refused_at Twice o)
    at None k = (q, e, read_sound widths xs q e h, simple_once q k)
    at (Some t) k = (q, e, read_sound widths xs q e h, k)

pub means : (widths xs : List ℕ) (o : Option Refusal) → signs_refusal widths xs ≡ o → Means widths xs o
unfolding signs_refusal
means widths xs o h = subst (Means widths xs) h (means_read widths xs (asked widths xs) refl)
