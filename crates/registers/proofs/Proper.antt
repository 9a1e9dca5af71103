-- Registers block by block: which keys they have, and when they are proper.
use Rattle.std.proofs.Common.{◌≡◌, ℕ, zero, suc, ◌<◌, Bool, true, false, not, ◌&&◌, ◌||◌, eqb, ltb, [], ◌∷◌, ◌++◌, length, get_or, sym, refl, ap, ◌∙◌, ap₂, ⊎_elim, arith}
use Rattle.std.proofs.lemmas.Bool.{and_cases, and_left, and_right, eq-eqb, ne_eqb, not-false, or_cases, or_from, or_left, or_right, true≢false}
use Rattle.std.proofs.lemmas.Bool.Decides.{nat_tests}
use Rattle.registers.specs.Base.{Block, Register, has_key, proper_register}
use Rattle.registers.specs.Indexing.{keys_of}

or_false : (x : Bool) → (x || false) ≡ x
or_false true = refl
or_false false = refl

and_true : (x : Bool) → (x && true) ≡ x
and_true true = refl
and_true false = refl

or_assoc : (x y z : Bool) → (x || (y || z)) ≡ ((x || y) || z)
or_assoc true y z = refl
or_assoc false y z = refl

eqb_comm : (a b : ℕ) → eqb a b ≡ eqb b a
eqb_comm a b = grind (arith, nat_tests)

pub has_key_push : (k : ℕ) (bs : Register) (b : Block) → has_key k (bs ++ b ∷ []) ≡ (has_key k bs || eqb b.key k)
unfolding has_key
has_key_push k [] b = or_false (eqb b.key k)
has_key_push k (c ∷ cs) b = ap (λ (x : Bool). eqb c.key k || x) (has_key_push k cs b) ∙ or_assoc (eqb c.key k) (has_key k cs) (eqb b.key k)

-- a key that stands at some place is there, and one that stands at none is not
pub has_key_at : (k i : ℕ) (bs : Register) → i < length (keys_of bs) → get_or (keys_of bs) i 0 ≡ k → has_key k bs ≡ true
unfolding has_key
has_key_at k i [] h e = absurd (omega arith)
has_key_at k zero (b ∷ bs) h e = ap (λ (x : Bool). x || has_key k bs) (eq-eqb b.key k e)
has_key_at k (suc i) (b ∷ bs) h e = or_right (eqb b.key k) (has_key k bs) (has_key_at k i bs (omega arith) e)

pub has_key_none : (k : ℕ) (bs : Register) → ((i : ℕ) → i < length (keys_of bs) → get_or (keys_of bs) i 0 ≡ k → ⊥) → has_key k bs ≡ false
unfolding has_key
has_key_none k [] h = refl
has_key_none k (b ∷ bs) h = or_from _ _ (ne_eqb b.key k (h 0 (omega arith))) (has_key_none k bs (λ i l e. h (suc i) (omega arith) e))

-- one block more is proper if its key is new and it has a row
proper_step : (h e h' r s p : Bool) → (not (h || e) && (r && (p && (not h' && s)))) ≡ ((not h && (r && p)) && (not (e || h') && s))
proper_step true e h' r s p = refl
proper_step false true h' r s p = sym (and_right (r && p) (false && s) refl)
proper_step false false h' true s p = refl
proper_step false false h' false s p = refl

pub proper_push : (bs : Register) (b : Block) → proper_register (bs ++ b ∷ []) ≡ (proper_register bs && (not (has_key b.key bs) && ltb 0 (length b.rows)))
unfolding proper_register has_key
proper_push [] b = and_true (ltb 0 (length b.rows))
proper_push (c ∷ cs) b =
    ap₂ (λ (x y : Bool). not x && (ltb 0 (length c.rows) && y))
    (has_key_push c.key cs b ∙ ap (λ (x : Bool). has_key c.key cs || x) (eqb_comm b.key c.key))
    (proper_push cs b)
    ∙ proper_step (has_key c.key cs) (eqb c.key b.key) (has_key b.key cs) (ltb 0 (length c.rows)) (ltb 0 (length b.rows)) (proper_register cs)

-- what is there stays there, and what is not proper does not become so, by more blocks
pub has_key_longer : (k : ℕ) (bs cs : Register) → has_key k bs ≡ true → has_key k (bs ++ cs) ≡ true
unfolding has_key
has_key_longer k [] cs e = absurd (true≢false (sym e))
has_key_longer k (b ∷ bs) cs e =
    ⊎_elim (λ here. or_left (eqb b.key k) (has_key k (bs ++ cs)) here)
    (λ later. or_right (eqb b.key k) (has_key k (bs ++ cs)) (has_key_longer k bs cs later))
    (or_cases (eqb b.key k) (has_key k bs) e)

pub improper_longer : (bs cs : Register) → proper_register bs ≡ false → proper_register (bs ++ cs) ≡ false
unfolding proper_register
improper_longer [] cs e = absurd (true≢false e)
improper_longer (b ∷ bs) cs e =
    ⊎_elim
    (λ twice. and_left _ _ (ap not (has_key_longer b.key bs cs (not-false _ twice))))
    (λ rest. and_right (not (has_key b.key (bs ++ cs))) _
    (⊎_elim (λ none. and_left _ _ none) (λ later. and_right (ltb 0 (length b.rows)) _ (improper_longer bs cs later))
    (and_cases (ltb 0 (length b.rows)) (proper_register bs) rest)))
    (and_cases (not (has_key b.key bs)) (ltb 0 (length b.rows) && proper_register bs) e)
