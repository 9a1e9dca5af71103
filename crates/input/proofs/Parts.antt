-- Bytes that come in parts stand for the numbers of all of them.
use Rattle.std.proofs.Common.{◌≡◌, ℕ, ◌+◌, ◌*◌, ◌/◌, ◌<◌, List, [], ◌∷◌, ◌++◌, length, get_or, vec_items, sym, refl, ap, ◌∙◌, arith}
use Rattle.std.proofs.lemmas.List.{nil_from_length}
use Rattle.input.specs.declared.numbers.Numbers.{Numbers}
use Rattle.input.specs.Held.{Added}
use Rattle.input.specs.Numbers.{number_of, numbers_of, rest_of}

-- the numbers of two parts: those of the first, and those of its rest with the second
pub numbers_append : (xs ys : List ℕ) → numbers_of (xs ++ ys) ≡ numbers_of xs ++ numbers_of (rest_of xs ++ ys)
unfolding numbers_of rest_of
numbers_append [] ys = refl
numbers_append (a ∷ []) ys = refl
numbers_append (a ∷ b ∷ []) ys = refl
numbers_append (a ∷ b ∷ c ∷ []) ys = refl
numbers_append (a ∷ b ∷ c ∷ d ∷ xs) ys = ap (λ ns. number_of a b c d ∷ ns) (numbers_append xs ys)

pub rest_append : (xs ys : List ℕ) → rest_of (xs ++ ys) ≡ rest_of (rest_of xs ++ ys)
unfolding rest_of
rest_append [] ys = refl
rest_append (a ∷ []) ys = refl
rest_append (a ∷ b ∷ []) ys = refl
rest_append (a ∷ b ∷ c ∷ []) ys = refl
rest_append (a ∷ b ∷ c ∷ d ∷ xs) ys = rest_append xs ys

-- four bytes to a number
pub length_numbers : (bytes : List ℕ) → length (numbers_of bytes) ≡ length bytes / 4
unfolding numbers_of
length_numbers [] = refl
length_numbers (a ∷ []) = refl
length_numbers (a ∷ b ∷ []) = refl
length_numbers (a ∷ b ∷ c ∷ []) = refl
length_numbers (a ∷ b ∷ c ∷ d ∷ bytes) = omega (arith, length_numbers bytes)

-- the bytes of the numbers and the rest are all
pub length_rest : (bytes : List ℕ) → 4 * length (numbers_of bytes) + length (rest_of bytes) ≡ length bytes
unfolding numbers_of rest_of
length_rest [] = refl
length_rest (a ∷ []) = refl
length_rest (a ∷ b ∷ []) = refl
length_rest (a ∷ b ∷ c ∷ []) = refl
length_rest (a ∷ b ∷ c ∷ d ∷ bytes) = omega (arith, length_rest bytes)

-- a rest is too short for a number
pub rest_short : (bytes : List ℕ) → length (rest_of bytes) < 4
rest_short bytes = omega (arith, length_numbers bytes, length_rest bytes)

-- four bytes are one number
pub one_number : (bytes : List ℕ) → length bytes ≡ 4
    → numbers_of bytes ≡ number_of (get_or bytes 0 0) (get_or bytes 1 0) (get_or bytes 2 0) (get_or bytes 3 0) ∷ []
unfolding numbers_of
one_number [] e = absurd (omega arith)
one_number (a ∷ []) e = absurd (omega arith)
one_number (a ∷ b ∷ []) e = absurd (omega arith)
one_number (a ∷ b ∷ c ∷ []) e = absurd (omega arith)
one_number (a ∷ b ∷ c ∷ d ∷ []) e = refl
one_number (a ∷ b ∷ c ∷ d ∷ x ∷ bytes) e = absurd (omega arith)

-- what is too short for a number is all rest
pub all_rest : (bytes : List ℕ) → length bytes < 4 → (numbers_of bytes ≡ []) × (rest_of bytes ≡ bytes)
unfolding numbers_of rest_of
all_rest [] h = (refl, refl)
all_rest (a ∷ []) h = (refl, refl)
all_rest (a ∷ b ∷ []) h = (refl, refl)
all_rest (a ∷ b ∷ c ∷ []) h = (refl, refl)
all_rest (a ∷ b ∷ c ∷ d ∷ bytes) h = absurd (omega arith)

-- four bytes have no rest
pub no_rest : (bytes : List ℕ) → length bytes ≡ 4 → rest_of bytes ≡ []
unfolding rest_of
no_rest bytes e = nil_from_length (rest_of bytes) (omega (arith, length_rest bytes, length_numbers bytes))

-- what is held and its rest take a part as the bytes that they stand for do
pub added : (part : List ℕ) (before after : Numbers)
    → vec_items after.items ≡ vec_items before.items ++ numbers_of (before.rest ++ part)
    → after.rest ≡ rest_of (before.rest ++ part) → Added part before after
added part before after i r bytes h = record {
  items = i ∙ sym (numbers_append bytes part ∙ simp (sym h.items, sym h.rest));
  rest = r ∙ sym (rest_append bytes part ∙ simp (sym h.rest));
}
