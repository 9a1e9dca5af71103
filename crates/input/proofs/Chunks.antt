-- Bytes as whole numbers and a rest, and the numbers of their chunks of four.
use Rattle.std.proofs.Common.{◌≡◌, ℕ, zero, suc, ◌*◌, ◌/◌, ◌<◌, ◌≤◌, List, [], ◌∷◌, ◌++◌, length, get_or, drop, refl, ap, ◌∙◌, arith, append-nil}
use Rattle.std.specs.Simd.{first_chunks}
use Rattle.input.specs.Numbers.{number_of, numbers_of, rest_of}
use Rattle.input.proofs.Parts.{all_rest}

-- a chunk stands for the number at its place
pub chunk_number : (bytes : List ℕ) (n i : ℕ) (d : List ℕ) → i < n → n * 4 ≤ length bytes
    → numbers_of (get_or (first_chunks 4 n bytes) i d) ≡ get_or (numbers_of bytes) i 0 ∷ []
unfolding numbers_of
chunk_number bytes zero i d h l = absurd (omega arith)
chunk_number [] (suc n) i d h l = absurd (omega arith)
chunk_number (a ∷ []) (suc n) i d h l = absurd (omega arith)
chunk_number (a ∷ b ∷ []) (suc n) i d h l = absurd (omega arith)
chunk_number (a ∷ b ∷ c ∷ []) (suc n) i d h l = absurd (omega arith)
chunk_number (a ∷ b ∷ c ∷ e ∷ bytes) (suc n) zero d h l = refl
chunk_number (a ∷ b ∷ c ∷ e ∷ bytes) (suc n) (suc i) d h l =
    chunk_number bytes n i d (omega arith) (omega arith)

-- the bytes behind the last whole chunk
pub rest_drop : (bytes : List ℕ) (n : ℕ) → n ≡ length bytes / 4 → rest_of bytes ≡ drop (n * 4) bytes
unfolding rest_of
rest_drop [] n e = let z : n ≡ 0 = omega arith in rw z refl
rest_drop (a ∷ []) n e = let z : n ≡ 0 = omega arith in rw z refl
rest_drop (a ∷ b ∷ []) n e = let z : n ≡ 0 = omega arith in rw z refl
rest_drop (a ∷ b ∷ c ∷ []) n e = let z : n ≡ 0 = omega arith in rw z refl
rest_drop (a ∷ b ∷ c ∷ d ∷ bytes) zero e = absurd (omega arith)
rest_drop (a ∷ b ∷ c ∷ d ∷ bytes) (suc n) e =
    let more : suc n * 4 ≡ suc (suc (suc (suc (n * 4)))) = omega arith in
    rw more (rest_drop bytes n (omega arith))

-- the bytes of the whole numbers
abbrev pub whole_of : List ℕ → List ℕ
whole_of [] = []
whole_of (a ∷ []) = []
whole_of (a ∷ b ∷ []) = []
whole_of (a ∷ b ∷ c ∷ []) = []
whole_of (a ∷ b ∷ c ∷ d ∷ bytes) = a ∷ b ∷ c ∷ d ∷ whole_of bytes

pub whole_rest : (bytes : List ℕ) → whole_of bytes ++ rest_of bytes ≡ bytes
unfolding rest_of
whole_rest [] = refl
whole_rest (a ∷ []) = refl
whole_rest (a ∷ b ∷ []) = refl
whole_rest (a ∷ b ∷ c ∷ []) = refl
whole_rest (a ∷ b ∷ c ∷ d ∷ bytes) = ap (λ bs. a ∷ b ∷ c ∷ d ∷ bs) (whole_rest bytes)

whole_numbers : (bytes : List ℕ)
    → (numbers_of (whole_of bytes) ≡ numbers_of bytes) × (rest_of (whole_of bytes) ≡ [])
unfolding numbers_of rest_of
whole_numbers [] = (refl, refl)
whole_numbers (a ∷ []) = (refl, refl)
whole_numbers (a ∷ b ∷ []) = (refl, refl)
whole_numbers (a ∷ b ∷ c ∷ []) = (refl, refl)
whole_numbers (a ∷ b ∷ c ∷ d ∷ bytes) =
    let e = whole_numbers bytes in
    (ap (λ ns. number_of a b c d ∷ ns) e.0, e.1)

-- whole numbers behind no rest, or none behind a rest
pub whole_behind : (rest bytes : List ℕ) → length rest < 4 → (0 < length rest → length bytes ≡ 0)
    → (numbers_of (rest ++ whole_of bytes) ≡ numbers_of bytes) × (rest_of (rest ++ whole_of bytes) ≡ rest)
unfolding numbers_of
whole_behind [] bytes s f = whole_numbers bytes
whole_behind (a ∷ rest) [] s f =
    let e = all_rest (a ∷ rest) s in
    (ap numbers_of (append-nil (a ∷ rest)) ∙ e.0, ap rest_of (append-nil (a ∷ rest)) ∙ e.1)
whole_behind (a ∷ rest) (b ∷ bytes) s f = absurd (omega (arith, f (omega arith)))
