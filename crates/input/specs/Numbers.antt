-- Which numbers bytes stand for. Assumes nothing: these are definitions.
use Rattle.std.specs.Prelude.{ℕ, ◌+◌, ◌*◌, List, [], ◌∷◌}

-- the number that four bytes stand for, the low byte first
abbrev pub number_of : (a b c d : ℕ) → ℕ
number_of a b c d = a + b * 256 + c * 65536 + d * 16777216

-- the numbers that bytes stand for, four bytes each; fewer than four at the end stand for none
unfoldable pub numbers_of : List ℕ → List ℕ
numbers_of [] = []
numbers_of (a ∷ []) = []
numbers_of (a ∷ b ∷ []) = []
numbers_of (a ∷ b ∷ c ∷ []) = []
numbers_of (a ∷ b ∷ c ∷ d ∷ bytes) = number_of a b c d ∷ numbers_of bytes

-- the bytes at the end that are too few for a number
unfoldable pub rest_of : List ℕ → List ℕ
rest_of [] = []
rest_of (a ∷ []) = a ∷ []
rest_of (a ∷ b ∷ []) = a ∷ b ∷ []
rest_of (a ∷ b ∷ c ∷ []) = a ∷ b ∷ c ∷ []
rest_of (a ∷ b ∷ c ∷ d ∷ bytes) = rest_of bytes
