-- What a run found. Assumes nothing: these are definitions.
use Rattle.std.specs.Prelude.{ℕ, ◌%◌, ◌^◌, List, length, sum}
use Rattle.timing.specs.declared.Found.{Found}

-- what is left of a number in 64 bits
abbrev pub wrapped : ℕ → ℕ
wrapped n = n % 2 ^ 64

-- what was found where these are the parts
abbrev pub found_of : List ℕ → Found
found_of parts = record { count = wrapped (length parts); sum = wrapped (sum parts) }
