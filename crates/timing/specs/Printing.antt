-- How a time is printed. Assumes nothing: these are definitions.
use Rattle.std.specs.Prelude.{ℕ, ◌/◌, ◌%◌, ◌-◌, List, ◌∷◌, ◌++◌, length, codes}
use Rattle.std.specs.List.{repeat}
use Rattle.std.specs.Fmt.{decimal}

-- a text with spaces before it, to ten characters
abbrev pub padded : List ℕ → List ℕ
padded text = repeat (10 - length text) (codes " ") ++ text

-- nanoseconds, a point (46), and the tenths
abbrev pub printed : ℕ → List ℕ
printed tenths = padded (decimal (tenths / 10)) ++ 46 ∷ decimal (tenths % 10)
