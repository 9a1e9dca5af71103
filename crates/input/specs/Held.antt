-- Which bytes are held as numbers and a rest. Assumes nothing: these are definitions.
use Rattle.std.specs.Prelude.{◌≡◌, ℕ, List, ◌++◌, vec_items}
use Rattle.input.specs.Numbers.{numbers_of, rest_of}
use Rattle.input.specs.declared.numbers.Numbers.{Numbers}

-- what is held after these bytes, in however many parts they came
pub record Holds (bytes : List ℕ) (n : Numbers) : Type 0 where
  pub items : vec_items n.items ≡ numbers_of bytes
  pub rest : n.rest ≡ rest_of bytes

-- a part was added to whatever bytes came before it
abbrev pub Added : List ℕ → Numbers → Numbers → Type 0
Added part before after = (bytes : List ℕ) → Holds bytes before → Holds (bytes ++ part) after

-- whatever bytes were held are held
abbrev pub Kept : Numbers → Numbers → Type 0
Kept before after = (bytes : List ℕ) → Holds bytes before → Holds bytes after
