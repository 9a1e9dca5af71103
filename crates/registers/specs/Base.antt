-- Registers in which several rows may stand under one key. Assumes nothing: these are definitions.
use Rattle.std.specs.Prelude.{ℕ, Bool, true, false, cond, not, ◌&&◌, ◌||◌, List, [], ◌∷◌, length, ◌==◌, nat_lt, slice_index_or}

-- what one board says under a key: a number for each column
abbrev pub Row : Type 0
Row = List ℕ

-- what all boards say under one key
pub record Block : Type 0 where
  pub key : ℕ
  pub rows : List Row

abbrev pub Register : Type 0
Register = List Block

-- registers are numbered from 0
abbrev pub Base : Type 0
Base = List Register

-- the register of a number; one beyond the last has no blocks
abbrev pub register : Base → ℕ → Register
register b t = slice_index_or b t []

-- the i-th block of a register
abbrev pub block : Register → ℕ → Block
block r i = slice_index_or r i (record { key = 0; rows = [] })

-- some block stands under the key
unfoldable pub has_key : ℕ → Register → Bool
has_key k [] = false
has_key k (b ∷ bs) = b.key == k || has_key k bs

-- the rows of the first block under the key, or none
unfoldable pub rows_under : ℕ → Register → List Row
rows_under k [] = []
rows_under k (b ∷ bs) = cond (b.key == k) b.rows (rows_under k bs)

-- no key has two blocks, and no block is without a row
unfoldable pub proper_register : Register → Bool
proper_register [] = true
proper_register (b ∷ bs) = not (has_key b.key bs) && (nat_lt 0 (length b.rows) && proper_register bs)

unfoldable pub proper : Base → Bool
proper [] = true
proper (r ∷ rs) = proper_register r && proper rs
