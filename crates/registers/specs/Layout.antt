-- Which registers a slice of numbers stands for. Assumes nothing: these are definitions.
--
-- The slice is: how many registers; for each of them how many blocks, how many columns, and the blocks, one behind
-- the other; a block is its key, how many rows, and the rows, one behind the other. Places count from 0.
use Rattle.std.specs.Prelude.{ℕ, zero, suc, ◌+◌, ◌*◌, List, map, take, drop, slice_index}
use Rattle.std.specs.List.{range_with_len}
use Rattle.registers.specs.Base.{Row, Block, Register, Base}

-- how many numbers a row of so many columns takes in memory
abbrev pub row_len : ℕ → ℕ
row_len columns = columns

-- the i-th of the rows that begin at place p
abbrev pub row_at : List ℕ → (columns p i : ℕ) → Row
row_at xs columns p i = take columns (drop (p + i * row_len columns) xs)

-- n rows from place p on
unfoldable pub rows_from : List ℕ → (columns p n : ℕ) → List Row
rows_from xs columns p n = map (row_at xs columns p) (range_with_len 0 n)

-- the block that begins at place p, and the place behind it
unfoldable pub block_at : List ℕ → (columns p : ℕ) → Block
block_at xs columns p = record { key = slice_index xs p; rows = rows_from xs columns (p + 2) (slice_index xs (p + 1)) }

unfoldable pub block_end : List ℕ → (columns p : ℕ) → ℕ
block_end xs columns p = p + 2 + slice_index xs (p + 1) * row_len columns

-- where the i-th block begins, of blocks that begin at place p
unfoldable pub block_place : List ℕ → (columns p i : ℕ) → ℕ
block_place xs columns p zero = p
block_place xs columns p (suc i) = block_end xs columns (block_place xs columns p i)

-- n blocks from place p on
unfoldable pub blocks_from : List ℕ → (columns p n : ℕ) → Register
blocks_from xs columns p n = map (λ i. block_at xs columns (block_place xs columns p i)) (range_with_len 0 n)

-- a register that begins at place p: how many blocks, how many columns, its blocks, and the place behind it
abbrev pub blocks_at : List ℕ → ℕ → ℕ
blocks_at xs p = slice_index xs p

abbrev pub columns_at : List ℕ → ℕ → ℕ
columns_at xs p = slice_index xs (p + 1)

unfoldable pub register_at : List ℕ → ℕ → Register
register_at xs p = blocks_from xs (columns_at xs p) (p + 2) (blocks_at xs p)

unfoldable pub register_end : List ℕ → ℕ → ℕ
register_end xs p = block_place xs (columns_at xs p) (p + 2) (blocks_at xs p)

-- how many registers, and where the t-th begins
abbrev pub count_of : List ℕ → ℕ
count_of xs = slice_index xs 0

unfoldable pub register_place : List ℕ → ℕ → ℕ
register_place xs zero = 1
register_place xs (suc t) = register_end xs (register_place xs t)

-- the registers that the slice stands for, and how many columns each has
unfoldable pub base_of : List ℕ → Base
base_of xs = map (λ t. register_at xs (register_place xs t)) (range_with_len 0 (count_of xs))

unfoldable pub columns_of : List ℕ → List ℕ
columns_of xs = map (λ t. columns_at xs (register_place xs t)) (range_with_len 0 (count_of xs))

-- how many blocks stand in the registers before the t-th
unfoldable pub blocks_before : List ℕ → ℕ → ℕ
blocks_before xs zero = 0
blocks_before xs (suc t) = blocks_before xs t + blocks_at xs (register_place xs t)
