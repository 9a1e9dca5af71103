-- What a slice that is not refused stands for: registers within all limits. Assumes nothing: these are definitions.
use Rattle.std.specs.Prelude.{◌≡◌, ℕ, ◌^◌, ◌<◌, ◌≤◌, true, List, [], length, None, slice_index, slice_index_or}
use Rattle.registers.specs.Base.{Block, block, proper, register}
use Rattle.registers.specs.Layout.{base_of, columns_of}
use Rattle.registers.specs.Refusals.{refusal}

-- the i-th block of the t-th register of a slice
abbrev pub block_in : List ℕ → (t i : ℕ) → Block
block_in xs t i = block (register (base_of xs) t) i

pub record Within (xs : List ℕ) : Type 0 where
  pub some_register : 1 ≤ length (base_of xs)
  pub few_registers : length (base_of xs) ≤ 8
  pub one_block_a_key : proper (base_of xs) ≡ true
  pub some_column : (t : ℕ) → t < length (base_of xs) → 1 ≤ slice_index (columns_of xs) t
  pub few_columns : (t : ℕ) → t < length (base_of xs) → slice_index (columns_of xs) t ≤ 8
  pub few_blocks : (t : ℕ) → t < length (base_of xs) → length (register (base_of xs) t) ≤ 4096
  pub some_row : (t i : ℕ) → t < length (base_of xs) → i < length (register (base_of xs) t) → 1 ≤ length (block_in xs t i).rows
  pub few_rows : (t i : ℕ) → t < length (base_of xs) → i < length (register (base_of xs) t) → length (block_in xs t i).rows ≤ 64
  pub wide_rows : (t i j : ℕ) → t < length (base_of xs) → i < length (register (base_of xs) t) → j < length (block_in xs t i).rows → length (slice_index_or (block_in xs t i).rows j []) ≡ slice_index (columns_of xs) t
  pub small_keys : (t i : ℕ) → t < length (base_of xs) → i < length (register (base_of xs) t) → (block_in xs t i).key < 2 ^ 32
  pub small_cells : (t i j c : ℕ) → t < length (base_of xs) → i < length (register (base_of xs) t) → j < length (block_in xs t i).rows → c < slice_index (columns_of xs) t → slice_index (slice_index_or (block_in xs t i).rows j []) c < 2 ^ 32

abbrev pub LimitsHold : Type 0
LimitsHold = (xs : List ℕ) → refusal xs ≡ None → Within xs
