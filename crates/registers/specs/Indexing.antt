-- An index over the registers of a slice: which block stands under a key, and the room in which this is noted.
-- Assumes nothing: these are definitions.
use Rattle.std.specs.Prelude.{◌≡◌, ℕ, ◌+◌, ◌*◌, ◌<◌, ◌≤◌, true, false, cond, List, [], ◌∷◌, map, length, replicate, Some, None, Option, ◌==◌, slice_index}
use Rattle.std.specs.List.{between}
use Rattle.registers.specs.declared.layout.Directory.{Directory}
use Rattle.registers.specs.Base.{Register, block, has_key, rows_under}
use Rattle.registers.specs.Layout.{block_place, blocks_at, blocks_before, columns_at, count_of, register_at, register_place}
use Rattle.registers.specs.Refusals.{misfit, refusal}
use Rattle.registers.specs.Survey.{directory_of}
use Rattle.registers.specs.Table.{Holds, Slot, free}

abbrev pub one_more : Option ℕ → Option ℕ
one_more None = None
one_more (Some i) = Some (i + 1)

-- the number of the first block under the key, counted from 0 in the register
unfoldable pub number_under : ℕ → Register → Option ℕ
number_under k [] = None
number_under k (b ∷ bs) = cond (b.key == k) (Some 0) (one_more (number_under k bs))

-- what that number means: the key is there, and the rows under it are those of that block; no number, that it is not
abbrev pub Told : ℕ → Register → Option ℕ → Type 0
Told k r None = has_key k r ≡ false
Told k r (Some i) = (i < length r) × (has_key k r ≡ true) × ((block r i).key ≡ k) × (rows_under k r ≡ (block r i).rows)

abbrev pub keys_of : Register → List ℕ
keys_of bs = map (λ b. b.key) bs

-- HOW IT IS WORKED OUT. A register of n blocks has a table of 2 * n + 1 slots, behind the tables of the registers
-- before it; and the place of each block is noted, behind those of the registers before it.

-- where the table of the t-th register begins
abbrev pub table_place : List ℕ → ℕ → ℕ
table_place xs t = 2 * blocks_before xs t + t

-- a register that is entered
pub record Entered (xs : List ℕ) (p : ℕ) (table : List Slot) (places : List ℕ) : Type 0 where
  pub keys : Holds table (keys_of (register_at xs p))
  pub noted : (i : ℕ) → i < blocks_at xs p → slice_index places i ≡ block_place xs (columns_at xs p) (p + 2) i

-- registers that are surveyed, and so many slots and places that all their blocks can be entered
pub record Enough (xs : List ℕ) (directory : Directory) (slots places : ℕ) : Type 0 where
  pub fits : misfit xs ≡ None
  pub surveyed : directory ≡ directory_of xs
  pub slots_enough : 2 * blocks_before xs (count_of xs) + count_of xs ≤ slots
  pub places_enough : blocks_before xs (count_of xs) ≤ places

-- room for all registers of a slice: enough of both, the slots free, and the places 0
pub record Room (xs : List ℕ) (directory : Directory) (slots : List Slot) (places : List ℕ) : Type 0 where
  pub enough : Enough xs directory (length slots) (length places)
  pub slots_free : slots ≡ replicate (length slots) free
  pub places_free : places ≡ replicate (length places) 0

-- registers of which none is refused, all entered
pub record Indexed (xs : List ℕ) (directory : Directory) (slots : List Slot) (places : List ℕ) : Type 0 where
  pub sound : refusal xs ≡ None
  pub enough : Enough xs directory (length slots) (length places)
  pub entered : (t : ℕ) → t < count_of xs →
      Entered xs (register_place xs t)
      (between (table_place xs t) (table_place xs t + 2 * blocks_at xs (register_place xs t) + 1) slots)
      (between (blocks_before xs t) (blocks_before xs t + blocks_at xs (register_place xs t)) places)
