-- Which slices stand for no registers, and with which refusal they are turned away. Assumes nothing: these are
-- definitions.
use Rattle.std.specs.Prelude.{ℕ, zero, suc, ◌+◌, Bool, true, cond, ◌&&◌, List, [], ◌∷◌, ◌++◌, codes, length, drop, Some, None, Ok, Err, Option, Result, nat_le, nat_lt, slice_index}
use Rattle.std.specs.List.{between}
use Rattle.std.specs.Fmt.{decimal}
use Rattle.registers.specs.declared.refusals.Refusal.{Refusal}
use Rattle.registers.specs.declared.refusals.Refusal.TheVariants.{Layout, Blocks}
use Rattle.registers.specs.Base.{proper_register}
use Rattle.registers.specs.Layout.{count_of, blocks_at, columns_at, block_end, block_place, register_at, register_end, register_place}

-- the number of each refusal
abbrev pub number : Refusal → ℕ
number (Layout t) = 1
number (Blocks t) = 2

-- its place: the register, or 8 where it is about none
abbrev pub place : Refusal → ℕ
place (Layout t) = t
place (Blocks t) = t

-- the words in which the programs tell it
abbrev pub words : Refusal → List ℕ
words r = codes "refused " ++ decimal (number r) ++ codes " " ++ decimal (place r)

-- an answer, or the refusal in its place
abbrev pub answered : {A : Type 0} → Option Refusal → A → Result A Refusal
answered None a = Ok a
answered (Some e) a = Err e

-- the first of two refusals
abbrev pub or_else : {A : Type 0} → Option A → Option A → Option A
or_else (Some x) o = Some x
or_else None o = o

-- the first of the numbers below n at which a test fails
unfoldable pub first_failing : (ℕ → Bool) → ℕ → Option ℕ
first_failing f zero = None
first_failing f (suc n) = or_else (first_failing f n) (cond (f n) None (Some n))

-- every number is below 2^32
unfoldable pub small : List ℕ → Bool
small [] = true
small (x ∷ xs) = nat_lt x 4294967296 && small xs

-- the block that begins at place p is there, and has at most 64 rows
abbrev pub block_fits : List ℕ → (columns p : ℕ) → Bool
block_fits xs columns p =
    nat_le (p + 2) (length xs) && (nat_le (slice_index xs (p + 1)) 64 && nat_le (block_end xs columns p) (length xs))

-- so are n blocks from place p on
unfoldable pub blocks_fit : List ℕ → (columns p n : ℕ) → Bool
blocks_fit xs columns p zero = true
blocks_fit xs columns p (suc n) = blocks_fit xs columns p n && block_fits xs columns (block_place xs columns p n)

-- the register that begins at place p is there, has at most 4,096 blocks and 1 to 8 columns, and no number in it is
-- 2^32 or more
unfoldable pub register_fits : List ℕ → ℕ → Bool
register_fits xs p =
    nat_le (p + 2) (length xs)
    && (nat_le (blocks_at xs p) 4096
    && (nat_le 1 (columns_at xs p)
    && (nat_le (columns_at xs p) 8
    && (blocks_fit xs (columns_at xs p) (p + 2) (blocks_at xs p) && small (between p (register_end xs p) xs)))))

-- there are 1 to 8 registers
abbrev pub count_fits : List ℕ → Bool
count_fits xs = nat_le 1 (length xs) && (nat_le 1 (count_of xs) && nat_le (count_of xs) 8)

abbrev pub refused_at : (ℕ → Refusal) → Option ℕ → Option Refusal
refused_at f None = None
refused_at f (Some t) = Some (f t)

-- the first register that does not fit; 8 for their count, and for a number of 2^32 or more behind the last
unfoldable pub misfit : List ℕ → Option ℕ
misfit xs =
    cond (count_fits xs)
    (or_else (first_failing (λ t. register_fits xs (register_place xs t)) (count_of xs))
    (cond (small (drop (register_place xs (count_of xs)) xs)) None (Some 8)))
    (Some 8)

-- the first register in which a key has two blocks or a block has no row
unfoldable pub misstated : List ℕ → Option ℕ
misstated xs = first_failing (λ t. proper_register (register_at xs (register_place xs t))) (count_of xs)

-- which refusal the slice gets, if any: what does not fit is told first
unfoldable pub refusal : List ℕ → Option Refusal
refusal xs = or_else (refused_at Layout (misfit xs)) (refused_at Blocks (misstated xs))
