-- What the definitions of the layout give at each register, block and row: the laws that the crates above cite.
use Rattle.std.proofs.Common.{◌≡◌, ℕ, ◌+◌, ◌-◌, ◌*◌, ◌<◌, ◌≤◌, List, [], length, get_or, take, drop, ap, ◌∙◌, ap₂, ⊎_elim, mul-le-mul_right, arith}
use Rattle.std.proofs.lemmas.List.FromFn.{fill_by_all, get_or-map-range_with_len, length-map-range_with_len}
use Rattle.std.proofs.lemmas.List.{drop-drop, drop-take, get_or_past, take-take}
use Rattle.std.proofs.lemmas.Bool.{cases_lt}
use Rattle.registers.specs.Base.{Base, block, register}
use Rattle.registers.specs.Layout.{base_of, block_at, block_place, blocks_at, blocks_from, columns_at, columns_of, count_of, register_at, register_place, row_at, rows_from}
use Rattle.registers.proofs.Noting.{length_blocks_from, length_rows_from}

-- the t-th register and its columns; there are none beyond the last
pub register_there : (xs : List ℕ) (t : ℕ) → t < count_of xs → register (base_of xs) t ≡ register_at xs (register_place xs t)
unfolding base_of
register_there xs t h = get_or-map-range_with_len (λ i. register_at xs (register_place xs i)) 0 (count_of xs) t t [] h (omega arith)

pub register_beyond : (xs : List ℕ) (t : ℕ) → count_of xs ≤ t → register (base_of xs) t ≡ []
unfolding base_of
register_beyond xs t h = get_or_past _ t [] (omega (arith, length-map-range_with_len (λ i. register_at xs (register_place xs i)) 0 (count_of xs)))

pub columns_there : (xs : List ℕ) (t : ℕ) → t < count_of xs → get_or (columns_of xs) t 0 ≡ columns_at xs (register_place xs t)
unfolding columns_of
columns_there xs t h = get_or-map-range_with_len (λ i. columns_at xs (register_place xs i)) 0 (count_of xs) t t 0 h (omega arith)

pub columns_beyond : (xs : List ℕ) (t : ℕ) → count_of xs ≤ t → get_or (columns_of xs) t 0 ≡ 0
unfolding columns_of
columns_beyond xs t h = get_or_past _ t 0 (omega (arith, length-map-range_with_len (λ i. columns_at xs (register_place xs i)) 0 (count_of xs)))

-- a register that has a block is one of them
pub register_inside : (b : Base) (t i : ℕ) → i < length (register b t) → t < length b
register_inside b t i h =
    ⊎_elim (λ below. below)
    (λ beyond. absurd (let none : length (register b t) ≡ 0 = ap length (get_or_past b t [] beyond) in omega arith))
    (cases_lt t (length b))

-- its blocks
pub length_register : (xs : List ℕ) (p : ℕ) → length (register_at xs p) ≡ blocks_at xs p
unfolding register_at
length_register xs p = length_blocks_from xs (columns_at xs p) (p + 2) (blocks_at xs p)

pub block_there : (xs : List ℕ) (p i : ℕ) → i < blocks_at xs p → block (register_at xs p) i ≡ block_at xs (columns_at xs p) (block_place xs (columns_at xs p) (p + 2) i)
unfolding register_at blocks_from
block_there xs p i h = get_or-map-range_with_len (λ j. block_at xs (columns_at xs p) (block_place xs (columns_at xs p) (p + 2) j)) 0 (blocks_at xs p) i i _ h (omega arith)

-- the rows of a block
pub row_there : (xs : List ℕ) (w p n i : ℕ) → i < n → get_or (rows_from xs w p n) i [] ≡ row_at xs w p i
unfolding rows_from
row_there xs w p n i h = get_or-map-range_with_len (row_at xs w p) 0 n i i [] h (omega arith)

-- a row of a part of the slice is that row of the slice
pub row_of_part : (xs : List ℕ) (w p n i : ℕ) → i < n → row_at (take (n * w) (drop p xs)) w 0 i ≡ row_at xs w p i
row_of_part xs w p n i h =
    let fits : (i + 1) * w ≤ n * w = mul-le-mul_right w (omega arith) in
    let start : 0 + i * w ≡ i * w = omega arith in
    let end : n * w ≡ i * w + (n * w - i * w) = omega arith in
    ap₂ (λ (a b : ℕ). take w (drop a (take b (drop p xs)))) start end
    ∙ ap (take w) (drop-take (i * w) (n * w - i * w) (drop p xs) ∙ ap (take (n * w - i * w)) (drop-drop (i * w) p xs))
    ∙ take-take w (n * w - i * w) (drop (p + i * w) xs) (omega arith)

pub rows_of_part : (xs : List ℕ) (w p n : ℕ) → rows_from (take (n * w) (drop p xs)) w 0 n ≡ rows_from xs w p n
unfolding rows_from
rows_of_part xs w p n =
    fill_by_all (row_at xs w p) (rows_from (take (n * w) (drop p xs)) w 0 n) n [] (length_rows_from (take (n * w) (drop p xs)) w 0 n)
    (λ i l. row_there (take (n * w) (drop p xs)) w 0 n i l ∙ row_of_part xs w p n i l)
