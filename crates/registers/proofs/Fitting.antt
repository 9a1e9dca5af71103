-- Laws of what fits: one block or register more, and that what fails early fails in the whole.
use Rattle.std.proofs.Common.{◌≡◌, ℕ, zero, suc, ◌+◌, ◌*◌, ◌<◌, ◌≤◌, Bool, true, false, cond, ◌&&◌, leb, List, length, get_or, Some, None, sym, refl, ap, ◌∙◌, subst, ⊎_elim, add-one, arith}
use Rattle.std.proofs.lemmas.Bool.{and_left, and_right, and_from, and_parts, cases_eq, leb-true, cond-false}
use Rattle.std.proofs.lemmas.Bool.Decides.{nat_tests}
use Rattle.std.specs.Borrow.{Bor}
use Rattle.std.specs.List.{between}
use Rattle.std.specs.Slice.{IsItemAt}
use Rattle.registers.specs.Layout.{block_place, block_end, blocks_at, columns_at, register_end}
use Rattle.registers.specs.Refusals.{blocks_fit, block_fits, register_fits, small}
use Rattle.registers.proofs.Small.{run, small_between}

pub blocks_fit_none : (xs : List ℕ) (w p : ℕ) → blocks_fit xs w p 0 ≡ true
unfolding blocks_fit
blocks_fit_none xs w p = refl

pub blocks_fit_more : (xs : List ℕ) (w p i : ℕ) → blocks_fit xs w p (i + 1) ≡ (blocks_fit xs w p i && block_fits xs w (block_place xs w p i))
unfolding blocks_fit
blocks_fit_more xs w p i = rw add-one

pub block_place_none : (xs : List ℕ) (w p : ℕ) → block_place xs w p 0 ≡ p
unfolding block_place
block_place_none xs w p = refl

pub block_place_more : (xs : List ℕ) (w p i : ℕ) → block_place xs w p (i + 1) ≡ block_end xs w (block_place xs w p i)
unfolding block_place
block_place_more xs w p i = rw add-one

-- where an early block is missing, the blocks are not all there
pub blocks_fit_fails : (xs : List ℕ) (w p n i : ℕ) → i < n → block_fits xs w (block_place xs w p i) ≡ false → blocks_fit xs w p n ≡ false
unfolding blocks_fit
blocks_fit_fails xs w p zero i h e = absurd (omega arith)
blocks_fit_fails xs w p (suc n) i h e =
    ⊎_elim
    (λ same. let last : block_fits xs w (block_place xs w p n) ≡ false = rw same at e in and_right _ _ last)
    (λ other. let less : i < n = omega arith in and_left _ _ (blocks_fit_fails xs w p n i less e))
    (cases_eq i n)

-- a block fits exactly if it passes the tests, in their order
pub block_fits_cut : (xs : List ℕ) (w p : ℕ) → length xs < block_end xs w p → block_fits xs w p ≡ false
block_fits_cut xs w p h = grind (arith, nat_tests)

pub block_fits_all : (xs : List ℕ) (w p : ℕ) → p + 2 ≤ length xs → get_or xs (p + 1) 0 ≤ 64 → block_end xs w p ≤ length xs → block_fits xs w p ≡ true
block_fits_all xs w p a b c = grind (arith, nat_tests)

-- a block that fits ends in the slice
pub block_fits_inside : (xs : List ℕ) (w p : ℕ) → block_fits xs w p ≡ true → block_end xs w p ≤ length xs
block_fits_inside xs w p h = grind (arith, nat_tests)

-- a walk over blocks: the place reached, and that all blocks before it were there
pub record Walked (xs : List ℕ) (w p i at : ℕ) : Type 0 where
  pub place : at ≡ block_place xs w p i
  pub fit : blocks_fit xs w p i ≡ true
  pub inside : at ≤ length xs

pub walked_none : (xs : List ℕ) (w p : ℕ) → p ≤ length xs → Walked xs w p 0 p
walked_none xs w p h = record { place = sym (block_place_none xs w p); fit = blocks_fit_none xs w p; inside = h }

pub walked_more : (xs : List ℕ) (w p i at : ℕ) → Walked xs w p i at → block_fits xs w at ≡ true → Walked xs w p (i + 1) (block_end xs w at)
walked_more xs w p i at k f =
    record {
      place = ap (block_end xs w) k.place ∙ sym (block_place_more xs w p i);
      fit = blocks_fit_more xs w p i ∙ and_from _ _ k.fit (ap (block_fits xs w) (sym k.place) ∙ f);
      inside = block_fits_inside xs w at f;
    }

-- a walk that stops at a block tells that the blocks are not all there
pub walked_stops : {A : Type 0} (xs : List ℕ) (w p n i at : ℕ) (x y : A) → Walked xs w p i at → i < n → block_fits xs w at ≡ false → y ≡ cond (blocks_fit xs w p n) x y
walked_stops xs w p n i at x y k h f = sym (cond-false _ x y (blocks_fit_fails xs w p n i h (ap (block_fits xs w) (sym k.place) ∙ f)))

-- where its numbers stand
pub record Inside (xs : List ℕ) (w p : ℕ) : Type 0 where
  pub heading : p + 2 ≤ length xs
  pub few_rows : get_or xs (p + 1) 0 ≤ 64
  pub rows : p + 2 + get_or xs (p + 1) 0 * w ≤ length xs

pub inside_from : (xs : List ℕ) (w p : ℕ) → block_fits xs w p ≡ true → Inside xs w p
unfolding block_end
inside_from xs w p h =
    let a = and_parts (leb (p + 2) (length xs)) (leb (get_or xs (p + 1) 0) 64 && leb (block_end xs w p) (length xs)) h in
    let b = and_parts (leb (get_or xs (p + 1) 0) 64) (leb (block_end xs w p) (length xs)) a.1 in
    record { heading = leb-true _ _ a.0; few_rows = leb-true _ _ b.0; rows = leb-true _ _ b.1 }

-- where the blocks are all there, they end in the slice, behind their beginning
pub block_place_inside : (xs : List ℕ) (w p n : ℕ) → p ≤ length xs → blocks_fit xs w p n ≡ true → (p ≤ block_place xs w p n) × (block_place xs w p n ≤ length xs)
unfolding blocks_fit block_place block_end
block_place_inside xs w p zero h e = (omega arith, h)
block_place_inside xs w p (suc n) h e =
    let parts = and_parts (blocks_fit xs w p n) (block_fits xs w (block_place xs w p n)) e in
    let before = block_place_inside xs w p n h parts.0 in
    (omega arith, block_fits_inside xs w (block_place xs w p n) parts.1)

-- later blocks stand behind earlier ones
block_place_up : (xs : List ℕ) (w p i n : ℕ) → i ≤ n → block_place xs w p i ≤ block_place xs w p n
unfolding block_place block_end
block_place_up xs w p i zero h = let e : i ≡ 0 = omega arith in subst (λ (j : ℕ). block_place xs w p j ≤ p) (sym e) (omega arith)
block_place_up xs w p i (suc n) h =
    ⊎_elim (λ same. subst (λ (j : ℕ). block_place xs w p j ≤ block_place xs w p (suc n)) (sym same) (omega arith))
    (λ other. omega (arith, block_place_up xs w p i n (omega arith)))
    (cases_eq i (suc n))

block_end_is : (xs : List ℕ) (w p : ℕ) → block_end xs w p ≡ p + 2 + get_or xs (p + 1) 0 * w
unfolding block_end
block_end_is xs w p = refl

-- each of n blocks begins behind their beginning, and ends before their end
pub block_within : (xs : List ℕ) (w p n i : ℕ) → i < n → (p ≤ block_place xs w p i) × (block_place xs w p i + 2 + get_or xs (block_place xs w p i + 1) 0 * w ≤ block_place xs w p n)
block_within xs w p n i h =
    let start = block_place_up xs w p 0 i (omega arith) in
    let next = block_place_up xs w p (i + 1) n (omega arith) in (
      omega (arith, block_place_none xs w p),
      omega (arith, block_place_more xs w p i, block_end_is xs w (block_place xs w p i)),
    )

-- what is read at a place of the slice
pub item_there : (xs : List ℕ) (i : ℕ) (x : Bor ℕ) → IsItemAt xs i (Some x) → (i < length xs) × (x.now ≡ get_or xs i 0)
item_there xs i x h = (h.3.0, h.4 (omega arith) 0)

-- what an optional answer tells of the test that it depends on
pub from_some : {A : Type 0} (b : Bool) (x y : A) → Some y ≡ cond b (Some x) None → (b ≡ true) × (y ≡ x)
from_some true x y e = (refl, cc)
from_some false x y e = let z : ◌≡◌ {A = ℕ} 0 1 = cc in absurd (omega arith)

pub from_none : {A : Type 0} (b : Bool) (x : A) → None ≡ cond b (Some x) None → b ≡ false
from_none true x e = let z : ◌≡◌ {A = ℕ} 0 1 = cc in absurd (omega arith)
from_none false x e = refl

-- a register fits exactly if it passes the tests, in their order
pub register_fits_no_heading : (xs : List ℕ) (p : ℕ) → length xs < p + 2 → register_fits xs p ≡ false
unfolding register_fits
register_fits_no_heading xs p h = grind (arith, nat_tests)

pub register_fits_limits : (xs : List ℕ) (p : ℕ) → (blocks_at xs p ≤ 4096 → 1 ≤ columns_at xs p → columns_at xs p ≤ 8 → ⊥) → register_fits xs p ≡ false
unfolding register_fits
register_fits_limits xs p h = grind (arith, nat_tests)

pub register_fits_cut : (xs : List ℕ) (p : ℕ) → blocks_fit xs (columns_at xs p) (p + 2) (blocks_at xs p) ≡ false → register_fits xs p ≡ false
unfolding register_fits
register_fits_cut xs p h = grind (arith, nat_tests)

-- what a register that is there owes besides: that it ends before the first large number
pub register_fits_there : (xs : List ℕ) (p : ℕ) → p ≤ run xs → p + 2 ≤ length xs → blocks_at xs p ≤ 4096 → 1 ≤ columns_at xs p → columns_at xs p ≤ 8 → blocks_fit xs (columns_at xs p) (p + 2) (blocks_at xs p) ≡ true → register_fits xs p ≡ leb (register_end xs p) (run xs)
unfolding register_fits register_end
register_fits_there xs p h a b c d e =
    let inside = block_place_inside xs (columns_at xs p) (p + 2) (blocks_at xs p) a e in
    let s : small (between p (register_end xs p) xs) ≡ leb (register_end xs p) (run xs) = small_between xs p (register_end xs p) h (omega arith) inside.1 in
    grind (arith, nat_tests)

-- what is known of a register that fits
pub record Fit (xs : List ℕ) (p : ℕ) : Type 0 where
  pub heading : p + 2 ≤ length xs
  pub few_blocks : blocks_at xs p ≤ 4096
  pub some_column : 1 ≤ columns_at xs p
  pub few_columns : columns_at xs p ≤ 8
  pub blocks : blocks_fit xs (columns_at xs p) (p + 2) (blocks_at xs p) ≡ true
  pub begins : p + 2 ≤ register_end xs p
  pub ends : register_end xs p ≤ length xs
  pub numbers : small (between p (register_end xs p) xs) ≡ true

pub fit_from : (xs : List ℕ) (p : ℕ) → register_fits xs p ≡ true → Fit xs p
unfolding register_fits register_end
fit_from xs p h =
    let a = and_parts _ _ h in
    let b = and_parts _ _ a.1 in
    let c = and_parts _ _ b.1 in
    let d = and_parts _ _ c.1 in
    let e = and_parts _ _ d.1 in
    let inside = block_place_inside xs (columns_at xs p) (p + 2) (blocks_at xs p) (leb-true _ _ a.0) e.0 in
    record {
      heading = leb-true _ _ a.0;
      few_blocks = leb-true _ _ b.0;
      some_column = leb-true _ _ c.0;
      few_columns = leb-true _ _ d.0;
      blocks = e.0;
      begins = inside.0;
      ends = inside.1;
      numbers = e.1;
    }

-- such a register ends before the first large number, where it begins before it
pub fit_before_large : (xs : List ℕ) (p : ℕ) → p ≤ run xs → Fit xs p → register_end xs p ≤ run xs
fit_before_large xs p h k =
    leb-true _ _ (sym (small_between xs p (register_end xs p) h (omega arith) k.ends) ∙ k.numbers)
