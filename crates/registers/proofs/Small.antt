-- Numbers below 2^32, told from how many of them stand before the first larger one.
use Rattle.std.proofs.Common.{◌≡◌, ℕ, zero, suc, ◌+◌, ◌-◌, ◌^◌, ◌<◌, ◌≤◌, min, Bool, true, false, cond, ◌&&◌, ltb, leb, List, [], ◌∷◌, length, fold, get_or, take, drop, refl, ◌∙◌, subst, arith}
use lib.Bits.{bit_or, or_add_and}
use Rattle.std.specs.List.{between, prefix_len}
use Rattle.std.proofs.lemmas.List.{length-take, length-drop}
use Rattle.std.proofs.lemmas.List.Edits.{get_or-between, length-between}
use Rattle.std.proofs.lemmas.List.Sums.{prefix_len-le-length}
use Rattle.std.proofs.lemmas.Nat.{and_le_l, and_le_r}
use Rattle.std.proofs.lemmas.Bool.{and_parts, cond-true, lt-ltb, ltb-true}
use Rattle.std.proofs.lemmas.Bool.Decides.{nat_tests}
use Rattle.registers.specs.Refusals.{small}

-- how many numbers stand before the first of 2^32 or more
abbrev pub run : List ℕ → ℕ
run xs = prefix_len (λ x. ltb x 4294967296) xs

pub run_le_length : (xs : List ℕ) → run xs ≤ length xs
run_le_length xs = prefix_len-le-length (λ x. ltb x 4294967296) xs

-- all numbers are small exactly if no large one is met
pub small_run : (xs : List ℕ) → small xs ≡ leb (length xs) (run xs)
unfolding small
small_run [] = refl
small_run (x ∷ xs) = go (ltb x 4294967296) (small_run xs)
  where
    go : (b : Bool) → small xs ≡ leb (length xs) (run xs) → (b && small xs) ≡ leb (suc (length xs)) (cond b (1 + run xs) 0)
    go true e = grind (arith, nat_tests)
    go false e = grind (arith, nat_tests)

pub run_drop : (p : ℕ) (xs : List ℕ) → p ≤ run xs → p + run (drop p xs) ≡ run xs
run_drop zero xs h = omega arith
run_drop (suc p) [] h = absurd (omega arith)
run_drop (suc p) (x ∷ xs) h = go (ltb x 4294967296) h (run_drop p xs)
  where
    go : (b : Bool) → suc p ≤ cond b (1 + run xs) 0 → (p ≤ run xs → p + run (drop p xs) ≡ run xs) → suc p + run (drop p xs) ≡ cond b (1 + run xs) 0
    go true k e = let less : p ≤ run xs = omega arith in omega (arith, e less)
    go false k e = absurd (omega arith)

pub run_take : (n : ℕ) (xs : List ℕ) → run (take n xs) ≡ min n (run xs)
run_take zero xs = omega arith
run_take (suc n) [] = omega arith
run_take (suc n) (x ∷ xs) = go (ltb x 4294967296) (run_take n xs)
  where
    go : (b : Bool) → run (take n xs) ≡ min n (run xs) → cond b (1 + run (take n xs)) 0 ≡ min (suc n) (cond b (1 + run xs) 0)
    go true e = omega arith
    go false e = omega arith

-- a part that begins before the first large number is small exactly if it ends before it
pub small_between : (xs : List ℕ) (p e : ℕ) → p ≤ run xs → p ≤ e → e ≤ length xs → small (between p e xs) ≡ leb e (run xs)
small_between xs p e h k l =
    let d : p + run (drop p xs) ≡ run xs = run_drop p xs h in
    let t : run (between p e xs) ≡ min (e - p) (run (drop p xs)) = run_take (e - p) (drop p xs) in
    let n : length (between p e xs) ≡ e - p = simp (length-take, length-drop) (omega arith) in
    let s : small (between p e xs) ≡ leb (length (between p e xs)) (run (between p e xs)) = small_run (between p e xs) in
    grind (arith, nat_tests)

-- so is what is left of the list
pub small_drop : (xs : List ℕ) (p : ℕ) → p ≤ run xs → p ≤ length xs → small (drop p xs) ≡ leb (length xs) (run xs)
small_drop xs p h l =
    let d : p + run (drop p xs) ≡ run xs = run_drop p xs h in
    let n : length (drop p xs) ≡ length xs - p = length-drop p xs in
    let s : small (drop p xs) ≡ leb (length (drop p xs)) (run (drop p xs)) = small_run (drop p xs) in
    grind (arith, nat_tests)

-- each number of small numbers is small
small_at : (xs : List ℕ) (k : ℕ) → small xs ≡ true → k < length xs → get_or xs k 0 < 2 ^ 32
unfolding small
small_at [] k e h = absurd (omega arith)
small_at (x ∷ xs) zero e h = ltb-true x 4294967296 (and_parts (ltb x 4294967296) (small xs) e).0
small_at (x ∷ xs) (suc k) e h = small_at xs k (and_parts (ltb x 4294967296) (small xs) e).1 (omega arith)

pub small_inside : (xs : List ℕ) (p e k : ℕ) → small (between p e xs) ≡ true → e ≤ length xs → p ≤ k → k < e → get_or xs k 0 < 2 ^ 32
small_inside xs p e k s l a b =
    let at : p + (k - p) ≡ k = omega arith in
    let inside : k - p < length (between p e xs) = omega (arith, length-between xs p e l) in
    subst (λ (j : ℕ). get_or xs j 0 < 2 ^ 32) at
    (subst (λ (n : ℕ). n < 2 ^ 32) (get_or-between xs p e (k - p) 0 (omega arith)) (small_at (between p e xs) (k - p) s inside))

-- where every number is small, none is met that is large
pub run_all : (xs : List ℕ) → ((k : ℕ) → k < length xs → get_or xs k 0 < 4294967296) → run xs ≡ length xs
run_all [] h = refl
run_all (x ∷ xs) h =
    cond-true _ _ _ (lt-ltb x 4294967296 (h 0 (omega arith))) ∙ omega (arith, run_all xs (λ k l. h (suc k) (omega arith)))

-- a number is at most what it becomes by more bits
pub or_above_left : (a b : ℕ) → a ≤ bit_or a b
or_above_left a b = omega (arith, or_add_and a b, and_le_r a b)

pub or_above_right : (a b : ℕ) → b ≤ bit_or a b
or_above_right a b = omega (arith, or_add_and a b, and_le_l a b)

-- all bits of numbers and of `bits` are at least `bits`, and at least each of the numbers
or_all_keeps : (xs : List ℕ) (bits : ℕ) → bits ≤ fold bit_or bits xs
or_all_keeps [] bits = omega arith
or_all_keeps (x ∷ xs) bits = omega (arith, or_above_left bits x, or_all_keeps xs (bit_or bits x))

pub or_all_above : (xs : List ℕ) (bits k : ℕ) → k < length xs → get_or xs k 0 ≤ fold bit_or bits xs
or_all_above [] bits k h = absurd (omega arith)
or_all_above (x ∷ xs) bits zero h = omega (arith, or_above_right bits x, or_all_keeps xs (bit_or bits x))
or_all_above (x ∷ xs) bits (suc k) h = or_all_above xs (bit_or bits x) k (omega arith)
