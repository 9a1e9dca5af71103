-- A slice that is not refused stands for registers within all limits.
use Rattle.std.proofs.Common.{◌≡◌, ℕ, zero, suc, ◌+◌, ◌*◌, ◌^◌, ◌<◌, ◌≤◌, true, not, ltb, List, [], ◌∷◌, length, get_or, None, sym, refl, ap, ◌∙◌, subst, mul-le-mul_right, arith}
use mathlib.Core.Logic.{∥∥₁_elim}
use base.Stored.{coded_bool, coded_ℕ}
use denote.Struct.Props.{≡_prop}
use native.Mathlib.Bridge.{le_prop}
use Rattle.std.proofs.lemmas.List.FromFn.{length-map-range_with_len}
use Rattle.std.proofs.lemmas.List.{get_or-drop, get_or-take, length-drop, length-take}
use Rattle.std.proofs.lemmas.Bool.{and_from, and_parts, ltb-true}
use Rattle.registers.specs.declared.index.Index.{Index}
use Rattle.registers.specs.Base.{Base, Block, Register, block, has_key, proper, proper_register, register}
use Rattle.registers.specs.Layout.{base_of, block_at, block_place, blocks_at, columns_at, columns_of, count_of, register_at, register_end, register_place, row_at}
use Rattle.registers.specs.Limits.{LimitsHold, Within, block_in}
use Rattle.registers.specs.Refusals.{misstated, refusal, register_fits}
use Rattle.registers.proofs.Finding.{sound_parts}
use Rattle.registers.proofs.Small.{small_inside}
use Rattle.registers.proofs.Fitting.{Fit, Inside, block_within, fit_from, inside_from}
use Rattle.registers.proofs.Noting.{block_fits_at, key_block, length_block}
use Rattle.registers.proofs.Placing.{count_few, count_some, first_failing_none, misfit_none}
use Rattle.registers.proofs.Views.{block_there, columns_there, length_register, register_there, row_there}

-- what is known of the i-th block of the t-th register
record Known (xs : List ℕ) (t i at : ℕ) : Type 0 where
  fit : Fit xs (register_place xs t)
  is : block_in xs t i ≡ block_at xs (columns_at xs (register_place xs t)) at
  columns : get_or (columns_of xs) t 0 ≡ columns_at xs (register_place xs t)
  begins : register_place xs t ≤ at
  inside : Inside xs (columns_at xs (register_place xs t)) at
  ends : at + 2 + get_or xs (at + 1) 0 * columns_at xs (register_place xs t) ≤ register_end xs (register_place xs t)

pub length_base : (xs : List ℕ) → length (base_of xs) ≡ count_of xs
unfolding base_of
length_base xs = length-map-range_with_len (λ t. register_at xs (register_place xs t)) 0 (count_of xs)

-- where nothing is refused, each register fits and is proper
fits_at : (xs : List ℕ) (t : ℕ) → refusal xs ≡ None → t < length (base_of xs) → register_fits xs (register_place xs t) ≡ true
fits_at xs t e h =
    first_failing_none (λ i. register_fits xs (register_place xs i)) (count_of xs) t (misfit_none xs (sound_parts xs e).0).1 (omega (arith, length_base xs))

proper_at : (xs : List ℕ) (t : ℕ) → refusal xs ≡ None → t < length (base_of xs) → proper_register (register_at xs (register_place xs t)) ≡ true
unfolding misstated
proper_at xs t e h =
    first_failing_none (λ i. proper_register (register_at xs (register_place xs i))) (count_of xs) t (sound_parts xs e).1 (omega (arith, length_base xs))

known : (xs : List ℕ) (t i : ℕ) → refusal xs ≡ None → t < length (base_of xs) → i < length (register (base_of xs) t) → Known xs t i (block_place xs (columns_at xs (register_place xs t)) (register_place xs t + 2) i)
unfolding register_end
known xs t i e h l =
    let less : t < count_of xs = omega (arith, length_base xs) in
    let there = register_there xs t less in
    let fit = fit_from xs (register_place xs t) (fits_at xs t e h) in
    let few : i < blocks_at xs (register_place xs t) = omega (arith, ap length there, length_register xs (register_place xs t)) in
    let inside = inside_from xs _ _ (block_fits_at xs (columns_at xs (register_place xs t)) (register_place xs t + 2) (blocks_at xs (register_place xs t)) i fit.blocks few) in
    let within = block_within xs (columns_at xs (register_place xs t)) (register_place xs t + 2) (blocks_at xs (register_place xs t)) i few in
    record {
      fit = fit;
      is = ap (λ (r : Register). block r i) there ∙ block_there xs (register_place xs t) i few;
      columns = columns_there xs t less;
      begins = omega (arith, within.0);
      inside = inside;
      ends = within.1;
    }

-- the rows of that block
module _ (xs : List ℕ) (t i at : ℕ) (k : Known xs t i at) where
  rows_count : length (block_in xs t i).rows ≡ get_or xs (at + 1) 0
  rows_count = ap (λ (b : Block). length b.rows) k.is ∙ length_block xs (columns_at xs (register_place xs t)) at

  row_is : (j : ℕ) → j < get_or xs (at + 1) 0 → get_or (block_in xs t i).rows j [] ≡ row_at xs (columns_at xs (register_place xs t)) (at + 2) j
  unfolding block_at
  row_is j h = ap (λ (b : Block). get_or b.rows j []) k.is ∙ row_there xs (columns_at xs (register_place xs t)) (at + 2) (get_or xs (at + 1) 0) j h

  row_fits : (j : ℕ) → j < get_or xs (at + 1) 0 → at + 2 + j * columns_at xs (register_place xs t) + columns_at xs (register_place xs t) ≤ at + 2 + get_or xs (at + 1) 0 * columns_at xs (register_place xs t)
  row_fits j h =
      let whole : (j + 1) * columns_at xs (register_place xs t) ≤ get_or xs (at + 1) 0 * columns_at xs (register_place xs t) = mul-le-mul_right (columns_at xs (register_place xs t)) (omega arith) in
      omega arith

  row_wide : (j : ℕ) → j < get_or xs (at + 1) 0 → length (get_or (block_in xs t i).rows j []) ≡ get_or (columns_of xs) t 0
  row_wide j h =
      let fits = row_fits j h in
      ap length (row_is j h)
      ∙ simp (length-take, length-drop) (omega (arith, k.inside.rows, k.columns))

  key_small : (block_in xs t i).key < 2 ^ 32
  key_small =
      subst (λ (n : ℕ). n < 2 ^ 32) (sym (ap (λ (b : Block). b.key) k.is ∙ key_block xs (columns_at xs (register_place xs t)) at))
      (small_inside xs (register_place xs t) (register_end xs (register_place xs t)) at k.fit.numbers k.fit.ends k.begins (omega (arith, k.ends)))

  cell_small : (j c : ℕ) → j < get_or xs (at + 1) 0 → c < columns_at xs (register_place xs t) → get_or (get_or (block_in xs t i).rows j []) c 0 < 2 ^ 32
  cell_small j c h l =
      let fits = row_fits j h in
      subst (λ (n : ℕ). n < 2 ^ 32)
      (sym (ap (λ (r : List ℕ). get_or r c 0) (row_is j h)
      ∙ get_or-take (columns_at xs (register_place xs t)) _ c 0 l
      ∙ get_or-drop (at + 2 + j * columns_at xs (register_place xs t)) xs c 0))
      (small_inside xs (register_place xs t) (register_end xs (register_place xs t)) (at + 2 + j * columns_at xs (register_place xs t) + c) k.fit.numbers k.fit.ends (omega (arith, k.begins)) (omega (arith, k.ends)))

-- a proper register has a row under each key
proper_rows : (bs : Register) (i : ℕ) → proper_register bs ≡ true → i < length bs → 1 ≤ length (block bs i).rows
unfolding proper_register
proper_rows [] i p h = absurd (omega arith)
proper_rows (b ∷ bs) zero p h =
    ltb-true 0 _ (and_parts (ltb 0 (length b.rows)) (proper_register bs) (and_parts (not (has_key b.key bs)) _ p).1).0
proper_rows (b ∷ bs) (suc i) p h =
    proper_rows bs i (and_parts (ltb 0 (length b.rows)) (proper_register bs) (and_parts (not (has_key b.key bs)) _ p).1).1 (omega arith)

-- all registers are proper where each is
proper_all : (b : Base) → ((t : ℕ) → t < length b → proper_register (register b t) ≡ true) → proper b ≡ true
unfolding proper
proper_all [] h = refl
proper_all (r ∷ rs) h = and_from _ _ (h 0 (omega arith)) (proper_all rs (λ t l. h (suc t) (omega arith)))

pub limits_hold : LimitsHold
limits_hold xs e =
    let place : (t i : ℕ) → ℕ = λ t i. block_place xs (columns_at xs (register_place xs t)) (register_place xs t + 2) i in
    let counted = misfit_none xs (sound_parts xs e).0 in
    let fit : (t : ℕ) → t < length (base_of xs) → Fit xs (register_place xs t) = λ t h. fit_from xs (register_place xs t) (fits_at xs t e h) in
    let there : (t : ℕ) → t < length (base_of xs) → register (base_of xs) t ≡ register_at xs (register_place xs t) = λ t h. register_there xs t (omega (arith, length_base xs)) in
    let columns : (t : ℕ) → t < length (base_of xs) → get_or (columns_of xs) t 0 ≡ columns_at xs (register_place xs t) = λ t h. columns_there xs t (omega (arith, length_base xs)) in
    let rows : (t i : ℕ) (h : t < length (base_of xs)) (l : i < length (register (base_of xs) t)) → length (block_in xs t i).rows ≡ get_or xs (place t i + 1) 0 =
    λ t i h l. rows_count xs t i (place t i) (known xs t i e h l) in
    record {
      some_register = omega (arith, length_base xs, count_some xs counted.0);
      few_registers = omega (arith, length_base xs, count_few xs counted.0);
      one_block_a_key = proper_all (base_of xs) (λ t h. ap proper_register (there t h) ∙ proper_at xs t e h);
      some_column = λ t h. omega (arith, columns t h, (fit t h).some_column);
      few_columns = λ t h. omega (arith, columns t h, (fit t h).few_columns);
      few_blocks = λ t h. omega (arith, ap length (there t h), length_register xs (register_place xs t), (fit t h).few_blocks);
      some_row = λ t i h l.
          subst (λ (r : Register). 1 ≤ length (block r i).rows) (sym (there t h))
          (proper_rows (register_at xs (register_place xs t)) i (proper_at xs t e h) (subst (λ (r : Register). i < length r) (there t h) l));
      few_rows = λ t i h l. omega (arith, rows t i h l, (known xs t i e h l).inside.few_rows);
      wide_rows = λ t i j h l m. row_wide xs t i (place t i) (known xs t i e h l) j (omega (arith, rows t i h l));
      small_keys = λ t i h l. key_small xs t i (place t i) (known xs t i e h l);
      small_cells = λ t i j c h l m n. cell_small xs t i (place t i) (known xs t i e h l) j c (omega (arith, rows t i h l)) (omega (arith, columns t h));
    }

-- an index stands over such registers
Within-prop : (xs : List ℕ) → IsProp (Within xs)
Within-prop xs p q = λ i.
    record {
      some_register = le_prop p.some_register q.some_register i;
      few_registers = le_prop p.few_registers q.few_registers i;
      one_block_a_key = ≡_prop coded_bool _ _ p.one_block_a_key q.one_block_a_key i;
      some_column = λ t h. le_prop (p.some_column t h) (q.some_column t h) i;
      few_columns = λ t h. le_prop (p.few_columns t h) (q.few_columns t h) i;
      few_blocks = λ t h. le_prop (p.few_blocks t h) (q.few_blocks t h) i;
      some_row = λ t j h l. le_prop (p.some_row t j h l) (q.some_row t j h l) i;
      few_rows = λ t j h l. le_prop (p.few_rows t j h l) (q.few_rows t j h l) i;
      wide_rows = λ t j k h l m. ≡_prop coded_ℕ _ _ (p.wide_rows t j k h l m) (q.wide_rows t j k h l m) i;
      small_keys = λ t j h l. le_prop (p.small_keys t j h l) (q.small_keys t j h l) i;
      small_cells = λ t j k c h l m n. le_prop (p.small_cells t j k c h l m n) (q.small_cells t j k c h l m n) i;
    }

pub index_within : (ix : Index) → Within ix.registers.base.now
index_within ix = ∥∥₁_elim ix.sound (Within-prop ix.registers.base.now) (λ k. limits_hold ix.registers.base.now k.sound)
