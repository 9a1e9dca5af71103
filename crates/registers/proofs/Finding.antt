-- What an index tells: the number of a key's block, and the place of each block.
use Rattle.std.proofs.Common.{◌≡◌, ℕ, zero, suc, ◌+◌, ◌*◌, ◌<◌, true, not, eqb, List, [], ◌∷◌, length, get_or, take, drop, Some, None, Option, sym, refl, ap, ◌∙◌, subst, ap₂, ⊎_elim, add-one, arith}
use mathlib.Core.Logic.{∥∥₁_elim}
use native.Mathlib.Bridge.{le_prop}
use base.Stored.{coded_bool, coded_ℕ}
use denote.Struct.Props.{props, ≡_prop}
use std.HLevel.{⊥_prop}
use Rattle.std.specs.List.{between}
use Rattle.std.proofs.lemmas.List.Edits.{get_or-between, length-between}
use Rattle.std.proofs.lemmas.List.{length-map}
use Rattle.std.proofs.lemmas.Bool.{and_parts, cases_eq, cases_lt, cond-false, cond-true, eq-eqb, ne_eqb, or_from, or_left, or_right, true≢false}
use Rattle.registers.specs.declared.layout.Directory.{Directory}
use Rattle.registers.specs.declared.layout.Section.{Section}
use Rattle.registers.specs.declared.refusals.Refusal.TheVariants.{Layout, Blocks}
use Rattle.registers.specs.declared.table.Entry.{Entry}
use Rattle.registers.specs.Base.{Block, Register, Row, block, has_key, proper_register, register, rows_under}
use Rattle.registers.specs.Indexing.{Indexed, Told, keys_of, number_under, one_more, table_place}
use Rattle.registers.specs.Layout.{base_of, block_at, block_place, blocks_at, blocks_before, columns_at, count_of, register_at, register_place, rows_from}
use Rattle.registers.specs.Refusals.{block_fits, misfit, misstated, or_else, refusal, refused_at}
use Rattle.registers.specs.Survey.{no_section}
use Rattle.registers.specs.Table.{Holds, Open, Probed, Slot, slot_at}
use Rattle.registers.proofs.Entering.{holds_known, holds_open, holds_unknown}
use Rattle.registers.proofs.Fitting.{fit_from}
use Rattle.registers.proofs.Noting.{block_fits_at}
use Rattle.registers.proofs.Placing.{Turn, enough_count, first_failing_none, turn_at}
use Rattle.registers.proofs.Proper.{has_key_at}
use Rattle.registers.proofs.Views.{block_there, length_register, register_beyond, register_there, rows_of_part}

-- a key that stands at no place has no block
pub number_none : (k : ℕ) (bs : Register) → ((i : ℕ) → i < length (keys_of bs) → get_or (keys_of bs) i 0 ≡ k → ⊥) → number_under k bs ≡ None
unfolding number_under
number_none k [] h = refl
number_none k (b ∷ bs) h =
    cond-false (eqb b.key k) (Some 0) _ (ne_eqb b.key k (h 0 (omega arith)))
    ∙ ap one_more (number_none k bs (λ i l e. h (suc i) (omega arith) e))

-- in a proper register one that stands at a place has its block there
pub number_at : (k i : ℕ) (bs : Register) → proper_register bs ≡ true → i < length (keys_of bs) → get_or (keys_of bs) i 0 ≡ k → number_under k bs ≡ Some i
unfolding number_under proper_register
number_at k i [] p h e = absurd (omega arith)
number_at k zero (b ∷ bs) p h e = cond-true (eqb b.key k) (Some 0) _ (eq-eqb b.key k e)
number_at k (suc i) (b ∷ bs) p h e =
    let parts = and_parts (not (has_key b.key bs)) _ p in
    let rest = and_parts _ (proper_register bs) parts.1 in
    let there : has_key k bs ≡ true = has_key_at k i bs (omega arith) e in
    let other : b.key ≡ k → ⊥ = λ same. true≢false (sym parts.0 ∙ ap (λ (x : ℕ). not (has_key x bs)) same ∙ ap not there) in
    cond-false (eqb b.key k) (Some 0) _ (ne_eqb b.key k other)
    ∙ ap one_more (number_at k i bs rest.1 (omega arith) e)
    ∙ ap Some (add-one i)

-- what a number means
told_first : (k : ℕ) (b : Block) (bs : Register) → b.key ≡ k → Told k (b ∷ bs) (Some 0)
unfolding has_key rows_under
told_first k b bs e =
    (omega arith, or_left _ _ (eq-eqb b.key k e), e, cond-true _ _ _ (eq-eqb b.key k e))

told_later : (k : ℕ) (b : Block) (bs : Register) (o : Option ℕ) → (b.key ≡ k → ⊥) → Told k bs o → Told k (b ∷ bs) (one_more o)
unfolding has_key rows_under
told_later k b bs None h t = or_from _ _ (ne_eqb b.key k h) t
told_later k b bs (Some i) h t =
    let at : block (b ∷ bs) (i + 1) ≡ block bs i = ap (block (b ∷ bs)) (add-one i) in
    (omega (arith, t.0), or_right _ _ t.1, ap (λ (c : Block). c.key) at ∙ t.2, cond-false _ _ _ (ne_eqb b.key k h) ∙ t.3 ∙ ap (λ (c : Block). c.rows) (sym at))

told : (k : ℕ) (bs : Register) → Told k bs (number_under k bs)
unfolding number_under has_key
told k [] = refl
told k (b ∷ bs) =
    ⊎_elim
    (λ same. subst (Told k (b ∷ bs)) (sym (cond-true _ _ _ (eq-eqb b.key k same))) (told_first k b bs same))
    (λ other. subst (Told k (b ∷ bs)) (sym (cond-false _ _ _ (ne_eqb b.key k other))) (told_later k b bs (number_under k bs) other (told k bs)))
    (cases_eq b.key k)

pub meant : (k : ℕ) (bs : Register) (o : Option ℕ) → o ≡ number_under k bs → Told k bs o
meant k bs o e = subst (Told k bs) (sym e) (told k bs)

-- where no register is refused, none misfits and all are proper
pub sound_parts : (xs : List ℕ) → refusal xs ≡ None → (misfit xs ≡ None) × (misstated xs ≡ None)
unfolding refusal
sound_parts xs e = go (misfit xs) (misstated xs) e
  where
    go : (a b : Option ℕ) → or_else (refused_at Layout a) (refused_at Blocks b) ≡ None → (a ≡ None) × (b ≡ None)
    go None None e = (refl, refl)
    go None (Some t) e = let z : ◌≡◌ {A = ℕ} 0 1 = cc in absurd (omega arith)
    go (Some t) b e = let z : ◌≡◌ {A = ℕ} 0 1 = cc in absurd (omega arith)

-- that an index stands is told by facts that have one proof each
Turn-prop : (xs : List ℕ) (t : ℕ) (section : Section) (m n : ℕ) → IsProp (Turn xs t section m n)
Turn-prop xs t section m n p q = λ i.
    record {
      index = le_prop p.index q.index i;
      less = le_prop p.less q.less i;
      fits = ≡_prop coded_bool _ _ p.fits q.fits i;
      place = ≡_prop coded_ℕ _ _ p.place q.place i;
      first = ≡_prop coded_ℕ _ _ p.first q.first i;
      blocks = ≡_prop coded_ℕ _ _ p.blocks q.blocks i;
      columns = ≡_prop coded_ℕ _ _ p.columns q.columns i;
      few_blocks = le_prop p.few_blocks q.few_blocks i;
      table = le_prop p.table q.table i;
      noted = le_prop p.noted q.noted i;
    }

Open-prop : (table : List Slot) → IsProp (Open table)
Open-prop table p q = λ i. record { room = le_prop p.room q.room i; short = le_prop p.short q.short i }

module _ (xs : List ℕ) (directory : Directory) (slots : List Slot) (places : List ℕ) (ix : ∥ Indexed xs directory slots places ∥₁) (t : ℕ) (section : Section) (l : t < directory.count) (is : section ≡ get_or directory.sections t no_section) where
  -- where the t-th register stands, and its table and places
  pub index_turn : Turn xs t section (length slots) (length places)
  index_turn =
      ∥∥₁_elim ix (Turn-prop xs t _ _ _)
      (λ k. subst (λ (s : Section). Turn xs t s (length slots) (length places)) (sym is) (turn_at xs directory (length slots) (length places) t k.enough l).0)

  -- it is proper
  pub index_proper : proper_register (register_at xs (register_place xs t)) ≡ true
  unfolding misstated
  index_proper =
      ∥∥₁_elim ix (≡_prop coded_bool _ _)
      (λ k. first_failing_none (λ i. proper_register (register_at xs (register_place xs i))) (count_of xs) t (sound_parts xs k.sound).1 index_turn.less)

  -- each of its blocks is noted
  pub index_noted : (i : ℕ) → i < section.blocks → get_or places (section.first + i) 0 ≡ block_place xs section.columns (section.place + 2) i
  index_noted i h =
      let u = index_turn in
      let same : block_place xs (columns_at xs (register_place xs t)) (register_place xs t + 2) i ≡ block_place xs section.columns (section.place + 2) i =
      ap₂ (λ (w p : ℕ). block_place xs w (p + 2) i) (sym u.columns) (sym u.place) in
      ∥∥₁_elim ix (≡_prop coded_ℕ _ _)
      (λ k.
      ap (λ (a : ℕ). get_or places (a + i) 0) u.first
      ∙ sym (get_or-between places (blocks_before xs t) (blocks_before xs t + blocks_at xs (register_place xs t)) i 0 (omega arith))
      ∙ (k.entered t u.less).noted i (omega arith)
      ∙ same)

  -- its keys are found
  module _ (table : List Slot) (from to : ℕ) (start : from ≡ 2 * section.first + t) (end : to ≡ from + 2 * section.blocks + 1) (e : table ≡ between from to slots) where
    table_is : table ≡ between (table_place xs t) (table_place xs t + 2 * blocks_at xs (register_place xs t) + 1) slots
    table_is =
        let u = index_turn in
        e ∙ ap₂ (λ (a b : ℕ). between a b slots) (omega (arith, u.first)) (omega (arith, u.first, u.blocks))

    length_table : length table ≡ 2 * section.blocks + 1
    length_table = ap length e ∙ length-between slots _ _ (omega (arith, index_turn.table)) ∙ omega arith

    length_keys : length (keys_of (register_at xs (register_place xs t))) ≡ section.blocks
    length_keys = length-map (register_at xs (register_place xs t)) (λ (b : Block). b.key) ∙ length_register xs (register_place xs t) ∙ sym index_turn.blocks

    pub index_open : Open table
    index_open =
        ∥∥₁_elim ix (Open-prop table)
        (λ k.
        holds_open table (keys_of (register_at xs (register_place xs t)))
        (subst (λ (s : List Slot). Holds s (keys_of (register_at xs (register_place xs t)))) (sym table_is) (k.entered t index_turn.less).keys)
        (omega (arith, length_table, length_keys)) (omega (arith, length_table, index_turn.few_blocks)))

    pub index_finds : (k r : ℕ) (e : Entry) → Probed table k r → slot_at table r ≡ Some e → Some e.block ≡ number_under k (register_at xs (register_place xs t))
    index_finds k r e p u =
        let own : (e.block < length (keys_of (register_at xs (register_place xs t)))) × (get_or (keys_of (register_at xs (register_place xs t))) e.block 0 ≡ k) =
        ∥∥₁_elim ix (hlevel props)
        (λ x.
        holds_known table (keys_of (register_at xs (register_place xs t)))
        (subst (λ (s : List Slot). Holds s (keys_of (register_at xs (register_place xs t)))) (sym table_is) (x.entered t index_turn.less).keys)
        k r p e u) in
        sym (number_at k _ (register_at xs (register_place xs t)) index_proper own.0 own.1)

    pub index_lacks : (k r : ℕ) → Probed table k r → slot_at table r ≡ None → None ≡ number_under k (register_at xs (register_place xs t))
    index_lacks k r p u =
        sym (number_none k (register_at xs (register_place xs t))
        (λ i h same.
        ∥∥₁_elim ix ⊥_prop
        (λ x.
        holds_unknown table (keys_of (register_at xs (register_place xs t)))
        (subst (λ (s : List Slot). Holds s (keys_of (register_at xs (register_place xs t)))) (sym table_is) (x.entered t index_turn.less).keys)
        k r p u i h same)))

-- the block of a number, and where it stands
pub record Located (xs : List ℕ) (section : Section) (slots places t i at : ℕ) : Type 0 where
  pub turn : Turn xs t section slots places
  pub less : i < section.blocks
  pub fits : block_fits xs section.columns at ≡ true
  pub block_is : block_at xs section.columns at ≡ block (register (base_of xs) t) i

-- how many registers there are
pub index_count : (xs : List ℕ) (directory : Directory) (slots : List Slot) (places : List ℕ) → ∥ Indexed xs directory slots places ∥₁ → directory.count ≡ count_of xs
index_count xs directory slots places ix =
    ∥∥₁_elim ix (≡_prop coded_ℕ _ _) (λ k. enough_count xs directory (length slots) (length places) k.enough)

-- a register that has a block is one of them
pub index_there : (xs : List ℕ) (directory : Directory) (slots : List Slot) (places : List ℕ) (t i : ℕ) → ∥ Indexed xs directory slots places ∥₁ → i < length (register (base_of xs) t) → t < directory.count
index_there xs directory slots places t i ix h =
    let count = index_count xs directory slots places ix in
    ⊎_elim (λ below. omega arith)
    (λ beyond. absurd (let none : length (register (base_of xs) t) ≡ 0 = ap length (register_beyond xs t beyond) in omega arith))
    (cases_lt t (count_of xs))

pub located : (xs : List ℕ) (directory : Directory) (slots : List Slot) (places : List ℕ) (t i : ℕ) (section : Section) → ∥ Indexed xs directory slots places ∥₁ → i < length (register (base_of xs) t) → section ≡ get_or directory.sections t no_section → Located xs section (length slots) (length places) t i (get_or places (section.first + i) 0)
located xs directory slots places t i section ix h is =
    let l = index_there xs directory slots places t i ix h in
    let u = index_turn xs directory slots places ix t section l is in
    let many : length (register (base_of xs) t) ≡ blocks_at xs (register_place xs t) = ap length (register_there xs t u.less) ∙ length_register xs (register_place xs t) in
    let less : i < section.blocks = omega (arith, u.blocks) in
    let noted = index_noted xs directory slots places ix t section l is i less in
    let fit = fit_from xs (register_place xs t) u.fits in
    let same : block_place xs section.columns (section.place + 2) i ≡ block_place xs (columns_at xs (register_place xs t)) (register_place xs t + 2) i =
    ap₂ (λ (w p : ℕ). block_place xs w (p + 2) i) u.columns u.place in
    record {
      turn = u;
      less = less;
      fits =
          ap₂ (block_fits xs) u.columns (noted ∙ same)
          ∙ block_fits_at xs (columns_at xs (register_place xs t)) (register_place xs t + 2) (blocks_at xs (register_place xs t)) i fit.blocks (omega arith);
      block_is =
          ap₂ (block_at xs) u.columns (noted ∙ same)
          ∙ sym (block_there xs (register_place xs t) i (omega arith))
          ∙ ap (λ (r : Register). block r i) (sym (register_there xs t u.less));
    }

-- a part of the slice that holds a block
pub held_there : (xs : List ℕ) (w at n : ℕ) → n ≡ get_or xs (at + 1) 0 * w → record { key = get_or xs at 0; rows = rows_from (take n (drop (at + 2) xs)) w 0 (get_or xs (at + 1) 0) } ≡ block_at xs w at
unfolding block_at
held_there xs w at n e =
    ap (λ (r : List Row). record { key = get_or xs at 0; rows = r })
    (ap (λ (m : ℕ). rows_from (take m (drop (at + 2) xs)) w 0 (get_or xs (at + 1) 0)) e ∙ rows_of_part xs w (at + 2) (get_or xs (at + 1) 0))
