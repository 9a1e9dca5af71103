-- Entering the blocks of one register, block by block.
use Rattle.std.proofs.Common.{◌≡◌, ℕ, zero, suc, ◌+◌, ◌*◌, ◌^◌, ◌<◌, ◌≤◌, Bool, true, false, not, ◌&&◌, ltb, ◌⊎◌, List, [], ◌∷◌, ◌++◌, map, length, get_or, drop, set, replicate, Some, None, sym, refl, ap, ◌∙◌, subst, ap₂, ⊎_elim, arith, below_more}
use Rattle.std.specs.List.{range_with_len}
use Rattle.std.proofs.lemmas.List.FromFn.{length-map-range_with_len, map-range_with_len_more, take-map-range_with_len}
use Rattle.std.proofs.lemmas.List.{get_or-set_same, get_or-set_other, length-map, length-replicate, length-set, map_push, take-append-drop}
use Rattle.std.proofs.lemmas.Bool.{and_from, and_right, and_left, and_parts, cases_eq, le-ltb, lt-ltb}
use Rattle.registers.specs.declared.layout.Section.{Section}
use Rattle.registers.specs.declared.registers.Register.{Register as RegisterPart}
use Rattle.registers.specs.declared.table.Entry.{Entry}
use Rattle.registers.specs.Base.{Block, Register, has_key, proper_register}
use Rattle.registers.specs.Indexing.{Entered, keys_of}
use Rattle.registers.specs.Layout.{block_at, block_end, block_place, blocks_at, blocks_from, columns_at, register_at, register_end, rows_from}
use Rattle.registers.specs.Refusals.{block_fits, blocks_fit, register_fits}
use Rattle.registers.specs.Survey.{section_at}
use Rattle.registers.specs.Table.{Holds, Open, Probed, Slot, free, slot_at, slot_of}
use Rattle.registers.proofs.Small.{small_inside}
use Rattle.registers.proofs.Fitting.{block_place_more, block_place_none, block_within, fit_from}
use Rattle.registers.proofs.Proper.{has_key_at, has_key_none, improper_longer, proper_push}
use Rattle.registers.proofs.Entering.{holds_known, holds_more, holds_none, holds_open, holds_unknown}

-- blocks one by one
pub blocks_from_more : (xs : List ℕ) (w p i : ℕ) → blocks_from xs w p (i + 1) ≡ blocks_from xs w p i ++ block_at xs w (block_place xs w p i) ∷ []
unfolding blocks_from
blocks_from_more xs w p i = map-range_with_len_more (λ j. block_at xs w (block_place xs w p j)) 0 i i (omega arith)

pub blocks_from_split : (xs : List ℕ) (w p i n : ℕ) → i ≤ n → blocks_from xs w p i ++ drop i (blocks_from xs w p n) ≡ blocks_from xs w p n
unfolding blocks_from
blocks_from_split xs w p i n h =
    ap (λ (bs : Register). bs ++ drop i (map (λ j. block_at xs w (block_place xs w p j)) (range_with_len 0 n))) (sym (take-map-range_with_len (λ j. block_at xs w (block_place xs w p j)) 0 n i h))
    ∙ take-append-drop i (map (λ j. block_at xs w (block_place xs w p j)) (range_with_len 0 n))

pub length_blocks_from : (xs : List ℕ) (w p n : ℕ) → length (blocks_from xs w p n) ≡ n
unfolding blocks_from
length_blocks_from xs w p n = length-map-range_with_len (λ j. block_at xs w (block_place xs w p j)) 0 n

pub length_rows_from : (xs : List ℕ) (w p n : ℕ) → length (rows_from xs w p n) ≡ n
unfolding rows_from
length_rows_from xs w p n = length-map-range_with_len _ 0 n

-- a block's key and count of rows stand at its beginning
pub key_block : (xs : List ℕ) (w p : ℕ) → (block_at xs w p).key ≡ get_or xs p 0
unfolding block_at
key_block xs w p = refl

pub length_block : (xs : List ℕ) (w p : ℕ) → length (block_at xs w p).rows ≡ get_or xs (p + 1) 0
unfolding block_at
length_block xs w p = length_rows_from xs w (p + 2) (get_or xs (p + 1) 0)

-- each of the blocks is there
pub block_fits_at : (xs : List ℕ) (w p n i : ℕ) → blocks_fit xs w p n ≡ true → i < n → block_fits xs w (block_place xs w p i) ≡ true
unfolding blocks_fit
block_fits_at xs w p zero i h l = absurd (omega arith)
block_fits_at xs w p (suc n) i h l =
    let parts = and_parts (blocks_fit xs w p n) (block_fits xs w (block_place xs w p n)) h in
    ⊎_elim (λ same. ap (λ (j : ℕ). block_fits xs w (block_place xs w p j)) same ∙ parts.1)
    (λ other. let less : i < n = omega arith in block_fits_at xs w p n i parts.0 less)
    (cases_eq i n)

-- a register that is there
pub record Stands (xs : List ℕ) (section : Section) : Type 0 where
  pub fits : register_fits xs section.place ≡ true
  pub section_is : section ≡ section_at xs section.place section.first

-- a part of the slice that is a register is there
pub stands_part : (r : RegisterPart) → Stands r.base.now r.section
stands_part r = record { fits = r.fits; section_is = r.section_is }

-- what is known of a register that is there, by its section
pub stands_columns : (xs : List ℕ) (section : Section) → Stands xs section → section.columns ≡ columns_at xs section.place
stands_columns xs section a = ap (λ (s : Section). s.columns) a.section_is

pub stands_blocks : (xs : List ℕ) (section : Section) → Stands xs section → section.blocks ≡ blocks_at xs section.place
stands_blocks xs section a = ap (λ (s : Section). s.blocks) a.section_is

pub stands_register : (xs : List ℕ) (section : Section) → Stands xs section → blocks_from xs section.columns (section.place + 2) section.blocks ≡ register_at xs section.place
unfolding register_at
stands_register xs section a =
    ap₂ (λ (w n : ℕ). blocks_from xs w (section.place + 2) n) (stands_columns xs section a) (stands_blocks xs section a)

-- its i-th block is there
pub stands_block : (r : RegisterPart) (i at : ℕ) → at ≡ block_place r.base.now r.section.columns (r.section.place + 2) i → i < r.section.blocks → block_fits r.base.now r.section.columns at ≡ true
stands_block r i at e l =
    let stands = stands_part r in
    let fit : blocks_fit r.base.now r.section.columns (r.section.place + 2) r.section.blocks ≡ true =
    ap₂ (λ (w n : ℕ). blocks_fit r.base.now w (r.section.place + 2) n) (stands_columns r.base.now r.section stands) (stands_blocks r.base.now r.section stands) ∙ (fit_from r.base.now r.section.place r.fits).blocks in
    ap (block_fits r.base.now r.section.columns) e ∙ block_fits_at r.base.now r.section.columns (r.section.place + 2) r.section.blocks i fit l

-- its key is a number of the register, and so below 2^32
pub stands_key : (r : RegisterPart) (i at : ℕ) → at ≡ block_place r.base.now r.section.columns (r.section.place + 2) i → i < r.section.blocks → get_or r.base.now at 0 < 2 ^ 32
unfolding register_end
stands_key r i at e l =
    let stands = stands_part r in
    let fit = fit_from r.base.now r.section.place r.fits in
    let within = block_within r.base.now r.section.columns (r.section.place + 2) r.section.blocks i l in
    let end : block_place r.base.now r.section.columns (r.section.place + 2) r.section.blocks ≡ register_end r.base.now r.section.place =
    ap₂ (λ (w n : ℕ). block_place r.base.now w (r.section.place + 2) n) (stands_columns r.base.now r.section stands) (stands_blocks r.base.now r.section stands) in
    small_inside r.base.now r.section.place (register_end r.base.now r.section.place) at fit.numbers fit.ends (omega (arith, within.0)) (omega (arith, within.1))

-- what is known when i of n blocks from place p on are entered
pub record Noting (xs : List ℕ) (w p n i at : ℕ) (table : List Slot) (places : List ℕ) : Type 0 where
  pub place : at ≡ block_place xs w p i
  pub proper : proper_register (blocks_from xs w p i) ≡ true
  pub keys : Holds table (keys_of (blocks_from xs w p i))
  pub noted : (j : ℕ) → j < i → get_or places j 0 ≡ block_place xs w p j
  pub slots : length table ≡ 2 * n + 1
  pub room : length places ≡ n

pub noting_none : (xs : List ℕ) (w p n : ℕ) (table : List Slot) (places : List ℕ) → table ≡ replicate (2 * n + 1) free → length places ≡ n → Noting xs w p n 0 p table places
unfolding blocks_from proper_register
noting_none xs w p n table places e l =
    record {
      place = sym (block_place_none xs w p);
      proper = refl;
      keys = subst (λ (t : List Slot). Holds t []) (sym e) (holds_none (2 * n + 1));
      noted = λ j l. absurd (omega arith);
      slots = ap length e ∙ length-replicate (2 * n + 1) free;
      room = l;
    }

module _ (xs : List ℕ) (w p n i at : ℕ) (table : List Slot) (places : List ℕ) (k : Noting xs w p n i at table places) where
  length_keys : length (keys_of (blocks_from xs w p i)) ≡ i
  length_keys = length-map (blocks_from xs w p i) (λ (b : Block). b.key) ∙ length_blocks_from xs w p i

  pub noting_open : i < n → n ≤ 4096 → Open table
  noting_open l m = holds_open table (keys_of (blocks_from xs w p i)) k.keys (omega (arith, length_keys, k.slots)) (omega (arith, k.slots))

  -- whether it keeps the register proper, by its heading
  next_proper : proper_register (blocks_from xs w p (i + 1)) ≡ (not (has_key (get_or xs at 0) (blocks_from xs w p i)) && ltb 0 (get_or xs (at + 1) 0))
  next_proper =
      ap proper_register (blocks_from_more xs w p i ∙ ap (λ (a : ℕ). blocks_from xs w p i ++ block_at xs w a ∷ []) (sym k.place))
      ∙ proper_push (blocks_from xs w p i) (block_at xs w at)
      ∙ ap₂ (λ (x : Bool) (m : ℕ). x && (not (has_key (block_at xs w at).key (blocks_from xs w p i)) && ltb 0 m)) k.proper (length_block xs w at)
      ∙ ap (λ (a : ℕ). not (has_key a (blocks_from xs w p i)) && ltb 0 (get_or xs (at + 1) 0)) (key_block xs w at)

  next_keys : keys_of (blocks_from xs w p (i + 1)) ≡ keys_of (blocks_from xs w p i) ++ get_or xs at 0 ∷ []
  next_keys =
      ap keys_of (blocks_from_more xs w p i ∙ ap (λ (a : ℕ). blocks_from xs w p i ++ block_at xs w a ∷ []) (sym k.place))
      ∙ map_push (λ (b : Block). b.key) (blocks_from xs w p i) (block_at xs w at)
      ∙ ap (λ (a : ℕ). keys_of (blocks_from xs w p i) ++ a ∷ []) (key_block xs w at)

  -- where its key is met, or it has no row, the register is not proper
  pub noting_stops : (slot : ℕ) → i < n → Probed table (get_or xs at 0) slot → (get_or xs (at + 1) 0 ≡ 0) ⊎ ((e : Entry) × (slot_at table slot ≡ Some e)) → proper_register (blocks_from xs w p n) ≡ false
  noting_stops slot l q h =
      let more : proper_register (blocks_from xs w p (i + 1)) ≡ false =
      next_proper
      ∙ ⊎_elim
      (λ none. and_right (not (has_key (get_or xs at 0) (blocks_from xs w p i))) _ (le-ltb 0 _ (omega arith)))
      (λ met.
      let own = holds_known table (keys_of (blocks_from xs w p i)) k.keys (get_or xs at 0) slot q met.0 met.1 in
      and_left _ _ (ap not (has_key_at (get_or xs at 0) _ (blocks_from xs w p i) own.0 own.1)))
      h in
      ap proper_register (sym (blocks_from_split xs w p (i + 1) n (omega arith))) ∙ improper_longer (blocks_from xs w p (i + 1)) _ more

  -- else it is entered
  pub noting_more : (slot : ℕ) → i < n → Probed table (get_or xs at 0) slot → slot_at table slot ≡ None → (get_or xs (at + 1) 0 ≡ 0 → ⊥) → Noting xs w p n (i + 1) (block_end xs w at) (set table slot (slot_of (get_or xs at 0) i)) (set places i at)
  noting_more slot l q u r =
      let new : has_key (get_or xs at 0) (blocks_from xs w p i) ≡ false =
      has_key_none (get_or xs at 0) (blocks_from xs w p i) (holds_unknown table (keys_of (blocks_from xs w p i)) k.keys (get_or xs at 0) slot q u) in
      let long : i < length places = omega (arith, k.room) in
      record {
        place = ap (block_end xs w) k.place ∙ sym (block_place_more xs w p i);
        proper = next_proper ∙ and_from _ _ (ap not new) (lt-ltb 0 _ (omega arith));
        keys =
            subst (λ (ks : List ℕ). Holds (set table slot (slot_of (get_or xs at 0) i)) ks) (sym next_keys)
            (subst (λ (m : ℕ). Holds (set table slot (slot_of (get_or xs at 0) m)) (keys_of (blocks_from xs w p i) ++ get_or xs at 0 ∷ [])) length_keys
            (holds_more table (keys_of (blocks_from xs w p i)) k.keys (get_or xs at 0) slot q u));
        noted = below_more (λ j. get_or (set places i at) j 0 ≡ block_place xs w p j) i
            (λ j b. get_or-set_other places i j at 0 (λ same. omega arith) ∙ k.noted j b)
            (get_or-set_same places i at 0 long ∙ k.place);
        slots = length-set table slot _ ∙ k.slots;
        room = length-set places i at ∙ k.room;
      }

  -- when all are entered, the register is
  pub noting_ends : n ≤ i → i ≤ n → (proper_register (blocks_from xs w p n) ≡ true) × Holds table (keys_of (blocks_from xs w p n)) × ((j : ℕ) → j < n → get_or places j 0 ≡ block_place xs w p j)
  noting_ends a b =
      let same : i ≡ n = omega arith in (
        subst (λ (m : ℕ). proper_register (blocks_from xs w p m) ≡ true) same k.proper,
        subst (λ (m : ℕ). Holds table (keys_of (blocks_from xs w p m))) same k.keys,
        λ j l. k.noted j (omega arith),
      )

-- so it is proper, and entered
pub entered_ends : (xs : List ℕ) (section : Section) (table : List Slot) (places : List ℕ) (i at : ℕ) → Stands xs section → Noting xs section.columns (section.place + 2) section.blocks i at table places → section.blocks ≤ i → i ≤ section.blocks → (proper_register (register_at xs section.place) ≡ true) × Entered xs section.place table places
entered_ends xs section table places i at a k l m =
    let ends = noting_ends xs section.columns (section.place + 2) section.blocks i at table places k l m in
    let same = stands_register xs section a in (
      ap proper_register (sym same) ∙ ends.0,
      record {
        keys = subst (λ (bs : Register). Holds table (keys_of bs)) same ends.1;
        noted = λ j l.
            ends.2 j (omega (arith, stands_blocks xs section a))
            ∙ ap (λ (w : ℕ). block_place xs w (section.place + 2) j) (stands_columns xs section a);
      },
    )
