-- From the survey and the entries to the refusal, and from the blocks that a scan passes to its answer.
use Rattle.std.proofs.Common.{◌≡◌, ℕ, zero, suc, ◌+◌, ◌*◌, ◌<◌, ◌≤◌, Bool, true, false, ◌||◌, eqb, List, [], ◌∷◌, ◌++◌, map, get_or, take, drop, Some, None, Ok, Err, Option, Result, sym, refl, ap, ◌∙◌, ap₂, add-one, arith, take-add}
use Rattle.std.specs.List.{range_with_len, flat_map}
use Rattle.std.specs.Result.{IsErrAnd, MatchResult}
use Rattle.std.proofs.lemmas.List.FromFn.{map-range_with_len_more}
use Rattle.std.proofs.lemmas.List.{drop-drop, flat_map_more}
use Rattle.std.proofs.lemmas.Bool.{cond-false, cond-true, eq-eqb, ne_eqb, or_from, or_parts}
use Rattle.registers.specs.declared.layout.Section.{Section}
use Rattle.registers.specs.declared.refusals.Refusal.{Refusal}
use Rattle.registers.specs.declared.registers.Registers.{Registers}
use Rattle.registers.specs.declared.refusals.Refusal.TheVariants.{Layout, Blocks}
use Rattle.registers.specs.Base.{Block, Register, Row, has_key, rows_under}
use Rattle.registers.specs.Layout.{block_at, block_end, block_place, blocks_from, register_at, row_at, rows_from}
use Rattle.registers.specs.Refusals.{answered, misfit, misstated, or_else, refusal, refused_at}
use Rattle.registers.proofs.Fitting.{block_place_more, block_place_none}
use Rattle.registers.proofs.Noting.{Stands, blocks_from_more, blocks_from_split, key_block, stands_register}
use Rattle.registers.proofs.Proper.{has_key_push}

-- a refusal that is handed on
pub handed_on : {T : Type 0} (r : Result T Refusal) (P : T → Type 0) (o : Option Refusal) (e : Refusal) → IsErrAnd r (λ x. x ≡ e) → o ≡ Some e → MatchResult r P (λ x. o ≡ Some x)
handed_on (Ok a) P o e h k = absurd h
handed_on (Err x) P o e h k = k ∙ ap Some (sym h)

-- what the survey refuses is refused, and else what is not proper
pub refusal_layout : (xs : List ℕ) (e : Refusal) → refused_at Layout (misfit xs) ≡ Some e → refusal xs ≡ Some e
unfolding refusal
refusal_layout xs e h = ap (λ (o : Option Refusal). or_else o (refused_at Blocks (misstated xs))) h

pub refusal_blocks : (r : Registers) (xs : List ℕ) (o : Option Refusal) → r.base.now ≡ xs → refused_at Blocks (misstated r.base.now) ≡ o → refusal xs ≡ o
unfolding refusal
refusal_blocks r xs o is h =
    ap refusal (sym is) ∙ ap (λ (m : Option ℕ). or_else (refused_at Layout m) (refused_at Blocks (misstated r.base.now))) r.fits ∙ h

-- the rows of a block, one behind the other, are a part of the slice
pub rows_joined : (xs : List ℕ) (w p n : ℕ) → flat_map (λ r. r) (rows_from xs w p n) ≡ take (n * w) (drop p xs)
unfolding rows_from
rows_joined xs w p zero = let none : 0 ≡ 0 * w = omega arith in ap (λ (m : ℕ). take m (drop p xs)) none
rows_joined xs w p (suc n) =
    let more : map (row_at xs w p) (range_with_len 0 (suc n)) ≡ map (row_at xs w p) (range_with_len 0 n) ++ row_at xs w p n ∷ [] =
    ap (λ (m : ℕ). map (row_at xs w p) (range_with_len 0 m)) (sym (add-one n)) ∙ map-range_with_len_more (row_at xs w p) 0 n n (omega arith) in
    let longer : n * w + w ≡ suc n * w = omega arith in
    ap (flat_map (λ r. r)) more
    ∙ sym (flat_map_more (λ (r : Row). r) [] (rows_from xs w p n) (row_at xs w p n))
    ∙ ap₂ ◌++◌ (rows_joined xs w p n) (ap (take w) (sym (drop-drop (n * w) p xs)))
    ∙ sym (take-add (n * w) w (drop p xs))
    ∙ ap (λ (m : ℕ). take m (drop p xs)) longer

-- a block behind blocks of other keys decides whether the key is there, and which rows stand under it
pub under_key : (k : ℕ) (cs : Register) (b : Block) (bs : Register) → has_key k cs ≡ false → b.key ≡ k → (has_key k ((cs ++ b ∷ []) ++ bs) ≡ true) × (rows_under k ((cs ++ b ∷ []) ++ bs) ≡ b.rows)
unfolding has_key rows_under
under_key k [] b bs e h = (ap (λ (x : Bool). x || has_key k bs) (eq-eqb b.key k h), cond-true _ _ _ (eq-eqb b.key k h))
under_key k (a ∷ cs) b bs e h =
    let parts = or_parts (eqb a.key k) (has_key k cs) e in
    let rest = under_key k cs b bs parts.1 h in (
      ap (λ (x : Bool). x || has_key k ((cs ++ b ∷ []) ++ bs)) parts.0 ∙ rest.0,
      cond-false _ _ _ parts.0 ∙ rest.1,
    )

-- a scan over blocks of other keys
pub record Passing (xs : List ℕ) (w p k i at : ℕ) : Type 0 where
  pub place : at ≡ block_place xs w p i
  pub others : has_key k (blocks_from xs w p i) ≡ false

pub passing_none : (xs : List ℕ) (w p k : ℕ) → Passing xs w p k 0 p
unfolding blocks_from has_key
passing_none xs w p k = record { place = sym (block_place_none xs w p); others = refl }

pub passing_more : (xs : List ℕ) (w p k i at : ℕ) → Passing xs w p k i at → (get_or xs at 0 ≡ k → ⊥) → Passing xs w p k (i + 1) (block_end xs w at)
passing_more xs w p k i at q h =
    record {
      place = ap (block_end xs w) q.place ∙ sym (block_place_more xs w p i);
      others =
          ap (has_key k) (blocks_from_more xs w p i ∙ ap (λ (a : ℕ). blocks_from xs w p i ++ block_at xs w a ∷ []) (sym q.place))
          ∙ has_key_push k (blocks_from xs w p i) (block_at xs w at)
          ∙ or_from _ _ q.others (ne_eqb _ k (λ e. h (sym (key_block xs w at) ∙ e)));
    }

pub passing_found : (xs : List ℕ) (w p k n i at : ℕ) → Passing xs w p k i at → i < n → get_or xs at 0 ≡ k → (has_key k (blocks_from xs w p n) ≡ true) × (rows_under k (blocks_from xs w p n) ≡ (block_at xs w at).rows)
passing_found xs w p k n i at q l h =
    let split : blocks_from xs w p n ≡ (blocks_from xs w p i ++ block_at xs w at ∷ []) ++ drop (i + 1) (blocks_from xs w p n) =
    sym (blocks_from_split xs w p (i + 1) n (omega arith))
    ∙ ap (λ (bs : Register). bs ++ drop (i + 1) (blocks_from xs w p n)) (blocks_from_more xs w p i ∙ ap (λ (a : ℕ). blocks_from xs w p i ++ block_at xs w a ∷ []) (sym q.place)) in
    let here = under_key k (blocks_from xs w p i) (block_at xs w at) (drop (i + 1) (blocks_from xs w p n)) q.others (key_block xs w at ∙ h) in
    (ap (has_key k) split ∙ here.0, ap (rows_under k) split ∙ here.1)

-- what a scan of a register that is there tells
pub scan_found : (xs : List ℕ) (section : Section) (k i at n : ℕ) → Stands xs section → Passing xs section.columns (section.place + 2) k i at → i < section.blocks → get_or xs at 0 ≡ k → n ≡ get_or xs (at + 1) 0 * section.columns → (has_key k (register_at xs section.place) ≡ true) × (take n (drop (at + 2) xs) ≡ flat_map (λ r. r) (rows_under k (register_at xs section.place)))
unfolding block_at
scan_found xs section k i at n s q l h e =
    let found = passing_found xs section.columns (section.place + 2) k section.blocks i at q l h in
    let same = stands_register xs section s in (
      ap (has_key k) (sym same) ∙ found.0,
      ap (λ (m : ℕ). take m (drop (at + 2) xs)) e
          ∙ sym (rows_joined xs section.columns (at + 2) (get_or xs (at + 1) 0))
          ∙ ap (flat_map (λ r. r)) (sym found.1 ∙ ap (rows_under k) same),
    )

pub scan_lacks : (xs : List ℕ) (section : Section) (k i at : ℕ) → Stands xs section → Passing xs section.columns (section.place + 2) k i at → section.blocks ≤ i → i ≤ section.blocks → has_key k (register_at xs section.place) ≡ false
scan_lacks xs section k i at s q l m =
    let all : section.blocks ≡ i = omega arith in
    ap (has_key k) (sym (stands_register xs section s) ∙ ap (blocks_from xs section.columns (section.place + 2)) all) ∙ q.others

-- what is known of an answer that is not refused
pub answered_ok : {A : Type 0} (o : Option Refusal) (x y : A) → Ok x ≡ answered o y → (o ≡ None) × (x ≡ y)
answered_ok None x y h = (refl, cc)
answered_ok (Some e) x y h = let z : ◌≡◌ {A = ℕ} 0 1 = cc in absurd (omega arith)

pub answered_err : {A : Type 0} (o : Option Refusal) (e : Refusal) (y : A) → Err e ≡ answered o y → o ≡ Some e
answered_err None e y h = let z : ◌≡◌ {A = ℕ} 0 1 = cc in absurd (omega arith)
answered_err (Some f) e y h = cc
