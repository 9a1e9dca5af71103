-- Adding up the blocks of a register, and the registers of a report.
use Rattle.std.proofs.Common.{◌≡◌, ℕ, zero, suc, ◌+◌, ◌*◌, ◌<◌, ◌≤◌, ltb, ◌⊎◌, List, [], map, length, get_or, take, sum_by, count_by, refl, sym, ap, ◌∙◌, ap₂, subst, ⊎_elim, arith}
use Rattle.std.specs.Array.{IsFromFnResult, IsFromFnResultFrom}
use Rattle.std.specs.Fn.{Called, Mut}
use Rattle.std.specs.List.{range_with_len}
use Rattle.std.proofs.lemmas.List.{take_all}
use Rattle.std.proofs.lemmas.List.FromFn.{fill_by_all, take-map-range_with_len}
use Rattle.std.proofs.lemmas.List.Sums.{count_by_more_no, count_by_more_yes, sum_by_more}
use Rattle.std.proofs.lemmas.Bool.{cases_lt, le-ltb, lt-ltb}
use Rattle.registers.specs.Base.{Register, block}
use Rattle.registers.specs.Views.{held}
use Rattle.registers.specs.declared.blocks.Block.{Block as Part}
use Rattle.registers.proofs.Noting.{length_rows_from}
use Rattle.summaries.specs.declared.summary.Summary.{Summary}
use Rattle.summaries.specs.Summary.{no_summary, rows_of}

-- the rows and the contested keys of the first i blocks
pub record Summed (r : Register) (i rows contested : ℕ) : Type 0 where
  pub rows_are : rows ≡ sum_by rows_of (take i r)
  pub contested_are : contested ≡ count_by (λ b. ltb 1 (rows_of b)) (take i r)
  pub few_rows : rows ≤ 64 * i
  pub few_contested : contested ≤ i

-- a block in memory has as many rows as the block that it holds
pub held_rows : (r : Register) (i : ℕ) (p : Part) → held p ≡ block r i → p.rows ≡ rows_of (block r i)
held_rows r i p e = sym (length_rows_from p.cells.now p.columns 0 p.rows) ∙ ap rows_of e

pub summed_more : (r : Register) (i rows contested : ℕ) (p : Part) (more : ℕ) → Summed r i rows contested → i < length r → held p ≡ block r i → rows_of (block r i) ≤ 64 → ((1 < p.rows) × (more ≡ contested + 1)) ⊎ ((p.rows ≤ 1) × (more ≡ contested)) → Summed r (i + 1) (rows + p.rows) more
summed_more r i rows contested p more s l e few way =
    let same = held_rows r i p e in
    record {
      rows_are = ap₂ (λ (a b : ℕ). a + b) s.rows_are same ∙ sym (sum_by_more rows_of r i (record { key = 0; rows = [] }) l);
      contested_are =
          ⊎_elim
          (λ yes. yes.1 ∙ ap (λ (n : ℕ). n + 1) s.contested_are ∙ sym (count_by_more_yes (λ b. ltb 1 (rows_of b)) r i (record { key = 0; rows = [] }) l (lt-ltb 1 _ (omega arith))))
          (λ no'. no'.1 ∙ s.contested_are ∙ sym (count_by_more_no (λ b. ltb 1 (rows_of b)) r i (record { key = 0; rows = [] }) l (le-ltb 1 _ (omega arith))))
          way;
      few_rows = omega (arith, s.few_rows);
      few_contested = ⊎_elim (λ yes. omega (arith, yes.1, s.few_contested)) (λ no'. omega (arith, no'.1, s.few_contested)) way;
    }

-- all blocks
pub summed_all : (r : Register) (i rows contested : ℕ) → Summed r i rows contested → length r ≤ i → (rows ≡ sum_by rows_of r) × (contested ≡ count_by (λ b. ltb 1 (rows_of b)) r)
summed_all r i rows contested s l =
    let all = take_all i r l in
    (s.rows_are ∙ ap (sum_by rows_of) all, s.contested_are ∙ ap (count_by (λ b. ltb 1 (rows_of b))) all)

pub same_summary : {a b c d a' b' c' d' : ℕ} → a ≡ a' → b ≡ b' → c ≡ c' → d ≡ d' → ◌≡◌ {A = Summary} (record { blocks = a; columns = b; rows = c; contested = d }) (record { blocks = a'; columns = b'; rows = c'; contested = d' })
same_summary p q r s = λ i. record { blocks = p i; columns = q i; rows = r i; contested = s i }

-- what the calls of a closure give one after the other, where none changes the closure
module _ {F : Type 0} (g : Mut F (ℕ × Unit {0}) Summary) (f : F) (of : ℕ → Summary) (called : (t : ℕ) (s : Summary) (q : F) → Called g f (t, tt) s q → (s ≡ of t) × (q ≡ f)) where
  given_at : (p : F) (summaries : List Summary) (i n : ℕ) → p ≡ f → IsFromFnResultFrom g p summaries i n → (t : ℕ) → i ≤ t → t < i + n → get_or summaries t no_summary ≡ of t
  given_at p summaries i zero same r t l m = absurd (omega arith)
  given_at p summaries i (suc n) same r t l m =
      let first = called i r.1 r.0 (subst (λ (x : F). Called g x (i, tt) r.1 r.0) same r.3) in
      ⊎_elim
      (λ later. given_at r.0 summaries (i + 1) n first.1 r.4 t (omega arith) (omega arith))
      (λ here. let at : t ≡ i = omega arith in ap (λ (k : ℕ). get_or summaries k no_summary) at ∙ r.2.1 no_summary ∙ first.0 ∙ ap of (sym at))
      (cases_lt i t)

  -- the first of them
  pub given_first : (summaries : List Summary) (n taken count : ℕ) → IsFromFnResult g f summaries n → taken ≡ count → count ≤ n → take taken summaries ≡ map of (range_with_len 0 count)
  given_first summaries n taken count r same few =
      ap (λ (k : ℕ). take k summaries) same
      ∙ ap (take count) (fill_by_all of summaries n no_summary r.long (λ t l. given_at f summaries 0 n refl r.each t (omega arith) (omega arith)))
      ∙ take-map-range_with_len of 0 n count few
