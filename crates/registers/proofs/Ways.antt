-- The way of a key through a hash table: where it begins, that it comes to every slot, and where it ends.
use Rattle.std.proofs.Common.{◌≡◌, ℕ, suc, ◌+◌, ◌-◌, ◌*◌, ◌/◌, ◌%◌, ◌^◌, ◌<◌, ◌≤◌, true, false, cond, eqb, List, [], ◌∷◌, length, count_by, Some, None, is_some, sym, refl, ap, ◌∙◌, subst, ⊎_elim, mod-lt, div-lt_iff_lt-mul, mul-lt-mul_of_pos_right, arith, lit<, below_more}
use Rattle.std.proofs.lemmas.List.Sums.{sum_by-cons}
use Rattle.std.proofs.lemmas.Bool.{cases_lt, true≢false}
use Rattle.std.proofs.lemmas.Bool.Decides.{nat_tests}
use Rattle.registers.specs.declared.table.Entry.{Entry}
use Rattle.registers.specs.Table.{Open, Probed, Slot, home_of, on_way, slot_at, spot, taken}

-- a way begins in the table
pub home_below : (k m : ℕ) → 0 < m → home_of k m < m
unfolding home_of
home_below k m h =
    let mixed : k * 11400714819323198485 % 2 ^ 64 / 2 ^ 32 < 2 ^ 32 = (div-lt_iff_lt-mul {k = 2 ^ 32} (lit< tt)).1 (mod-lt (k * 11400714819323198485) {m = 2 ^ 64} (lit< tt)) in
    let scaled : k * 11400714819323198485 % 2 ^ 64 / 2 ^ 32 * m < 2 ^ 32 * m = mul-lt-mul_of_pos_right mixed h in
    (div-lt_iff_lt-mul {k = 2 ^ 32} (lit< tt)).1 (omega arith)

pub spot_below : (m h j : ℕ) → h < m → j ≤ m → spot m h j < m
spot_below m h j a b = grind (arith, nat_tests)

-- one step more, as the code takes it
pub spot_more : (m h j : ℕ) → h < m → j < m → cond (eqb (spot m h j + 1) m) 0 (spot m h j + 1) ≡ spot m h (j + 1)
spot_more m h j a b = grind (arith, nat_tests)

-- a way comes to every slot
pub spot_reaches : (m h s : ℕ) → h < m → s < m → (j : ℕ) × (j < m) × (spot m h j ≡ s)
spot_reaches m h s a b = ⊎_elim (λ below. (s + m - h, omega arith, grind (arith, nat_tests))) (λ above. (s - h, omega arith, grind (arith, nat_tests))) (cases_lt s h)

-- nothing is not something
pub none_some : {A : Type 0} {x : A} → None ≡ Some x → ⊥
none_some h = true≢false (sym (ap is_some h))

-- what a slot holds
abbrev pub key_in : Slot → ℕ
key_in None = 0
key_in (Some e) = e.key

abbrev pub block_in : Slot → ℕ
block_in None = 0
block_in (Some e) = e.block

pub entry_in : (s : Slot) → taken s ≡ true → (e : Entry) × (s ≡ Some e)
entry_in None h = absurd (true≢false (sym h))
entry_in (Some e) h = (e, refl)

pub no_entry_in : (s : Slot) → taken s ≡ false → s ≡ None
no_entry_in None h = refl
no_entry_in (Some e) h = absurd (true≢false h)

-- where not all slots are taken, one is free
pub free_slot : (table : List Slot) → count_by taken table < length table → (s : ℕ) × (s < length table) × (slot_at table s ≡ None)
free_slot [] h = absurd (omega arith)
free_slot (None ∷ xs) h = (0, omega arith, refl)
free_slot (Some e ∷ xs) h =
    let more : count_by taken (Some e ∷ xs) ≡ 1 + count_by taken xs = sum_by-cons (λ y. cond (taken y) 1 0) (Some e) xs in
    let found = free_slot xs (omega arith) in
    (suc found.0, omega arith, found.2)

-- so far only slots of other keys were met
pub record Probing (table : List Slot) (k i at : ℕ) : Type 0 where
  pub place : at ≡ spot (length table) (home_of k (length table)) i
  pub inside : at < length table
  pub before : (j : ℕ) → j < i → (e : Entry) × (on_way table k j ≡ Some e) × (e.key ≡ k → ⊥)

pub probing_none : (table : List Slot) (k : ℕ) → 0 < length table → Probing table k 0 (home_of k (length table))
probing_none table k h =
    let below = home_below k (length table) h in
    record { place = grind (arith, nat_tests); inside = below; before = λ j l. absurd (omega arith) }

pub probing_more : (table : List Slot) (k i at next : ℕ) (e : Entry) → Probing table k i at → i < length table → slot_at table at ≡ Some e → (e.key ≡ k → ⊥) → next ≡ cond (eqb (at + 1) (length table)) 0 (at + 1) → Probing table k (i + 1) next
probing_more table k i at next e p l used other f =
    let below = home_below k (length table) (omega arith) in
    let there : next ≡ spot (length table) (home_of k (length table)) (i + 1) =
    f ∙ ap (λ (a : ℕ). cond (eqb (a + 1) (length table)) 0 (a + 1)) p.place ∙ spot_more (length table) (home_of k (length table)) i below l in
    record {
      place = there;
      inside = subst (λ (a : ℕ). a < length table) (sym there) (spot_below (length table) (home_of k (length table)) (i + 1) below (omega arith));
      before = below_more (λ j. (e : Entry) × (on_way table k j ≡ Some e) × (e.key ≡ k → ⊥)) i p.before
          (e, ap (slot_at table) (sym p.place) ∙ used, other);
    }

-- the slot that is reached, where it is free or the key's own
pub probing_found : (table : List Slot) (k i at : ℕ) → Probing table k i at → i < length table → ((e : Entry) → slot_at table at ≡ Some e → e.key ≡ k) → Probed table k at
probing_found table k i at p l h =
    record { steps = i; few = l; place = p.place; inside = p.inside; before = p.before; here = h }

-- a way does not go round without coming to a free slot
pub probing_ends : (table : List Slot) (k i at : ℕ) → Probing table k i at → length table ≤ i → Open table → ⊥
probing_ends table k i at p h o =
    let spare = free_slot table o.room in
    let way = spot_reaches (length table) (home_of k (length table)) spare.0 (home_below k (length table) (omega (arith, o.room))) spare.1 in
    let used = p.before way.0 (omega (arith, way.1)) in
    none_some (sym spare.2 ∙ ap (slot_at table) (sym way.2) ∙ used.1)
