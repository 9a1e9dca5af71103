-- A table that holds keys: what a way tells of them, and one key more.
use Rattle.std.proofs.Common.{◌≡◌, ℕ, zero, suc, ◌+◌, ◌^◌, ◌<◌, ◌≤◌, true, cond, List, [], ◌∷◌, ◌++◌, length, get_or, set, replicate, count_by, Some, None, is_some, sym, refl, ap, ◌∙◌, subst, ⊎_elim, zero-add, arith}
use Rattle.std.proofs.lemmas.List.{get_or_append_left, get_or_push, get_or-set_same, get_or-set_other, length_push, length-set}
use Rattle.std.proofs.lemmas.List.Sums.{sum_by-cons, sum_by-set}
use Rattle.std.proofs.lemmas.Bool.{cases_eq, cases_lt, true≢false}
use Rattle.registers.specs.declared.table.Entry.{Entry}
use Rattle.registers.proofs.Ways.{block_in, key_in, none_some}
use Rattle.registers.specs.Table.{Holds, Open, Probed, Slot, free, home_of, on_way, slot_at, slot_of, spot, taken}

get_or_free : (n s : ℕ) → slot_at (replicate n free) s ≡ None
get_or_free zero s = refl
get_or_free (suc n) zero = refl
get_or_free (suc n) (suc s) = get_or_free n s

none_taken : (n : ℕ) → count_by taken (replicate n free) ≡ 0
none_taken zero = refl
none_taken (suc n) = sum_by-cons (λ (s : Slot). cond (taken s) 1 0) free (replicate n free) ∙ zero-add (count_by taken (replicate n free)) ∙ none_taken n

-- a table of free slots holds no key
pub holds_none : (n : ℕ) → Holds (replicate n free) []
holds_none n =
    record {
      kept = λ s e l u. absurd (none_some (sym (get_or_free n s) ∙ u));
      reached = λ i l. absurd (omega arith);
      filled = none_taken n;
    }

-- where there are more slots than keys, a way ends
pub holds_open : (table : List Slot) (keys : List ℕ) → Holds table keys → length keys < length table → length table < 2 ^ 32 → Open table
holds_open table keys h l s = record { room = omega (arith, h.filled); short = s }

abbrev Stands : Entry → List ℕ → Type 0
Stands e keys = (e.block < length keys) × (e.key ≡ get_or keys e.block 0)

abbrev Reached : List Slot → (k i : ℕ) → Type 0
Reached table k i = (j : ℕ) × (j < length table) × (on_way table k j ≡ slot_of k i) × ((h : ℕ) → h ≤ j → taken (on_way table k h) ≡ true)

module _ (table : List Slot) (keys : List ℕ) (h : Holds table keys) (k r : ℕ) (p : Probed table k r) where
  -- a way that ends at a taken slot ends at the key's own
  pub holds_known : (e : Entry) → slot_at table r ≡ Some e → (e.block < length keys) × (get_or keys e.block 0 ≡ k)
  holds_known e u = let own = h.kept r e p.inside u in (own.0, sym own.1 ∙ p.here e u)

  -- one that ends at a free slot tells that the key is not there
  pub holds_unknown : slot_at table r ≡ None → (i : ℕ) → i < length keys → get_or keys i 0 ≡ k → ⊥
  holds_unknown u i l e =
      let way = h.reached i l in
      let same : (j : ℕ) → on_way table (get_or keys i 0) j ≡ on_way table k j = λ j. ap (λ (x : ℕ). on_way table x j) e in
      ⊎_elim
      (λ earlier.
      let other = p.before way.0 earlier in
      let is : Some other.0 ≡ slot_of (get_or keys i 0) i = sym other.1 ∙ sym (same way.0) ∙ way.2 in
      other.2 (ap key_in is ∙ e))
      (λ later. none_taken_at (same p.steps ∙ ap (slot_at table) (sym p.place) ∙ u) (way.3 p.steps later))
      (cases_lt way.0 p.steps)
    where
      none_taken_at : {s : Slot} → s ≡ None → taken s ≡ true → ⊥
      none_taken_at none some = true≢false (sym some ∙ ap is_some none)

  -- a taken slot stays as it is when a free one is taken
  kept_slot : (x : Slot) (s : ℕ) → slot_at table r ≡ None → taken (slot_at table s) ≡ true → slot_at (set table r x) s ≡ slot_at table s
  kept_slot x s u t = get_or-set_other table r s x free (λ same. true≢false (sym t ∙ ap is_some (ap (slot_at table) same ∙ u)))

  -- the ways of a table of the same length are the same
  kept_way : (x : Slot) (n j : ℕ) → slot_at table r ≡ None → taken (on_way table n j) ≡ true → on_way (set table r x) n j ≡ on_way table n j
  kept_way x n j u t =
      ap (λ (m : ℕ). slot_at (set table r x) (spot m (home_of n m) j)) (length-set table r x)
      ∙ kept_slot x (spot (length table) (home_of n (length table)) j) u t

  -- the slot that is taken: where the key's way ends
  new_slot : slot_at (set table r (slot_of k (length keys))) r ≡ slot_of k (length keys)
  new_slot = get_or-set_same table r (slot_of k (length keys)) free p.inside

  new_way : on_way (set table r (slot_of k (length keys))) k p.steps ≡ slot_of k (length keys)
  new_way =
      ap (λ (m : ℕ). slot_at (set table r (slot_of k (length keys))) (spot m (home_of k m) p.steps)) (length-set table r (slot_of k (length keys)))
      ∙ ap (slot_at (set table r (slot_of k (length keys)))) (sym p.place)
      ∙ new_slot

  more_kept : (s : ℕ) (e : Entry) → s < length table → slot_at (set table r (slot_of k (length keys))) s ≡ Some e → Stands e (keys ++ k ∷ [])
  more_kept s e l t =
      ⊎_elim
      (λ same.
      let is : slot_of k (length keys) ≡ Some e =
      sym (ap (slot_at (set table r (slot_of k (length keys)))) same ∙ new_slot) ∙ t in
      let block : length keys ≡ e.block = ap block_in is in
      (omega (arith, length_push keys k), sym (ap key_in is) ∙ sym (get_or_push keys k 0 e.block block)))
      (λ other.
      let own = h.kept s e l (sym (get_or-set_other table r s (slot_of k (length keys)) free other) ∙ t) in
      (omega (arith, length_push keys k), own.1 ∙ sym (get_or_append_left keys (k ∷ []) 0 e.block own.0)))
      (cases_eq s r)

  more_reached_old : slot_at table r ≡ None → (i : ℕ) → i < length keys → Reached (set table r (slot_of k (length keys))) (get_or keys i 0) i
  more_reached_old u i l =
      let way = h.reached i l in
      let same : (j : ℕ) → j ≤ way.0 → on_way (set table r (slot_of k (length keys))) (get_or keys i 0) j ≡ on_way table (get_or keys i 0) j =
      λ j b. kept_way (slot_of k (length keys)) (get_or keys i 0) j u (way.3 j b) in (
        way.0,
        omega (arith, way.1, length-set table r (slot_of k (length keys))),
        same way.0 (omega arith) ∙ way.2,
        λ j b. ap is_some (same j b) ∙ way.3 j b,
      )

  more_reached_new : slot_at table r ≡ None → Reached (set table r (slot_of k (length keys))) k (length keys)
  more_reached_new u = (
    p.steps,
    omega (arith, p.few, length-set table r (slot_of k (length keys))),
    new_way,
    λ j b.
        ⊎_elim
        (λ less.
        let used : taken (on_way table k j) ≡ true = ap is_some (p.before j less).1 in
        ap is_some (kept_way (slot_of k (length keys)) k j u used) ∙ used)
        (λ last.
        let at : j ≡ p.steps = omega arith in
        ap (λ (i : ℕ). is_some (on_way (set table r (slot_of k (length keys))) k i)) at ∙ ap is_some new_way)
        (cases_lt j p.steps),
  )

  -- one key more, in the free slot at which its way ends
  pub holds_more : slot_at table r ≡ None → Holds (set table r (slot_of k (length keys))) (keys ++ k ∷ [])
  holds_more u =
      record {
        kept = λ s e l t. more_kept s e (omega (arith, length-set table r (slot_of k (length keys)))) t;
        reached = λ i l.
            ⊎_elim
            (λ old. subst (λ (n : ℕ). Reached (set table r (slot_of k (length keys))) n i) (sym (get_or_append_left keys (k ∷ []) 0 i old)) (more_reached_old u i old))
            (λ new.
            let at : length keys ≡ i = omega (arith, length_push keys k) in
            subst (λ (n : ℕ). Reached (set table r (slot_of k (length keys))) n i) (sym (get_or_push keys k 0 i at))
            (subst (λ (n : ℕ). Reached (set table r (slot_of k (length keys))) k n) at (more_reached_new u)))
            (cases_lt i (length keys));
        filled =
            let more : count_by taken (set table r (slot_of k (length keys))) + cond (taken (slot_at table r)) 1 0 ≡ count_by taken table + 1 =
            sum_by-set (λ (y : Slot). cond (taken y) 1 0) table r (slot_of k (length keys)) free p.inside in
            let was : ◌≡◌ {A = ℕ} (cond (taken (slot_at table r)) 1 0) 0 = ap (λ (s : Slot). cond {A = ℕ} (taken s) 1 0) u in
            omega (arith, h.filled, length_push keys k);
      }
