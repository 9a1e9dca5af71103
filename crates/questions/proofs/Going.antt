-- Registers that come again: among those gone to before, and the first of all.
use Rattle.std.proofs.Common.{◌≡◌, ℕ, zero, suc, ◌+◌, ◌-◌, ◌<◌, ◌≤◌, Bool, true, false, ◌||◌, eqb, List, [], ◌∷◌, ◌++◌, map, length, get_or, drop, IfSome, IsSomeAnd, MatchOption, IsTrue, Some, None, Option, sym, refl, ap, ◌∙◌, ⊎_elim, arith}
use Rattle.std.specs.declared.ops.Range.{Range}
use Rattle.std.specs.Bool.{then_some}
use Rattle.std.specs.Fn.{Called}
use Rattle.std.specs.Iterator.Runs.{AllItemsGive, IsFirstToGive, Run, SomeRun}
use Rattle.std.specs.List.{list_any, range_with_len}
use Rattle.std.specs.Option.{option_map}
use Rattle.std.proofs.iter.Yields.{nat_range_steps}
use Rattle.std.proofs.iter.runs.Sources.{range_listed}
use Rattle.std.proofs.lemmas.Bool.{cases_eq, cond-false, cond-true, eq-eqb, ne_eqb, or_from, or_left, or_parts, or_right}
use Rattle.std.proofs.lemmas.List.FromFn.{get_or-map-range_with_len, length-map-range_with_len, map-range_with_len_more}
use Rattle.std.proofs.lemmas.List.{drop_all, drop_more}
use Rattle.questions.specs.Questions.{first_again, has}
use denote.Param.Members.{Mut}

-- one number more
has_push : (ms : List ℕ) (m n : ℕ) → has ms n ≡ false → (m ≡ n → ⊥) → has (ms ++ m ∷ []) n ≡ false
unfolding has
has_push [] m n e h = or_from _ _ (ne_eqb m n h) refl
has_push (k ∷ ms) m n e h = let parts = or_parts _ _ e in or_from _ _ parts.0 (has_push ms m n parts.1 h)

-- one of the numbers
has_at : (ms : List ℕ) (i n : ℕ) → i < length ms → get_or ms i 0 ≡ n → has ms n ≡ true
unfolding has
has_at [] i n l e = absurd (omega arith)
has_at (m ∷ ms) zero n l e = or_left _ _ (eq-eqb m n e)
has_at (m ∷ ms) (suc i) n l e = or_right _ _ (has_at ms i n (omega arith) e)

-- numbers that are counted
module _ (f : ℕ → ℕ) where
  pub has_counted : (x : ℕ) (is : List ℕ) → list_any (λ i. eqb (f i) x) is ≡ has (map f is) x
  unfolding has
  has_counted x [] = refl
  has_counted x (i ∷ is) = ap (◌||◌ (eqb (f i) x)) (has_counted x is)

  -- each of those counted is one of them
  pub has_counted_at : (n i x : ℕ) → i < n → f i ≡ x → has (map f (range_with_len 0 n)) x ≡ true
  has_counted_at n i x l e =
      has_at (map f (range_with_len 0 n)) i x (omega (arith, length-map-range_with_len f 0 n)) (get_or-map-range_with_len f 0 n i i 0 l (omega arith) ∙ e)

  -- what is none of them is none with the next one either, if it isn't that
  pub has_counted_more : (i x : ℕ) → has (map f (range_with_len 0 i)) x ≡ false → (f i ≡ x → ⊥) → has (map f (range_with_len 0 (i + 1))) x ≡ false
  has_counted_more i x e h =
      ap (λ (ms : List ℕ). has ms x) (map-range_with_len_more f 0 i i (omega arith)) ∙ has_push (map f (range_with_len 0 i)) (f i) x e h

  -- whether a number is one of those before
  abbrev pub comes : ℕ → Bool
  comes i = has (map f (range_with_len 0 i)) (f i)

  -- the first to come again, from one on, is one of those to come or none
  again_here : (i n : ℕ) → comes i ≡ true → first_again (map f (range_with_len 0 i)) (map f (range_with_len i (suc n))) ≡ Some (f i)
  unfolding first_again
  again_here i n h = cond-true _ _ _ h

  again_behind : (i n : ℕ) → comes i ≡ false → first_again (map f (range_with_len 0 i)) (map f (range_with_len i (suc n))) ≡ first_again (map f (range_with_len 0 (i + 1))) (map f (range_with_len (i + 1) n))
  unfolding first_again
  again_behind i n h =
      cond-false _ _ _ h
      ∙ ap (λ (ms : List ℕ). first_again ms (map f (range_with_len (i + 1) n))) (sym (map-range_with_len_more f 0 i i (omega arith)))

  -- the same of the numbers below n that are left from one on: the next comes again, or it does not, or there is none
  counted_rest : (n i : ℕ) → i < n → drop i (map f (range_with_len 0 n)) ≡ f i ∷ drop (i + 1) (map f (range_with_len 0 n))
  counted_rest n i l =
      drop_more (map f (range_with_len 0 n)) i 0 (omega (arith, length-map-range_with_len f 0 n))
      ∙ ap (λ (x : ℕ). x ∷ drop (i + 1) (map f (range_with_len 0 n))) (get_or-map-range_with_len f 0 n i i 0 l (omega arith))

  pub again_found : (n i : ℕ) → i < n → has (map f (range_with_len 0 i)) (f i) ≡ true → first_again (map f (range_with_len 0 i)) (drop i (map f (range_with_len 0 n))) ≡ Some (f i)
  unfolding first_again
  again_found n i l h =
      ap (first_again (map f (range_with_len 0 i))) (counted_rest n i l) ∙ cond-true _ _ _ h

  pub again_more : (n i : ℕ) → i < n → has (map f (range_with_len 0 i)) (f i) ≡ false → first_again (map f (range_with_len 0 (i + 1))) (drop (i + 1) (map f (range_with_len 0 n))) ≡ first_again (map f (range_with_len 0 i)) (drop i (map f (range_with_len 0 n)))
  unfolding first_again
  again_more n i l h =
      sym (ap (first_again (map f (range_with_len 0 i))) (counted_rest n i l)
      ∙ cond-false _ _ _ h
      ∙ ap (λ (ms : List ℕ). first_again ms (drop (i + 1) (map f (range_with_len 0 n)))) (sym (map-range_with_len_more f 0 i i (omega arith))))

  pub again_none : (n i : ℕ) → n ≤ i → first_again (map f (range_with_len 0 i)) (drop i (map f (range_with_len 0 n))) ≡ None
  unfolding first_again
  again_none n i l =
      ap (first_again (map f (range_with_len 0 i))) (drop_all i (map f (range_with_len 0 n)) (omega (arith, length-map-range_with_len f 0 n)))

  -- where none of so many comes again, and where one is the first to
  again_nowhere : (n i : ℕ) → ((k : ℕ) → i ≤ k → k < i + n → comes k ≡ false) → first_again (map f (range_with_len 0 i)) (map f (range_with_len i n)) ≡ None
  unfolding first_again
  again_nowhere zero i h = refl
  again_nowhere (suc n) i h = again_behind i n (h i (omega arith) (omega arith)) ∙ again_nowhere n (i + 1) (λ k l m. h k (omega arith) (omega arith))

  again_some : (n i j : ℕ) → i ≤ j → j < i + n → comes j ≡ true → ((k : ℕ) → i ≤ k → k < j → comes k ≡ false) → first_again (map f (range_with_len 0 i)) (map f (range_with_len i n)) ≡ Some (f j)
  again_some zero i j l m h b = absurd (omega arith)
  again_some (suc n) i j l m h b =
      ⊎_elim
      (λ same. rw same (again_here j n h))
      (λ other.
      again_behind i n (b i (omega arith) (omega arith)) ∙ again_some n (i + 1) j (omega arith) (omega arith) h (λ k o p. b k (omega arith) p))
      (cases_eq i j)

  none_comes : (k : ℕ) → then_some (comes k) (f k) ≡ None → comes k ≡ false
  none_comes k h = at (comes k) h
    where
      at : (b : Bool) → then_some b (f k) ≡ None → b ≡ false
      at true h = cc
      at false h = refl

  some_comes : (k x : ℕ) → then_some (comes k) (f k) ≡ Some x → (comes k ≡ true) × (f k ≡ x)
  some_comes k x h = at (comes k) h
    where
      at : (b : Bool) → then_some b (f k) ≡ Some x → (b ≡ true) × (f k ≡ x)
      at true h = (refl, cc)
      at false h = cc

  -- none comes before the first, so that does not
  first_comes : comes 0 ≡ false
  unfolding has
  first_comes = refl

  none_behind : (n : ℕ) → ((k : ℕ) → 1 ≤ k → k < n → then_some (comes k) (f k) ≡ None) → (k : ℕ) → k < n → comes k ≡ false
  none_behind n h zero l = first_comes
  none_behind n h (suc k) l = none_comes (suc k) (h (suc k) (omega arith) l)

  -- the first of so many, if an answer tells of it; nothing need be told of the first
  pub again_told : (n : ℕ) (r : Option ℕ) → MatchOption r ((k : ℕ) → 1 ≤ k → k < n → then_some (comes k) (f k) ≡ None) (λ x. (i : ℕ) × (i < n) × (then_some (comes i) (f i) ≡ Some x) × ((k : ℕ) → 1 ≤ k → k < i → then_some (comes k) (f k) ≡ None)) → r ≡ first_again [] (map f (range_with_len 0 n))
  again_told n None h = sym (again_nowhere n 0 (λ k l m. none_behind n h k (omega arith)))
  again_told n (Some x) h =
      let here = some_comes h.0 x h.2 in
      ap Some (sym here.1) ∙ sym (again_some n 0 h.0 (omega arith) (omega (arith, h.1)) here.0 (λ k l m. none_behind h.0 h.3 k m))

-- what an answer of `find_map` over the numbers from one on and below n tells of what the closure answers at each
module _ {F : Type 0} (g : Mut F (ℕ × Unit {0}) (Option ℕ)) (f : F) (s : Range ℕ) (from n : ℕ) (h : ℕ → Option ℕ) (called : (x : ℕ) (o : Option ℕ) (q : F) → Called g f (x, tt) o q → (q ≡ f) × (x < n → o ≡ h x)) where
  told_at : (k : ℕ) (o a : Option ℕ) → k < n → option_map (λ y. y) o ≡ Some k → IfSome o (λ x. Called g f (x, tt) a f) → h k ≡ a
  told_at k (Some x) a l e c = let same : x ≡ k = cc in sym ((called k a f (rw same at c)).1 l)
  told_at k None a l e c = cc

  held : (o : Option ℕ) (P : ℕ → Type 0) → IsSomeAnd o P → IfSome o P
  held (Some x) P h = h
  held None P h = tt

  -- the items of a run count up
  counted : (p : Run nat_range_steps) → p.from ≡ record { start = from; end = n } → (k : ℕ) → k < p.len → (from + k < n) × (option_map (λ y. y) (p.at k) ≡ Some (from + k))
  counted p e k l =
      let up = range_listed p p.seen in
      let start : up.0 ≡ from = up.2 ∙ ap (λ (r : Range ℕ). r.start) e in
      let end : up.1 ≡ n = up.3 ∙ ap (λ (r : Range ℕ). r.end) e in
      (omega (arith, up.4.0), up.4.3 k l ∙ ap (λ (i : ℕ). Some (i + k)) start)

  counted_to : (p : Run nat_range_steps) → p.from ≡ record { start = from; end = n } → (k : ℕ) → from ≤ k → k - from < p.len → option_map (λ y. y) (p.at (k - from)) ≡ Some k
  counted_to p e k m l =
      let place : from + (k - from) ≡ k = omega arith in
      (counted p e (k - from) l).1 ∙ ap Some place

  whole_len : (p : Run nat_range_steps) → p.from ≡ record { start = from; end = n } → p.whole ≡ true → p.len ≡ n - from
  whole_len p e w =
      let up = range_listed p p.seen in
      let start : up.0 ≡ from = up.2 ∙ ap (λ (r : Range ℕ). r.start) e in
      let end : up.1 ≡ n = up.3 ∙ ap (λ (r : Range ℕ). r.end) e in
      omega (arith, up.4.1 w)

  pub found_in : (r : Option ℕ) → s ≡ record { start = from; end = n } → SomeRun nat_range_steps s (λ p. MatchOption r (IsTrue p.whole × AllItemsGive p g f None) (λ y. (i : ℕ) × (i < p.len) × (p.len ≡ i + 1) × IsFirstToGive p g f (Some y) None i)) → MatchOption r ((k : ℕ) → from ≤ k → k < n → h k ≡ None) (λ x. (i : ℕ) × (i < n) × (h i ≡ Some x) × ((k : ℕ) → from ≤ k → k < i → h k ≡ None))
  found_in None e run =
      let p = run.0 in
      let len = whole_len p (run.1 ∙ e) run.2.0 in
      λ k m l. told_at k (p.at (k - from)) None l (counted_to p (run.1 ∙ e) k m (omega arith)) (run.2.1 (λ a r q c. (called a.0 r q c).0) (k - from))
  found_in (Some x) e run =
      let p = run.0 in
      let i = run.2.0 in
      let here = counted p (run.1 ∙ e) i run.2.1 in
      let first = run.2.3 (λ a r q c. (called a.0 r q c).0) in (
        from + i,
        here.0,
        told_at (from + i) (p.at i) (Some x) here.0 here.1 (held (p.at i) _ first.0),
        λ k m l.
            told_at k (p.at (k - from)) None (omega (arith, here.0)) (counted_to p (run.1 ∙ e) k m (omega (arith, run.2.1))) (held (p.at (k - from)) _ (first.1 (k - from) (omega arith))),
      )
