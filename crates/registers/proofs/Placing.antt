-- Entering register after register: the tables that stand are kept, and the slots behind them are free.
use Rattle.std.proofs.Common.{◌≡◌, ℕ, zero, suc, ◌+◌, ◌-◌, ◌*◌, ◌<◌, ◌≤◌, Bool, true, false, cond, ltb, List, map, length, get_or, take, drop, replicate, Some, None, Option, sym, refl, ap, ◌∙◌, subst, ap₂, ⊎_elim, arith, below_more}
use borrow.Rule.Slice.PartMut.{put_mid}
use Rattle.std.specs.List.{between, range_with_len}
use Rattle.std.proofs.lemmas.List.FromFn.{get_or-map-range_with_len, length-map-range_with_len}
use Rattle.std.proofs.lemmas.List.{drop-drop, drop-replicate, get_or_past, length-append, length-drop, length-replicate, length-take, take-replicate}
use Rattle.std.proofs.lemmas.Slice.{between_is, between-put_mid, drop-put_mid, take-put_mid_below}
use Rattle.std.proofs.lemmas.Bool.{cases_eq, cases_lt, cond-false, cond-true, le-ltb, lt-ltb}
use Rattle.std.proofs.lemmas.Bool.Decides.{nat_tests}
use Rattle.registers.specs.declared.layout.Section.{Section}
use Rattle.registers.specs.declared.layout.Directory.{Directory}
use Rattle.registers.specs.declared.registers.Registers.{Registers}
use Rattle.registers.specs.declared.refusals.Refusal.TheVariants.{Layout, Blocks}
use Rattle.registers.specs.Base.{proper_register}
use Rattle.registers.specs.Indexing.{Enough, Entered, Indexed, Room, table_place}
use Rattle.registers.specs.Layout.{blocks_at, blocks_before, columns_at, count_of, register_at, register_place}
use Rattle.registers.specs.Refusals.{count_fits, first_failing, misfit, misstated, or_else, refusal, refused_at, register_fits}
use Rattle.registers.specs.Survey.{directory_of, no_section, section_at, section_of}
use Rattle.registers.specs.Table.{Slot, free}
use Rattle.registers.proofs.Fitting.{fit_from}
use Rattle.registers.proofs.Noting.{Stands}
use Rattle.registers.proofs.Surveying.{blocks_before_more, register_place_more, first_failing_is, first_failing_more}

-- where nothing fails, each test passes
pub first_failing_none : (f : ℕ → Bool) (n t : ℕ) → first_failing f n ≡ None → t < n → f t ≡ true
unfolding first_failing
first_failing_none f zero t e h = absurd (omega arith)
first_failing_none f (suc n) t e h = go (first_failing f n) refl (f n) refl e (λ k. first_failing_none f n t k)
  where
    go : (o : Option ℕ) → first_failing f n ≡ o → (b : Bool) → f n ≡ b → or_else o (cond b None (Some n)) ≡ None → (first_failing f n ≡ None → t < n → f t ≡ true) → f t ≡ true
    go (Some i) p b q x rest = let z : ◌≡◌ {A = ℕ} 0 1 = cc in absurd (omega arith)
    go None p true q x rest = ⊎_elim (λ same. ap f same ∙ q) (λ other. rest p (omega arith)) (cases_eq t n)
    go None p false q x rest = let z : ◌≡◌ {A = ℕ} 0 1 = cc in absurd (omega arith)

-- where there is no misfit, there are 1 to 8 registers, and all are there
pub misfit_none : (xs : List ℕ) → misfit xs ≡ None → (count_fits xs ≡ true) × (first_failing (λ t. register_fits xs (register_place xs t)) (count_of xs) ≡ None)
unfolding misfit
misfit_none xs h = go (count_fits xs) (first_failing (λ t. register_fits xs (register_place xs t)) (count_of xs)) _ refl refl h
  where
    go : (b : Bool) (o rest : Option ℕ) → count_fits xs ≡ b → first_failing (λ t. register_fits xs (register_place xs t)) (count_of xs) ≡ o → cond b (or_else o rest) (Some 8) ≡ None → (count_fits xs ≡ true) × (first_failing (λ t. register_fits xs (register_place xs t)) (count_of xs) ≡ None)
    go true None rest p q e = (p, q)
    go true (Some t) rest p q e = let z : ◌≡◌ {A = ℕ} 0 1 = cc in absurd (omega arith)
    go false o rest p q e = let z : ◌≡◌ {A = ℕ} 0 1 = cc in absurd (omega arith)

pub count_some : (xs : List ℕ) → count_fits xs ≡ true → 1 ≤ count_of xs
count_some xs h = grind (arith, nat_tests)

pub count_few : (xs : List ℕ) → count_fits xs ≡ true → count_of xs ≤ 8
count_few xs h = grind (arith, nat_tests)

-- where all registers are there, they have at most 4,096 blocks each
blocks_few_at : (xs : List ℕ) (n t : ℕ) → first_failing (λ i. register_fits xs (register_place xs i)) n ≡ None → t ≤ n → blocks_before xs t ≤ 4096 * t
unfolding blocks_before
blocks_few_at xs n zero e h = omega arith
blocks_few_at xs n (suc t) e h =
    let fit = fit_from xs (register_place xs t) (first_failing_none (λ i. register_fits xs (register_place xs i)) n t e (omega arith)) in
    omega (arith, blocks_few_at xs n t e (omega arith), fit.few_blocks)

pub blocks_few : (xs : List ℕ) → misfit xs ≡ None → (count_of xs ≤ 8) × (blocks_before xs (count_of xs) ≤ 32768)
blocks_few xs e =
    let fit = misfit_none xs e in
    let few = count_few xs fit.0 in
    (few, omega (arith, blocks_few_at xs (count_of xs) (count_of xs) fit.1 (omega arith)))

-- the blocks before a register are among those before a later one
pub blocks_before_up : (xs : List ℕ) (i t : ℕ) → i ≤ t → blocks_before xs i ≤ blocks_before xs t
unfolding blocks_before
blocks_before_up xs i zero h = let e : i ≡ 0 = omega arith in subst (λ (j : ℕ). blocks_before xs j ≤ 0) (sym e) (omega arith)
blocks_before_up xs i (suc t) h =
    ⊎_elim (λ same. subst (λ (j : ℕ). blocks_before xs j ≤ blocks_before xs (suc t)) (sym same) (omega arith))
    (λ other. omega (arith, blocks_before_up xs i t (omega arith)))
    (cases_eq i (suc t))

-- one register more stands behind the others
pub table_place_more : (xs : List ℕ) (t : ℕ) → table_place xs (t + 1) ≡ table_place xs t + 2 * blocks_at xs (register_place xs t) + 1
table_place_more xs t = omega (arith, blocks_before_more xs t)

pub section_there : (xs : List ℕ) (t : ℕ) → t < count_of xs → count_of xs ≤ 8 → get_or (directory_of xs).sections t no_section ≡ section_of xs t
unfolding directory_of
section_there xs t h l =
    get_or-map-range_with_len (λ i. cond (ltb i (count_of xs)) (section_of xs i) no_section) 0 8 t t no_section (omega arith) (omega arith)
    ∙ cond-true _ _ _ (lt-ltb t (count_of xs) h)

-- a part before what is written is kept
pub between_below : {X : Type 0} (a k : ℕ) (xs ys : List X) (i j : ℕ) → j ≤ a → a ≤ length xs → between i j (put_mid a k xs ys) ≡ between i j xs
between_below a k xs ys i j h l =
    between_is (put_mid a k xs ys) i j ∙ ap (drop i) (take-put_mid_below a k xs ys j h l) ∙ sym (between_is xs i j)

pub length_put_mid : {X : Type 0} (a k : ℕ) (xs ys : List X) → length ys ≡ k → a + k ≤ length xs → length (put_mid a k xs ys) ≡ length xs
length_put_mid a k xs ys e l =
    simp (length-append, length-take, length-drop) (omega arith)

-- what is entered is told of equal tables and places
entered_as : (xs : List ℕ) (p : ℕ) (s t : List Slot) (q r : List ℕ) → s ≡ t → q ≡ r → Entered xs p s q → Entered xs p t r
entered_as xs p s t q r e f h = subst (λ (y : List Slot). Entered xs p y r) e (subst (λ (y : List ℕ). Entered xs p s y) f h)

-- what is known when t registers are entered
pub record Placed (xs : List ℕ) (t : ℕ) (slots : List Slot) (places : List ℕ) : Type 0 where
  pub proper : first_failing (λ i. proper_register (register_at xs (register_place xs i))) t ≡ None
  pub entered : (i : ℕ) → i < t →
      Entered xs (register_place xs i)
      (between (table_place xs i) (table_place xs i + 2 * blocks_at xs (register_place xs i) + 1) slots)
      (between (blocks_before xs i) (blocks_before xs i + blocks_at xs (register_place xs i)) places)
  pub behind : drop (table_place xs t) slots ≡ replicate (length slots - table_place xs t) free

-- where the t-th register's table and places stand in the room
pub record Turn (xs : List ℕ) (t : ℕ) (section : Section) (slots places : ℕ) : Type 0 where
  pub index : t < 8
  pub less : t < count_of xs
  pub fits : register_fits xs (register_place xs t) ≡ true
  pub place : section.place ≡ register_place xs t
  pub first : section.first ≡ blocks_before xs t
  pub blocks : section.blocks ≡ blocks_at xs (register_place xs t)
  pub columns : section.columns ≡ columns_at xs (register_place xs t)
  pub few_blocks : section.blocks ≤ 4096
  pub table : 2 * section.first + t + 2 * section.blocks + 1 ≤ slots
  pub noted : section.first + section.blocks ≤ places

-- how many registers there are
pub enough_count : (xs : List ℕ) (directory : Directory) (slots places : ℕ) → Enough xs directory slots places → directory.count ≡ count_of xs
unfolding directory_of
enough_count xs directory slots places k = ap (λ (d : Directory). d.count) k.surveyed

pub turn_at : (xs : List ℕ) (directory : Directory) (slots places t : ℕ) → Enough xs directory slots places → t < directory.count → Turn xs t (get_or directory.sections t no_section) slots places × (get_or directory.sections t no_section ≡ section_of xs t)
turn_at xs directory slots places t k l =
    let fit = misfit_none xs k.fits in
    let count = enough_count xs directory slots places k in
    let less : t < count_of xs = omega arith in
    let few : count_of xs ≤ 8 = count_few xs fit.0 in
    let there : get_or directory.sections t no_section ≡ section_of xs t =
    ap (λ (d : Directory). get_or d.sections t no_section) k.surveyed ∙ section_there xs t less few in
    let fits = first_failing_none (λ i. register_fits xs (register_place xs i)) (count_of xs) t fit.1 less in
    let more = blocks_before_more xs t in
    let up = blocks_before_up xs (t + 1) (count_of xs) (omega arith) in
    let first : (get_or directory.sections t no_section).first ≡ blocks_before xs t = ap (λ (s : Section). s.first) there in
    let blocks : (get_or directory.sections t no_section).blocks ≡ blocks_at xs (register_place xs t) = ap (λ (s : Section). s.blocks) there in (
      record {
        index = omega arith;
        less = less;
        fits = fits;
        place = ap (λ (s : Section). s.place) there;
        first = first;
        blocks = blocks;
        columns = ap (λ (s : Section). s.columns) there;
        few_blocks = omega (arith, (fit_from xs (register_place xs t) fits).few_blocks);
        table = omega (arith, k.slots_enough);
        noted = omega (arith, k.places_enough);
      },
      there,
    )

pub turn_stands : (xs : List ℕ) (t : ℕ) (section : Section) (m n : ℕ) → Turn xs t section m n → section ≡ section_of xs t → Stands xs section
turn_stands xs t section m n u is =
    record { fits = ap (register_fits xs) u.place ∙ u.fits; section_is = is ∙ ap₂ (section_at xs) (sym u.place) (sym u.first) }

-- the largest room is enough for all registers
pub enough_all : (xs : List ℕ) (directory : Directory) → misfit xs ≡ None → directory ≡ directory_of xs → Enough xs directory 65544 32768
enough_all xs directory e h =
    let few = blocks_few xs e in
    record { fits = e; surveyed = h; slots_enough = omega arith; places_enough = omega arith }

-- where the t-th of registers that are all there stands, and how many there are
pub there : (r : Registers) (t : ℕ) (section : Section) → t < r.directory.count → section ≡ get_or r.directory.sections t no_section → Turn r.base.now t section 65544 32768 × Stands r.base.now section
there r t section l is =
    let u = turn_at r.base.now r.directory 65544 32768 t (enough_all r.base.now r.directory r.fits r.surveyed) l in
    let turned = subst (λ (s : Section). Turn r.base.now t s 65544 32768) (sym is) u.0 in
    (turned, turn_stands r.base.now t section 65544 32768 turned (is ∙ u.1))

pub there_count : (r : Registers) → r.directory.count ≡ count_of r.base.now
there_count r = enough_count r.base.now r.directory 65544 32768 (enough_all r.base.now r.directory r.fits r.surveyed)

pub there_some : (r : Registers) → 1 ≤ r.directory.count
there_some r = omega (arith, there_count r, count_some r.base.now (misfit_none r.base.now r.fits).0)

-- beyond the last none stands
pub there_none : (r : Registers) (t : ℕ) → r.directory.count ≤ t → get_or r.directory.sections t no_section ≡ no_section
unfolding directory_of
there_none r t h =
    let f : ℕ → Section = λ i. cond (ltb i (count_of r.base.now)) (section_of r.base.now i) no_section in
    ap (λ (d : Directory). get_or d.sections t no_section) r.surveyed
    ∙ ⊎_elim
    (λ below.
    get_or-map-range_with_len f 0 8 t t no_section below (omega arith)
    ∙ cond-false (ltb t (count_of r.base.now)) (section_of r.base.now t) no_section (le-ltb t (count_of r.base.now) (omega (arith, there_count r))))
    (λ beyond. get_or_past (map f (range_with_len 0 8)) t no_section (omega (arith, length-map-range_with_len f 0 8)))
    (cases_lt t 8)

-- the last one ends where the numbers behind all registers begin
pub there_end : (r : Registers) (t : ℕ) → t + 1 ≡ r.directory.count → (get_or r.directory.sections t no_section).end ≡ register_place r.base.now (count_of r.base.now)
there_end r t e =
    let u = turn_at r.base.now r.directory 65544 32768 t (enough_all r.base.now r.directory r.fits r.surveyed) (omega arith) in
    ap (λ (s : Section). s.end) u.1 ∙ sym (register_place_more r.base.now t) ∙ ap (register_place r.base.now) (e ∙ there_count r)

-- room that is enough for as many blocks is enough for them
pub there_enough : (r : Registers) (b slots places : ℕ) → r.directory.blocks ≤ b → 2 * b + 8 ≤ slots → b ≤ places → Enough r.base.now r.directory slots places
unfolding directory_of
there_enough r b slots places l m n =
    let blocks : r.directory.blocks ≡ blocks_before r.base.now (count_of r.base.now) = ap (λ (d : Directory). d.blocks) r.surveyed in
    let few = blocks_few r.base.now r.fits in
    record { fits = r.fits; surveyed = r.surveyed; slots_enough = omega arith; places_enough = omega arith }

-- free room of a size that is enough
pub room_of : (xs : List ℕ) (directory : Directory) (slots : List Slot) (places : List ℕ) (m n : ℕ) → slots ≡ replicate m free → places ≡ replicate n 0 → Enough xs directory m n → Room xs directory slots places
room_of xs directory slots places m n s p k =
    let many : length slots ≡ m = ap length s ∙ length-replicate m free in
    let noted : length places ≡ n = ap length p ∙ length-replicate n 0 in
    record {
      enough = subst (λ (l : ℕ). Enough xs directory (length slots) l) (sym noted) (subst (λ (l : ℕ). Enough xs directory l n) (sym many) k);
      slots_free = s ∙ ap (λ (l : ℕ). replicate l free) (sym many);
      places_free = p ∙ ap (λ (l : ℕ). replicate l 0) (sym noted);
    }

-- in a turn of the loop that fills the room
pub turn : (xs : List ℕ) (directory : Directory) (slots : List Slot) (places : List ℕ) (m n t : ℕ) (section : Section) → Room xs directory slots places → t < directory.count → m ≡ length slots → n ≡ length places → section ≡ get_or directory.sections t no_section → Turn xs t section m n × (section ≡ section_of xs t)
turn xs directory slots places m n t section r l e f is =
    let u = turn_at xs directory m n t
    (record {
      fits = r.enough.fits;
      surveyed = r.enough.surveyed;
      slots_enough = omega (arith, r.enough.slots_enough);
      places_enough = omega (arith, r.enough.places_enough);
    }) l in
    (subst (λ (s : Section). Turn xs t s m n) (sym is) u.0, is ∙ u.1)

pub placed_none : (xs : List ℕ) (directory : Directory) (slots : List Slot) (places : List ℕ) → Room xs directory slots places → Placed xs 0 slots places
unfolding first_failing blocks_before
placed_none xs directory slots places r =
    record { proper = refl; entered = λ i l. absurd (omega arith); behind = r.slots_free ∙ ap (λ (n : ℕ). replicate n free) (omega arith) }

-- the t-th register is there, its slots are free, and there is a place for each of its blocks
pub placed_awaits : (xs : List ℕ) (t : ℕ) (section : Section) (slots : List Slot) (places : List ℕ) (from to first last : ℕ) → Placed xs t slots places → Turn xs t section (length slots) (length places) → from ≡ 2 * section.first + t → to ≡ from + 2 * section.blocks + 1 → first ≡ section.first → last ≡ first + section.blocks → (section ≡ section_of xs t → Stands xs section) × (between from to slots ≡ replicate (2 * section.blocks + 1) free) × (length (between first last places) ≡ section.blocks)
placed_awaits xs t section slots places from to first last k u e f g h =
    let at : from ≡ table_place xs t = omega (arith, u.first) in (
      turn_stands xs t section (length slots) (length places) u,
      ap₂ (λ (n a : ℕ). take n (drop a slots)) (omega arith) at
          ∙ ap (take (2 * section.blocks + 1)) k.behind
          ∙ take-replicate (2 * section.blocks + 1) (length slots - table_place xs t) free (omega (arith, u.table)),
      length-take (last - first) (drop first places) ∙ omega (arith, length-drop first places, u.noted),
    )

-- one register more
pub placed_more : (xs : List ℕ) (t : ℕ) (section : Section) (slots table : List Slot) (places noted : List ℕ) (from to first last : ℕ) → Placed xs t slots places → Turn xs t section (length slots) (length places) → from ≡ 2 * section.first + t → to ≡ from + 2 * section.blocks + 1 → first ≡ section.first → last ≡ first + section.blocks → length table ≡ to - from → length noted ≡ last - first → proper_register (register_at xs section.place) ≡ true → Entered xs section.place table noted → Placed xs (t + 1) (put_mid from (to - from) slots table) (put_mid first (last - first) places noted)
placed_more xs t section slots table places noted from to first last k u e f g h m n p x =
    let at : from ≡ table_place xs t = omega (arith, u.first) in
    let start : first ≡ blocks_before xs t = omega (arith, u.first) in
    let long : from ≤ length slots = omega (arith, u.table) in
    let wide : first ≤ length places = omega (arith, u.noted) in
    let more : table_place xs (t + 1) ≡ from + (to - from) = omega (arith, table_place_more xs t, u.blocks) in
    record {
      proper = first_failing_more _ t k.proper (ap (λ (q : ℕ). proper_register (register_at xs q)) (sym u.place) ∙ p);
      entered = below_more _ t
          (λ i l.
          let up = blocks_before_up xs (i + 1) t (omega arith) in
          let Slots-kept = between_below from (to - from) slots table (table_place xs i) (table_place xs i + 2 * blocks_at xs (register_place xs i) + 1) (omega (arith, table_place_more xs i)) long in
          let places-kept = between_below first (last - first) places noted (blocks_before xs i) (blocks_before xs i + blocks_at xs (register_place xs i)) (omega (arith, blocks_before_more xs i)) wide in
          entered_as xs _ _ _ _ _ (sym Slots-kept) (sym places-kept) (k.entered i l))
          (let slots-new : between (table_place xs t) (table_place xs t + 2 * blocks_at xs (register_place xs t) + 1) (put_mid from (to - from) slots table) ≡ table =
          ap₂ (λ (a b : ℕ). between a b (put_mid from (to - from) slots table)) (sym at) (omega (arith, u.blocks))
          ∙ between-put_mid from (to - from) slots table to long m in
          let places-new : between (blocks_before xs t) (blocks_before xs t + blocks_at xs (register_place xs t)) (put_mid first (last - first) places noted) ≡ noted =
          ap₂ (λ (a b : ℕ). between a b (put_mid first (last - first) places noted)) (sym start) (omega (arith, u.blocks))
          ∙ between-put_mid first (last - first) places noted last wide n in
          entered_as xs _ _ _ _ _ (sym slots-new) (sym places-new) (subst (λ (q : ℕ). Entered xs q table noted) u.place x));
      behind =
          ap (λ (a : ℕ). drop a (put_mid from (to - from) slots table)) more
          ∙ drop-put_mid from (to - from) slots table (from + (to - from)) (omega arith) long m
          ∙ ap (λ (a : ℕ). drop (a + (to - from)) slots) at
          ∙ sym (drop-drop (to - from) (table_place xs t) slots)
          ∙ ap (drop (to - from)) k.behind
          ∙ drop-replicate (to - from) (length slots - table_place xs t) free
          ∙ ap (λ (a : ℕ). replicate a free) (omega (arith, length_put_mid from (to - from) slots table m (omega (arith, u.table))));
    }

-- a register that is not proper is the first such
pub placed_stops : (xs : List ℕ) (t : ℕ) (slots : List Slot) (places : List ℕ) → Placed xs t slots places → t < count_of xs → proper_register (register_at xs (register_place xs t)) ≡ false → misstated xs ≡ Some t
unfolding misstated
placed_stops xs t slots places k l p = first_failing_is _ (count_of xs) t l k.proper p

-- when all are entered, the registers are indexed
pub placed_ends : (xs : List ℕ) (directory : Directory) (old slots : List Slot) (was places : List ℕ) (t : ℕ) → Room xs directory old was → Placed xs t slots places → t ≡ count_of xs → length slots ≡ length old → length places ≡ length was → (misstated xs ≡ None) × Indexed xs directory slots places
unfolding misstated refusal
placed_ends xs directory old slots was places t r k e l m =
    let none : misstated xs ≡ None = ap (first_failing (λ i. proper_register (register_at xs (register_place xs i)))) (sym e) ∙ k.proper in (
      none,
      record {
        sound = ap₂ (λ (a b : Option ℕ). or_else (refused_at Layout a) (refused_at Blocks b)) r.enough.fits none;
        enough = record {
          fits = r.enough.fits;
          surveyed = r.enough.surveyed;
          slots_enough = omega (arith, r.enough.slots_enough);
          places_enough = omega (arith, r.enough.places_enough);
        };
        entered = λ i h. k.entered i (omega arith);
      },
    )
