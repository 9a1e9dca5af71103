-- A hash table of the keys of one register. How it is worked out: what the index answers is said without it.
-- Assumes nothing: these are definitions.
use Rattle.std.specs.Prelude.{◌≡◌, ℕ, ◌+◌, ◌-◌, ◌*◌, ◌/◌, ◌%◌, ◌^◌, ◌<◌, ◌≤◌, Bool, true, cond, List, length, count_by, Some, None, Option, is_some, ◌≢◌, nat_lt, slice_index, slice_index_or}
use Rattle.registers.specs.declared.table.Entry.{Entry}

-- a slot holds a key and the number of its block, or it is free
abbrev pub Slot : Type 0
Slot = Option Entry

abbrev pub free : Slot
free = None

abbrev pub taken : Slot → Bool
taken s = is_some s

abbrev pub slot_at : List Slot → ℕ → Slot
slot_at table r = slice_index_or table r free

-- where a key's way through a table of m slots begins
unfoldable pub home_of : (k m : ℕ) → ℕ
home_of k m = k * 11400714819323198485 % 2 ^ 64 / 2 ^ 32 * m / 2 ^ 32

-- the way goes on slot by slot, and from the last slot to the first
abbrev pub spot : (m h j : ℕ) → ℕ
spot m h j = cond (nat_lt (h + j) m) (h + j) (h + j - m)

-- the slot at step j of a key's way
abbrev pub on_way : List Slot → (k j : ℕ) → Slot
on_way table k j = slot_at table (spot (length table) (home_of k (length table)) j)

-- the way of a key leads to slot r: slots of other keys before it, and it is free or the key's own
pub record Probed (table : List Slot) (k r : ℕ) : Type 0 where
  pub steps : ℕ
  pub few : steps < length table
  pub place : r ≡ spot (length table) (home_of k (length table)) steps
  pub inside : r < length table
  pub before : (j : ℕ) → j < steps → (e : Entry) × (on_way table k j ≡ Some e) × (e.key ≢ k)
  pub here : (e : Entry) → slot_at table r ≡ Some e → e.key ≡ k

-- a table in which a way ends: it has a free slot, and not too many slots
pub record Open (table : List Slot) : Type 0 where
  pub room : count_by taken table < length table
  pub short : length table < 2 ^ 32

-- the slot of a key whose block has this number
abbrev pub slot_of : (k i : ℕ) → Slot
slot_of k i = Some (record { key = k; block = i })

-- the table holds these keys, by their places in the list
pub record Holds (table : List Slot) (keys : List ℕ) : Type 0 where
  pub kept : (s : ℕ) (e : Entry) → s < length table → slot_at table s ≡ Some e → (e.block < length keys) × (e.key ≡ slice_index keys e.block)
  pub reached : (i : ℕ) → i < length keys → (j : ℕ) × (j < length table) × (on_way table (slice_index keys i) j ≡ slot_of (slice_index keys i) i) × ((h : ℕ) → h ≤ j → taken (on_way table (slice_index keys i) h) ≡ true)
  pub filled : count_by taken table ≡ length keys
