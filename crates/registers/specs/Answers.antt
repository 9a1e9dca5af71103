-- What a look-up answers. Assumes nothing: these are definitions.
use Rattle.std.specs.Prelude.{◌≡◌, ℕ, true, false, List, Some, None, Option, Result, MatchOption, MatchResult}
use Rattle.std.specs.Borrow.{Bor}
use Rattle.std.specs.List.{flat_map}
use Rattle.registers.specs.declared.refusals.Refusal.{Refusal}
use Rattle.registers.specs.Base.{Register, has_key, register, rows_under}
use Rattle.registers.specs.Layout.{base_of}
use Rattle.registers.specs.Refusals.{refusal}

-- nothing where the register lacks the key, else the rows under it, one behind the other
abbrev pub Shows : Register → (k : ℕ) → Option (Bor (List ℕ)) → Type 0
Shows r k o =
    MatchOption o (has_key k r ≡ false) (λ s. (has_key k r ≡ true) × (s.now ≡ flat_map (λ row. row) (rows_under k r)))

-- the same of a slice, or its refusal
abbrev pub LookedUp : (xs : List ℕ) (t k : ℕ) → Result (Option (Bor (List ℕ))) Refusal → Type 0
LookedUp xs t k r =
    MatchResult r (λ o. (refusal xs ≡ None) × Shows (register (base_of xs) t) k o) (λ e. refusal xs ≡ Some e)
