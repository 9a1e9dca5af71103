-- What is known after several runs. Assumes nothing: these are definitions.
use Rattle.std.specs.Prelude.{◌≡◌, ℕ, zero, suc, ◌+◌, ◌-◌, ◌^◌, min}
use Rattle.timing.specs.declared.Found.{Found}
use Rattle.timing.specs.declared.Timed.{Timed}
use Rattle.timing.specs.Finds.{wrapped}

-- no run yet: the least of no times is the largest number
abbrev pub untimed : Timed
untimed = record { least = 2 ^ 64 - 1; count = 0; sum = 0 }

-- one more run, that took so many nanoseconds and found so much
abbrev pub with_run : Timed → ℕ → Found → Timed
with_run timed nanos found = record { least = min timed.least nanos; count = found.count; sum = wrapped (timed.sum + found.sum) }

-- a run of work was added, that found what the work may find
abbrev pub Adds : (Found → Type 0) → Timed → Timed → Type 0
Adds Finds before after = (nanos : ℕ) × (found : Found) × Finds found × (after ≡ with_run before nanos found)

-- so many runs of work were added, each of which found what the work may find
abbrev pub IsOfRuns : (Found → Type 0) → ℕ → Timed → Type 0
IsOfRuns Finds zero timed = timed ≡ untimed
IsOfRuns Finds (suc runs) timed = (before : Timed) × IsOfRuns Finds runs before × Adds Finds before timed
