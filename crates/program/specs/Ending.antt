-- With which status a program ends. Assumes nothing: these are definitions.
use Rattle.std.specs.Prelude.{◌≡◌, ◌⊎◌, Bool, true, false, cond}
use Rattle.std.specs.declared.process.ExitCode.{ExitCode}

-- 0 where it did what it had to, else 1
abbrev pub status : Bool → ExitCode
status ok = record { status = cond ok 0 1 }

-- it ends with one of the two, and with that of success only where this holds
abbrev pub OnSuccess : ExitCode → Type 0 → Type 0
OnSuccess code told = (code ≡ status false) ⊎ ((code ≡ status true) × told)
