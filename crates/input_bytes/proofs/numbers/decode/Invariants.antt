use Rattle.std.proofs.Common.{◌≡◌, ◌++◌, take, drop}
use Rattle.input.specs.Numbers.{numbers_of}
use Rattle.input_bytes.proofs.numbers.decode.Given as goal

-- the places before this one hold the first numbers, and the others what they held
abbrev pub invariant-loop-place : goal.invariant-loop-place
invariant-loop-place l = l.numbers ≡ take l.place (numbers_of l.bytes) ++ drop l.place l.initial.numbers
