use Rattle.std.proofs.Common.{◌≡◌, ◌++◌, take, vec_capacity, vec_items}
use Rattle.input.specs.Numbers.{numbers_of}
use Rattle.input.proofs.numbers.push_numbers.Given as goal

-- so many of the numbers are pushed, and the room stays as it is
abbrev pub invariant-loop-chunk : goal.invariant-loop-chunk
invariant-loop-chunk l = record {
  pushed : vec_items l.numbers ≡ vec_items l.initial.numbers ++ take l.chunk-index (numbers_of l.bytes);
  room : vec_capacity l.numbers ≡ vec_capacity l.initial.numbers;
}
