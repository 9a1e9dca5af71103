use Rattle.std.proofs.Common.{◌≡◌, ◌+◌, ◌-◌, vec_capacity, vec_items, vec_len}
use Rattle.input.proofs.numbers.make_room.Given as goal

-- the numbers stay as they are
abbrev pub invariant-loop-numbers : goal.invariant-loop-numbers
invariant-loop-numbers l = vec_items l.numbers ≡ vec_items l.initial.numbers

-- how much room is lacking
abbrev pub decreases-loop-numbers : goal.decreases-loop-numbers
decreases-loop-numbers l = (vec_len l.numbers + l.count) - vec_capacity l.numbers
