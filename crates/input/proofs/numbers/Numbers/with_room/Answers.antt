use Rattle.input.specs.Numbers.{numbers_of, rest_of}
use Rattle.input.proofs.numbers.Numbers.with_room.Goals as goal

pub returns-clause-none : goal.returns-clause-none
unfolding numbers_of rest_of
returns-clause-none c = record { items = c.in_ok-items.ensures.items; rest = c.new-rest.ensures }
