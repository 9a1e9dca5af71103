use Rattle.std.proofs.Common.{rules}
use Rattle.questions.specs.Reading.{again_at}
use Rattle.questions.specs.Signs.{register_at}
use Rattle.questions.proofs.Going.{again_told, found_in}
use Rattle.questions.proofs.reading.gone_twice.Goals as goal
use borrow.Author.Tests.{tests}

pub returns : goal.returns
returns c =
    again_told (register_at c.args.numbers.now) c.args.count c.find_map.result
    (found_in _ _ _ 1 c.args.count (again_at c.args.numbers.now) (λ x o q k. search (rules, tests)) c.find_map.result (cc) c.find_map.ensures.runs)
