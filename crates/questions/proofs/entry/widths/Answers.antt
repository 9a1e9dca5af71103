use Rattle.std.proofs.Common.{rules, get_or}
use Rattle.std.proofs.lemmas.List.FromFn.{fill_by_all}
use Rattle.registers.specs.Survey.{no_section}
use Rattle.questions.specs.Reading.{widths_of}
use Rattle.questions.proofs.entry.widths.Goals as goal

pub returns : goal.returns
unfolding widths_of
returns c =
    fill_by_all (λ t. (get_or c.args.directory.now.sections t no_section).columns) c.map.result 8 0 c.map.ensures.items.long
    (λ t l. let called = (c.map.ensures.items.at t no_section 0 l).2 in search rules)
