use Rattle.std.proofs.Common.{◌<◌, arith}
use Rattle.ask_questions.proofs.Cutting.{part_long, told_part}
use Rattle.ask_questions.proofs.parts.Part.read.Goals as goal

pub returns-then-signs-gt-MAX_SIGNS : goal.returns-then-signs-gt-MAX_SIGNS
returns-then-signs-gt-MAX_SIGNS c =
    let long : 8 < c.args.self.now.signs = omega (arith, c.from-signs.ensures, c.if-signs-gt-MAX_SIGNS.true) in
    part_long _ _ long

pub returns : goal.returns
returns c = told_part _ _ _ _ _ c.from-signs.ensures c.if-signs-gt-MAX_SIGNS.false c.read_signs.ensures
