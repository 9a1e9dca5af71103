use Rattle.std.proofs.Common.{rules, ◌*◌, ◌<◌, ◌≤◌, length, arith}
use Rattle.input.specs.Numbers.{numbers_of}
use Rattle.input.proofs.Parts.{length_numbers}
use Rattle.ask_questions.proofs.Cutting.{given_count, given_told, told_cut, told_whole}
use Rattle.ask_questions.proofs.parts.read_signs.Goals as goal

pub returns-then-bytes-signs : goal.returns-then-bytes-signs
returns-then-bytes-signs c =
    let whole : c.args.signs * 19 < length (numbers_of c.args.bytes.now) = omega (arith, length_numbers c.args.bytes.now, c.if-bytes-signs.true) in
    told_whole _ c.args.signs _ _ whole
    (given_told _ _ _ _ c.args.signs _ _ c.requires.room c.decode-given.ensures.count c.decode-given.ensures.written c.read-read.ensures.value)

pub returns : goal.returns
returns c =
    let cut : length (numbers_of c.args.bytes.now) ≤ c.args.signs * 19 = omega (arith, length_numbers c.args.bytes.now, c.if-bytes-signs.false) in
    told_cut _ c.args.signs _ _ _ cut
    (given_told _ _ _ _ c.args.signs _ _ c.requires.room c.decode-given.ensures.count c.decode-given.ensures.written c.read-read.ensures.value)
    (search (rules, given_count))
