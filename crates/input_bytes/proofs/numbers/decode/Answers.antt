use Rattle.std.proofs.Common.{ℕ, List, ◌/◌, [], length, zero-add, arith}
use Rattle.std.proofs.lemmas.List.{get_or-take, length-take}
use Rattle.std.proofs.lemmas.List.Edits.{paste_more}
use Rattle.input.specs.Numbers.{numbers_of}
use Rattle.input.proofs.Chunks.{chunk_number}
use Rattle.input.proofs.Parts.{length_numbers}
use Rattle.input_bytes.proofs.numbers.decode.Goals as goal

pub loop-place-preserved : goal.loop-place-preserved
loop-place-preserved c =
    let bytes : List ℕ = c.args.bytes.now in
    let i = c.loop-place.place in
    let l = length_numbers bytes in
    let some = length-take c.min-count.result c.as_chunks.result.0.now in
    let chunk = get_or-take c.min-count.result c.as_chunks.result.0.now i [] (omega arith) in
    let here = chunk_number bytes (length bytes / 4) i [] (omega arith) (omega arith) in
    let more = paste_more c.args.numbers.now 0 (numbers_of bytes) i 0 (omega arith) (omega arith) in
    let next = simp zero-add at more in
    cc

pub returns-clause-count : goal.returns-clause-count
returns-clause-count c = omega (arith, length_numbers c.args.bytes.now)
