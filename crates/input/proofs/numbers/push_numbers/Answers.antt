use Rattle.std.proofs.Common.{ℕ, List, ◌/◌, [], ◌∷◌, length, take, vec_items, refl, arith, append_assoc}
use Rattle.std.proofs.lemmas.List.{take_all, take_more}
use Rattle.input.specs.Numbers.{numbers_of}
use Rattle.input.proofs.Parts.{length_numbers}
use Rattle.input.proofs.Chunks.{chunk_number, rest_drop}
use Rattle.input.proofs.numbers.push_numbers.Goals as goal

pub loop-chunk-preserved : goal.loop-chunk-preserved
loop-chunk-preserved c =
    let bytes : List ℕ = c.args.bytes.now in
    let i = c.loop-chunk.chunk-index in
    let l = length_numbers bytes in
    let here = chunk_number bytes (length bytes / 4) i [] (omega arith) (omega arith) in
    let more = take_more (numbers_of bytes) i 0 (omega arith) in
    let join = append_assoc (vec_items c.args.numbers.now) (take i (numbers_of bytes)) (c.number.result ∷ []) in
    record { pushed = cc; room = cc }

pub returns-clause-numbers : goal.returns-clause-numbers
returns-clause-numbers c =
    let l = length_numbers c.args.bytes.now in
    let all = take_all c.loop-chunk.chunk-index (numbers_of c.args.bytes.now) (omega arith) in
    cc

pub returns-clause-rest : goal.returns-clause-rest
returns-clause-rest c = let e = rest_drop c.args.bytes.now _ refl in cc
