use Rattle.std.proofs.Common.{ℕ, List, ◌++◌, length, vec_items, ap, sym, ◌∙◌, arith, length-append, append-nil}
use Rattle.input.proofs.Parts.{added, length_numbers, length_rest, rest_short}
use Rattle.input.proofs.numbers.Numbers.put.Goals as goal

pub push_reserved-requires : goal.push_reserved-requires
push_reserved-requires c =
    let rest : List ℕ = c.args.self.now.rest in
    let long = length-append rest c.args.bytes.now in
    omega (arith, length_numbers (rest ++ c.args.bytes.now), ap length c.in-Some.ensures.number)

pub returns-in-Some-clause-added : goal.returns-in-Some-clause-added
returns-in-Some-clause-added c =
    let behind = ap (λ ns. vec_items c.args.self.now.items ++ ns) c.in-Some.ensures.number in
    added _ _ _ (c.push_reserved.ensures.items ∙ behind) c.in-Some.ensures.rest

pub returns-in_default-clause-added : goal.returns-in_default-clause-added
returns-in_default-clause-added c =
    let behind = ap (λ ns. vec_items c.args.self.now.items ++ ns) c.in_default.ensures.number in
    added _ _ _ (sym (append-nil _) ∙ behind) c.in_default.ensures.rest

pub returns-in-Some-clause-len : goal.returns-in-Some-clause-len
returns-in-Some-clause-len c =
    let rest : List ℕ = c.args.self.now.rest in
    let long = length-append rest c.args.bytes.now in
    let told = c.in-Some.ensures in
    omega (arith, length_rest (rest ++ c.args.bytes.now), ap length told.number, ap length told.rest)

pub returns-in_default-clause-len : goal.returns-in_default-clause-len
returns-in_default-clause-len c =
    let rest : List ℕ = c.args.self.now.rest in
    let long = length-append rest c.args.bytes.now in
    let told = c.in_default.ensures in
    omega (arith, length_rest (rest ++ c.args.bytes.now), ap length told.number, ap length told.rest)

pub returns-in-Some-clause-short : goal.returns-in-Some-clause-short
returns-in-Some-clause-short c = omega (arith, rest_short (c.args.self.now.rest ++ c.args.bytes.now), ap length c.in-Some.ensures.rest)

pub returns-in_default-clause-short : goal.returns-in_default-clause-short
returns-in_default-clause-short c = omega (arith, rest_short (c.args.self.now.rest ++ c.args.bytes.now), ap length c.in_default.ensures.rest)
