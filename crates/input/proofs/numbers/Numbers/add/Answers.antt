use Rattle.std.proofs.Common.{◌≡◌, ℕ, ◌-◌, List, ◌++◌, length, take, drop, vec_items, sym, ap, ◌∙◌, arith, append_assoc, length-append}
use Rattle.std.proofs.lemmas.List.{take-append-drop, take_all, length-drop}
use Rattle.input.specs.declared.numbers.Numbers.{Numbers}
use Rattle.input.specs.Held.{Added}
use Rattle.input.specs.Numbers.{numbers_of, rest_of}
use Rattle.input.proofs.Parts.{added, length_rest, rest_short}
use Rattle.input.proofs.Chunks.{whole_of, whole_rest, whole_behind}
use Rattle.input.proofs.numbers.Numbers.add.Goals as goal

pub put-requires-2 : goal.put-requires-2
put-requires-2 c =
    let back : List ℕ = drop c.complete-len.result c.args.part.now in
    let short = rest_short back in
    let l = length_rest back in
    let fewer = length-drop c.complete-len.result c.args.part.now in
    let all = take_all (length c.args.part.now - c.complete-len.result) back (omega arith) in
    let pushed = rw all at c.push_numbers-rest.ensures in
    let m : length c.push_numbers-rest.result.now ≡ length (rest_of back) = ap length pushed.rest in
    let n = ap length pushed.numbers ∙ length-append (vec_items c.complete-len.new.self.items) (numbers_of back) in
    record { few = omega arith; room = omega arith }

pub returns-clause-added : goal.returns-clause-added
returns-clause-added c bytes h =
    let front : List ℕ = take c.complete-len.result c.args.part.now in
    let back : List ℕ = drop c.complete-len.result c.args.part.now in
    let whole = whole_of back in
    let rest : List ℕ = c.push_numbers-rest.result.now in
    let fewer = length-drop c.complete-len.result c.args.part.now in
    let all = take_all (length c.args.part.now - c.complete-len.result) back (omega arith) in
    let pushed = rw all at c.push_numbers-rest.ensures in
    -- the front completes the rest
    let first = c.complete-len.ensures.added bytes (record { items = c.make_room.ensures.kept ∙ h.items; rest = h.rest }) in
    -- the whole numbers stand behind no rest
    let mid : Numbers = record { items = c.push_numbers-rest.new.numbers; rest = c.complete-len.new.self.rest } in
    let behind = whole_behind c.complete-len.new.self.rest back (omega arith) (λ some. omega arith) in
    let items = pushed.numbers ∙ ap (λ ns. vec_items c.complete-len.new.self.items ++ ns) (sym behind.0) in
    let second : Added whole c.complete-len.new.self mid = added _ _ _ items (sym behind.1) in
    let third = c.put-2.ensures.added ((bytes ++ front) ++ whole) (second (bytes ++ front) first) in
    -- and with the rest they are the part
    let both : whole ++ rest ≡ back = ap (λ xs. whole ++ xs) pushed.rest ∙ whole_rest back in
    let part : front ++ back ≡ c.args.part.now = take-append-drop c.complete-len.result c.args.part.now in
    let behind_front = append_assoc (bytes ++ front) whole rest ∙ ap (λ xs. (bytes ++ front) ++ xs) both in
    let e = behind_front ∙ append_assoc bytes front back ∙ ap (λ xs. bytes ++ xs) part in
    rw e at third
