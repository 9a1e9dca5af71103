use Rattle.std.proofs.Common.{◌≡◌, ℕ, zero, suc, List, [], ◌∷◌, ◌+◌, ◌-◌, ◌<◌, ◌++◌, ◌%◌, length, get_or, take, drop, refl, ap, sym, ◌∙◌, arith, append_assoc, append-nil, length-append, w32}
use Rattle.std.proofs.lemmas.List.{take_all, take_more, drop_all, length-drop, nil_from_length}
use Rattle.std.proofs.lemmas.Bool.{eqb-true}
use Rattle.std.proofs.lemmas.Nat.{le_bytes_4}
use Rattle.std.specs.Int.{to_le_bytes}
use Rattle.input.specs.Numbers.{numbers_of}
use Rattle.input.proofs.Parts.{all_rest, no_rest}
use Rattle.input.proofs.rest.Rest.add.Goals as goal
use Rattle.input.proofs.rest.Rest.add.Goals.{After-loop-byte}

pub returns-then-is_empty : goal.returns-then-is_empty
returns-then-is_empty c =
    let begun = ap length (sym c.self.view_is) ∙ length-drop (4 - c.self.inside.len) (to_le_bytes w32 c.self.inside.last) in
    let none : c.args.bytes.now ≡ [] = nil_from_length _ (eqb-true _ _ (sym c.if-is_empty.ensures)) in
    let same = ap (λ xs. c.args.self.now ++ xs) none ∙ append-nil c.args.self.now in
    let rest = all_rest c.args.self.now (omega arith) in
    record { number = cc; rest = cc }

-- a byte more at the end of four
shifted : (xs : List ℕ) (n b : ℕ) → length xs ≡ 4 → n < 4
    → drop (4 - (n + 1)) (get_or xs 1 0 ∷ get_or xs 2 0 ∷ get_or xs 3 0 ∷ b ∷ []) ≡ drop (4 - n) xs ++ b ∷ []
shifted (x ∷ y ∷ z ∷ w ∷ []) zero b l s = refl
shifted (x ∷ y ∷ z ∷ w ∷ []) (suc zero) b l s = refl
shifted (x ∷ y ∷ z ∷ w ∷ []) (suc (suc zero)) b l s = refl
shifted (x ∷ y ∷ z ∷ w ∷ []) (suc (suc (suc zero))) b l s = refl
shifted (x ∷ y ∷ z ∷ w ∷ []) (suc (suc (suc (suc n)))) b l s = absurd (omega arith)
shifted [] n b l s = absurd (omega arith)
shifted (x ∷ []) n b l s = absurd (omega arith)
shifted (x ∷ y ∷ []) n b l s = absurd (omega arith)
shifted (x ∷ y ∷ z ∷ []) n b l s = absurd (omega arith)
shifted (x ∷ y ∷ z ∷ w ∷ v ∷ xs) n b l s = absurd (omega arith)

-- each of four bytes is one
below : (a b c d i : ℕ) → a < 256 → b < 256 → c < 256 → d < 256 → get_or (a ∷ b ∷ c ∷ d ∷ []) i 0 < 256
below a b c d zero e f g h = e
below a b c d (suc zero) e f g h = f
below a b c d (suc (suc zero)) e f g h = g
below a b c d (suc (suc (suc zero))) e f g h = h
below a b c d (suc (suc (suc (suc i)))) e f g h = omega arith

pub loop-byte-preserved : goal.loop-byte-preserved
loop-byte-preserved c =
    let begun = c.self.inside.len in
    let i = c.loop-byte.byte-index in
    let byte = get_or c.args.bytes.now i 0 in
    let four : List ℕ = to_le_bytes w32 c.loop-byte.last in
    let few = ap length c.self.view_is in
    let some = length-drop (4 - begun) (to_le_bytes w32 c.self.inside.last) in
    let one = shifted four (begun + i) byte refl (omega arith) in
    let bytes : List ℕ = get_or four 1 0 ∷ get_or four 2 0 ∷ get_or four 3 0 ∷ byte ∷ [] in
    let made = rw c.to_le_bytes.ensures at c.from_le_bytes-last.ensures in
    let last : to_le_bytes w32 c.from_le_bytes-last.result ≡ bytes =
    le_bytes_4 bytes c.from_le_bytes-last.result refl (λ k. below _ _ _ _ k (omega arith) (omega arith) (omega arith) (omega (arith, c.type_inv.bytes i))) made in
    let next = take_more c.args.bytes.now i 0 c.loop-byte-test.true in
    let join = append_assoc (drop (4 - begun) (to_le_bytes w32 c.self.inside.last)) (take i c.args.bytes.now) (byte ∷ []) in
    let on : begun + (i + 1) ≡ begun + i + 1 = omega arith in
    rw (last, on) (one ∙ ap (λ xs. xs ++ byte ∷ []) c.loop-byte.invariant ∙ join ∙ ap (λ xs. drop (4 - begun) (to_le_bytes w32 c.self.inside.last) ++ xs) (sym next))

-- so many bytes were there
begun : (c : After-loop-byte) → length c.args.self.now ≡ c.self.inside.len
begun c = omega (arith, ap length c.self.view_is, length-drop (4 - c.self.inside.len) (to_le_bytes w32 c.self.inside.last))

-- behind the loop they and those added are held
held : (c : After-loop-byte)
    → drop (4 - (c.self.inside.len + length c.args.bytes.now)) (to_le_bytes w32 c.loop-byte.last) ≡ c.args.self.now ++ c.args.bytes.now
held c =
    let end : c.loop-byte.byte-index ≡ length c.args.bytes.now = omega arith in
    let all = take_all c.loop-byte.byte-index c.args.bytes.now (omega arith) in
    cc

pub returns-then-len-lt-WIDTH : goal.returns-then-len-lt-WIDTH
returns-then-len-lt-WIDTH c =
    let s = (goal.at.returns-then-len-lt-WIDTH c).After-loop-byte in
    let b = begun s in
    let long = length-append c.args.self.now c.args.bytes.now in
    let few : (c.self.inside.len + length c.args.bytes.now) % 4 ≡ c.self.inside.len + length c.args.bytes.now = omega arith in
    let all = all_rest (c.args.self.now ++ c.args.bytes.now) (omega arith) in
    record { number = sym all.0; rest = rw few (held s ∙ sym all.1) }

pub returns : goal.returns
returns c =
    let s = (goal.at.returns c).After-loop-byte in
    let b = begun s in
    let long = length-append c.args.self.now c.args.bytes.now in
    let all : 4 - (c.self.inside.len + length c.args.bytes.now) ≡ 0 = omega arith in
    let whole : to_le_bytes w32 c.loop-byte.last ≡ c.args.self.now ++ c.args.bytes.now =
    ap (λ k. drop k (to_le_bytes w32 c.loop-byte.last)) (sym all) ∙ held s in
    let none : (c.self.inside.len + length c.args.bytes.now) % 4 ≡ 0 = omega arith in
    let nothing = drop_all 4 (to_le_bytes w32 c.loop-byte.last) (omega arith) in
    let rest = no_rest (c.args.self.now ++ c.args.bytes.now) (omega arith) in
    record { number = sym c.number.ensures ∙ ap numbers_of (c.to_le_bytes-2.ensures ∙ whole); rest = rw none (nothing ∙ sym rest) }
