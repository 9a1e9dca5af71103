use Rattle.std.proofs.Common.{◌≡◌, ℕ, ◌/◌, ◌%◌, ◌-◌, ◌^◌, ◌++◌, ◌∷◌, List, [], length, false, refl, arith, append-nil, lit≤}
use Rattle.std.proofs.lemmas.Str.{encode_ascii}
use Rattle.std.proofs.Output.{has_written_of_eq}
use Rattle.std.specs.Fmt.{padded_integral, char_count, format_spec, styled_decimal, decimal}
use Rattle.std.specs.List.{repeat}
use Rattle.timing.specs.Printing.{padded, printed}
use Rattle.timing.proofs.TenthsDisplay.fmt.Goals as goal

-- fill before a text, and none behind it
fill_before : (n m : ℕ) (fill space text : List ℕ) → n ≡ m → fill ≡ space
    → repeat n fill ++ [] ++ [] ++ [] ++ (text ++ repeat (n - n) fill) ≡ repeat m space ++ text
fill_before n m fill space text count same = let none : m - m ≡ 0 = omega arith in search (none, append-nil, count, same)

padded_to_ten : (text : List ℕ) → padded_integral (format_spec 32 3 0 10 (2 ^ 64 - 1)) false [] text ≡ padded text
unfolding padded_integral char_count
padded_to_ten text =
    let count : 10 - length text - 0 - 0 ≡ 10 - length text = omega arith in
    fill_before _ _ _ _ text count (encode_ascii 32 (lit≤ tt))

written : (spec : _) (tenths : ℕ) → spec ≡ format_spec 32 3 0 10 (2 ^ 64 - 1)
    → styled_decimal spec (tenths / 10) ++ 46 ∷ decimal (tenths % 10) ≡ printed tenths
written spec tenths same = rw (same, padded_to_ten) refl

pub returns-clause-writes : goal.returns-clause-writes
returns-clause-writes g c plain ok =
    has_written_of_eq _ _ _ _ _ (written _ _ c.laid_out.ensures) (c.write.ensures.writes plain ok)
