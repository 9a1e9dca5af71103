-- The lines of a report, one after the other.
use Rattle.std.proofs.Common.{◌≡◌, ℕ, ◌+◌, ◌<◌, ◌≤◌, List, [], ◌++◌, length, get_or, map, sym, ap, ◌∙◌, arith}
use Rattle.std.specs.Prelude.{codes, decimal, flat_map}
use Rattle.std.specs.List.{range_with_len}
use Rattle.std.proofs.lemmas.List.{append_assoc, flat_map_more}
use Rattle.std.proofs.lemmas.List.Folds.{flat_map-map}
use Rattle.std.proofs.lemmas.List.FromFn.{get_or-map-range_with_len, length-map-range_with_len, map-range_with_len_more}
use Rattle.registers.specs.Layout.{count_of}
use Rattle.summaries.specs.declared.summary.Summary.{Summary}
use Rattle.summaries.specs.Summary.{no_summary, summary_of}
use Rattle.summaries.specs.Words.{register_line, report_words, words}

-- the lines of the first registers
abbrev pub first_lines : List ℕ → ℕ → List ℕ
first_lines xs t = flat_map (register_line xs) (range_with_len 0 t)

line_joined : (number text : List ℕ) → codes "register " ++ (number ++ (codes ": " ++ (text ++ codes "\n"))) ≡ codes "register " ++ number ++ codes ": " ++ text ++ codes "\n"
line_joined number text = simp append_assoc

flat_map_next : (line : ℕ → List ℕ) (t : ℕ) → flat_map line (range_with_len 0 t) ++ line t ≡ flat_map line (range_with_len 0 (t + 1))
flat_map_next line t =
    ap (λ text. text ++ line t) (sym (flat_map-map (λ text. text) line (range_with_len 0 t)))
    ∙ flat_map_more (λ text. text) [] (map line (range_with_len 0 t)) (line t)
    ∙ ap (flat_map (λ text. text)) (sym (map-range_with_len_more line 0 t t (omega arith)))
    ∙ flat_map-map (λ text. text) line (range_with_len 0 (t + 1))

-- the line of the next register, as it is written
pub lines_more : (xs : List ℕ) (t : ℕ) (summaries : List Summary) → summaries ≡ map (summary_of xs) (range_with_len 0 (count_of xs)) → t < length summaries → first_lines xs t ++ (codes "register " ++ (decimal t ++ (codes ": " ++ (words (get_or summaries t no_summary) ++ codes "\n")))) ≡ first_lines xs (t + 1)
lines_more xs t summaries e l =
    let there : t < count_of xs = omega (arith, l, ap length e, length-map-range_with_len (summary_of xs) 0 (count_of xs)) in
    let same = ap (λ known. get_or known t no_summary) e ∙ get_or-map-range_with_len (summary_of xs) 0 (count_of xs) t t no_summary there (omega arith) in
    ap (λ text. first_lines xs t ++ text) (line_joined (decimal t) (words (get_or summaries t no_summary)))
    ∙ ap (λ (s : Summary). first_lines xs t ++ (codes "register " ++ decimal t ++ codes ": " ++ words s ++ codes "\n")) same
    ∙ flat_map_next (register_line xs) t

-- the lines of all registers
pub lines_all : (xs : List ℕ) (t : ℕ) (summaries : List Summary) → summaries ≡ map (summary_of xs) (range_with_len 0 (count_of xs)) → t ≤ length summaries → length summaries ≤ t → first_lines xs t ≡ report_words xs
lines_all xs t summaries e l m =
    let all : t ≡ count_of xs = omega (arith, ap length e, length-map-range_with_len (summary_of xs) 0 (count_of xs)) in
    ap (first_lines xs) all
