-- In which words a summary and a report are told. Assumes nothing: these are definitions.
use Rattle.std.specs.Prelude.{ℕ, List, ◌++◌, codes, cond, ◌==◌, flat_map}
use Rattle.std.specs.Fmt.{decimal}
use Rattle.std.specs.List.{range_with_len}
use Rattle.registers.specs.Layout.{count_of}
use Rattle.summaries.specs.Summary.{summary_of}
use Rattle.summaries.specs.declared.summary.Summary.{Summary}

-- so many of what a word stands for
unfoldable pub counted : ℕ → List ℕ → List ℕ
counted n word = decimal n ++ codes " " ++ word ++ cond (n == 1) (codes "") (codes "s")

-- under how many keys the boards say different things
unfoldable pub told_contested : ℕ → List ℕ
told_contested n =
    counted n (codes "key") ++ codes " " ++ cond (n == 1) (codes "has") (codes "have") ++ codes " more than one row"

-- a summary, but for the number of its register
abbrev pub words : Summary → List ℕ
words s =
    counted s.blocks (codes "key")
    ++ codes ", "
    ++ counted s.columns (codes "column")
    ++ codes ", "
    ++ counted s.rows (codes "row")
    ++ codes "; "
    ++ told_contested s.contested

-- the line of the t-th register of a slice
abbrev pub register_line : List ℕ → ℕ → List ℕ
register_line xs t = codes "register " ++ decimal t ++ codes ": " ++ words (summary_of xs t) ++ codes "\n"

-- a line for each register of a slice, in order
abbrev pub report_words : List ℕ → List ℕ
report_words xs = flat_map (register_line xs) (range_with_len 0 (count_of xs))
