-- What is told of each register: how large it is, and how many of its keys the boards contradict each other under.
-- Assumes nothing: these are definitions.
use Rattle.std.specs.Prelude.{ℕ, List, length, sum_by, count_by, nat_lt, slice_index}
use Rattle.registers.specs.Base.{Block, register}
use Rattle.registers.specs.Layout.{base_of, columns_of}
use Rattle.summaries.specs.declared.summary.Summary.{Summary}

-- how many rows a block has
abbrev pub rows_of : Block → ℕ
rows_of b = length b.rows

-- of the t-th register of a slice: its blocks, columns and rows, and the keys under which more than one row stands
abbrev pub summary_of : List ℕ → ℕ → Summary
summary_of xs t =
    record {
      blocks = length (register (base_of xs) t);
      columns = slice_index (columns_of xs) t;
      rows = sum_by rows_of (register (base_of xs) t);
      contested = count_by (λ b. nat_lt 1 (rows_of b)) (register (base_of xs) t);
    }

abbrev pub no_summary : Summary
no_summary = record { blocks = 0; columns = 0; rows = 0; contested = 0 }
