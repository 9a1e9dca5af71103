-- Where each register of a slice stands: what the survey answers. Assumes nothing: these are definitions.
use Rattle.std.specs.Prelude.{ℕ, cond, List, map, nat_lt}
use Rattle.std.specs.List.{range_with_len}
use Rattle.registers.specs.declared.layout.Section.{Section}
use Rattle.registers.specs.declared.layout.Directory.{Directory}
use Rattle.registers.specs.Layout.{blocks_at, blocks_before, columns_at, count_of, register_end, register_place}

-- the register that begins at place p, with so many blocks in the registers before it
abbrev pub section_at : List ℕ → (p first : ℕ) → Section
section_at xs p first =
    record { place = p; end = register_end xs p; blocks = blocks_at xs p; columns = columns_at xs p; first = first }

-- the t-th register
abbrev pub section_of : List ℕ → ℕ → Section
section_of xs t = section_at xs (register_place xs t) (blocks_before xs t)

abbrev pub no_section : Section
no_section = record { place = 0; end = 0; blocks = 0; columns = 0; first = 0 }

-- all of them, in room for eight
unfoldable pub directory_of : List ℕ → Directory
directory_of xs =
    record {
      count = count_of xs;
      blocks = blocks_before xs (count_of xs);
      sections = map (λ t. cond (nat_lt t (count_of xs)) (section_of xs t) no_section) (range_with_len 0 8);
    }
