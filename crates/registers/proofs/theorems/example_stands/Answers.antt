use Rattle.std.proofs.Common.{refl}
use Rattle.registers.specs.Base.{has_key, proper_register, rows_under}
use Rattle.registers.specs.Layout.{base_of, block_at, block_end, block_place, blocks_from, columns_of, register_at, register_end, register_place, rows_from}
use Rattle.registers.specs.Refusals.{blocks_fit, first_failing, misfit, misstated, refusal, register_fits, small}
use Rattle.registers.proofs.theorems.example_stands.Goals as goal

pub returns : goal.returns
unfolding base_of columns_of register_at register_end register_place blocks_from block_at block_end block_place rows_from rows_under has_key proper_register refusal misfit misstated first_failing register_fits blocks_fit small
returns c =
    record {
      stands = record { base = refl; columns = refl; accepted = refl; rows = refl; absent = refl };
      refused =
          record {
            empty = refl;
            no_register = refl;
            a_register_more = refl;
            cut_early = refl;
            cut_late = refl;
            no_column = refl;
            large_cell = refl;
            double_key = refl;
            later_first = refl;
          };
    }
