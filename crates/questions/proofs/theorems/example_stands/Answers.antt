use Rattle.std.proofs.Common.{refl}
use Rattle.registers.specs.Base.{has_key, proper_register}
use Rattle.registers.specs.Layout.{block_at, block_end, block_place, blocks_from, columns_of, register_at, register_end, register_place, rows_from}
use Rattle.registers.specs.Refusals.{blocks_fit, first_failing, misfit, misstated, refusal, register_fits, small}
use Rattle.questions.specs.Questions.{all_go, distinct, first_again, goes_to, has, simple}
use Rattle.questions.specs.Refusals.{refusal_of, signs_refusal}
use Rattle.questions.specs.Signs.{asked, each_below, parts_fit, reads_deep, reads_further, reads_sign, sign_fits, then}
use Rattle.questions.proofs.theorems.example_stands.Goals as goal

pub returns : goal.returns
unfolding columns_of register_at register_end register_place blocks_from block_at block_end block_place rows_from has_key proper_register refusal misfit misstated first_failing register_fits blocks_fit small refusal_of signs_refusal asked reads_deep reads_sign reads_further then sign_fits parts_fit each_below goes_to all_go has distinct simple first_again
returns c =
    record {
      stands =
          record {
            drained_read = refl;
            drained_goes = refl;
            drained_simple = refl;
            drained_accepted = refl;
            wide_read = refl;
            wide_accepted = refl;
          };
      refused =
          record {
            no_sign = refl;
            cut_in_a_sign = refl;
            missing_sign = refl;
            left_over = refl;
            number_left_over = refl;
            nine_signs = refl;
            no_register = refl;
            no_column = refl;
            no_column_for_further = refl;
            no_kind = refl;
            five_tests = refl;
            five_further = refl;
            twice = refl;
            unread_before_twice = refl;
            registers_first = refl;
            junk_unused = refl;
          };
    }
