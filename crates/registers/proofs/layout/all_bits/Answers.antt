use Rattle.std.proofs.Common.{rules, ◌≡◌, fold}
use lib.Bits.{bit_or}
use Rattle.std.proofs.lemmas.Iterator.{YieldsList-from_slice}
use Rattle.std.proofs.lemmas.Iterator.Consumers.{fold_from_yields_List}
use Rattle.registers.proofs.Small.{or_all_above}
use Rattle.registers.proofs.layout.all_bits.Goals as goal

pub returns : goal.returns
returns c =
    let folded : c.fold.result ≡ fold bit_or 0 c.args.numbers.now =
    fold_from_yields_List _ bit_or 0 _ c.fold.ensures.ran (YieldsList-from_slice c.args.numbers.now cc) (λ a x b q k. search rules) in
    λ k h. rw folded (or_all_above c.args.numbers.now 0 k h)
