use Rattle.registers.proofs.index.Index.over.Goals as goal

pub invariant_of-result : goal.invariant_of-result
invariant_of-result c = record { sound = ∣ c.requires ∣₁ }
