use Rattle.std.proofs.Common.{◌≡◌, ℕ, List, length}
use Rattle.std.specs.Io.KnownBytes.{Consumes}
use Rattle.input.proofs.source.read_all.Given as goal

-- the room for a part stays as long as it is, and the value stands for the bytes that the source gave
abbrev pub invariant-loop : goal.invariant-loop
invariant-loop g l =
    let left = g.R.Read.remaining in
    (length l.part ≡ 65536)
    × ((bytes : List ℕ) × Consumes (left l.initial.source) (left l.source) bytes × g.P.FromParts.holds bytes l.value)
