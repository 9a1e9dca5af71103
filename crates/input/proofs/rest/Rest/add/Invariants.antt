use Rattle.std.proofs.Common.{◌≡◌, ◌+◌, ◌-◌, ◌++◌, drop, take, w32}
use Rattle.std.specs.Int.{to_le_bytes}
use Rattle.input.proofs.rest.Rest.add.Given as goal

-- so many of the bytes stand behind those that were there
abbrev pub invariant-loop-byte : goal.invariant-loop-byte
invariant-loop-byte l =
    drop (4 - (l.begun + l.byte-index)) (to_le_bytes w32 l.last) ≡ drop (4 - l.begun) (to_le_bytes w32 l.initial.last) ++ take l.byte-index l.bytes
