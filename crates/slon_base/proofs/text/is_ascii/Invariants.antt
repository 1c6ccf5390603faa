use Rattle.std.specs.Prelude.{take}
use Rattle.std.specs.Str.{IsAscii}
use Rattle.slon_base.proofs.text.is_ascii.Given as goal

-- the bytes so far are ASCII
abbrev pub invariant-loop-byte : goal.invariant-loop-byte
invariant-loop-byte l = IsAscii (take l.byte-index l.bytes)
