use Rattle.std.proofs.Common.{◌≡◌, ◌+◌, drop}
use Rattle.std.specs.List.{prefix_len}
use Rattle.slonik_tokens.specs.Spelling.{is_line_byte}
use Rattle.slonik_tokens.proofs.scan.line_len.Given as goal

abbrev pub invariant-loop-byte : goal.invariant-loop-byte
invariant-loop-byte l = record {
  run : l.len + prefix_len is_line_byte (drop l.byte-index l.bytes) ≡ prefix_len is_line_byte l.bytes;
  place : l.len ≡ l.byte-index;
}
