use Rattle.std.proofs.Common.{◌≡◌, ℕ, ◌+◌, ◌++◌, List, length}
use Rattle.slon_base.specs.Outside.{top}
use Rattle.std.proofs.Common.{Some}
use Rattle.slonik_expand.specs.Reading.{KeepsOthers}
use Rattle.slonik_expand.proofs.file.read_entered.Given as goal

abbrev pub invariant-loop-bytes : goal.invariant-loop-bytes
invariant-loop-bytes g l = record {
  files : KeepsOthers (g.F.Files.filed l.fn.files) (g.F.Files.filed l.files);
  buffer : length l.buffer.items ≡ 4096;
  room : l.room + length l.bytes.items ≡ l.limit;
  read : (bytes : List ℕ) → top (g.F.Files.filed l.fn.files).stack ≡ Some bytes
      → (rest : List ℕ) × (top (g.F.Files.filed l.files).stack ≡ Some rest) × (l.bytes.items ++ rest ≡ bytes);
}

abbrev pub decreases-loop-bytes : goal.decreases-loop-bytes
decreases-loop-bytes g l = l.room
