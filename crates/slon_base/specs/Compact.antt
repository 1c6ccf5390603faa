-- Where bytes stand.
use Rattle.std.specs.Prelude.{◌≡◌, ℕ, List, [], take, drop, length, replicate}
use Rattle.slon_base.specs.declared.compact.Compact.{Compact}
use Rattle.slon_base.specs.declared.compact.Compact.TheVariants.{Inline, Heap}

-- the bytes that are kept
abbrev pub bytes_at : Compact → List ℕ
bytes_at (Inline len bytes) = take len bytes
bytes_at (Heap bytes) = bytes.items

-- the bytes behind those that are kept in the value
abbrev pub behind : Compact → List ℕ
behind (Inline len bytes) = drop len bytes
behind (Heap bytes) = []

-- They are zero.
abbrev pub IsPadded : Compact → Type 0
IsPadded kept = behind kept ≡ replicate (length (behind kept)) 0
