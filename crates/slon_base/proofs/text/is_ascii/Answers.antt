use Rattle.std.proofs.Common.{◌≡◌, ◌∙◌, ap, subst, length, rules}
use Rattle.std.specs.Prelude.{take}
use Rattle.std.specs.Str.{IsAscii}
use Rattle.std.proofs.Math.Seq.{take-length}
use Rattle.std.proofs.lemmas.Str.{IsUtf8-from_ascii}
use Rattle.slon_base.proofs.text.is_ascii.Goals as goal

pub returns : goal.returns
returns c =
    let bytes = c.args.bytes.now in
    let all : c.loop-byte.byte-index ≡ length bytes = search rules in
    λ is_true. IsUtf8-from_ascii bytes
    (subst IsAscii (ap (λ n. take n bytes) all ∙ take-length bytes) c.loop-byte.invariant)
