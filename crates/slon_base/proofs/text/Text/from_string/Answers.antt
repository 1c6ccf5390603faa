use Rattle.std.proofs.Common.{◌∙◌, ap}
use Rattle.std.specs.Str.{is_utf8}
use Rattle.std.proofs.lemmas.Str.{is_utf8-from_IsUtf8, IsUtf8-had}
use Rattle.slon_base.proofs.text.Text.from_string.Goals as goal

pub invariant_of-result : goal.invariant_of-result
invariant_of-result c =
    ap (λ v. is_utf8 v.items) c.into_bytes.ensures.value ∙ is_utf8-from_IsUtf8 _ (IsUtf8-had _ c.args.text.ok)
