use Rattle.std.proofs.Common.{◌∙◌, sym, subst}
use Rattle.std.specs.Str.{IsUtf8}
use Rattle.std.proofs.lemmas.Str.{is_utf8-from_IsUtf8}
use Rattle.slon_base.proofs.text.Text.from_str.Goals as goal

pub invariant_of-result : goal.invariant_of-result
invariant_of-result c =
    is_utf8-from_IsUtf8 _ (subst IsUtf8 (sym (c.in_ok-from_slice.ensures.bytes ∙ c.as_bytes.ensures.value)) c.utf8.text)
