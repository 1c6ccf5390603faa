use Rattle.std.proofs.Common.{refl, append_assoc}
use Rattle.std.proofs.lemmas.Result.{IfOk-equal}
use Rattle.change_capture.proofs.log_row.LogRowSpelled.spell.Goals as goal

pub returns : goal.returns
returns c =
    IfOk-equal c.spell-5.result _ _ _ c.spell-5.ensures
    (rw (
      c.in_ok-spell-4.ensures,
      c.in_ok-spell-3.ensures,
      c.in_ok-spell_all.ensures,
      c.in_ok-spell-2.ensures,
      c.in_ok-spell.ensures,
    ) (simp append_assoc refl))
