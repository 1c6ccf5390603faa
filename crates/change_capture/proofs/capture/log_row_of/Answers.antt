use Rattle.std.proofs.Common.{subst, sym, ◌∙◌, rules}
use Rattle.slon_base.specs.Codec.{AreTexts}
use Rattle.change_capture.specs.Capture.{log_row}
use Rattle.change_capture.proofs.Spelling.{can_log_row, can_same, names_spelled}
use Rattle.change_capture.proofs.capture.log_row_of.Goals as goal

pub new-requires : goal.new-requires
new-requires c =
    subst AreTexts (sym (c.as_slice.ensures.value ∙ c.in_ok-names.ensures))
    (names_spelled c.args.action.now.table c.requires.table)

pub returns-clause-can : goal.returns-clause-can
returns-clause-can c small id can =
    can_same _ (log_row c.args.xid c.args.table c.args.action.now) (search rules)
    (can_log_row c.args.xid c.args.table c.args.action.now small id can)
