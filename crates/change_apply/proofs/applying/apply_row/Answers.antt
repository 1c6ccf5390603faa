use Rattle.slon_model.proofs.Spoken.{table_name_text}
use Rattle.change_apply.proofs.Logged.{logged_words, acted_as}
use Rattle.change_apply.proofs.applying.apply_row.Goals as goal

pub apply_action-requires-clause-table : goal.apply_action-requires-clause-table
apply_action-requires-clause-table g c = table_name_text c.in-Ok.action.table c.in-Ok.ensures.found.can.table

pub apply_action-requires-clause-words : goal.apply_action-requires-clause-words
apply_action-requires-clause-words g c = logged_words c.in-Ok.action c.in-Ok.ensures.found c.requires.can

pub returns-in-Ok-clause-acted : goal.returns-in-Ok-clause-acted
returns-in-Ok-clause-acted g c m is =
    acted_as m (g.K.Keeper.kept c.apply_action.new.keeper) c.in-Ok.action c.apply_action.result
    c.in-Ok.ensures.found (c.apply_action.ensures.changed m is)
