use Rattle.std.proofs.Common.{◌∙◌, sym, []}
use Rattle.std.proofs.lemmas.Bool.{false≢true}
use Rattle.std.proofs.lemmas.List.{append-nil}
use Rattle.store_rows.proofs.Reading.{memory_outside}
use Rattle.store_rows.proofs.stored_rows.read_alone.Goals as goal

pub returns-in-Ok-end-clause-gives : goal.returns-in-Ok-end-clause-gives
returns-in-Ok-end-clause-gives g c x can is = (c.in-Ok.ensures.again x [] can (c.new-row.ensures ∙ is
    ∙ sym (append-nil _))).0

pub returns-in-Err-end-clause-gives : goal.returns-in-Err-end-clause-gives
returns-in-Err-end-clause-gives g c x can is =
    absurd (false≢true (c.in-Err-end.ensures.ok.1 (c.in-Ok.ensures.again x [] can (c.new-row.ensures ∙ is
    ∙ sym (append-nil _))).1))

pub returns-in-Err-clause-gives : goal.returns-in-Err-clause-gives
returns-in-Err-clause-gives g c x can is = memory_outside c.row_stop-in-Err.result (c.row_stop-in-Err.ensures.memory
    (c.in-Err.ensures.again x [] can (c.new-row.ensures ∙ is ∙ sym (append-nil _))))
