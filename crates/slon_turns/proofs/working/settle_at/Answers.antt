use Rattle.std.proofs.Common.{◌∙◌, refl, sym}
use Rattle.std.proofs.lemmas.Result.{IfOk-weaker}
use Rattle.slon_model.specs.World.{refusal_of}
use Rattle.app_store.specs.Base.{base_of}
use Rattle.slonik_exec.proofs.Telling.{words_at}
use Rattle.slonik_exec.proofs.Works.{answers_then}
use Rattle.slon_turns.specs.declared.working.Aim.TheVariants.{Apply}
use Rattle.slon_turns.specs.Applying.{EndsWith}
use Rattle.slon_turns.proofs.Listens.{told_if}
use Rattle.slon_turns.proofs.Settling.{settle_applied, settle_busy, settle_stops}
use Rattle.slon_turns.proofs.working.settle_at.Goals as goal

pub returns-in-Ok-None-clause-answers : goal.returns-in-Ok-None-clause-answers
returns-in-Ok-None-clause-answers g c =
    IfOk-weaker c.apply_at.result _ _ (λ reply answers. answers_then c.in-Ok-None.ensures.acts answers)
    c.apply_at.ensures.answers

pub returns-in-Ok-None-clause-ends : goal.returns-in-Ok-None-clause-ends
returns-in-Ok-None-clause-ends g c =
    IfOk-weaker c.apply_at.result _ _ (λ reply applies.
    settle_applied {w = c.args.fetched} (λ p ready.
    let look = c.in-Ok-None.ensures.looks p ready refl in (sym c.in-Ok-None.field-0-is ∙ look.0, look.1)) applies)
    c.apply_at.ensures.applies

pub returns-in-Ok-Some-clause-ends : goal.returns-in-Ok-Some-clause-ends
returns-in-Ok-Some-clause-ends g c =
    settle_busy {w = c.args.fetched} c.in-Ok-Some.xid (λ p ready.
    let look = c.in-Ok-Some.ensures.looks p ready refl in (sym c.in-Ok-Some.field-0-is ∙ look.0, look.1)) refl
    c.take-kept.ensures.rest

pub returns-in-Err-clause-ends : goal.returns-in-Err-clause-ends
returns-in-Err-clause-ends g c =
    let name = c.args.own.now.name in
    let old = base_of g.K.Keeper.kept c.args.own.now.database in
    let new = base_of g.K.Keeper.kept c.writer.new.own in
    let fault = c.in-Err.fault in
    told_if (λ reply. EndsWith Apply name c.args.fetched (old, c.args.held.now) reply (new, c.args.held.now))
    c.told.result fault (refusal_of (words_at name) fault) c.told.ensures.reply c.told.ensures.memory
    (λ reply told full. settle_stops {name = name} {w = c.args.fetched} fault
    (λ p ready. c.in-Err.ensures.looks p ready full) told)
