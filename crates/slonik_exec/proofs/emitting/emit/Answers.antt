use Rattle.std.proofs.Common.{IfOk, [], ◌∷◌, subst}
use Rattle.app_store.specs.Base.{base_of}
use Rattle.slonik_exec.specs.Emitting.{Emits, EmitsAll}
use Rattle.node_state.proofs.Formed.{if_ok}
use Rattle.slonik_exec.proofs.Events.{emits_one}
use Rattle.slonik_exec.proofs.emitting.emit.Goals as goal

pub returns-clause-emits : goal.returns-clause-emits
returns-clause-emits g c =
    let old = base_of g.K.Keeper.kept c.args.seat.now.database in
    let new = base_of g.K.Keeper.kept c.emit_all.new.seat.database in
    let name = c.args.seat.now.name in
    if_ok (λ reply. EmitsAll name (c.args.body.now ∷ []) old reply new)
    (λ reply. Emits name c.args.body.now old reply new) c.emit_all.result (λ reply emits. emits_one emits)
    (subst (λ bs. IfOk c.emit_all.result (λ reply. EmitsAll name bs old reply new)) c.one.ensures
    c.emit_all.ensures.emits)
