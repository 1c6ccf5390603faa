use Rattle.std.proofs.Common.{◌∙◌, sym, subst}
use Rattle.std.proofs.lemmas.Result.{err_from_is_err_and}
use Rattle.slon_base.specs.Codec.{number_bytes}
use Rattle.txn_core.specs.Snapshots.{seen_as}
use Rattle.node_store.specs.Acting.{IsTold, behind}
use Rattle.node_store.proofs.Lookups.{pending_seen}
use Rattle.node_store.proofs.Midways.{both_stops, both_handed}
use Rattle.node_store.proofs.Newcomers.{held_after, stored_known, stops_event, both_short}
use Rattle.node_store.proofs.Several.{id_behind}
use Rattle.node_store.proofs.writing.write_both.Goals as goal

pub returns-in_err-node-in-Ok-clause-enters : goal.returns-in_err-node-in-Ok-clause-enters
returns-in_err-node-in-Ok-clause-enters g c =
    let result = c.from_residual.result in
    let from = g.K.Keeper.kept c.args.from.now in
    let from_new = g.K.Keeper.kept c.write_node.new.from in
    let to = g.K.Keeper.kept c.args.to.now in
    let to_new = g.K.Keeper.kept c.write_node.new.to in
    both_handed from from_new to to_new result (err_from_is_err_and result c.from_residual.ensures.1)
    (both_stops _ (record { from = from; from_new = from_new; to = to; to_new = to_new })
    (g.K.Keeper.kept c.write_events.new.keeper) c.in-Ok.ensures.enters c.in_err-node-in-Ok.ensures.within
    c.in_err-node-in-Ok.ensures.enters)

pub returns-in-Err-clause-writes : goal.returns-in-Err-clause-writes
returns-in-Err-clause-writes g c e run t comment told cluster body held held_to none =
    stops_event _ e c.args.joining.event_stamp c.in-Err.stop (c.in-Err.ensures.writes e
    (subst (λ bs. IsTold c.args.joining.own (seen_as c.args.taken.now) bs e) (sym c.one-bodies.ensures) told) held)

pub returns-in_err-node-in-Ok-clause-writes : goal.returns-in_err-node-in-Ok-clause-writes
returns-in_err-node-in-Ok-clause-writes g c e run t comment told cluster body held held_to none =
    let result = c.from_residual.result in
    let w = c.in-Ok.ensures.writes e
    (subst (λ bs. IsTold c.args.joining.own (seen_as c.args.taken.now) bs e) (sym c.one-bodies.ensures) told) held in
    both_short e (record { id = c.args.joining.new; run = run; held = t })
    (record { from = c.args.joining.event_stamp; to = c.args.joining.node_stamp })
    (record { from = g.K.Keeper.kept c.write_node.new.from; to = g.K.Keeper.kept c.write_node.new.to })
    result (err_from_is_err_and result c.from_residual.ensures.1)
    (c.in_err-node-in-Ok.ensures.writes (behind e.place e.node e.parts) run _ t
    (id_behind e.place e.node e.parts ∙ told.own_is) cluster
    (pending_seen (g.K.Keeper.kept c.write_events.new.keeper) w.1)
    (held_after (behind e.place e.node e.parts) w.0 (number_bytes c.args.joining.event_stamp) w.2.held)
    (stored_known c.args.joining.new comment e c.args.body.now told.bodies_are body) held_to none)

pub returns-in_ok-node-in-Ok-clause-writes : goal.returns-in_ok-node-in-Ok-clause-writes
returns-in_ok-node-in-Ok-clause-writes g c e run t comment told cluster body held held_to none =
    let w = c.in-Ok.ensures.writes e
    (subst (λ bs. IsTold c.args.joining.own (seen_as c.args.taken.now) bs e) (sym c.one-bodies.ensures) told) held in (
      (w.0, c.in_ok-node-in-Ok.ensures.same ∙ w.1, w.2),
      c.in_ok-node-in-Ok.ensures.writes (behind e.place e.node e.parts) run _ t
          (id_behind e.place e.node e.parts ∙ told.own_is) cluster
          (pending_seen (g.K.Keeper.kept c.write_events.new.keeper) w.1)
          (held_after (behind e.place e.node e.parts) w.0 (number_bytes c.args.joining.event_stamp) w.2.held)
          (stored_known c.args.joining.new comment e c.args.body.now told.bodies_are body) held_to none,
    )
