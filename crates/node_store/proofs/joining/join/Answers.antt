use Rattle.std.proofs.Common.{◌∙◌, refl, ap, arith}
use Rattle.node_rows.specs.declared.body.Body.TheVariants.{StoreNode}
use Rattle.slon_model.specs.Place.{is_running}
use Rattle.app_store.proofs.Upright.{up_at, running, untouched}
use Rattle.node_store.specs.Joining.{joiner}
use Rattle.node_store.proofs.Joiners.{from_bursts, to_bursts, cluster_is}
use Rattle.node_store.proofs.Outcomes.{AreUp}
use Rattle.node_store.proofs.joining.join.Goals as goal

pub returns-then-from-ge-STORED_LIMIT-clause-joins : goal.returns-then-from-ge-STORED_LIMIT-clause-joins
returns-then-from-ge-STORED_LIMIT-clause-joins g c s ready memory =
    let up : AreUp (joiner c.args.id c.args.comment.now) s _ =
    record { ready = ready; from = up_at ready.from c.requires.up.0; to = up_at ready.to c.requires.up.1 } in
    let most = c.if-from-ge-STORED_LIMIT.true in
    from_bursts up c.new.result
    (c.new.ensures.side, c.new.ensures.fault ∙ c.overflow.ensures.fault)
    (omega (arith, most)) (record { down = c.overflow.ensures.down; looked = untouched _ })
    (record { held = refl; later = omega arith; memory = refl })

pub returns-then-to-ge-STORED_LIMIT-clause-joins : goal.returns-then-to-ge-STORED_LIMIT-clause-joins
returns-then-to-ge-STORED_LIMIT-clause-joins g c s ready memory =
    let up : AreUp (joiner c.args.id c.args.comment.now) s _ =
    record { ready = ready; from = up_at ready.from c.requires.up.0; to = up_at ready.to c.requires.up.1 } in
    let most = c.if-to-ge-STORED_LIMIT.true in
    let room = c.if-from-ge-STORED_LIMIT.false in
    to_bursts up c.new-then-to-ge-STORED_LIMIT.result (
      c.new-then-to-ge-STORED_LIMIT.ensures.side,
      c.new-then-to-ge-STORED_LIMIT.ensures.fault
          ∙ c.overflow-then-to-ge-STORED_LIMIT.ensures.fault,
    )
    (record { from = omega (arith, room); to = omega (arith, most) })
    (record { held = refl; later = omega arith; memory = refl })
    (record { down = c.overflow-then-to-ge-STORED_LIMIT.ensures.down; looked = untouched _ })

pub returns-clause-joins : goal.returns-clause-joins
returns-clause-joins g c s ready long =
    let up : AreUp (joiner c.args.id c.args.comment.now) s _ =
    record { ready = ready; from = up_at ready.from c.requires.up.0; to = up_at ready.to c.requires.up.1 } in
    c.join_as.ensures.joins c.args.comment.now (ap (StoreNode c.args.id) c.in_ok-copy.ensures) s ready
    (c.in_ok-taken.ensures.taken s.from ready.from (ap is_running (running up.from).0))
    (cluster_is up c.in_ok-own.ensures.cluster) long
