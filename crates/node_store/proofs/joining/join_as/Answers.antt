use Rattle.std.proofs.Common.{◌∙◌, ◌<◌, ◌^◌, [], ◌∷◌, Ok, ap, sym, subst, refl, arith}
use Rattle.node_keeper.specs.Fused.{fuse_kept}
use Rattle.txn_core.specs.Snapshots.{seen_as}
use Rattle.app_store.proofs.Upright.{up_at}
use Rattle.node_store.specs.Joining.{WritesBoth, StopsEvent, joiner}
use Rattle.node_store.proofs.Becoming.{none_held}
use Rattle.node_store.proofs.Emitted.{Said, emitter_in, said_of, told_in}
use Rattle.node_store.proofs.Joiners.{newcomer_of, wrote_both, from_stops, to_broke}
use Rattle.node_store.proofs.Outcomes.{AreUp, event_of, ends_joins}
use Rattle.node_store.proofs.joining.join_as.Goals as goal

pub returns-in_ok-joined-in-Ok-clause-joins : goal.returns-in_ok-joined-in-Ok-clause-joins
returns-in_ok-joined-in-Ok-clause-joins g c comment body s ready seen cluster long =
    let up : AreUp (joiner c.args.joining.new comment) s _ = record
    { ready = ready; from = up_at ready.from c.requires.up.0; to = up_at ready.to c.requires.up.1 } in
    let said : Said (event_of up) c.args.joining.own (seen_as c.args.taken.now) (c.args.body.now ∷ []) =
    said_of (event_of up) up.from c.requires.own seen (ap (λ b. b ∷ []) (sym body)) (omega arith) (ready.learns, tt) in
    let from = fuse_kept g.K.Keeper.kept c.write_both.new.from in
    let to = fuse_kept g.K.Keeper.kept c.write_both.new.to in
    let writes = c.in-Ok.ensures.writes (emitter_in up.from (event_of up)) s.run ready.to.fits.held.0 comment
    (told_in up.from (event_of up) said) (ready.cluster ∙ sym cluster) body ready.from.fits.held.1
    ready.to.fits.held.1 (none_held up.to ready.none) in
    ends_joins up (record {
      kept = c.in-Ok.node;
      stamps = record { from = c.args.joining.event_stamp; to = c.args.joining.node_stamp };
    }) c.in-Ok.number (Ok c.in_ok-joined-in-Ok.joined) (wrote_both up c.in-Ok.number c.in-Ok.node (record {
      writes = subst (λ n. WritesBoth (emitter_in up.from (event_of up)) (newcomer_of up) n
          (Ok (c.in-Ok.number, c.in-Ok.node)) from to)
          (λ i. record { from = c.requires.stamps.0 i; to = c.requires.stamps.1 i }) writes;
      way = record { from = c.in-Ok.ensures.enters.0; to = c.in-Ok.ensures.enters.1 };
      from_memory = refl;
      to_memory = refl;
      room = (
        subst (λ n. n < 2 ^ 63) c.requires.stamps.0 c.requires.room.0,
        subst (λ n. n < 2 ^ 63) c.requires.stamps.1 c.requires.room.1,
      );
    })) c.requires.stamps (c.in_ok-joined-in-Ok.ensures, long)

pub returns-in-From-clause-joins : goal.returns-in-From-clause-joins
returns-in-From-clause-joins g c comment body s ready seen cluster memory =
    let up : AreUp (joiner c.args.joining.new comment) s _ =
    record { ready = ready; from = up_at ready.from c.requires.up.0; to = up_at ready.to c.requires.up.1 } in
    let said : Said (event_of up) c.args.joining.own (seen_as c.args.taken.now) (c.args.body.now ∷ []) =
    said_of (event_of up) up.from c.requires.own seen (ap (λ b. b ∷ []) (sym body)) (omega arith) (ready.learns, tt) in
    let broke = rw c.in-From.is at c.in-Err.ensures.enters in
    from_stops up c.new.result c.in-Err.failed.stop (
      c.new.ensures.side,
      record {
        from = subst (λ n. n < 2 ^ 63) c.requires.stamps.0 c.requires.room.0;
        to = subst (λ n. n < 2 ^ 63) c.requires.stamps.1 c.requires.room.1;
      },
    )
    (subst (λ side. StopsEvent (emitter_in up.from (event_of up)) side c.in-Err.failed.stop) c.in-From.is
    (c.in-Err.ensures.writes (emitter_in up.from (event_of up)) s.run ready.to.fits.held.0 comment
    (told_in up.from (event_of up) said) (ready.cluster ∙ sym cluster) body ready.from.fits.held.1
    ready.to.fits.held.1 (none_held up.to ready.none))) (
      record {
        held = broke.0.held;
        down = c.fall-fault.ensures.down;
        rose = broke.0.failed;
        fault_is = c.new.ensures.fault ∙ c.fall-fault.ensures.fault;
      },
      broke.0.later,
      memory,
    ) (record {
      held = c.give_up.ensures.held ∙ broke.1.held;
      later = omega (arith, c.give_up.ensures.later, broke.1.later);
      memory = refl;
    })

pub returns-in-To-clause-joins : goal.returns-in-To-clause-joins
returns-in-To-clause-joins g c comment body s ready seen cluster memory =
    let up : AreUp (joiner c.args.joining.new comment) s _ =
    record { ready = ready; from = up_at ready.from c.requires.up.0; to = up_at ready.to c.requires.up.1 } in
    let said : Said (event_of up) c.args.joining.own (seen_as c.args.taken.now) (c.args.body.now ∷ []) =
    said_of (event_of up) up.from c.requires.own seen (ap (λ b. b ∷ []) (sym body)) (omega arith) (ready.learns, tt) in
    let broke = rw c.in-To.is at c.in-Err.ensures.enters in
    to_broke up c.new-in-To.result c.new-in-To.ensures.side (record {
      held = c.give_up-in-To.ensures.held ∙ broke.0.held;
      later = omega (arith, c.give_up-in-To.ensures.later, broke.0.later);
      memory = refl;
    }) (record {
      held = broke.1.held;
      down = c.fall-fault-in-To.ensures.down;
      rose = broke.1.failed;
      fault_is = c.new-in-To.ensures.fault ∙ c.fall-fault-in-To.ensures.fault;
    }) (
      memory,
      subst (λ side. StopsEvent (emitter_in up.from (event_of up)) side c.in-Err.failed.stop) c.in-To.is
          (c.in-Err.ensures.writes (emitter_in up.from (event_of up)) s.run ready.to.fits.held.0 comment
          (told_in up.from (event_of up) said) (ready.cluster ∙ sym cluster) body ready.from.fits.held.1
          ready.to.fits.held.1 (none_held up.to ready.none)),
    )
