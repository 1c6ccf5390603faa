use Rattle.std.proofs.Common.{map, subst, sym}
use Rattle.event_store.specs.Following.{GoesOn}
use Rattle.event_store.specs.Streams.{streams_of}
use Rattle.event_store.specs.Telling.{named}
use Rattle.slon_model.specs.Deeds.{Hears}
use Rattle.node_change.proofs.Confirmed.{becomes_as, has_heard, goes_named}
use Rattle.node_change.proofs.Meeting.{shows_streams}
use Rattle.node_change.proofs.confirming.hear.Goals as goal

pub returns-clause-turns : goal.returns-clause-turns
returns-clause-turns g c n m own is held =
    becomes_as (g.K.Keeper.kept c.confirm_all.new.keeper) (λ new shows. has_heard (record {
      held = held;
      goes = subst (λ id. GoesOn (record n { id = id }) (Hears (map named c.args.rows.now))) (sym own)
          (goes_named n c.args.own c.args.rows.now c.requires.rows);
      streams = shows;
    })) c.confirm_all.result (c.confirm_all.ensures.turns m (streams_of n) own (shows_streams is held))
