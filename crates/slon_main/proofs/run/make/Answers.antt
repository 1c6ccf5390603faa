use Rattle.std.proofs.Common.{subst}
use Rattle.slon_base.specs.Shelf.{IsAsPromised}
use Rattle.cluster_engine.specs.Clustered.{cluster_of}
use Rattle.slon_main.proofs.Asks.{adopts_given, asks_given, asks_short, asks_none}
use Rattle.slon_main.proofs.Causes.{begins_empty}
use Rattle.cluster_engine.proofs.Charges.{adopts_tells}
use Rattle.cluster_engine.proofs.Failing.{adopts_pays}
use Rattle.slon_main.proofs.run.make.Goals as goal

pub returns-in-Ok-adopt-clause-pays : goal.returns-in-Ok-adopt-clause-pays
returns-in-Ok-adopt-clause-pays g c tells free =
    let promised = subst (λ place. IsAsPromised ((g.S.Shelf.shelved c.args.shelf.now).promise place)
    (g.S.Store.Keeper.kept c.in-Ok.keeper)) c.given.ensures c.in-Ok.ensures.store in
    adopts_pays (g.S.Shelf.shelved c.args.shelf.now).promise c.args.name (g.S.Store.Keeper.kept c.in-Ok.keeper)
    (cluster_of g.S.Store.Keeper.kept c.args.cluster.now)
    c.in-Ok-adopt.reply (cluster_of g.S.Store.Keeper.kept c.adopt.new.self) (record {
      promised = promised;
      empty = begins_empty (g.S.Shelf.shelved c.args.shelf.now) _ (g.S.Store.Keeper.kept c.in-Ok.keeper) tells
          promised;
      free = free;
    }) c.in-Ok-adopt.ensures.adopts

pub returns-in-Ok-adopt-clause-tells : goal.returns-in-Ok-adopt-clause-tells
returns-in-Ok-adopt-clause-tells g c free =
    adopts_tells c.args.name (g.S.Store.Keeper.kept c.in-Ok.keeper)
    (cluster_of g.S.Store.Keeper.kept c.args.cluster.now)
    c.in-Ok-adopt.reply (cluster_of g.S.Store.Keeper.kept c.adopt.new.self) c.in-Ok-adopt.ensures.adopts

pub returns-in-Ok-adopt-clause-asked : goal.returns-in-Ok-adopt-clause-asked
returns-in-Ok-adopt-clause-asked g c =
    let old = cluster_of g.S.Store.Keeper.kept c.args.cluster.now in
    let new = cluster_of g.S.Store.Keeper.kept c.adopt.new.self in
    asks_given _ _ old.given new.given
    (record { place = c.given.result; at = c.given.ensures; one = c.in-Ok.ensures.asked })
    (adopts_given c.args.name (g.S.Store.Keeper.kept c.in-Ok.keeper) old c.in-Ok-adopt.reply new
    c.in-Ok-adopt.ensures.adopts)

pub returns-in-Err-adopt-clause-asked : goal.returns-in-Err-adopt-clause-asked
returns-in-Err-adopt-clause-asked g c =
    asks_short _ _ (cluster_of g.S.Store.Keeper.kept c.args.cluster.now).given c.given.result c.given.ensures
    c.in-Ok.ensures.asked

pub returns-in-Failed-clause-asked : goal.returns-in-Failed-clause-asked
returns-in-Failed-clause-asked g c =
    asks_none _ _ (cluster_of g.S.Store.Keeper.kept c.args.cluster.now).given c.given.result c.given.ensures
    c.in-Err.ensures.unasked

pub returns-in-NoMemory-clause-asked : goal.returns-in-NoMemory-clause-asked
returns-in-NoMemory-clause-asked g c =
    asks_none _ _ (cluster_of g.S.Store.Keeper.kept c.args.cluster.now).given c.given.result c.given.ensures
    c.in-Err.ensures.unasked
