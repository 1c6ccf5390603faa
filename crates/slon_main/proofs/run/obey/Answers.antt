use Rattle.std.proofs.Common.{sym, subst, rules, IfOk}
use Rattle.cluster_engine.specs.Clustered.{cluster_of}
use Rattle.cluster_engine.specs.Failing.{Pays}
use Rattle.cluster_engine.specs.Calls.{Obeys}
use Rattle.slon_main.proofs.Asks.{asked_so, asks_no_more}
use Rattle.cluster_engine.proofs.Charges.{moves_tells}
use Rattle.cluster_engine.proofs.Failing.{moves_pays}
use Rattle.cluster_engine.proofs.Stepping.{obeys_other}
use Rattle.slon_main.proofs.run.obey.Goals as goal

pub returns-in-Database-clause-pays : goal.returns-in-Database-clause-pays
returns-in-Database-clause-pays g c tells =
    subst (λ command. IfOk c.make_named.result (λ reply. Pays (g.S.Shelf.shelved c.args.shelf.now).promise command
    (cluster_of g.S.Store.Keeper.kept c.args.cluster.now) reply
    (cluster_of g.S.Store.Keeper.kept c.make_named.new.cluster)))
    (sym c.in-Database.is) (c.make_named.ensures.pays tells)

pub returns-in-Database-clause-obeys : goal.returns-in-Database-clause-obeys
returns-in-Database-clause-obeys g c tells =
    subst (λ command. IfOk c.make_named.result (λ reply. Obeys command
    (cluster_of g.S.Store.Keeper.kept c.args.cluster.now) reply
    (cluster_of g.S.Store.Keeper.kept c.make_named.new.cluster)))
    (sym c.in-Database.is) (c.make_named.ensures.obeys tells)

pub returns-in-Ok : goal.returns-in-Ok
returns-in-Ok g c =
    let old = cluster_of g.S.Store.Keeper.kept c.args.cluster.now in
    let new = cluster_of g.S.Store.Keeper.kept c.step.new.self in
    let reply = c.in-Ok.reply in
    let moves = c.in-Ok.ensures.moves in
    let asked = asks_no_more c.args.command old reply new (g.S.Shelf.shelved c.args.shelf.now).asked moves in
    let obeys = obeys_other c.args.command old reply new c.in_default.not-Database c.in-Ok.ensures.steps in
    let pays = moves_pays (g.S.Shelf.shelved c.args.shelf.now).promise c.args.command old reply new moves in
    let tells = moves_tells c.args.command old reply new moves in
    search (rules, asked, obeys, pays, tells)

pub returns-in-Err : goal.returns-in-Err
returns-in-Err g c = search (rules, asked_so)
