use Rattle.std.proofs.Common.{Bool, ap, subst, arith}
use Rattle.slon_model.specs.declared.command.Command.{Command}
use Rattle.slon_model.specs.Spoken.{IsSpoken}
use Rattle.slon_model.specs.Tasks.{subject_of, ToStep, ToForget, ToStart, ToStop, ToCut, ToJoin, ToSync, ToListen}
use Rattle.slon_model.specs.Tasks.{ToFetch, ToWork}
use Rattle.cluster_engine.specs.Calls.{Acts, takes_none}
use Rattle.cluster_engine.specs.Clustered.{cluster_of}
use Rattle.cluster_engine.proofs.Moving.{granted_moves, acts_moves, one_left, none_left, spared}
use Rattle.cluster_engine.proofs.cluster.Cluster.obey.Goals as goal

pub returns-in-Database-clause-moves : goal.returns-in-Database-clause-moves
returns-in-Database-clause-moves g c =
    granted_moves c.grant.result c.args.command.now c.in-Database.name (cluster_of g.K.Keeper.kept c.args.self.now)
    c.in-Database.is c.grant.ensures

pub returns-in-Step-clause-moves : goal.returns-in-Step-clause-moves
returns-in-Step-clause-moves g c =
    acts_moves c.walk.result c.args.command.now (ToStep c.in-Step.script)
    (cluster_of g.K.Keeper.kept c.args.self.now) (cluster_of g.K.Keeper.kept c.walk.new.self)
    (ap subject_of c.in-Step.is) c.walk.ensures

pub returns-in-Kill-clause-moves : goal.returns-in-Kill-clause-moves
returns-in-Kill-clause-moves g c =
    acts_moves c.end.result c.args.command.now (ToForget c.in-Kill.script)
    (cluster_of g.K.Keeper.kept c.args.self.now) (cluster_of g.K.Keeper.kept c.end.new.self)
    (ap subject_of c.in-Kill.is) c.end.ensures

pub returns-in-Start-clause-moves : goal.returns-in-Start-clause-moves
returns-in-Start-clause-moves g c =
    acts_moves c.turn_on.result c.args.command.now (ToStart c.in-Start.node)
    (cluster_of g.K.Keeper.kept c.args.self.now) (cluster_of g.K.Keeper.kept c.turn_on.new.self)
    (ap subject_of c.in-Start.is) c.turn_on.ensures

pub returns-in-Stop-clause-moves : goal.returns-in-Stop-clause-moves
returns-in-Stop-clause-moves g c = Acts (ToStop c.in-Stop.node) (ap subject_of c.in-Stop.is) c.turn_off.ensures

pub returns-in-Cut-clause-moves : goal.returns-in-Cut-clause-moves
returns-in-Cut-clause-moves g c =
    acts_moves c.cut.result c.args.command.now (ToCut c.in-Cut.node c.in-Cut.other)
    (cluster_of g.K.Keeper.kept c.args.self.now) (cluster_of g.K.Keeper.kept c.cut.new.self)
    (ap subject_of c.in-Cut.is) c.cut.ensures

pub returns-in-Join-clause-moves : goal.returns-in-Join-clause-moves
returns-in-Join-clause-moves g c =
    Acts (ToJoin c.in-Join.node c.in-Join.other) (ap subject_of c.in-Join.is) c.join.ensures

pub returns-in-Sync-clause-moves : goal.returns-in-Sync-clause-moves
returns-in-Sync-clause-moves g c =
    acts_moves c.sync.result c.args.command.now (ToSync c.in-Sync.node)
    (cluster_of g.K.Keeper.kept c.args.self.now) (cluster_of g.K.Keeper.kept c.sync.new.self)
    (ap subject_of c.in-Sync.is) c.sync.ensures

pub returns-in-Listen-clause-moves : goal.returns-in-Listen-clause-moves
returns-in-Listen-clause-moves g c =
    acts_moves c.listen.result c.args.command.now
    (ToListen c.in-Listen.node c.in-Listen.server c.in-Listen.delivery)
    (cluster_of g.K.Keeper.kept c.args.self.now) (cluster_of g.K.Keeper.kept c.listen.new.self)
    (ap subject_of c.in-Listen.is) c.listen.ensures

pub returns-in-Fetch-clause-moves : goal.returns-in-Fetch-clause-moves
returns-in-Fetch-clause-moves g c =
    acts_moves c.fetch.result c.args.command.now (ToFetch c.in-Fetch.node c.in-Fetch.origin)
    (cluster_of g.K.Keeper.kept c.args.self.now) (cluster_of g.K.Keeper.kept c.fetch.new.self)
    (ap subject_of c.in-Fetch.is) c.fetch.ensures

pub returns-in-Work-clause-moves : goal.returns-in-Work-clause-moves
returns-in-Work-clause-moves g c =
    acts_moves c.work.result c.args.command.now (ToWork c.in-Work.node c.in-Work.origin)
    (cluster_of g.K.Keeper.kept c.args.self.now) (cluster_of g.K.Keeper.kept c.work.new.self)
    (ap subject_of c.in-Work.is) c.work.ensures

pub listen-requires-clause-id : goal.listen-requires-clause-id
listen-requires-clause-id g c =
    let server = (subst IsSpoken c.in-Listen.is c.requires.spoken).1.1 in
    (server.0, omega (arith, server.1))

pub fetch-requires-clause-id : goal.fetch-requires-clause-id
fetch-requires-clause-id g c =
    let origin = (subst IsSpoken c.in-Fetch.is c.requires.spoken).1.1 in
    (origin.0, omega (arith, origin.1))

pub work-requires-clause-id : goal.work-requires-clause-id
work-requires-clause-id g c =
    let origin = (subst IsSpoken c.in-Work.is c.requires.spoken).1.1 in
    (origin.0, omega (arith, origin.1))

pub ask-requires-clause-one : goal.ask-requires-clause-one
ask-requires-clause-one g c = one_left c.args.command.now (record {
  database = c.in_default.not-Database;
  slonik = c.in_default.not-Slonik;
  step = c.in_default.not-Step;
  kill = c.in_default.not-Kill;
  start = c.in_default.not-Start;
  stop = c.in_default.not-Stop;
  cut = c.in_default.not-Cut;
  join = c.in_default.not-Join;
  sync = c.in_default.not-Sync;
  listen = c.in_default.not-Listen;
  fetch = c.in_default.not-Fetch;
  work = c.in_default.not-Work;
})

abbrev takes : Command → Bool
takes x = takes_none (subject_of x)

pub returns-in-Database-clause-spares : goal.returns-in-Database-clause-spares
returns-in-Database-clause-spares g c = spared c.args.command.now _ (ap takes c.in-Database.is)

pub returns-in-Step-clause-spares : goal.returns-in-Step-clause-spares
returns-in-Step-clause-spares g c = spared c.args.command.now _ (ap takes c.in-Step.is)

pub returns-in-Kill-clause-spares : goal.returns-in-Kill-clause-spares
returns-in-Kill-clause-spares g c = spared c.args.command.now _ (ap takes c.in-Kill.is)

pub returns-in-Start-clause-spares : goal.returns-in-Start-clause-spares
returns-in-Start-clause-spares g c = spared c.args.command.now _ (ap takes c.in-Start.is)

pub returns-in-Cut-clause-spares : goal.returns-in-Cut-clause-spares
returns-in-Cut-clause-spares g c = spared c.args.command.now _ (ap takes c.in-Cut.is)

pub returns-in-Sync-clause-spares : goal.returns-in-Sync-clause-spares
returns-in-Sync-clause-spares g c = spared c.args.command.now _ (ap takes c.in-Sync.is)

pub returns-in-Listen-clause-spares : goal.returns-in-Listen-clause-spares
returns-in-Listen-clause-spares g c = spared c.args.command.now _ (ap takes c.in-Listen.is)

pub returns-in-Fetch-clause-spares : goal.returns-in-Fetch-clause-spares
returns-in-Fetch-clause-spares g c = spared c.args.command.now _ (ap takes c.in-Fetch.is)

pub returns-in-Work-clause-spares : goal.returns-in-Work-clause-spares
returns-in-Work-clause-spares g c = spared c.args.command.now _ (ap takes c.in-Work.is)

pub returns-in_default-clause-spares : goal.returns-in_default-clause-spares
returns-in_default-clause-spares g c = spared c.args.command.now _ (none_left c.args.command.now (record {
  database = c.in_default.not-Database;
  slonik = c.in_default.not-Slonik;
  step = c.in_default.not-Step;
  kill = c.in_default.not-Kill;
  start = c.in_default.not-Start;
  stop = c.in_default.not-Stop;
  cut = c.in_default.not-Cut;
  join = c.in_default.not-Join;
  sync = c.in_default.not-Sync;
  listen = c.in_default.not-Listen;
  fetch = c.in_default.not-Fetch;
  work = c.in_default.not-Work;
}))
