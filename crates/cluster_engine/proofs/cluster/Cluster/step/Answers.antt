use Rattle.std.proofs.Common.{ap}
use Rattle.slon_model.specs.Tasks.{subject_of, ToRead}
use Rattle.cluster_engine.specs.Calls.{takes_none}
use Rattle.cluster_engine.specs.Clustered.{cluster_of}
use Rattle.cluster_engine.proofs.Moving.{acts_moves, unread, spared}
use Rattle.cluster_engine.proofs.Telling.{promises}
use Rattle.cluster_engine.proofs.cluster.Cluster.step.Goals as goal

pub obey-requires-clause-read : goal.obey-requires-clause-read
obey-requires-clause-read g c = unread c.args.command c.in_default.not-Slonik

pub returns-in-Slonik : goal.returns-in-Slonik
returns-in-Slonik g c =
    let old = cluster_of g.K.Keeper.kept c.args.self.now in
    let new = cluster_of g.K.Keeper.kept c.start.new.self in
    let moves = acts_moves c.start.result c.args.command (ToRead c.in-Slonik.script c.in-Slonik.reading) old new
    (ap subject_of c.in-Slonik.is) c.start.ensures in
    let all = promises c.args.command old c.start.result new moves in
    record {
      moves = moves;
      steps = all.steps;
      cause = all.cause;
      certain = all.certain;
      quiet = all.quiet;
      distinct = all.distinct c.requires.distinct;
      subscribes = all.subscribes c.requires.spoken;
      spares = spared c.args.command _ (ap (λ x. takes_none (subject_of x)) c.in-Slonik.is);
    }

pub returns-in_default : goal.returns-in_default
returns-in_default g c =
    let old = cluster_of g.K.Keeper.kept c.args.self.now in
    let new = cluster_of g.K.Keeper.kept c.obey.new.self in
    let all = promises c.args.command old c.obey.result new c.obey.ensures.moves in
    record {
      moves = c.obey.ensures.moves;
      steps = all.steps;
      cause = all.cause;
      certain = all.certain;
      quiet = all.quiet;
      distinct = all.distinct c.requires.distinct;
      subscribes = all.subscribes c.requires.spoken;
      spares = c.obey.ensures.spares;
    }
