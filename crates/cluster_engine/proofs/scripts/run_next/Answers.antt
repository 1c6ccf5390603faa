use Rattle.std.proofs.Common.{refl}
use Rattle.slon_model.specs.declared.reply.Answer.TheVariants.{Ended}
use Rattle.slon_model.specs.declared.reply.Reply.TheVariants.{Accepted}
use Rattle.slonik_exec.specs.Databases.{bases_of}
use Rattle.cluster_engine.proofs.Walking.{calm_runs, walks_next}
use Rattle.cluster_engine.proofs.scripts.run_next.Goals as goal

pub returns-in-Some-clause-walks : goal.returns-in-Some-clause-walks
returns-in-Some-clause-walks g c =
    walks_next c.args.started.now c.in-Some.statement.now (bases_of g.K.Keeper.kept c.args.databases.now)
    (bases_of g.K.Keeper.kept c.run_statement.new.databases) c.run_statement.result (record {
      items = c.as_slice.result.now;
      same = c.as_slice.ensures;
      inside = c.in-Some.ensures.lookup.3.0;
      is = c.in-Some.ensures.lookup.1;
    }) c.run_statement.ensures.walks

pub returns-in-None-clause-runs : goal.returns-in-None-clause-runs
returns-in-None-clause-runs g c =
    calm_runs (Accepted (Ended 0)) (bases_of g.K.Keeper.kept c.args.databases.now) refl
