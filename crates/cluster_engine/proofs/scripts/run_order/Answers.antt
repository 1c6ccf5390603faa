use Rattle.std.proofs.Common.{refl}
use Rattle.slon_model.specs.declared.reply.Answer.TheVariants.{Echoed, Ended}
use Rattle.slon_model.specs.declared.reply.Reply.TheVariants.{Accepted}
use Rattle.slonik_exec.specs.Databases.{bases_of}
use Rattle.cluster_engine.proofs.Walking.{calm_runs, order_walks}
use Rattle.cluster_engine.proofs.scripts.run_order.Goals as goal

pub returns-in_ok-copy-in-Echo-clause-runs : goal.returns-in_ok-copy-in-Echo-clause-runs
returns-in_ok-copy-in-Echo-clause-runs g c =
    calm_runs (Accepted (Echoed c.in_ok-copy-in-Echo.field-0)) (bases_of g.K.Keeper.kept c.args.databases.now) refl

pub returns-in-Exit-clause-runs : goal.returns-in-Exit-clause-runs
returns-in-Exit-clause-runs g c =
    calm_runs (Accepted (Ended c.in-Exit.status)) (bases_of g.K.Keeper.kept c.args.databases.now) refl

pub returns-in_ok-reply-in_default : goal.returns-in_ok-reply-in_default
returns-in_ok-reply-in_default g c = record {
  runs = c.in_ok-reply-in_default.ensures.runs;
  walks = order_walks c.args.script.now c.args.order.now (bases_of g.K.Keeper.kept c.args.databases.now)
      (record { reply = c.in_ok-reply-in_default.reply; goes_on = c.is_accepted-goes_on.result })
      (bases_of g.K.Keeper.kept c.run_command.new.databases) (record {
        echo = c.in_default.not-Echo;
        exit = c.in_default.not-Exit;
        goes_on = c.is_accepted-goes_on.ensures;
        executes = c.in_ok-reply-in_default.ensures.executes;
      });
}
