use Rattle.std.proofs.Common.{IfOk, refl, sym, subst}
use Rattle.slon_model.specs.declared.reply.Refusal.TheVariants.{NotBuilt}
use Rattle.slon_model.specs.declared.reply.Reply.TheVariants.{Refused}
use Rattle.slonik_exec.specs.Databases.{bases_of}
use Rattle.cluster_engine.specs.Walking.{Walks}
use Rattle.cluster_engine.proofs.Walking.{calm_runs}
use Rattle.cluster_engine.proofs.scripts.run_statement.Goals as goal

pub returns-in-Single-clause-walks : goal.returns-in-Single-clause-walks
returns-in-Single-clause-walks g c =
    subst (λ s. IfOk c.run_order.result (λ walked. Walks c.args.script.now s
    (bases_of g.K.Keeper.kept c.args.databases.now) walked (bases_of g.K.Keeper.kept c.run_order.new.databases)))
    (sym c.in-Single.is) c.run_order.ensures.walks

pub returns-in_ok-word-in-Try-clause-runs : goal.returns-in_ok-word-in-Try-clause-runs
returns-in_ok-word-in-Try-clause-runs g c =
    calm_runs (Refused (NotBuilt c.in_ok-word-in-Try.word)) (bases_of g.K.Keeper.kept c.args.databases.now) refl
