use Rattle.slon_model.specs.Tasks.{ToForget}
use Rattle.cluster_engine.specs.Clustered.{cluster_of}
use Rattle.cluster_engine.proofs.Walking.{kept_acted}
use Rattle.cluster_engine.proofs.cluster.Cluster.end.Goals as goal

pub returns : goal.returns
returns g c =
    kept_acted (ToForget c.args.name.now) (cluster_of g.K.Keeper.kept c.args.self.now)
    c.end_script.new.scripts c.end_script.result c.end_script.ensures.keeps c.end_script.ensures.calm
