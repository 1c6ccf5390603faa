use Rattle.slon_model.specs.Tasks.{ToRead}
use Rattle.cluster_engine.specs.Clustered.{cluster_of}
use Rattle.cluster_engine.proofs.Walking.{kept_acted}
use Rattle.cluster_engine.proofs.cluster.Cluster.start.Goals as goal

pub returns : goal.returns
returns g c =
    kept_acted (ToRead c.args.name.now c.args.reading) (cluster_of g.K.Keeper.kept c.args.self.now)
    c.start_script.new.scripts c.start_script.result c.start_script.ensures.keeps c.start_script.ensures.calm
