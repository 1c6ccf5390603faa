use Rattle.cluster_engine.specs.Clustered.{cluster_of}
use Rattle.cluster_engine.proofs.Turns.{join_acted}
use Rattle.cluster_engine.proofs.cluster.Cluster.join.Goals as goal

pub returns : goal.returns
returns g c =
    join_acted c.args.node c.args.other (cluster_of g.K.Keeper.kept c.args.self.now) _ c.remove_cut.ensures
