use Rattle.cluster_engine.specs.Clustered.{cluster_of}
use Rattle.cluster_engine.proofs.Turns.{cut_acted}
use Rattle.cluster_engine.proofs.cluster.Cluster.cut.Goals as goal

pub returns : goal.returns
returns g c =
    cut_acted c.args.node c.args.other (cluster_of g.K.Keeper.kept c.args.self.now) _ c.in_ok-add_cut.ensures
