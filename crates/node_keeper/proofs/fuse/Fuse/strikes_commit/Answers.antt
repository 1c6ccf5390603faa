use Rattle.slon_base.proofs.Charging.{goes_on_commit, keeps_told}
use Rattle.node_keeper.proofs.fuse.Fuse.strikes_commit.Goals as goal

pub returns-clause-goes_on : goal.returns-clause-goes_on
returns-clause-goes_on g c = goes_on_commit _ _ c.burnt_by_commit-self.ensures

pub returns-clause-told : goal.returns-clause-told
returns-clause-told g c = keeps_told _ _ (goes_on_commit _ _ c.burnt_by_commit-self.ensures)
