use Rattle.set_config.specs.Loaded.{IsLoaded}
use Rattle.set_config.proofs.Reading.{has_rows, gives_rows}
use Rattle.set_config.proofs.loading.load.Goals as goal

pub returns-clause-gives : goal.returns-clause-gives
returns-clause-gives g c m config seen held =
    let has = has_rows config m held in
    gives_rows (IsLoaded config) has.rows c.read_rows.result has.lists
    (c.read_rows.ensures.gives m has.rows seen has.are)
