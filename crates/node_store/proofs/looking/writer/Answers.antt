use Rattle.std.proofs.Common.{refl}
use Rattle.app_store.specs.Base.{base_of}
use Rattle.app_store.proofs.Serving.{ran_not}
use Rattle.node_store.proofs.Acting.{acts_well}
use Rattle.node_store.proofs.looking.writer.Goals as goal

pub returns-clause-acts : goal.returns-clause-acts
returns-clause-acts g c =
    let b = base_of g.K.Keeper.kept c.args.database.now in
    acts_well b b (record { ran = ran_not b.kept; doubts = refl })
