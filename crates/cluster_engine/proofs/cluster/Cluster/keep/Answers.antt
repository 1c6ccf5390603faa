use Rattle.std.proofs.Common.{[], ◌∷◌, ◌∙◌, ap}
use Rattle.std.proofs.lemmas.List.{map-append}
use Rattle.slon_model.specs.Names.{Named}
use Rattle.app_store.specs.Base.{Base}
use Rattle.slonik_exec.specs.Databases.{bases_of, named_base}
use Rattle.cluster_engine.specs.Clustered.{cluster_of}
use Rattle.cluster_engine.proofs.cluster.Cluster.keep.Goals as goal

pub returns : goal.returns
returns g c =
    let old = cluster_of g.K.Keeper.kept c.args.self.now in
    ap (λ (bs : Named Base). record old { bases = bs })
    (ap (bases_of {g = g.K.Keeper} g.K.Keeper.kept) c.in_ok-add_database.ensures
    ∙ map-append (named_base {g = g.K.Keeper} g.K.Keeper.kept) c.args.self.now.databases.items
    (record { name = c.args.name; database = c.args.database } ∷ []))
