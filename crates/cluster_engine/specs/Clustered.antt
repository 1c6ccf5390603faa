-- What the code keeps of a session, read off it.
use Rattle.slon_base.specs.Keeper.{Kept}
use Rattle.slon_base.specs.declared.keeper.Keeper.{Ghosts}
use Rattle.slonik_exec.specs.Databases.{bases_of}
use Rattle.cluster_engine.specs.Agreed.{Clustered}
use Rattle.cluster_engine.specs.declared.cluster.Cluster.{Cluster}

abbrev pub cluster_of : {K : Type 0} {g : Ghosts K} → (K → Kept) → Cluster K g → Clustered
cluster_of kept c =
    record {
      limit = c.limit;
      given = c.given;
      bases = bases_of kept c.databases.items;
      memory = record {
        scripts = c.scripts;
        switches = record { started = c.started.items; cuts = c.cuts.items };
        held = c.held;
      };
    }
