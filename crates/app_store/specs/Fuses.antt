-- What a task tells the fuse of a database.
use Rattle.std.specs.Prelude.{◌≡◌, true, false}
use Rattle.slon_base.specs.Keeper.{Kept}
use Rattle.slon_base.specs.declared.keeper.Keeper.{Ghosts}
use Rattle.slon_model.specs.Tasks.{Task, ToCrash, ToRise, Subject, OnOne}
use Rattle.node_keeper.specs.Fused.{fuse_kept}
use Rattle.app_store.specs.declared.database.Database.{Database}
use Rattle.app_store.specs.Serves.{armed_by}
use Rattle.store_rows.specs.Spending.{Stays}

-- A crash tells the fuse which calls to fail, and nothing where it is at once. A database that comes up tells it to
-- fail none, so each bound on the failures of the store below is one on its own.
abbrev pub Arms : {K : Type 0} {g : Ghosts K} → (K → Kept) → Task → Database K g → Database K g → Type 0
Arms kept (ToCrash crash) old new = old.state.up ≡ true → new.keeper.charge ≡ armed_by crash old.keeper.charge
Arms kept ToRise old new =
    old.state.up ≡ false → Stays (kept old.keeper.keeper).can_fail (fuse_kept kept new.keeper).can_fail
Arms kept others old new = Unit {0}

abbrev pub ArmsOn : {K : Type 0} {g : Ghosts K} → (K → Kept) → Subject → Database K g → Database K g → Type 0
ArmsOn kept (OnOne database task) old new = Arms kept task old new
ArmsOn kept others old new = Unit {0}
