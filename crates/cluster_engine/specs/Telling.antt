-- What the stores of a session's databases are told to fail on purpose.
use Rattle.std.specs.Prelude.{◌≡◌, ℕ, if◌then◌else◌, List, [], ◌∷◌, Some, None}
use Rattle.std.specs.Str.{bytes_eq}
use Rattle.slon_base.specs.Charges.{IsFrom}
use Rattle.slon_base.specs.declared.charge.Charge.{Charge}
use Rattle.slon_base.specs.declared.charge.Charge.TheVariants.{Off}
use Rattle.slon_model.specs.declared.command.Command.{Command}
use Rattle.slon_model.specs.declared.reply.Refusal.TheVariants as refused
use Rattle.slon_model.specs.declared.reply.Reply.{Reply}
use Rattle.slon_model.specs.declared.reply.Reply.TheVariants.{Accepted, Refused}
use Rattle.slon_model.specs.Names.{find_named}
use Rattle.slon_model.specs.Tasks.{Task, ToCrash, ToRise, Subject, OnOne, subject_of}
use Rattle.slon_model.specs.Deciding.{Choice}
use Rattle.slon_model.specs.World.{Happening}
use Rattle.app_store.specs.Base.{Base}
use Rattle.app_store.specs.Serves.{armed_by}
use Rattle.cluster_engine.specs.Agreed.{Clustered}
use Rattle.cluster_engine.specs.Calls.{happened}

-- what the store of a database is told by a task with this reply: a crash that is accepted arms its fuse, and a
-- database that is down and is to come up tells it to fail no call
abbrev pub told_by : Task → Reply → Charge → Charge
told_by (ToCrash crash) (Accepted answer) charge = armed_by crash charge
told_by ToRise (Refused (refused.IsUp database)) charge = charge
told_by ToRise others charge = Off
told_by others reply charge = charge

abbrev pub told_on : List ℕ → Subject → Reply → Charge → Charge
told_on name (OnOne database task) reply charge = if bytes_eq name database then told_by task reply charge else charge
told_on name others reply charge = charge

-- what the store of the database of this name was told last, in a history
abbrev pub told_in : List ℕ → List Happening → Charge
told_in name [] = Off
told_in name (h ∷ hs) = told_on name (subject_of h.command) h.reply (told_in name hs)

-- What each store is told goes on from what its database was told last; one that is not there was told nothing.
pub record AreTold (history : List Happening) (cluster : Clustered) : Type 0 where
  pub absent : (name : List ℕ) → find_named name cluster.bases ≡ None → told_in name history ≡ Off
  pub present : (name : List ℕ) (b : Base) → find_named name cluster.bases ≡ Some b →
      IsFrom (told_in name history) b.kept.told

-- what each store is told goes on from what its database was told last, this command with its reply among it
abbrev pub KeepsTelling : Command → Clustered → Reply → Clustered → Type 0
KeepsTelling command old reply new = (choice : Choice) (history : List Happening) → AreTold history old →
    AreTold (happened command reply choice ∷ history) new
