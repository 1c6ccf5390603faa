-- What a command leads to in a session that a legal history led to.
use Rattle.std.specs.Prelude.{◌≡◌, ℕ, List, ◌∷◌}
use Rattle.slon_model.specs.declared.command.Command.{Command}
use Rattle.slon_model.specs.declared.command.Command.TheVariants.{Database}
use Rattle.slon_model.specs.declared.reply.Answer.TheVariants.{Done}
use Rattle.slon_model.specs.declared.reply.Reply.{Reply}
use Rattle.slon_model.specs.declared.reply.Reply.TheVariants.{Accepted}
use Rattle.slon_model.specs.Spoken.{IsSpoken}
use Rattle.slon_model.specs.Tasks.{Subject, OnNew, subject_of}
use Rattle.slon_model.specs.Deciding.{Choice}
use Rattle.slon_model.specs.World.{World, Happening, Leads, due, start}
use Rattle.slon_laws.specs.Worlds.{AllSpoken}
use Rattle.follow_laws.specs.Subscribed.{Subscribed}
use Rattle.cluster_engine.specs.Agreed.{Clustered, Agrees}
use Rattle.cluster_engine.specs.Calls.{happened}

-- A legal history led to this session, and the databases agree with it.
pub record Led (limit : ℕ) (history : List Happening) (w : World) (c : Clustered) : Type 0 where
  pub leads : Leads (start limit) history w
  pub spoken : AllSpoken history
  pub agrees : Agrees w c

-- The history with the command and its reply is legal. In the session that it leads to the databases agree, and the
-- nodes that keep sets hold what their snapshots see at the origins.
pub record Lasts (limit : ℕ) (history : List Happening) (command : Command) (reply : Reply) (new : Clustered) : Type 0
  where
    pub choice : Choice
    pub world : World
    pub led : Led limit (happened command reply choice ∷ history) world new
    pub subscribed : Subscribed limit (happened command reply choice ∷ history) world

-- a new database is only granted, so that nothing happens yet
abbrev pub LastsOn : Subject → ℕ → List Happening → World → Command → Reply → Clustered → Type 0
LastsOn (OnNew name) limit history w command reply new = Led limit history w new
LastsOn others limit history w command reply new = Lasts limit history command reply new

-- whatever legal history led to a session with which the databases agreed
abbrev pub Subscribes : Command → Clustered → Reply → Clustered → Type 0
Subscribes command old reply new =
    (limit : ℕ) (history : List Happening) (w : World) → Led limit history w old →
    LastsOn (subject_of command) limit history w command reply new

-- so does the making of a database that was granted
abbrev pub SubscribesMade : List ℕ → Clustered → Reply → Clustered → Type 0
SubscribesMade name old reply new =
    (limit : ℕ) (history : List Happening) (w : World) → Led limit history w old → IsSpoken (Database name) →
    due w (Database name) ≡ Accepted Done → Lasts limit history (Database name) reply new
