-- Commands of a script that are not run yet.
use Rattle.std.proofs.Common.{◌≡◌, ℕ, Bool, List, Option, Err, refl}
use Rattle.slonik_script.specs.declared.script.Command.{Command as Order}
use Rattle.slonik_script.specs.declared.script.Command.TheVariants as order
use Rattle.slon_model.specs.declared.reply.Refusal.TheVariants as refused
use Rattle.slon_model.specs.Scripts.{first_word, ordered}
use Rattle.slon_model.specs.Sessions.{World, Running}
use Rattle.slonik_exec.specs.Commands.{IsOnReceivers, IsOnSets}

-- the command is none on nodes and their paths, and no SYNC
pub record IsOffNodes (o : Order) : Type 0 where
  pub init : (id : ℕ) (comment : Option (List ℕ)) → o ≡ order.InitCluster id comment → ⊥
  pub node : (id event_node : ℕ) (comment : Option (List ℕ)) → o ≡ order.StoreNode id event_node comment → ⊥
  pub leaves : (id event_node : ℕ) → o ≡ order.DropNode id event_node → ⊥
  pub path : (server client : ℕ) (conninfo : List ℕ) (retry : Option ℕ) →
      o ≡ order.StorePath server client conninfo retry → ⊥
  pub drop : (server client : ℕ) → o ≡ order.DropPath server client → ⊥
  pub sync : (id : ℕ) → o ≡ order.Sync id → ⊥

pub on_sets : (o : Order) → IsOffNodes o → IsOnSets o
on_sets (order.InitCluster id comment) off = off.init id comment refl
on_sets (order.StoreNode id event_node comment) off = off.node id event_node comment refl
on_sets (order.DropNode id event_node) off = off.leaves id event_node refl
on_sets (order.StorePath server client conninfo retry) off = off.path server client conninfo retry refl
on_sets (order.DropPath server client) off = off.drop server client refl
on_sets (order.Sync id) off = off.sync id refl
on_sets others off = tt

-- and makes no set, ends none, and puts no table into one
pub record IsOffSets (o : Order) : Type 0 where
  pub off : IsOnSets o
  pub set : (id origin : ℕ) (comment : Option (List ℕ)) → o ≡ order.CreateSet id origin comment → ⊥
  pub end : (id origin : ℕ) → o ≡ order.DropSet id origin → ⊥
  pub table : (set origin id : ℕ) (name : List ℕ) (key comment : Option (List ℕ)) →
      o ≡ order.SetAddTable set origin id name key comment → ⊥

pub on_receivers : (o : Order) → IsOffSets o → IsOnReceivers o
on_receivers (order.CreateSet id origin comment) off = off.set id origin comment refl
on_receivers (order.DropSet id origin) off = off.end id origin refl
on_receivers (order.SetAddTable set origin id name key comment) off = off.table set origin id name key comment refl
on_receivers others off = off.off

-- and none of those on receivers that are run
pub record IsOther (o : Order) : Type 0 where
  pub off : IsOnReceivers o
  pub feed : (set provider receiver : ℕ) (forward : Option Bool) →
      o ≡ order.SubscribeSet set provider receiver forward → ⊥
  pub leave : (set receiver : ℕ) → o ≡ order.UnsubscribeSet set receiver → ⊥

pub not_built : (o : Order) → IsOther o → (run : Running) (w : World) →
    ordered o run w ≡ Err (refused.NotBuilt (first_word o))
not_built (order.InitCluster id comment) other run w = absurd other.off
not_built (order.StoreNode id event_node comment) other run w = absurd other.off
not_built (order.DropNode id event_node) other run w = absurd other.off
not_built (order.StorePath server client conninfo retry) other run w = absurd other.off
not_built (order.DropPath server client) other run w = absurd other.off
not_built (order.Sync id) other run w = absurd other.off
not_built (order.CreateSet id origin comment) other run w = absurd other.off
not_built (order.DropSet id origin) other run w = absurd other.off
not_built (order.SetAddTable set origin id name key comment) other run w = absurd other.off
not_built (order.SubscribeSet set provider receiver forward) other run w =
    absurd (other.feed set provider receiver forward refl)
not_built (order.UnsubscribeSet set receiver) other run w = absurd (other.leave set receiver refl)
not_built others other run w = refl
