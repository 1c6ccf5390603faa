-- What reads of the store of a database that is up come to: what they gave, or why the database is down.
use Rattle.std.proofs.Common.{◌≡◌, ◌∙◌, ℕ, true, false, Some, is_some, Result, Err, sym, arith}
use Rattle.std.specs.Option.{option_map}
use Rattle.slon_base.specs.Keeper.{Store, sight}
use Rattle.store_rows.specs.Steps.{Safe, IsOutside}
use Rattle.store_rows.specs.declared.stop.Stop.{Stop}
use Rattle.set_config.specs.Holds.{HoldsConfig}
use Rattle.slon_model.specs.Config.{Config}
use Rattle.slon_model.specs.Deeds.{Node, knowledge}
use Rattle.slon_model.specs.Place.{Place}
use Rattle.slon_model.specs.World.{halt_in}
use Rattle.slon_model.specs.declared.fault.DbFault.{DbFault}
use Rattle.node_state.specs.Held.{NodeHeld, IsOrderly}
use Rattle.app_store.specs.Base.{Base, GoesDown}
use Rattle.app_store.specs.Fits.{Fits}
use Rattle.app_store.specs.Parts.{FellTo, halt_of}
use Rattle.app_store.specs.Serves.{is_memory}
use Rattle.app_store.proofs.Pending.{sight-idle}
use Rattle.app_store.proofs.Upright.{UpAt}
use Rattle.node_store.proofs.Emitted.{held_node, own_is}
use Rattle.node_store.proofs.Lookups.{look_fits, look_gives, look_stops}
use Rattle.node_store.proofs.Synced.{node_of}

-- no transaction of the store is pending while the database is up
abbrev pub IsIdle : Base → Type 0
IsIdle b = b.memory.up ≡ true → is_some b.kept.pending ≡ false

-- so a read sees what the store holds of the place
abbrev pub IsSeen : {p : Place} {b : Base} → UpAt p b → Type 0
IsSeen {p} {b} at = sight b.kept ≡ Some at.ready.fits.held.0

pub seen_at : {p : Place} {b : Base} (at : UpAt p b) → IsIdle b → IsSeen at
seen_at {p} {b} at idle = sight-idle b.kept (idle at.up) ∙ at.ready.fits.held.1

-- A read that gave something leaves the database as it was.
pub read_fits : {T : Type 0} {p : Place} {b new : Base} {result : Result T Stop} → UpAt p b →
    Safe b.kept new.kept result → new.memory ≡ b.memory → Fits p new
read_fits at safe same = look_fits at (record { held = safe.held; later = safe.later; memory = same })

-- A database went down for this, as its store stopped.
pub record WentFor (stop : Stop) (fault : DbFault) (old new : Base) : Type 0 where
  pub down : GoesDown old.memory new.memory
  pub fault_is : fault ≡ halt_of stop new.kept.faults

-- A read that stopped at no row: the database is down, since the store failed.
pub read_stops : {T : Type 0} {p : Place} {b new : Base} {stop : Stop} {fault : DbFault} → UpAt p b →
    Safe {T = T} b.kept new.kept (Err stop) → WentFor stop fault b new → is_memory (halt_in fault) ≡ false →
    IsOutside stop → FellTo p p fault new
read_stops at safe went memory only = look_stops at (record {
  held = safe.held;
  down = went.down;
  rose = λ failed. safe.rises failed _ (omega arith);
  fault_is = went.fault_is;
}) memory only

-- ---- of the configuration that a node knows

-- what is so of every configuration that the store may hold
abbrev pub OfHeld : {p : Place} {b : Base} → UpAt p b → (Config → Type 0) → Type 0
OfHeld {p} {b} at P = (m : Store) (k : Config) → sight b.kept ≡ Some m → HoldsConfig k m → IsOrderly k → P k

pub config_gives : {T : Type 0} {P : Config → Type 0} {p : Place} {b new : Base} {result : Result T Stop}
    (at : UpAt p b) → IsIdle b → Safe b.kept new.kept result → new.memory ≡ b.memory → OfHeld at P →
    ((n : Node) → p.node ≡ Some n → P (knowledge n).config) × Fits p new
config_gives at idle safe same gives = (
  λ n is. let held = held_node n at is in
      gives at.ready.fits.held.0 (knowledge n).config (seen_at at idle) held.config held.orderly,
  read_fits at safe same,
)

pub config_stops : {T : Type 0} {p : Place} {b new : Base} {stop : Stop} {fault : DbFault} (at : UpAt p b) →
    IsIdle b → Safe {T = T} b.kept new.kept (Err stop) → WentFor stop fault b new →
    is_memory (halt_in fault) ≡ false → OfHeld at (λ k. IsOutside stop) → FellTo p p fault new
config_stops {T} {p} {stop = stop} at idle safe went memory stops =
    read_stops at safe went memory
    (look_gives {T = T} (λ k x. Unit {0}) p at.ready.fits.held.0 (Err stop) at.ready.fits.held.2.node_held
    (λ k held orderly. stops at.ready.fits.held.0 k (seen_at at idle) held orderly))

-- ---- of the node

-- what is so of the node, as the store holds it
abbrev pub OfNodeHeld : {p : Place} {b : Base} → UpAt p b → (Node → Type 0) → Type 0
OfNodeHeld {p} {b} at P =
    (n : Node) → p.node ≡ Some n → IsSeen at → NodeHeld n at.ready.fits.held.0 → P n

pub node_gives : {T : Type 0} {P : Node → Type 0} {p : Place} {b new : Base} {result : Result T Stop}
    (at : UpAt p b) → IsIdle b → Safe b.kept new.kept result → new.memory ≡ b.memory → OfNodeHeld at P →
    ((n : Node) → p.node ≡ Some n → P n) × Fits p new
node_gives at idle safe same gives =
    (λ n is. gives n is (seen_at at idle) (held_node n at is), read_fits at safe same)

pub node_stops : {T : Type 0} {p : Place} {b new : Base} {stop : Stop} {fault : DbFault} (at : UpAt p b) →
    IsIdle b × (is_some b.memory.identity ≡ true) → Safe {T = T} b.kept new.kept (Err stop) →
    WentFor stop fault b new → is_memory (halt_in fault) ≡ false → OfNodeHeld at (λ n. IsOutside stop) →
    FellTo p p fault new
node_stops at (idle, node) safe went memory stops =
    let here = node_of at node in
    read_stops at safe went memory (stops here.0 here.1 (seen_at at idle) (held_node here.0 at here.1))

-- the id that is kept is that of the node
pub id_is : {p : Place} {b : Base} {own : ℕ} (at : UpAt p b) (n : Node) → p.node ≡ Some n →
    Some own ≡ option_map (λ i. i.id) b.memory.identity → n.id ≡ own
id_is at n is some = sym (own_is n at is (sym some))
