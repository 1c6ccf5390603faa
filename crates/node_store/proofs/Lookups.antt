-- What is looked up of a database that is a node, or none.
use Rattle.std.proofs.Common.{◌≡◌, ◌≤◌, Bool, true, false, cond, [], Option, Some, None, Result, Ok, Err, refl, sym}
use Rattle.std.proofs.Common.{ap, subst}
use Rattle.std.specs.Prelude.{unwrap_or}
use Rattle.slon_base.specs.Keeper.{Store, Kept, sight}
use Rattle.store_rows.specs.Steps.{Gives, IsOutside, is_stop_failed}
use Rattle.store_rows.specs.declared.stop.Stop.{Stop}
use Rattle.store_rows.proofs.Spaces.{empty_space}
use Rattle.event_store.proofs.Holding.{moved}
use Rattle.set_config.specs.Holds.{HoldsConfig}
use Rattle.std.specs.Option.{option_map}
use Rattle.std.specs.Bool.{then_some}
use Rattle.node_rows.specs.declared.rows.SetRow.{SetRow}
use Rattle.slon_model.specs.Config.{Config}
use Rattle.slon_model.specs.Deeds.{Node, knowledge}
use Rattle.slon_model.specs.Place.{Place}
use Rattle.slon_base.specs.Counts.{Rose}
use Rattle.slon_model.specs.World.{halt_in}
use Rattle.slon_model.specs.declared.fault.DbFault.{DbFault}
use Rattle.node_state.specs.Held.{HoldsNode, IsOrderly}
use Rattle.app_store.specs.Base.{Base, GoesDown}
use Rattle.app_store.specs.Fits.{Fits}
use Rattle.app_store.specs.Parts.{FellTo, halt_of}
use Rattle.app_store.specs.Serves.{is_memory}
use Rattle.app_store.proofs.Halting.{stopped}
use Rattle.app_store.proofs.Standing.{is_down, look_fell, looked}
use Rattle.app_store.proofs.Upright.{UpAt, is_up}
use Rattle.store_rows.specs.Space.{AllOf}
use Rattle.node_rows.specs.Spellings.{CanSet}
use Rattle.node_store.specs.Looking.{IsSmall, OfConfig, live_reign, reign_of}

-- nothing is known of the cluster
abbrev no_config : Config
no_config = record { nodes = []; paths = []; sets = []; tables = []; subscriptions = []; fences = [] }

holds_nothing : (m : Store) → HoldsNode None m → HoldsConfig no_config m
holds_nothing m none = record {
  nodes = moved (sym (none 4 refl)) (empty_space (λ i. refl));
  paths = moved (sym (none 5 refl)) (empty_space (λ i. refl));
  sets = moved (sym (none 6 refl)) (empty_space (λ i. refl));
  tables = moved (sym (none 7 refl)) (empty_space (λ i. refl));
  subscriptions = moved (sym (none 8 refl)) (empty_space (λ i. refl));
  fences = moved (sym (none 14 refl)) (empty_space (λ i. refl));
}

orderly_nothing : IsOrderly no_config
orderly_nothing = record {
  nodes = record { ids_are = tt; rising = tt };
  paths = record { firsts = record { ids_are = tt; rising = tt }; seconds = tt };
  sets = record { ids_are = tt; rising = tt };
  tables = record { ids_are = tt; rising = tt };
  subscriptions = record { firsts = record { ids_are = tt; rising = tt }; seconds = tt };
  fences = record { ids_are = tt; rising = tt };
}

-- it is so of what the node knows, if the database is one; or the store failed
abbrev pub GivesOf : {T : Type 0} → (Config → T → Type 0) → Place → Result T Stop → Type 0
GivesOf says p (Ok x) = OfConfig says p x
GivesOf says p (Err stop) = IsOutside stop

pub look_gives : {T : Type 0} (says : Config → T → Type 0) (p : Place) (m : Store) (result : Result T Stop) →
    HoldsNode p.node m → ((c : Config) → HoldsConfig c m → IsOrderly c → Gives (says c) result) →
    GivesOf says p result
look_gives {T} says p m result held gives = by p.node result held gives (λ n is. is)
  where
    by : (own : Option Node) (result : Result T Stop) → HoldsNode own m →
        ((c : Config) → HoldsConfig c m → IsOrderly c → Gives (says c) result) →
        ((n : Node) → p.node ≡ Some n → own ≡ Some n) → GivesOf says p result
    by None (Ok x) held gives same = λ n is. let none = same n is in absurd cc
    by None (Err stop) held gives same = gives no_config (holds_nothing m held) orderly_nothing
    by (Some k) (Ok x) held gives same = λ n is.
        let one : k ≡ n = let some = same n is in cc in
        subst (λ (o : Node). says (knowledge o).config x) one (gives _ held.config held.orderly)
    by (Some k) (Err stop) held gives same = gives _ held.config held.orderly

-- What a look at a store that stopped leaves of a database, which goes down.
pub record Halts (stop : Stop) (fault : DbFault) (old new : Base) : Type 0 where
  pub held : new.kept.held ≡ old.kept.held
  pub down : GoesDown old.memory new.memory
  pub rose : is_stop_failed stop ≡ true → Rose old.kept.faults new.kept.faults
  pub fault_is : fault ≡ halt_of stop new.kept.faults

pub look_stops : {p : Place} {b new : Base} {stop : Stop} {fault : DbFault} → UpAt p b → Halts stop fault b new →
    is_memory (halt_in fault) ≡ false → IsOutside stop → FellTo p p fault new
look_stops {p} {b} {new} {stop} {fault} at h memory only =
    look_fell p b new stop fault (is_up at) h.held
    (stopped stop fault b new (is_down h.down) h.rose h.fault_is (memory, only))

-- and one that gave something
pub record IsLooked (old new : Base) : Type 0 where
  pub held : new.kept.held ≡ old.kept.held
  pub later : old.kept.faults ≤ new.kept.faults
  pub memory : new.memory ≡ old.memory

pub look_fits : {p : Place} {b new : Base} → UpAt p b → IsLooked b new → Fits p new
look_fits {p} {b} {new} at l =
    subst (λ m. Fits p (record { kept = new.kept; memory = m })) (sym l.memory)
    (looked p b new.kept at.ready.fits l.held l.later)

-- ---- who leads a set

pub reign_some : (row : SetRow) → then_some row.live (reign_of row) ≡ live_reign (Some row)
reign_some row = by row.live
  where
    by : (b : Bool) → then_some b (reign_of row) ≡ option_map reign_of (cond b (Some row) None)
    by true = refl
    by false = refl

-- the number of the era of a row can be stored
pub small_reign : (row : Option SetRow) → AllOf CanSet row → AllOf IsSmall (live_reign row)
small_reign None can = tt
small_reign (Some row) can = by row.live
  where
    by : (b : Bool) → AllOf IsSmall (option_map reign_of (cond b (Some row) None))
    by true = can.1
    by false = tt

-- ---- what is pending

pub pending_seen : (k : Kept) {m : Store} → k.pending ≡ Some (Some m) → sight k ≡ Some m
pending_seen k is = ap (λ o. unwrap_or o k.held) is
