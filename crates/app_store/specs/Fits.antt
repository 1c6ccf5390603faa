-- When the code of a database agrees with what the rules know of it.
use Rattle.std.specs.Prelude.{◌≡◌, ℕ, ◌+◌, ◌≤◌, ◌<◌, ◌==◌, ◌&&◌, ◌||◌, if◌then◌else◌, Bool, true, false, List, [], ◌∷◌}
use Rattle.std.specs.Prelude.{Option, Some, None, is_some}
use Rattle.std.specs.Option.{option_map}
use Rattle.std.specs.FinMap.{get}
use Rattle.slon_base.specs.Keeper.{Store}
use Rattle.slon_base.specs.Codec.{list_bytes, IsText}
use Rattle.slon_model.specs.Names.{find_named}
use Rattle.slon_model.specs.Rows.{Action, is_on}
use Rattle.slon_model.specs.Place.{Place, Standing, IsRunning, IsFallen, IsDoubtful, node_id, holder, seen_rows}
use Rattle.slon_model.specs.Place.{standing_rows}
use Rattle.slon_model.specs.Place.{own_actions}
use Rattle.node_state.specs.Held.{captured_all}
use Rattle.node_state.specs.Known.{IsKnown}
use Rattle.slon_laws.specs.Sound.{Sound}
use Rattle.slon_laws.specs.Spelled.{IsSpelled}
use Rattle.txn_core.specs.Locks.{holder_of}
use Rattle.app_store.specs.declared.opens.Transaction.{Transaction}
use Rattle.app_store.specs.Base.{Memory, Base}
use Rattle.app_store.specs.Begun.{AreBegun}
use Rattle.app_store.specs.Spelled.{Holds, IsRowKey, over, row_key}

-- the transaction wrote the row
abbrev pub has_written : ℕ → List ℕ → List ℕ → List Action → Bool
has_written xid table key [] = false
has_written xid table key (a ∷ rest) = (a.xid == xid && is_on table key a) || has_written xid table key rest

-- an open transaction of this id, with its writes
pub record IsOpened (p : Place) (xid : ℕ) (t : Transaction) : Type 0 where
  pub xid_is : t.xid ≡ xid
  pub actions : t.actions ≡ captured_all (own_actions xid p)
  -- a row that it sees is what it wrote there, or else the row that stands
  pub sees : (table key : List ℕ) → IsText table → option_map list_bytes (get (seen_rows xid p table) key)
      ≡ over (get t.writes (row_key table key)) (option_map list_bytes (get (standing_rows p table) key))
  -- it wrote exactly the rows of its actions
  pub wrote : (table key : List ℕ) → IsText table →
      is_some (get t.writes (row_key table key)) ≡ has_written xid table key p.actions
  pub keys : (q : List ℕ) → is_some (get t.writes q) ≡ true → IsRowKey q

abbrev pub OpensAs : Place → Option ℕ → Option Transaction → Type 0
OpensAs p None None = Unit {0}
OpensAs p None (Some t) = ⊥
OpensAs p (Some xid) None = ⊥
OpensAs p (Some xid) (Some t) = IsOpened p xid t

-- the memory of a database that is up
pub record Runs (p : Place) (m : Memory) : Type 0 where
  pub up : m.up ≡ true
  pub stamp : m.stamp ≡ p.stamp
  pub settled : m.doubt ≡ None
  -- its first rows stand
  pub founded : 0 < p.stamp
  pub xids : m.xids ≡ p.xids
  pub numbers : m.numbers ≡ p.numbers
  pub opened : (name : List ℕ) → OpensAs p (find_named name p.opens) (get m.opens name)
  pub locked : (table key : List ℕ) → IsText table → holder_of table key m.locks ≡ holder table key p
  pub begun : AreBegun p m.begun
  pub known : IsKnown p.node m.identity m.members
  -- no commit in doubt is to make it a node
  pub unpromised : p.promised ≡ None

-- the memory keeps the id of the node that it is, or that a commit in doubt would make it, also while it is down
abbrev pub IsNamed : Place → Memory → Type 0
IsNamed p m = option_map (λ i. i.id) m.identity ≡ node_id p

-- the stamp that the commit in doubt would have written
abbrev pub doubtful_stamp : Bool → Place → ℕ
doubtful_stamp stands p = if stands then p.stamp else p.stamp + 1

abbrev pub StandsAs : Standing → Place → Memory → Type 0
StandsAs IsRunning p m = Runs p m
StandsAs IsFallen p m = (m.up ≡ false) × (m.doubt ≡ None) × IsNamed p m
-- a commit that stands has written its stamp
StandsAs (IsDoubtful stands) p m =
    (m.up ≡ false) × (m.doubt ≡ Some (doubtful_stamp stands p)) × (stands ≡ true → 0 < p.stamp) × IsNamed p m

-- The code agrees with the rules, over a store that tells what it holds.
pub record Fits (p : Place) (b : Base) : Type 0 where
  pub stands : StandsAs p.standing p b.memory
  pub told : p.told ≤ b.kept.faults
  pub held : (m : Store) × (b.kept.held ≡ Some m) × Holds p m

-- it does, and the place has what each place of a legal history has
pub record Ready (p : Place) (b : Base) : Type 0 where
  pub fits : Fits p b
  pub sound : Sound p
  pub spelled : IsSpelled p
