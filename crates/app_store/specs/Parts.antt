-- What the parts of a task do to a database that is up.
use Rattle.std.specs.Prelude.{◌≡◌, ℕ, ◌≤◌, if◌then◌else◌, Bool, true, false, [], Option, Some, None, Result, Ok, Err}
use Rattle.slon_base.specs.Counts.{Rose}
use Rattle.slon_base.specs.Keeper.{Kept}
use Rattle.slon_base.specs.declared.fault.Halt.{Halt as HaltOf}
use Rattle.slon_base.specs.declared.fault.Halt.TheVariants.{Fault, Doubt, TooBig as HaltTooBig}
use Rattle.slon_base.specs.declared.fault.Halt.TheVariants.{NoMemory as HaltNoMemory, BadRow as HaltBadRow}
use Rattle.slon_model.specs.declared.numbering.Numbering.{Numbering}
use Rattle.slon_model.specs.declared.fault.DbFault.{DbFault}
use Rattle.slon_model.specs.declared.fault.DbFault.TheVariants.{Halt}
use Rattle.slon_model.specs.Place.{Place, fallen, raised}
use Rattle.slon_model.specs.Moves.{is_last, crashed}
use Rattle.store_rows.specs.declared.stop.Stop.{Stop}
use Rattle.store_rows.specs.declared.stop.Stop.TheVariants.{Failed, NoMemory, BadRow, TooBig}
use Rattle.node_state.specs.declared.memory.NodeMemory.{NodeMemory}
use Rattle.app_store.specs.declared.look.Numbers.{Numbers}
use Rattle.app_store.specs.Closed.{IsClosed}
use Rattle.app_store.specs.Base.{Memory, Base}
use Rattle.app_store.specs.Fits.{Fits, Ready}
use Rattle.app_store.specs.Steps.{Knows}
use Rattle.app_store.specs.Serves.{halts, is_memory, is_failure, Falls, Need, IsBig}

-- why a database went down, by the stop and the count of faults of its store
abbrev pub halt_of : Stop → ℕ → DbFault
halt_of Failed count = Halt (Fault count)
halt_of NoMemory count = Halt HaltNoMemory
halt_of (BadRow space) count = Halt (HaltBadRow space)
halt_of (TooBig space) count = Halt (HaltTooBig space)

-- a stop at the store: it failed, and the place is as it was or as the other one
pub data FellTo (p also : Place) (fault : DbFault) (new : Base) : Type 0 where
  Fell : (count : ℕ) (stands : Bool) → fault ≡ Halt (Fault count) → Rose p.told count →
      Fits (fallen count (if stands then also else p)) new → FellTo p also fault new

-- a ceiling rises where a draw needs it; or it would pass the limit; or the store fails
pub data RaisedTo (kind : Numbering) (p : Place) (result : Result (Unit {0}) DbFault) (new : Base) : Type 0 where
  Raises : result ≡ Ok tt → is_last kind p ≡ false → Fits (raised kind p) new → RaisedTo kind p result new
  Bursts : result ≡ Err (Halt (HaltTooBig 1)) → is_last kind p ≡ true → Fits (crashed p) new →
      RaisedTo kind p result new
  StopsRaise : (fault : DbFault) → is_last kind p ≡ false → result ≡ Err fault → FellTo p (raised kind p) fault new →
      RaisedTo kind p result new

-- a part from every place that fits, unless there was no memory
abbrev pub FromPlace : {T : Type 0} → (Place → Result T DbFault → Base → Type 0) → Base → Result T DbFault → Base →
    Type 0
FromPlace does old result new = (p : Place) → Ready p old → is_memory (halts result) ≡ false → does p result new

-- a fault has its cause
abbrev pub PartCaused : Kept → Option HaltOf → Kept → Type 0
PartCaused old (Some (Fault count)) new = Rose old.faults new.faults × (count ≡ new.faults)
PartCaused old (Some Doubt) new = ⊥
PartCaused old others new = Unit {0}

-- what is promised of a part over every store
pub record Part {T : Type 0} (need : Need) (old new : Base) (result : Result T DbFault) : Type 0 where
  pub later : old.kept.faults ≤ new.kept.faults
  pub caused : PartCaused old.kept (halts result) new.kept
  pub knows : Knows (is_failure (halts result)) old.kept new.kept
  pub falls : Falls (halts result) new.memory
  pub big : IsBig need (halts result) new.memory

-- a database that goes on from these numbers, as this node, with no transaction open and no commit in doubt
pub record StartsWith (n : Numbers) (node : NodeMemory) (new : Memory) : Type 0 where
  pub up : new.up ≡ true
  pub doubt : new.doubt ≡ None
  pub stamp : new.stamp ≡ n.stamp
  pub xids : new.xids ≡ record { next = n.xid_ceiling; ceiling = n.xid_ceiling }
  pub numbers : new.numbers ≡ record { next = n.number_ceiling; ceiling = n.number_ceiling }
  pub closed : IsClosed new.opens new.locks
  pub begun : new.begun ≡ []
  pub identity : new.identity ≡ node.identity
  pub members : new.members ≡ node.members

-- ---- looks of a statement

-- what was looked up is so by the rules, and all is as it was; or the store failed
abbrev pub LooksUp : {T : Type 0} → (Place → T → Type 0) → Place → Result T DbFault → Base → Type 0
LooksUp says p (Ok x) new = says p x × Fits p new
LooksUp says p (Err fault) new = FellTo p p fault new

-- from every place that fits, unless there was no memory
abbrev pub Looks : {T : Type 0} → (Place → T → Type 0) → Base → Result T DbFault → Base → Type 0
Looks says old result new = FromPlace (LooksUp says) old result new

-- what is looked up leaves the memory as it was
abbrev pub Remembers : {T : Type 0} → Base → Result T DbFault → Base → Type 0
Remembers old (Ok x) new = new.memory ≡ old.memory
Remembers old (Err fault) new = Unit {0}
