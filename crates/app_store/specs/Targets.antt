-- What the parts of a write do to a database that is up.
use Rattle.std.specs.Prelude.{◌≡◌, ◌==◌, ℕ, false, true, List, Some, None, Result, Ok, Err}
use Rattle.std.specs.Option.{option_map}
use Rattle.std.specs.FinMap.{get}
use Rattle.slon_base.specs.Codec.{list_bytes}
use Rattle.slon_base.specs.declared.fault.Halt.TheVariants.{TooBig}
use Rattle.slon_model.specs.declared.numbering.Numbering.TheVariants.{Actions}
use Rattle.slon_model.specs.declared.fault.DbFault.{DbFault}
use Rattle.slon_model.specs.declared.fault.DbFault.TheVariants.{Locked, NoTable, NoTransaction, Halt}
use Rattle.slon_model.specs.declared.reply.Answered.{Answered}
use Rattle.slon_model.specs.Names.{find_named}
use Rattle.slon_model.specs.Rows.{Change, change_key}
use Rattle.slon_model.specs.Tasks.{Write}
use Rattle.slon_model.specs.Place.{Place, holder, seen_rows, raised}
use Rattle.slon_model.specs.Moves.{Writes, prepared, done, is_last, crashed}
use Rattle.slon_model.specs.Deciding.{Decision, limited, decide_row, closed_at, result_of, move_of, sure}
use Rattle.slon_laws.specs.Keys.{change_at}
use Rattle.slon_laws.specs.Allowed.{IsFree}
use Rattle.node_state.specs.Held.{change_as}
use Rattle.app_store.specs.declared.writes.Addition.{Addition}
use Rattle.app_store.specs.declared.writes.Target.{Target}
use Rattle.app_store.specs.Base.{Base}
use Rattle.app_store.specs.Fits.{Fits, Ready}
use Rattle.app_store.specs.Parts.{FellTo, FromPlace}
use Rattle.app_store.specs.Serves.{is_memory, trouble}
use Rattle.app_store.specs.Spelled.{row_key}

-- what came of a decision: it was carried out, or the store stopped before its effect
pub data Follows (d : Decision) (p : Place) (result : Result Answered DbFault) (new : Base) : Type 0 where
  Carried : result ≡ sure (result_of d) → Fits (done (move_of d) p) new → Follows d p result new
  StopsAt : (fault : DbFault) → result ≡ Err fault → FellTo p (prepared (move_of d) p) fault new →
      Follows d p result new

-- the transaction and the width of a table, or what is missing
pub data FoundWidth (name table : List ℕ) (p : Place) (result : Result (ℕ × ℕ) DbFault) (new : Base) : Type 0 where
  HasWidth : (xid width : ℕ) → result ≡ Ok (xid, width) → find_named name p.opens ≡ Some xid →
      find_named table p.tables ≡ Some width → Fits p new →
      FoundWidth name table p result new
  IsUnknown : result ≡ Err NoTransaction → find_named name p.opens ≡ None → Fits p new →
      FoundWidth name table p result new
  HasNoTable : (xid : ℕ) → result ≡ Err NoTable → find_named name p.opens ≡ Some xid →
      find_named table p.tables ≡ None → Fits p new →
      FoundWidth name table p result new
  StopsWidth : (fault : DbFault) → result ≡ Err fault → FellTo p p fault new → FoundWidth name table p result new

-- the table may be written, or its set is received or locked
pub data FoundOpen (table : List ℕ) (p : Place) (result : Result (Unit {0}) DbFault) (new : Base) : Type 0 where
  IsOpen : result ≡ Ok tt → closed_at table p.node ≡ None → Fits p new → FoundOpen table p result new
  IsShut : (fault : DbFault) → result ≡ Err fault → closed_at table p.node ≡ Some fault → Fits p new →
      FoundOpen table p result new
  StopsOpen : (fault : DbFault) → result ≡ Err fault → FellTo p p fault new → FoundOpen table p result new

-- a row that a transaction of this id may write, with its spelled values as it sees them
pub record IsTarget (xid : ℕ) (table key : List ℕ) (p : Place) (t : Target) : Type 0 where
  pub key_is : t.key ≡ row_key table key
  pub seen_is : t.seen ≡ option_map list_bytes (get (seen_rows xid p table) key)

-- the row was read as the transaction sees it
pub data ReadTarget (xid : ℕ) (table key : List ℕ) (p : Place) (result : Result Target DbFault)
    (new : Base) : Type 0 where
  HasTarget : (t : Target) → result ≡ Ok t → IsTarget xid table key p t → Fits p new →
      ReadTarget xid table key p result new
  StopsTarget : (fault : DbFault) → result ≡ Err fault → FellTo p p fault new → ReadTarget xid table key p result new

abbrev pub ReadsTarget : List ℕ → List ℕ → List ℕ → Base → Result Target DbFault → Base → Type 0
ReadsTarget name table key =
    FromPlace (λ p result new. (xid : ℕ) → find_named name p.opens ≡ Some xid → ReadTarget xid table key p result new)

-- the row was found free and read, or another transaction wrote it
pub data FoundRow (xid : ℕ) (table key : List ℕ) (p : Place) (result : Result Target DbFault)
    (new : Base) : Type 0 where
  HasRow : (t : Target) → result ≡ Ok t → IsFree xid (holder table key p) → IsTarget xid table key p t → Fits p new →
      FoundRow xid table key p result new
  IsHeld : (other : ℕ) → result ≡ Err (Locked other) → holder table key p ≡ Some other → (other == xid) ≡ false →
      Fits p new →
      FoundRow xid table key p result new
  StopsRow : (fault : DbFault) → result ≡ Err fault → FellTo p p fault new → FoundRow xid table key p result new

abbrev pub FindsRow : List ℕ → ℕ → List ℕ → List ℕ → Base → Result Target DbFault → Base → Type 0
FindsRow name xid table key =
    FromPlace (λ p result new. find_named name p.opens ≡ Some xid → FoundRow xid table key p result new)

-- a write was added, or its number passed the limit, or the store stopped as the ceiling rose
pub data AddedWrite (xid : ℕ) (table : List ℕ) (change : Change) (p : Place) (result : Result ℕ DbFault)
    (new : Base) : Type 0 where
  Adds : (number : ℕ) → result ≡ Ok number → number ≡ p.numbers.next → is_last Actions p ≡ false →
      Fits (done (Writes xid table change) p) new →
      AddedWrite xid table change p result new
  BurstsWrite : result ≡ Err (Halt (TooBig 1)) → is_last Actions p ≡ true → Fits (crashed p) new →
      AddedWrite xid table change p result new
  StopsWrite : (fault : DbFault) → is_last Actions p ≡ false → result ≡ Err fault →
      FellTo p (raised Actions p) fault new →
      AddedWrite xid table change p result new

-- A row of a table, with the name and the id of the transaction that is to write it.
pub record Spot : Type 0 where
  pub name : List ℕ
  pub xid : ℕ
  pub table : List ℕ
  pub key : List ℕ

abbrev pub spot_of : List ℕ → ℕ → List ℕ → List ℕ → Spot
spot_of name xid table key = record { name = name; xid = xid; table = table; key = key }

-- what a write may be added to: an open transaction, and a row that it may write
pub record MayAdd (s : Spot) (change : Change) (a : Addition) (p : Place) : Type 0 where
  pub opened : find_named s.name p.opens ≡ Some s.xid
  pub free : IsFree s.xid (holder s.table (change_key change) p)
  pub key_is : change_key change ≡ s.key
  pub spelled_is : a.key ≡ row_key s.table s.key
  pub captured_is : a.change ≡ change_as change
  pub value_is : a.value ≡ option_map list_bytes (change_at change (get (seen_rows s.xid p s.table) s.key))

abbrev pub AddsWrite : Spot → Addition → Base → Result ℕ DbFault → Base → Type 0
AddsWrite s a =
    FromPlace (λ p result new. (change : Change) → MayAdd s change a p →
    AddedWrite s.xid s.table change p result new)

-- the write of a row that fits its table
abbrev pub WritesRow : Write → ℕ → Base → Result Answered DbFault → Base → Type 0
WritesRow w xid old result new =
    (p : Place) → Ready p old → is_memory (trouble result) ≡ false → find_named w.name p.opens ≡ Some xid →
    Follows (limited p (decide_row xid w p)) p result new
