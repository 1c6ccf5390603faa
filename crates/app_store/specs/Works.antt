-- What each piece of work on a store comes to, over a store that tells what it holds and can fail no more.
use Rattle.std.specs.Prelude.{◌≡◌, ◌⊎◌, ℕ, ◌+◌, ◌<◌, ◌≤◌, ◌^◌, ◌==◌, ◌||◌, nat_le, Bool, true, false, List, Option}
use Rattle.std.specs.Prelude.{Some, None, Result, Ok, Err, is_some, if◌then◌else◌}
use Rattle.std.specs.List.{AllByRecursion}
use Rattle.std.specs.Option.{option_map}
use Rattle.std.specs.FinMap.{get, len, empty, entries}
use Rattle.slon_base.specs.Keeper.{Kept, Store}
use Rattle.slon_base.specs.Codec.{number_bytes, text_bytes}
use Rattle.slon_model.specs.Rows.{Row, Rows}
use Rattle.slon_model.specs.Place.{Counter, lifted, block}
use Rattle.slon_model.specs.Moves.{stored_limit}
use Rattle.app_store.specs.Spelled.{meta, tables, rows, HasNumbers, Batch, first_rows, new_ceiling, IsSmall}
use Rattle.app_store.specs.Scan.{IsTableOf}
use Rattle.store_rows.specs.declared.stop.Stop.{Stop}
use Rattle.change_capture.specs.Spellings.{CanLogRow}
use Rattle.node_state.specs.declared.memory.Identity.{Identity}
use Rattle.node_state.specs.declared.memory.Members.{Members}
use Rattle.node_state.specs.Known.{log_rows_of}
use Rattle.app_store.specs.declared.opens.Transaction.{Transaction}
use Rattle.app_store.specs.declared.ceilings.Unlifted.{Unlifted}
use Rattle.app_store.specs.declared.ceilings.Unlifted.TheVariants.{TooBig, Stopped}
use Rattle.store_rows.specs.Steps.{IsOutside}
use Rattle.app_store.specs.Steps.{Says}
use Rattle.app_store.specs.declared.look.Numbers.{Numbers}

-- no space has a pair, or some space has one
abbrev pub TellsEmpty : Store → Bool → Type 0
TellsEmpty m true = (space : ℕ) → space < 256 → m space ≡ empty
TellsEmpty m false = (space : ℕ) × (0 < len (m space))

-- some space has a pair
abbrev pub HasPair : Store → Type 0
HasPair m = (space : ℕ) × (space < 256) × (0 < len (m space))

-- the rows of the table of this name, if there is one
abbrev pub ListsRows : List ℕ → Store → Result (Option (List (List ℕ × Row))) Stop → Type 0
ListsRows table m result = (columns : Option ℕ) (held : Rows) → IsSmall columns → get (m tables)
    (text_bytes table) ≡ option_map number_bytes columns → IsTableOf (text_bytes table) held (m rows) →
    Says (if is_some columns then Some (entries held) else None) result

-- the meta numbers were read, or there are none
abbrev pub NumbersAre : ℕ → ℕ → ℕ → Result (Option Numbers) Stop → Type 0
NumbersAre stamp xids numbers (Ok None) = stamp ≡ 0
NumbersAre stamp xids numbers (Ok (Some n)) = (n.stamp ≡ stamp) × (n.xid_ceiling ≡ xids) × (n.number_ceiling ≡ numbers)
    × ((stamp == 0) ≡ false)
NumbersAre stamp xids numbers (Err stop) = IsOutside stop

abbrev pub FindsNumbers : Store → Result (Option Numbers) Stop → Type 0
FindsNumbers m result = (stamp xids numbers : ℕ) → stamp < 2 ^ 63 → xids < 2 ^ 63 → numbers < 2 ^ 63 →
    HasNumbers stamp xids numbers (m meta) → NumbersAre stamp xids numbers result

abbrev pub AreSmall : Option Numbers → Type 0
AreSmall None = Unit {0}
AreSmall (Some n) = (n.stamp < 2 ^ 63) × (n.xid_ceiling < 2 ^ 63) × (n.number_ceiling < 2 ^ 63)

-- what a transaction puts as it commits
abbrev pub batch_of : Option Identity → Members → Transaction → Batch
batch_of identity members t =
    record { identity = identity; logs = log_rows_of members t.xid t.actions; writes = t.writes }

-- what it logs can be spelled
abbrev pub CanLog : Members → Transaction → Type 0
CanLog members t = AllByRecursion (λ r. (r.0 < 2 ^ 63) × CanLogRow r.1) (log_rows_of members t.xid t.actions)

-- one more stamp, or a ceiling that is lifted, passes the limit of stored numbers
abbrev pub is_past : ℕ → ℕ → Bool
is_past stamp ceiling = nat_le stored_limit (stamp + 1) || nat_le stored_limit (ceiling + block)

-- what a ceiling that rises leaves
abbrev pub RaisesTo : (Store → Store) → Store → Result (Unit {0}) Stop → Kept → Type 0
RaisesTo change m (Ok u) new = new.held ≡ Some (change m)
RaisesTo change m (Err stop) new = ((new.held ≡ Some m) ⊎ (new.held ≡ Some (change m))) × IsOutside stop

-- What a draw makes of a counter and of the store: nothing, where the next number is below the ceiling; else the
-- ceiling is lifted, or it or the stamp would pass the limit, or the store stops.
pub data Lifts (key : List ℕ) (m : Store) (c : Counter) (stamp : ℕ) (result : Result (Unit {0}) Unlifted)
    (held : Option Store) (d : Counter) (stamped : ℕ) : Type 0 where
  LeavesIt : result ≡ Ok tt → (c.next == c.ceiling) ≡ false → held ≡ Some m → d ≡ c → stamped ≡ stamp →
      Lifts key m c stamp result held d stamped
  LiftsIt : result ≡ Ok tt → (c.next == c.ceiling) ≡ true → is_past stamp c.ceiling ≡ false →
      held ≡ Some (new_ceiling key (number_bytes (c.ceiling + 64)) (number_bytes (stamp + 1)) m) →
      d ≡ lifted c → stamped ≡ stamp + 1 → Lifts key m c stamp result held d stamped
  PassesIt : result ≡ Err TooBig → (c.next == c.ceiling) ≡ true → is_past stamp c.ceiling ≡ true → held ≡ Some m →
      Lifts key m c stamp result held d stamped
  StopsIt : (stop : Stop) → result ≡ Err (Stopped stop) → (c.next == c.ceiling) ≡ true →
      is_past stamp c.ceiling ≡ false →
      (held ≡ Some m) ⊎ (held ≡ Some (new_ceiling key (number_bytes (c.ceiling + 64)) (number_bytes (stamp + 1)) m)) →
      IsOutside stop → Lifts key m c stamp result held d stamped

-- how the work on the store ended
abbrev pub stopped : Result (Unit {0}) Unlifted → Result (Unit {0}) Stop
stopped (Err (Stopped stop)) = Err stop
stopped others = Ok tt

-- that a number is too big is said only of such a counter and stamp, which stay as they are
abbrev pub IsPassing : Counter → ℕ → Unlifted → Type 0
IsPassing c stamp TooBig = (c.next ≡ c.ceiling) × ((stored_limit ≤ stamp + 1) ⊎ (stored_limit ≤ c.ceiling + block))
IsPassing c stamp others = Unit {0}

-- the store of a database that comes up had its first rows, or they are written now
pub data Recovered (m : Store) (stamp xids numbers : ℕ) (found : Option ℕ) (n : Numbers)
    (held : Option Store) : Type 0 where
  Was : (stamp == 0) ≡ false → found ≡ Some stamp → n ≡ record {
    stamp = stamp;
    xid_ceiling = xids;
    number_ceiling =
        numbers;
  } → held ≡ Some m → Recovered m stamp xids numbers found n held
  Founded : stamp ≡ 0 → found ≡ None → n ≡ record { stamp = 1; xid_ceiling = 65; number_ceiling = 65 } → held ≡ Some
      (first_rows (number_bytes 1) (number_bytes 65) m) → Recovered m stamp xids numbers found n held

abbrev pub RecoversTo : Store → ℕ → ℕ → ℕ → Result (Option ℕ × Numbers) Stop → Kept → Type 0
RecoversTo m stamp xids numbers (Ok r) new = Recovered m stamp xids numbers r.0 r.1 new.held
RecoversTo m stamp xids numbers (Err stop) new =
    ((new.held ≡ Some m) ⊎ ((stamp ≡ 0) × (new.held ≡ Some (first_rows (number_bytes 1) (number_bytes 65) m))))
    × IsOutside stop
