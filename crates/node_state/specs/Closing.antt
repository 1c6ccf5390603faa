-- Whether the set of a table is closed to applications.
use Rattle.std.specs.Prelude.{◌≡◌, ℕ, Bool, true, false, Option, Some, None, unwrap_or}
use Rattle.std.specs.Option.{option_map}
use Rattle.std.specs.FinMap.{get}
use Rattle.slon_base.specs.Codec.{number_bytes}
use Rattle.slon_base.specs.Keeper.{Store}
use Rattle.store_rows.specs.Space.{AllOf}
use Rattle.node_rows.specs.declared.rows.SetRow.{SetRow}
use Rattle.node_rows.specs.Spellings.{set_bytes, CanSet}
use Rattle.slon_model.specs.declared.fault.DbFault.{DbFault}
use Rattle.node_state.specs.declared.memory.Member.{Member}
use Rattle.event_store.specs.Formed.{Lacks}
use Rattle.node_state.specs.Handed.{IsSet}

-- a row that is known says whether its set is locked
abbrev pub locked_in : Option SetRow → Bool
locked_in row = unwrap_or (option_map (λ r. r.locked) row) false

-- the row of a set, if there is one, says whether it is locked
pub record IsLockedAs (set : ℕ) (m : Store) (locked : Bool) : Type 0 where
  pub row : Option SetRow
  pub can : AllOf CanSet row
  pub spelled : get (m 6) (number_bytes set) ≡ option_map set_bytes row
  pub says : locked ≡ locked_in row

-- the node does not receive the set of a member, and where it is the origin of the set, no row says that it is locked
pub record IsOpen (member : Member) (m : Store) : Type 0 where
  pub sent : get (m 9) (number_bytes member.set) ≡ None
  pub unlocked : member.leads ≡ true → (row : SetRow) → CanSet row →
      get (m 6) (number_bytes member.set) ≡ Some (set_bytes row) → row.locked ≡ false

-- what was found says whether it is so
abbrev pub IsOpenBy : Member → Store → Option DbFault → Type 0
IsOpenBy member m None = IsOpen member m
IsOpenBy member m (Some fault) = IsOpen member m → ⊥

-- the row of a set that the node leads and does not receive is read
pub record HandedMember (member : Member) (m : Store) (space : ℕ) : Type 0 where
  pub received : get (m 9) (number_bytes member.set) ≡ None
  pub leads : member.leads ≡ true
  pub misspelled : Lacks 6 (IsSet (get (m 6) (number_bytes member.set))) space
