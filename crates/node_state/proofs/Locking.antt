-- Whether a table may be written, by what is found of its set.
use Rattle.std.proofs.Common.{◌≡◌, ℕ, Bool, true, false, List, Option, Some, None, Result, refl, sym, ap, subst, ◌∙◌}
use Rattle.std.proofs.Common.{is_some, not, true≢false}
use Rattle.slon_base.specs.Codec.{number_bytes}
use Rattle.slon_lemmas.proofs.Tests.{none_of}
use Rattle.std.specs.Option.{option_map}
use Rattle.std.specs.FinMap.{get}
use Rattle.slon_base.specs.Keeper.{Store}
use Rattle.store_rows.specs.Space.{AllOf}
use Rattle.store_rows.specs.Steps.{Gives}
use Rattle.store_rows.specs.declared.stop.Stop.{Stop}
use Rattle.node_rows.specs.declared.rows.SetRow.{SetRow}
use Rattle.node_rows.specs.declared.rows.TableRow.{TableRow}
use Rattle.node_rows.specs.Spellings.{CanSet, set_bytes}
use Rattle.slon_model.specs.declared.fault.DbFault.{DbFault}
use Rattle.slon_model.specs.Config.{is_origin, member_of}
use Rattle.slon_model.specs.Deciding.{closed_set, closed_at}
use Rattle.slon_model.specs.Deeds.{Node, knowledge}
use Rattle.node_state.specs.declared.memory.Member.{Member}
use Rattle.node_state.specs.Closing.{locked_in, IsLockedAs, IsOpen, IsOpenBy, HandedMember}
use Rattle.node_state.specs.Handed.{HandedSet, IsOpenAs}
use Rattle.node_state.specs.Held.{NodeHeld, HoldsNode}
use Rattle.node_state.specs.declared.memory.Members.{Members}
use Rattle.node_state.specs.Known.{member_as, member_at}

-- a member that was found
pub record IsFound (members : Members) (table : List ℕ) (member : Member) : Type 0 where
  pub is : get members.live table ≡ Some member

other_member : {members : Members} {table : List ℕ} {member : Member} → IsFound members table member → (m : Member) →
    get members.live table ≡ Some m → member ≡ m
other_member found m is = let same = sym found.is ∙ is in cc

-- the result for the member of a table is that for the table
pub found_says : (table : List ℕ) (node : Option Node) (m : Store) (member : Member)
    (result : Result (Option DbFault) Stop) → HoldsNode node m → Some member ≡ member_at node table →
    ((n : Node) → NodeHeld n m → member.leads ≡ is_origin n.id member.set (knowledge n).config →
    Gives (λ found. found ≡ closed_set n.id (knowledge n) (Some member.set)) result) →
    Gives (λ found. found ≡ closed_at table node) result
found_says table None m member result held is says = absurd cc
found_says table (Some n) m member result held is says = by (member_of table (knowledge n).config) is
  where
    by : (o : Option (ℕ × TableRow)) → Some member ≡ option_map (member_as n.id (knowledge n).config) o →
        Gives (λ found. found ≡ closed_set n.id (knowledge n) (option_map (λ e. e.1.set_id) o)) result
    by None is = absurd cc
    by (Some e) is =
        let same : member ≡ member_as n.id (knowledge n).config e = cc in
        let set = ap (λ (k : Member). k.set) same in
        subst (λ s. Gives (λ found. found ≡ closed_set n.id (knowledge n) (Some s)) result) set
        (says n held (ap (λ (k : Member). k.leads) same ∙ ap (λ s. is_origin n.id s (knowledge n).config) (sym set)))

pub found_tells : (members : Members) (table : List ℕ) (member : Member) (m : Store) (found : Option DbFault) →
    IsFound members table member → IsOpenBy member m found → IsOpenAs members table m found
found_tells members table member m None is opened = record {
  sent = λ k at. (subst (λ (x : Member). IsOpen x m) (other_member is k at) opened).sent;
  unlocked = λ k at. (subst (λ (x : Member). IsOpen x m) (other_member is k at) opened).unlocked;
}
found_tells members table member m (Some fault) is opened =
    λ all. opened (record { sent = all.sent member is.is; unlocked = all.unlocked member is.is })

pub found_handed : (members : Members) (table : List ℕ) (member : Member) (m : Store) → IsFound members table member →
    (space : ℕ) → HandedMember member m space → HandedSet members table m space
found_handed members table member m found space handed = record {
  member = member;
  found = found.is;
  received = handed.received;
  leads = handed.leads;
  misspelled = handed.misspelled;
}

pub handed_found : (members : Members) (table : List ℕ) (member : Member) (m : Store) → IsFound members table member →
    (space : ℕ) → HandedSet members table m space → HandedMember member m space
handed_found members table member m found space handed =
    subst (λ (x : Member). HandedMember x m space) (sym (other_member found handed.member handed.found))
    (record { received = handed.received; leads = handed.leads; misspelled = handed.misspelled })

-- ---- what is found of the set of a member

-- what does not fail holds
pub holds_of : (b : Bool) → not b ≡ false → b ≡ true
holds_of true is = refl
holds_of false is = cc

-- the row of a set that is locked is there
pub locked_shut : (member : Member) (m : Store) (locked : Bool) → member.leads ≡ true →
    IsLockedAs member.set m locked → locked ≡ true → IsOpen member m → ⊥
locked_shut member m locked leads is shut opened = by is.row is.can is.spelled (sym is.says ∙ shut)
  where
    by : (row : Option SetRow) → AllOf CanSet row →
        get (m 6) (number_bytes member.set) ≡ option_map set_bytes row → locked_in row ≡ true → ⊥
    by None can spelled shut = cc
    by (Some row) can spelled shut = true≢false (sym shut ∙ opened.unlocked leads row can spelled)

-- the set is not received, and no row of it says that it is locked
pub is_open : (member : Member) (m : Store) (received : Bool) →
    received ≡ is_some (get (m 9) (number_bytes member.set)) → received ≡ false →
    ((row : SetRow) → CanSet row → get (m 6) (number_bytes member.set) ≡ Some (set_bytes row) → row.locked ≡ false) →
    IsOpen member m
is_open member m received is none unlocked =
    record { sent = none_of _ (sym is ∙ none); unlocked = λ leads. unlocked }
