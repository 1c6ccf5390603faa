-- What a database knows of the node that it is: nothing where it is none, and the same while the same is kept.
use Rattle.std.proofs.Common.{◌≡◌, ℕ, Bool, true, false, cond, List, Option, Some, None, refl, sym, ap, subst, ◌∙◌}
use Rattle.std.proofs.Common.{is_some}
use Rattle.std.specs.Prelude.{Result, Ok, Err, OnOk, OnErr}
use Rattle.std.specs.Cmp.Lexicographic.{nat_list_cmp_total}
use Rattle.std.specs.FinMap.{get, empty, insert, get-empty, get-insert}
use Rattle.std.specs.Str.{bytes_eq}
use Rattle.std.proofs.lemmas.Map.Text.{is_eq-slice_cmp}
use Rattle.store_rows.specs.Rows.{IsId}
use Rattle.slon_base.specs.Keeper.{key_cmp}
use Rattle.std.specs.Option.{option_map}
use Rattle.slon_model.specs.Deeds.{Node}
use Rattle.slon_model.specs.Place.{Place}
use Rattle.slon_model.specs.Moves.{with_commit}
use Rattle.node_state.specs.declared.memory.Identity.{Identity}
use Rattle.node_state.specs.declared.memory.Member.{Member}
use Rattle.node_state.specs.declared.memory.Members.{Members}
use Rattle.node_state.specs.Known.{IsKnown}
use Rattle.node_state.specs.Members.{MemberMap, NameMap}

-- the ids of live tables and of their sets are in their range
abbrev pub AreLive : MemberMap → Type 0
AreLive live = (name : List ℕ) (m : Member) → get live name ≡ Some m → IsId m.table × IsId m.set

pub no_members : (live : MemberMap) → live ≡ empty → AreLive live
no_members live is name m found =
    let bad : None ≡ Some m = sym (get-empty key_cmp name) ∙ ap (λ (ms : MemberMap). get ms name) (sym is) ∙ found in
    absurd cc

pub known_none : (live : MemberMap) (names : NameMap) → live ≡ empty → names ≡ empty →
    IsKnown None None (record { live = live; names = names })
known_none live names is none = record {
  identity_is = refl;
  members_are = λ name. ap (λ (ms : MemberMap). get ms name) is ∙ get-empty key_cmp name;
  names_are = λ name. ap (λ (ns : NameMap). is_some (get ns name)) none ∙ ap is_some (get-empty key_cmp name);
}

-- the same is known where the same is kept
pub known_as : {own : Option Node} {i j : Option Identity} {members others : Members} → j ≡ i → others ≡ members →
    IsKnown own i members → IsKnown own j others
known_as same also known = record {
  identity_is = same ∙ known.identity_is;
  members_are = λ name. ap (λ (ms : Members). get ms.live name) also ∙ known.members_are name;
  names_are = λ name. ap (λ (ms : Members). is_some (get ms.names name)) also ∙ known.names_are name;
}

-- a commit changes nothing of it
pub known_committed : (own : Option Node) (x : ℕ) (p : Place) (i : Option Identity) (members : Members) →
    IsKnown own i members → IsKnown (option_map (with_commit x p) own) i members
known_committed None x p i members known = known
known_committed (Some n) x p i members known = record {
  identity_is = known.identity_is;
  members_are = known.members_are;
  names_are = known.names_are;
}

-- one more table
pub put_member : (members : MemberMap) (name : List ℕ) (member : Member) (q : List ℕ) →
    get (insert members name member) q ≡ cond (bytes_eq q name) (Some member) (get members q)
put_member members name member q =
    get-insert nat_list_cmp_total members name member q
    ∙ ap (λ b. cond b (Some member) (get members q)) (is_eq-slice_cmp q name)

pub more_members : (members : MemberMap) (name : List ℕ) (member : Member) → IsId member.table × IsId member.set →
    AreLive members → AreLive (insert members name member)
more_members members name member ids before q other found =
    of (bytes_eq q name) (sym (put_member members name member q) ∙ found)
  where
    of : (b : Bool) → cond b (Some member) (get members q) ≡ Some other → IsId other.table × IsId other.set
    of true is = let same : member ≡ other = cc in subst (λ (m : Member). IsId m.table × IsId m.set) same ids
    of false is = before q other is

-- what putting a table gives
pub record Puts {E : Type 0} (old new : MemberMap) (name : List ℕ) (member : Member) (result : Result (Unit {0}) E) :
    Type 0 where
  pub ok : OnOk result (new ≡ insert old name member)
  pub err : OnErr result (new ≡ old)

-- one more, or none where memory ran out
pub members_stay : {E : Type 0} {old new : MemberMap} {name : List ℕ} {member : Member}
    (result : Result (Unit {0}) E) → Puts old new name member result → IsId member.table × IsId member.set →
    AreLive old → AreLive new
members_stay {old = old} {name = name} {member = member} (Ok u) puts ids before =
    subst AreLive (sym puts.ok) (more_members old name member ids before)
members_stay (Err e) puts ids before = subst AreLive (sym puts.err) before
