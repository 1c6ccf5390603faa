-- A node that does one thing, by which it gives the tables of sets no rows of its own: what its store holds then, and
-- the place that fits.
use Rattle.std.proofs.Common.{◌≡◌, ℕ, ◌+◌, ◌<◌, ◌^◌, Bool, true, false, cond, List, [], ◌∷◌, Option, Some, None}
use Rattle.std.proofs.Common.{Ok}
use Rattle.std.proofs.Common.{refl, sym, ap, subst, is_some}
use Rattle.std.proofs.Common.{◌∙◌, ◌⊎◌, inl, inr, arith}
use Rattle.std.specs.Prelude.{◌==◌}
use Rattle.std.specs.List.{AllByRecursion}
use Rattle.std.specs.Str.{bytes_eq}
use Rattle.std.specs.Option.{option_map}
use Rattle.std.specs.FinMap.{get}
use Rattle.slon_base.specs.Keeper.{Store, Kept, put_at}
use Rattle.slon_base.specs.Codec.{number_bytes}
use Rattle.store_rows.proofs.Spaces.{same_space}
use Rattle.slon_model.specs.declared.reply.Answer.{Answer}
use Rattle.slon_model.specs.declared.reply.Answered.TheVariants.{Sure, InDoubt}
use Rattle.slon_model.specs.Names.{Named, find_named}
use Rattle.slon_model.specs.Events.{Event}
use Rattle.slon_model.specs.Deeds.{Node, Deed, Doing, Brought, Applies, Commits, Hears, Logged, brought_in}
use Rattle.slon_model.specs.Deeds.{nothing_brought, with_deeds}
use Rattle.slon_model.specs.Rows.{Rows}
use Rattle.slon_model.specs.Place.{Place, deed, standing_rows}
use Rattle.slon_model.specs.Sessions.{Commit, committing, has_late, in_doubt}
use Rattle.node_state.specs.declared.memory.Members.{Members}
use Rattle.slon_laws.specs.Sound.{Sound}
use Rattle.slon_laws.specs.Spelled.{AreFormed, IsSpelled}
use Rattle.slon_laws.proofs.Formed.{standing_formed}
use Rattle.slon_laws.proofs.Opens.{found_member}
use Rattle.change_apply.specs.Applied.{HoldsRows}
use Rattle.change_apply.specs.Copied.{with_tables}
use Rattle.node_state.specs.Held.{HoldsNode, is_own}
use Rattle.node_state.specs.Known.{IsKnown, LearnsOfOther, identity_of, member_at, is_named, learned_as, learned_name}
use Rattle.node_state.proofs.Staying.{node_stays}
use Rattle.node_change.specs.Done.{HasDone}
use Rattle.node_store.specs.Acting.{ActsAs, Stood, Wavered, WritesDone, does, excess_at}
use Rattle.node_store.specs.Midways.{Midway}
use Rattle.app_store.specs.Steps.{Finishes}
use Rattle.app_store.specs.declared.transact.Made.TheVariants.{Done as MadeDone, InDoubt as MadeInDoubt}
use Rattle.app_store.proofs.Transacting.{small_stamp}
use Rattle.app_store.specs.Base.{Memory, Base}
use Rattle.app_store.specs.declared.opens.Transaction.{Transaction}
use Rattle.app_store.specs.Fits.{Fits, OpensAs, Runs}
use Rattle.app_store.specs.Spelled.{Holds, AreTables, AreRows, IsMeta, meta, stamp_key, meta_at}
use Rattle.app_store.proofs.Holding.{stored_of, restamped, put_other, never_bare}
use Rattle.app_store.proofs.Openings.{opened_same}
use Rattle.app_store.proofs.Standing.{fits_running}
use Rattle.app_store.proofs.Upright.{UpAt, running, IsChanged, LeftInDoubt}
use Rattle.node_store.specs.Bringing.{CanFill, WritesBrought}
use Rattle.node_store.proofs.Committing.{stamped_store, node_wavers, same_id}
use Rattle.node_store.proofs.Filled.{none_fill, opened_filled, standing_filled, with_filled}
use Rattle.node_store.proofs.Several.{within_limit}
use Rattle.node_store.proofs.Tables.{holds_tables, tables_held}

-- The node of a place, which does this, with a name on which nothing in the place depends.
pub record Doer (p : Place) : Type 0 where
  pub node : Node
  pub is : p.node ≡ Some node
  pub doing : Doing
  pub name : List ℕ
  pub fills : CanFill p (brought_in doing).rows

abbrev pub done_in : {p : Place} → Doer p → Commit
done_in {p} d = does d.name p d.doing

abbrev pub deed_in : {p : Place} → Doer p → Deed
deed_in {p} d = deed p [] (brought_in d.doing).logs d.doing

-- the node after it
abbrev pub node_after : {p : Place} → Doer p → Node
node_after d = with_deeds (deed_in d ∷ []) d.node

after_is : {p : Place} (d : Doer p) → (committing (done_in d) p).node ≡ Some (node_after d)
after_is d = ap (option_map (with_deeds (deed_in d ∷ []))) d.is

-- What its store holds behind that: the node, and the tables that are filled.
pub record HasFilled {p : Place} (d : Doer p) (m store : Store) : Type 0 where
  pub held : HoldsNode (Some (node_after d)) store
  pub own : (space : ℕ) → is_own space ≡ true → (space == 3) ≡ false → store space ≡ m space
  pub rows : HoldsRows (with_tables (brought_in d.doing).rows (standing_rows p)) store

-- with nothing that is brought
pub plainly_filled : {p : Place} {m store : Store} (d : Doer p) → brought_in d.doing ≡ nothing_brought → IsSpelled p →
    Holds p m → HasDone d.node d.doing m store → HasFilled d m store
plainly_filled {p} {m} {store} d none spelled holds has = record {
  held = has.held (deed_in d) refl (λ i. (none i).logs);
  own = λ space one other. has.own space one;
  rows = subst (λ (b : Brought). HoldsRows (with_tables b.rows (standing_rows p)) store) (sym none)
      (holds_tables (standing_rows p) store (λ table. standing_formed p table spelled)
      (subst (AreRows (standing_rows p)) (sym (has.own 3 refl)) holds.rows_held));
}

-- rows that stand have their forms, and so have those with which tables are filled
with_formed : (rs : Named Rows) (tables : List ℕ → Rows) → AllByRecursion (λ r. AreFormed r.1) rs →
    ((table : List ℕ) → AreFormed (tables table)) → (table : List ℕ) → AreFormed (with_tables rs tables table)
with_formed [] tables all formed table = formed table
with_formed (r ∷ rs) tables all formed table =
    elim (bytes_eq table r.0)
    as (λ b. AreFormed (cond b r.1 (with_tables rs tables table))) [
      | true ↦ all.0
      | false ↦ with_formed rs tables all.1 formed table
    ]

rows_filled : {p : Place} {m store : Store} (d : Doer p) → Sound p → IsSpelled p → HasFilled d m store →
    AreRows (standing_rows (committing (done_in d) p)) (store 3)
rows_filled {p} {m} {store} d sound spelled has =
    let rs = (brought_in d.doing).rows in
    subst (λ tables. AreRows tables (store 3)) (λ i table. sym (standing_filled p rs table sound d.fills) i)
    (tables_held (with_tables rs (standing_rows p)) store
    (with_formed rs (standing_rows p) d.fills.formed (λ table. standing_formed p table spelled)) has.rows)

-- whatever a node does, its id, its cluster and the status of its log stay
meta_done : (stamp xids numbers : ℕ) (p : Place) (n : Node) (logs : List Logged) (doing : Doing) (key : ℕ) →
    meta_at stamp xids numbers (Some (with_deeds (deed p [] logs doing ∷ []) n)) key
    ≡ meta_at stamp xids numbers (Some n) key
meta_done stamp xids numbers p n logs (Commits xid) key = refl
meta_done stamp xids numbers p n logs others key = refl

pub holds_done : {p : Place} {b : Base} {store : Store} (at : UpAt p b) (d : Doer p) →
    HasFilled d at.ready.fits.held.0 store → Holds (committing (done_in d) p) (stamped_store p store)
holds_done {p} {b} {store} at d has =
    let holds = at.ready.fits.held.2 in
    let founded = (running at).1.founded in
    record {
      meta_numbers = same_space (restamped (stored_of p) (p.stamp + 1) (store meta) founded (omega arith)
          (subst (IsMeta p.stamp p.xids.ceiling p.numbers.ceiling p.node) (sym (has.own meta refl refl))
          holds.meta_numbers))
          (λ key one. ap (λ own. meta_at (p.stamp + 1) p.xids.ceiling p.numbers.ceiling own key) (after_is d)
          ∙ meta_done (p.stamp + 1) p.xids.ceiling p.numbers.ceiling p d.node (brought_in d.doing).logs d.doing
          key
          ∙ sym (ap (λ own. meta_at (p.stamp + 1) p.xids.ceiling p.numbers.ceiling own key) d.is));
      table_rows = subst (AreTables p.tables) (sym (has.own 2 refl refl)) holds.table_rows;
      rows_held = rows_filled d at.ready.sound at.ready.spelled has;
      node_held = subst (λ own. HoldsNode own (stamped_store p store)) (sym (after_is d))
          (node_stays (Some (node_after d)) store _
          (λ space other. put_other meta stamp_key (number_bytes (p.stamp + 1)) store space refl other)
          has.held);
      bare = never_bare (p.stamp + 1) (omega arith);
    }

-- ---- the memory

-- the next stamp, and the tables of sets as they are known then
abbrev pub with_stamp : ℕ → Members → Memory → Memory
with_stamp stamp members m = record m { stamp = stamp; members = members }

-- an open transaction wrote none of the tables that are filled
opens_done : {p : Place} (d : Doer p) (name : List ℕ) (o : Option Transaction) → Sound p →
    (x : Option ℕ) → find_named name p.opens ≡ x → OpensAs p x o → OpensAs (committing (done_in d) p) x o
opens_done {p} d name o sound None found is = by o is
  where
    by : (o : Option Transaction) → OpensAs p None o → OpensAs (committing (done_in d) p) None o
    by None is = tt
    by (Some t) is = is
opens_done {p} d name o sound (Some x) found is = by o is
  where
    by : (o : Option Transaction) → OpensAs p (Some x) o → OpensAs (committing (done_in d) p) (Some x) o
    by None is = is
    by (Some t) is =
        let rs = (brought_in d.doing).rows in
        opened_same (with_filled rs p) (committing (done_in d) p) x t (refl, refl, refl)
        (opened_filled rs sound d.fills (found_member name x p.opens found) is)

runs_done : {p : Place} {m : Memory} (d : Doer p) (members : Members) → Sound p →
    IsKnown (Some (node_after d)) m.identity members → Runs p m →
    Runs (committing (done_in d) p) (with_stamp (m.stamp + 1) members m)
runs_done {p} {m} d members sound known runs = record {
  up = runs.up;
  stamp = ap (λ n. n + 1) runs.stamp;
  settled = runs.settled;
  founded = omega arith;
  xids = runs.xids;
  numbers = runs.numbers;
  opened = λ name. opens_done d name (get m.opens name) sound (find_named name p.opens) refl (runs.opened name);
  locked = runs.locked;
  begun = runs.begun;
  known = subst (λ own. IsKnown own m.identity members) (sym (after_is d)) known;
  unpromised = runs.unpromised;
}

-- a node that hears knows the same tables of sets
pub known_hearing : {p : Place} {m : Memory} (n : Node) (confirms : List (ℕ × ℕ × ℕ)) → p.node ≡ Some n → Runs p m →
    IsKnown (Some (with_deeds (deed p [] [] (Hears confirms) ∷ []) n)) m.identity m.members
known_hearing n confirms is runs = record {
  identity_is = runs.known.identity_is ∙ ap identity_of is;
  members_are = λ name. runs.known.members_are name ∙ ap (λ own. member_at own name) is;
  names_are = λ name. runs.known.names_are name ∙ ap (is_named name) is;
}

-- The tables of sets are kept as an event of another node changes them.
pub record HasTaken (e : Event) (old new : Members) : Type 0 where
  pub members : (name : List ℕ) → get new.live name ≡ learned_as false e.body name (get old.live name)
  pub names : (name : List ℕ) → is_some (get new.names name) ≡ learned_name e.body name (is_some (get old.names name))

pub known_applying : {p : Place} {m : Memory} {members : Members} (n : Node) (e : Event) (b : Brought) →
    p.node ≡ Some n → LearnsOfOther n e → HasTaken e m.members members → Runs p m →
    IsKnown (Some (with_deeds (deed p [] b.logs (Applies e b) ∷ []) n)) m.identity members
known_applying n e b is learns taken runs = record {
  identity_is = runs.known.identity_is ∙ ap identity_of is;
  members_are = λ name. taken.members name
      ∙ ap (learned_as false e.body name) (runs.known.members_are name ∙ ap (λ own. member_at own name) is)
      ∙ sym (learns.members name);
  names_are = λ name. taken.names name
      ∙ ap (learned_name e.body name) (runs.known.names_are name ∙ ap (is_named name) is)
      ∙ sym (learns.names name);
}

-- ---- what came of it

-- What is known where the commit stands.
pub record HasStood {p : Place} {b : Base} (at : UpAt p b) (d : Doer p) (new : Base) : Type 0 where
  pub store : Store
  pub has : HasFilled d at.ready.fits.held.0 store
  pub changed : IsChanged (stamped_store p store) b.kept new.kept
  pub members : Members
  pub known : IsKnown (Some (node_after d)) b.memory.identity members
  pub memory : new.memory ≡ with_stamp (b.memory.stamp + 1) members b.memory

pub done_stands : {p : Place} {b : Base} (at : UpAt p b) (d : Doer p) (new : Base) → HasStood at d new →
    Fits (committing (done_in d) p) new
done_stands {p} {b} at d new s =
    let runs = running at in
    let told = at.ready.fits.told in
    let later = s.changed.later in
    fits_running (committing (done_in d) p) new (stamped_store p s.store) runs.0
    (subst (Runs (committing (done_in d) p)) (sym s.memory) (runs_done d s.members at.ready.sound s.known runs.1))
    (omega (arith, told, later)) s.changed.held (holds_done at d s.has)

pub done_wavers : {p : Place} {b : Base} (at : UpAt p b) (d : Doer p) (store : Store) (new : Base) →
    HasFilled d at.ready.fits.held.0 store →
    LeftInDoubt at.ready.fits.held.0 (stamped_store p store) b new →
    (stands : Bool) × Fits (in_doubt (done_in d) stands p) new
done_wavers {p} at d store new has left =
    node_wavers {new = new} at (done_in d) store left (same_id (deed_in d ∷ []) p.node p.promised, refl)
    (holds_done at d has)

-- ---- what the code wrote

-- What is pending behind it.
pub record IsWritten {p : Place} {b : Base} (at : UpAt p b) (d : Doer p) (mid : Kept) : Type 0 where
  pub store : Store
  pub pending : mid.pending ≡ Some (Some (stamped_store p store))
  pub has : HasFilled d at.ready.fits.held.0 store

next_stamp : {p : Place} {b : Base} (at : UpAt p b) (store : Store) (mid : Kept) →
    mid.pending ≡ Some (Some (put_at meta stamp_key (number_bytes (b.memory.stamp + 1)) store)) →
    mid.pending ≡ Some (Some (stamped_store p store))
next_stamp at store mid is =
    is ∙ ap (λ s. Some (Some (put_at meta stamp_key (number_bytes (s + 1)) store))) (running at).1.stamp

pub is_written : {p : Place} {b : Base} {mid : Kept} (at : UpAt p b) (d : Doer p) →
    brought_in d.doing ≡ nothing_brought →
    WritesDone d.node at.ready.fits.held.0 d.doing (b.memory.stamp + 1) (Ok tt) mid → IsWritten at d mid
is_written {mid = mid} at d none w = record {
  store = w.0;
  pending = next_stamp at w.0 mid w.1;
  has = plainly_filled d none at.ready.spelled at.ready.fits.held.2 w.2;
}

-- the rows that stand are those of the tables of the store
pub tables_at : {p : Place} {b : Base} (at : UpAt p b) → HoldsRows (standing_rows p) at.ready.fits.held.0
tables_at {p} at =
    holds_tables (standing_rows p) at.ready.fits.held.0 (λ table. standing_formed p table at.ready.spelled)
    at.ready.fits.held.2.rows_held

-- An event of another one that the node applies, with what it brings.
pub record Applying (p : Place) : Type 0 where
  pub node : Node
  pub is : p.node ≡ Some node
  pub event : Event
  pub brought : Brought
  pub name : List ℕ
  pub fills : CanFill p brought.rows

abbrev pub applier : {p : Place} → Applying p → Doer p
applier a = record {
  node = a.node;
  is = a.is;
  doing = Applies a.event a.brought;
  name = a.name;
  fills = a.fills;
}

pub brought_written : {p : Place} {b : Base} {mid : Kept} (at : UpAt p b) (a : Applying p) →
    WritesBrought a.node a.event a.brought (standing_rows p) at.ready.fits.held.0 (b.memory.stamp + 1) (Ok tt) mid →
    IsWritten at (applier a) mid
brought_written {p} {mid = mid} at a w = record {
  store = w.0;
  pending = next_stamp at w.0 mid w.1;
  has = record {
    held = w.2.held (deed p [] a.brought.logs (Applies a.event a.brought)) refl refl;
    own = w.2.own;
    rows = w.2.rows;
  };
}

pub held_stood : {p : Place} {b : Base} {at : UpAt p b} {d : Doer p} {mid : Kept} (w : IsWritten at d mid)
    (held : Option Store) → mid.pending ≡ Some held → held ≡ Some (stamped_store p w.store)
held_stood w held is = let pending = w.pending in cc (is, pending)

pub either_held : {p : Place} {b : Base} {at : UpAt p b} {d : Doer p} {mid : Kept} (w : IsWritten at d mid)
    (new : Kept) → mid.held ≡ b.kept.held → (new.held ≡ mid.held) ⊎ (mid.pending ≡ Some new.held) →
    (new.held ≡ Some at.ready.fits.held.0) ⊎ (new.held ≡ Some (stamped_store p w.store))
either_held {at = at} w new same either =
    elim either [
      | inl before ↦ inl (before ∙ same ∙ at.ready.fits.held.1)
      | inr made ↦ inr (held_stood w new.held made)
    ]

-- ---- how its transaction ended

-- A node that hears how far others are: nothing is filled.
abbrev pub hearer : {p : Place} (n : Node) → p.node ≡ Some n → List (ℕ × ℕ × ℕ) → List ℕ → Doer p
hearer {p} n is confirms name =
    record { node = n; is = is; doing = Hears confirms; name = name; fills = none_fill p }

-- What the memory became where the commit stands.
pub record Remembering {p : Place} (d : Doer p) (old new : Memory) : Type 0 where
  pub members : Members
  pub known : IsKnown (Some (node_after d)) old.identity members
  pub memory : new ≡ with_stamp (old.stamp + 1) members old

-- and where it is in doubt
pub record Doubting (old new : Memory) : Type 0 where
  pub up : new.up ≡ false
  pub doubt : new.doubt ≡ Some (old.stamp + 1)
  pub identity : new.identity ≡ old.identity

-- no number of the commit is too big
abbrev pub IsSmall : {p : Place} → Base → Doer p → Type 0
IsSmall b d = (b.memory.stamp + 1 < 2 ^ 63) × (has_late (done_in d).deeds ≡ false)

within : {p : Place} {b : Base} (at : UpAt p b) (d : Doer p) → IsSmall b d → excess_at (done_in d) p ≡ None
within {p} {b} at d small =
    within_limit (done_in d) p (small_stamp p b.memory.stamp (running at).1.stamp small.0) small.1

pub done_stood : {answer : Answer} {p : Place} {b new : Base} {mid : Kept} (at : UpAt p b) (d : Doer p) →
    IsSmall b d → IsWritten at d mid → Midway b.kept mid → Finishes mid new.kept (Ok MadeDone) →
    Remembering d b.memory new.memory → ActsAs (done_in d) answer p (Ok (Sure answer)) new
done_stood {p = p} {b} {new} at d small w way ends r = Stood refl (within at d small) (done_stands at d new (record {
  store = w.store;
  has = w.has;
  changed = record {
    held = held_stood w new.kept.held ends.ends;
    later = omega (arith, way.later, ends.counted.later);
  };
  members = r.members;
  known = r.known;
  memory = r.memory;
}))

pub done_doubted : {answer : Answer} {p : Place} {b new : Base} {mid : Kept} (at : UpAt p b) (d : Doer p) →
    IsSmall b d → IsWritten at d mid → Midway b.kept mid →
    Finishes mid new.kept (Ok MadeInDoubt) → Doubting b.memory new.memory →
    ActsAs (done_in d) answer p (Ok (InDoubt answer)) new
done_doubted {p = p} {b} {new} at d small w way ends r =
    let fits = done_wavers at d w.store new w.has (record {
      up = r.up;
      doubt = r.doubt;
      identity = r.identity;
      later = omega (arith, way.later, ends.counted.later);
      either = either_held w new.kept way.held ends.ends;
    }) in
    Wavered fits.0 refl (within at d small) fits.1
