-- A database that becomes a node: what its store holds then, and the place that fits.
use Rattle.std.proofs.Common.{◌≡◌, ℕ, ◌+◌, ◌<◌, ◌≤◌, Bool, true, false, cond, List, [], ◌∷◌, Option, Some, None}
use Rattle.std.proofs.Common.{Result, Ok, Err}
use Rattle.std.proofs.Common.{refl, sym, ap, subst, ◌∙◌, ◌⊎◌, inl, inr, arith}
use Rattle.std.specs.Prelude.{◌==◌}
use Rattle.std.specs.Option.{option_map, option_or}
use Rattle.std.specs.Str.{bytes_eq}
use Rattle.std.specs.FinMap.{get}
use Rattle.std.proofs.lemmas.Bool.{false≢true, false_from_ne_true, eqb-true, eq-eqb}
use Rattle.std.proofs.lemmas.Slice.Eq.{bytes_eq-Decides}
use Rattle.slon_base.specs.Keeper.{Kept, Store, put_at}
use Rattle.slon_base.specs.Codec.{number_bytes, text_bytes}
use Rattle.store_rows.proofs.Spaces.{any_of}
use Rattle.slon_model.specs.Names.{find_named}
use Rattle.slon_model.specs.Deeds.{Node, knowledge}
use Rattle.slon_model.specs.Membership.{becoming}
use Rattle.slon_model.specs.Place.{Place, node_id, standing_rows}
use Rattle.slon_model.specs.Sessions.{committing, in_doubt}
use Rattle.node_state.specs.declared.memory.NodeMemory.{NodeMemory}
use Rattle.node_state.specs.Held.{HoldsNode}
use Rattle.node_state.specs.Known.{IsKnown}
use Rattle.node_state.proofs.Staying.{node_stays}
use Rattle.node_change.specs.Becoming.{IsNode}
use Rattle.slon_model.specs.declared.fault.DbFault.{DbFault}
use Rattle.slon_model.specs.declared.reply.Answer.TheVariants.{Done}
use Rattle.slon_model.specs.World.{halt_in}
use Rattle.app_store.specs.Serves.{answered, is_memory, trouble}
use Rattle.store_rows.specs.declared.stop.Stop.{Stop}
use Rattle.node_store.specs.Acting.{ActsAs, Stood, Wavered, KeepsNode, WritesNode, excess_at, joined}
use Rattle.node_store.specs.Finishing.{Becomes, IsHalted}
use Rattle.node_store.specs.Midways.{Midway}
use Rattle.app_store.specs.Base.{Base}
use Rattle.app_store.specs.Fits.{Fits, Runs}
use Rattle.app_store.specs.Spelled.{Holds, AreTables, AreRows, IsMeta, entries_at, meta_at, meta, stamp_key}
use Rattle.node_store.proofs.Committing.{stamped_store, commit_wavers}
use Rattle.node_store.specs.Finishing.{with_node, IsUnsure}
use Rattle.app_store.proofs.Holding.{stored_of, restamped, put_other, never_bare}
use Rattle.app_store.proofs.Standing.{fits_running, opens_same}
use Rattle.app_store.proofs.Upright.{UpAt, running, IsChanged}

-- a new node, whose log is the first one
abbrev pub IsNew : Node → Type 0
IsNew n = (knowledge n).log ≡ 0

-- ---- the meta entries

-- the entries of another key are the same
same_entry : (stamp xids numbers : ℕ) (n : Node) (key : ℕ) → (knowledge n).log ≡ 0 → (key == 4) ≡ false →
    (key == 5) ≡ false → meta_at stamp xids numbers (Some n) key ≡ meta_at stamp xids numbers None key
same_entry stamp xids numbers n key log four five =
    λ i. cond (stamp == 0) None (cond (key == 1) (Some (number_bytes stamp)) (cond (key == 2) (Some (number_bytes xids))
    (cond (key == 3) (Some (number_bytes numbers)) (cond (key == 6) (Some (log i ∷ []))
    (named i)))))
  where
    named : cond (key == 4) (Some (number_bytes n.id)) (cond (key == 5) (Some (text_bytes n.cluster)) None) ≡ None
    named = ap (λ b. cond b (Some (number_bytes n.id)) (cond (key == 5) (Some (text_bytes n.cluster)) None)) four
        ∙ ap (λ b. cond b (Some (text_bytes n.cluster)) None) five

other_key : (key other : ℕ) → (key == other) ≡ false → key ∷ [] ≡ other ∷ [] → ⊥
other_key key other differ same =
    let equal : key ≡ other = cc in
    false≢true (sym differ ∙ eq-eqb key other equal)

meta_becomes : (stamp xids numbers : ℕ) {n : Node} {m store : Store} → 0 < stamp → IsNew n → IsNode n m store →
    IsMeta stamp xids numbers None (m meta) → IsMeta stamp xids numbers (Some n) (store meta)
meta_becomes stamp xids numbers {n} {m} {store} founded new is held = record {
  lookups = λ key one. by_key key (key == 4) (key == 5) refl refl;
  spelled = λ key one. any_of (meta_at stamp xids numbers (Some n) key);
  keys = λ q v there. key_of q v (bytes_eq q (4 ∷ [])) (bytes_eq q (5 ∷ [])) refl refl there;
}
  where
    some : (stamp == 0) ≡ false
    some = false_from_ne_true (stamp == 0) no_zero
      where
        no_zero : (stamp == 0) ≡ true → ⊥
        no_zero zero = let none = eqb-true stamp 0 zero in omega (arith, none, founded)

    at_key : (key : ℕ) → meta_at stamp xids numbers (Some n) key ≡ entries_at stamp xids numbers (Some n) key
    at_key key = ap (λ b. cond b None (entries_at stamp xids numbers (Some n) key)) some

    by_key : (key : ℕ) (four five : Bool) → (key == 4) ≡ four → (key == 5) ≡ five →
        get (store meta) (key ∷ []) ≡ option_map (λ v. v) (meta_at stamp xids numbers (Some n) key)
    by_key key true five is_four is_five =
        ap (λ k. get (store meta) (k ∷ [])) (eqb-true key 4 is_four) ∙ is.identity.id
        ∙ sym (ap (option_map (λ v. v)) (ap (meta_at stamp xids numbers (Some n)) (eqb-true key 4 is_four) ∙ at_key 4))
    by_key key false true is_four is_five =
        ap (λ k. get (store meta) (k ∷ [])) (eqb-true key 5 is_five) ∙ is.identity.cluster
        ∙ sym (ap (option_map (λ v. v)) (ap (meta_at stamp xids numbers (Some n)) (eqb-true key 5 is_five) ∙ at_key 5))
    by_key key false false is_four is_five =
        is.entries (key ∷ []) (other_key key 4 is_four) (other_key key 5 is_five) ∙ held.lookups key tt
        ∙ ap (option_map (λ v. v)) (sym (same_entry stamp xids numbers n key new is_four is_five))

    other_bytes : (q other : List ℕ) → bytes_eq q other ≡ false → q ≡ other → ⊥
    other_bytes q other differ same = false≢true (sym differ ∙ (bytes_eq-Decides q other).1 same)

    key_of : (q v : List ℕ) (four five : Bool) → bytes_eq q (4 ∷ []) ≡ four → bytes_eq q (5 ∷ []) ≡ five →
        get (store meta) q ≡ Some v → (key : ℕ) × Unit {0} × (q ≡ key ∷ [])
    key_of q v true five is_four is_five there = (4, tt, (bytes_eq-Decides q (4 ∷ [])).0 is_four)
    key_of q v false true is_four is_five there = (5, tt, (bytes_eq-Decides q (5 ∷ [])).0 is_five)
    key_of q v false false is_four is_five there =
        held.keys q v (sym (is.entries q (other_bytes q (4 ∷ []) is_four) (other_bytes q (5 ∷ []) is_five)) ∙ there)

-- ---- the store

pub holds_becoming : {p : Place} {n : Node} {m store : Store} (name : List ℕ) → 0 < p.stamp → p.node ≡ None →
    IsNew n → IsNode n m store → Holds p m → Holds (committing (becoming name n) p) (stamped_store p store)
holds_becoming {p} {n} {m} {store} name founded none new is holds = record {
  meta_numbers = restamped (record (stored_of p) { node = Some n }) (p.stamp + 1) (store meta) founded (omega arith)
      (meta_becomes _ _ _ founded new is
      (subst (λ own. IsMeta p.stamp p.xids.ceiling p.numbers.ceiling own (m meta)) none holds.meta_numbers));
  table_rows = subst (AreTables p.tables) (sym (is.own 2 refl refl)) holds.table_rows;
  rows_held = subst (AreRows (standing_rows p)) (sym (is.own 3 refl refl)) holds.rows_held;
  node_held = node_stays (Some n) store _
      (λ space other. put_other meta stamp_key (number_bytes (p.stamp + 1)) store space refl other) is.held;
  bare = never_bare (p.stamp + 1) (omega arith);
}

-- ---- what came of it

-- What is known where the commit stands.
pub record HasBecome {p : Place} {b : Base} (at : UpAt p b) (n : Node) (new : Base) : Type 0 where
  pub store : Store
  pub is : IsNode n at.ready.fits.held.0 store
  pub changed : IsChanged (stamped_store p store) b.kept new.kept
  pub kept : NodeMemory
  pub known : IsKnown (Some n) kept.identity kept.members
  pub memory : new.memory ≡ with_node (b.memory.stamp + 1) kept b.memory

pub becoming_stands : {p : Place} {b : Base} (at : UpAt p b) (n : Node) (name : List ℕ) (new : Base) →
    p.node ≡ None → IsNew n → HasBecome at n new → Fits (committing (becoming name n) p) new
becoming_stands {p} {b} at n name new none fresh s =
    let runs = running at in
    let told = at.ready.fits.told in
    let later = s.changed.later in
    let q = committing (becoming name n) p in
    let now : Runs q (with_node (b.memory.stamp + 1) s.kept b.memory) = record {
      up = runs.1.up;
      stamp = ap (λ k. k + 1) runs.1.stamp;
      settled = runs.1.settled;
      founded = omega arith;
      xids = runs.1.xids;
      numbers = runs.1.numbers;
      opened = λ key. opens_same p q (find_named key p.opens) (get b.memory.opens key) (refl, refl, refl)
          (runs.1.opened key);
      locked = runs.1.locked;
      begun = runs.1.begun;
      known = s.known;
      unpromised = runs.1.unpromised;
    } in
    fits_running q new (stamped_store p s.store) runs.0 (subst (Runs q) (sym s.memory) now)
    (omega (arith, told, later)) s.changed.held
    (holds_becoming name runs.1.founded none fresh s.is at.ready.fits.held.2)

-- The commit is in doubt, and the memory keeps the id of the node.
pub record IsUnknown {p : Place} {b : Base} (at : UpAt p b) (n : Node) (store : Store) (new : Base) : Type 0 where
  pub kept : NodeMemory
  pub known : IsKnown (Some n) kept.identity kept.members
  pub unsure : IsUnsure (b.memory.stamp + 1) kept new.memory
  pub later : b.kept.faults ≤ new.kept.faults
  pub either : (new.kept.held ≡ Some at.ready.fits.held.0) ⊎ (new.kept.held ≡ Some (stamped_store p store))

pub becoming_wavers : {p : Place} {b : Base} (at : UpAt p b) (n : Node) (name : List ℕ) (store : Store) (new : Base) →
    (p.node ≡ None) × IsNew n × IsNode n at.ready.fits.held.0 store → IsUnknown at n store new →
    (stands : Bool) × Fits (in_doubt (becoming name n) stands p) new
becoming_wavers {p} {b} at n name store new (none, fresh, is) left =
    let runs = (running at).1 in
    commit_wavers {store = store} {new = new} at (becoming name n) (record {
      up = left.unsure.up;
      doubt = left.unsure.doubt ∙ ap (λ k. Some (k + 1)) runs.stamp;
      named = λ stands. ap (option_map (λ i. i.id)) (left.unsure.identity ∙ left.known.identity_is)
          ∙ by stands p.node none;
      later = left.later;
      holds = holds_becoming name runs.founded none fresh is at.ready.fits.held.2;
      either = left.either;
    })
  where
    by : (stands : Bool) (own : Option Node) → own ≡ None →
        Some n.id ≡ node_id (in_doubt (becoming name n) stands (record p { node = own }))
    by true own none = refl
    by false own none = ap (λ o. option_or (option_map (λ k. k.id) o) (Some n.id)) (sym none)

-- ---- what the code wrote

pub none_held : {p : Place} {b : Base} (at : UpAt p b) → p.node ≡ None → HoldsNode None at.ready.fits.held.0
none_held at none = subst (λ own. HoldsNode own at.ready.fits.held.0) none at.ready.fits.held.2.node_held

-- what is pending with the stamp of the code is so with that of the place
pending_as : {p : Place} {b : Base} {pending : Option (Option Store)} (at : UpAt p b) (store : Store) →
    pending ≡ Some (Some (put_at meta stamp_key (number_bytes (b.memory.stamp + 1)) store)) →
    pending ≡ Some (Some (stamped_store p store))
pending_as at store is =
    is ∙ ap (λ s. Some (Some (put_at meta stamp_key (number_bytes (s + 1)) store))) (running at).1.stamp

pub held_as : {p : Place} {b : Base} {pending : Option (Option Store)} (at : UpAt p b) (store : Store) →
    pending ≡ Some (Some (put_at meta stamp_key (number_bytes (b.memory.stamp + 1)) store)) →
    (held : Option Store) → pending ≡ Some held → held ≡ Some (stamped_store p store)
held_as at store is held ends = let written = pending_as at store is in cc (written, ends)

pub either_as : {p : Place} {b : Base} (at : UpAt p b) (store : Store) (mid : Kept) →
    mid.pending ≡ Some (Some (put_at meta stamp_key (number_bytes (b.memory.stamp + 1)) store)) →
    (new : Kept) → mid.held ≡ b.kept.held → (new.held ≡ mid.held) ⊎ (mid.pending ≡ Some new.held) →
    (new.held ≡ Some at.ready.fits.held.0) ⊎ (new.held ≡ Some (stamped_store p store))
either_as at store mid is new same either =
    elim either [
      | inl before ↦ inl (before ∙ same ∙ at.ready.fits.held.1)
      | inr made ↦ inr (held_as at store is new.held made)
    ]

-- ---- the end of the transaction

-- What is written and pending before the commit.
pub record WroteNode {p : Place} {b : Base} (at : UpAt p b) (n : Node) (kept : NodeMemory) (mid : Base) : Type 0 where
  pub none : p.node ≡ None
  pub fresh : IsNew n
  pub store : Store
  pub pending : mid.kept.pending ≡ Some (Some (put_at meta stamp_key (number_bytes (b.memory.stamp + 1)) store))
  pub is : IsNode n at.ready.fits.held.0 store
  pub known : IsKnown (Some n) kept.identity kept.members
  pub way : Midway b.kept mid.kept
  pub memory : mid.memory ≡ b.memory

pub node_stands : {p : Place} {b mid : Base} {kept : NodeMemory} (at : UpAt p b) (n : Node) (name : List ℕ)
    (new : Base) →
    WroteNode at n kept mid → Becomes kept (b.memory.stamp + 1) mid (Ok false) new →
    Fits (committing (becoming name n) p) new
node_stands {b = b} {kept = kept} at n name new w (finishes, memory) = becoming_stands at n name new w.none w.fresh
    (record {
      store = w.store;
      is = w.is;
      changed = record {
        held = held_as at w.store w.pending new.kept.held finishes.ends;
        later = omega (arith, w.way.later, finishes.counted.later);
      };
      kept = kept;
      known = w.known;
      memory = memory ∙ ap (with_node (b.memory.stamp + 1) kept) w.memory;
    })

pub node_wavers : {p : Place} {b mid : Base} {kept : NodeMemory} (at : UpAt p b) (n : Node) (name : List ℕ)
    (new : Base) →
    WroteNode at n kept mid → Becomes kept (b.memory.stamp + 1) mid (Ok true) new →
    (stands : Bool) × Fits (in_doubt (becoming name n) stands p) new
node_wavers {mid = mid} {kept = kept} at n name new w (finishes, unsure) =
    becoming_wavers at n name w.store new (w.none, w.fresh, w.is) (record {
      kept = kept;
      known = w.known;
      unsure = unsure;
      later = omega (arith, w.way.later, finishes.counted.later);
      either = either_as at w.store mid.kept w.pending new.kept w.way.held finishes.ends;
    })

-- memory ran out, which is told
pub halted_short : {P : Type 0} {old new : Base} {fault : DbFault} → IsHalted old fault new →
    is_memory (halt_in fault) ≡ false → P
halted_short h memory = absurd (false≢true (sym memory ∙ ap (λ f. is_memory (halt_in f)) h.fault_is))

pub becomes_as : {p : Place} {b mid new : Base} {kept : NodeMemory} (at : UpAt p b) (n : Node) (name : List ℕ)
    (result : Result Bool DbFault) → WroteNode at n kept mid → Becomes kept (b.memory.stamp + 1) mid result new →
    is_memory (trouble (answered joined result)) ≡ false → excess_at (becoming name n) p ≡ None →
    ActsAs (becoming name n) Done p (answered joined result) new
becomes_as {new = new} at n name (Ok false) w becomes memory room =
    Stood refl room (node_stands at n name new w becomes)
becomes_as {new = new} at n name (Ok true) w becomes memory room =
    let fits = node_wavers at n name new w becomes in Wavered fits.0 refl room fits.1
becomes_as at n name (Err fault) w becomes memory room = halted_short becomes memory

-- what is kept of a node that is pending
pub node_kept : (new : Kept) (n : Node) (m store : Store) {bytes : List ℕ} (stamp : ℕ)
    (result : Result NodeMemory Stop) → (bytes ≡ number_bytes stamp) × IsNode n m store →
    KeepsNode n store bytes result new → WritesNode n m stamp result new
node_kept new n m store stamp (Ok kept) (is, has) keeps =
    (store, keeps.0 ∙ ap (λ v. Some (Some (put_at meta stamp_key v store))) is, has, keeps.1)
node_kept new n m store stamp (Err stop) (is, has) keeps = keeps
