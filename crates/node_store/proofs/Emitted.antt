-- A node that emits events: what its store holds then, and the place that fits.
use Rattle.std.proofs.Common.{◌≡◌, ℕ, ◌+◌, ◌<◌, ◌≤◌, Bool, false, List, length, Option, Some, Ok, Err}
use Rattle.std.proofs.Common.{refl, sym, ap, subst, ◌∙◌, ◌⊎◌, inl, inr, arith}
use Rattle.std.specs.Option.{option_map}
use Rattle.std.specs.FinMap.{get}
use Rattle.std.proofs.lemmas.List.{length-map}
use Rattle.slon_base.specs.Keeper.{Store, Kept, put_at}
use Rattle.slon_base.specs.Codec.{number_bytes}
use Rattle.store_rows.specs.declared.stop.Stop.{Stop}
use Rattle.store_rows.specs.declared.stop.Stop.TheVariants.{TooBig}
use Rattle.store_rows.proofs.Spaces.{same_space}
use Rattle.slon_model.specs.declared.fault.DbFault.{DbFault}
use Rattle.slon_model.specs.declared.reply.Answer.TheVariants.{Emitted}
use Rattle.slon_model.specs.Names.{find_named}
use Rattle.slon_model.specs.Snapshots.{Snapshot}
use Rattle.slon_model.specs.Deeds.{Node, knowledge, progress, with_deeds}
use Rattle.slon_model.specs.Place.{Place, downed, fallen, filled_by, standing_rows, taken}
use Rattle.slon_model.specs.Moves.{is_last_stamp}
use Rattle.slon_model.specs.Reaching.{emitting}
use Rattle.slon_model.specs.Sessions.{Commit, Emission, committing, in_doubt, seat}
use Rattle.slon_model.specs.World.{halt_in}
use Rattle.node_rows.specs.declared.body.Body.{Body}
use Rattle.node_state.specs.declared.memory.Members.{Members}
use Rattle.node_state.specs.Held.{HoldsNode}
use Rattle.node_state.specs.Known.{IsKnown, is_named, identity_of, member_at}
use Rattle.node_state.proofs.Staying.{node_stays}
use Rattle.node_store.specs.Midways.{Midway}
use Rattle.node_store.specs.Acting.{HasEmittedAll, HasLearned, Emitter, IsTold, WritesEvents, LearnsAll, emission}
use Rattle.node_store.specs.Acting.{behind, bodies_in, learned_member_all, learned_name_all, ActsAs, Burst, Broke}
use Rattle.node_store.proofs.Several.{emissions_behind, meta_behind, identity_behind, members_behind, names_behind}
use Rattle.node_store.proofs.Several.{last_is, emission_beyond, emissions_fill}
use Rattle.node_store.proofs.Lookups.{Halts, look_stops}
use Rattle.app_store.specs.Base.{Memory, Base}
use Rattle.app_store.specs.Fits.{Fits, Runs, StandsAs}
use Rattle.app_store.specs.Serves.{is_memory}
use Rattle.node_store.proofs.Committing.{stamped_store, node_wavers, rows_stay, same_id}
use Rattle.app_store.specs.Spelled.{Holds, AreTables, AreRows, IsMeta, meta, stamp_key, meta_at}
use Rattle.app_store.proofs.Holding.{stored_of, restamped, put_other, never_bare, holds_same}
use Rattle.app_store.proofs.Standing.{fits_running, named_up, named_as, opens_same}
use Rattle.app_store.proofs.Upright.{UpAt, running, IsChanged, LeftInDoubt, WentDown}

-- ---- the store

-- Events that the node of a place emits in one commit, with a name on which nothing in the place depends.
pub record Announcement (p : Place) : Type 0 where
  pub node : Node
  pub is : p.node ≡ Some node
  pub parts : List Emission
  pub name : List ℕ

abbrev pub commit_in : {p : Place} → Announcement p → Commit
commit_in {p} a = emission a.name p a.node a.parts

-- the node after it
abbrev pub node_after : {p : Place} → Announcement p → Node
node_after {p} a = behind p a.node a.parts

after_is : {p : Place} (a : Announcement p) → (committing (commit_in a) p).node ≡ Some (node_after a)
after_is {p} a =
    ap (option_map (with_deeds (commit_in a).deeds)) a.is
    ∙ ap (λ n. Some n) (emissions_behind (seat a.name p a.node) a.node (progress a.node.id (knowledge a.node) + 1)
    a.parts refl refl)

-- events of a node fill no table
fillings_stay : {p : Place} (a : Announcement p) → filled_by p (commit_in a).deeds p.fillings ≡ p.fillings
fillings_stay {p} a =
    emissions_fill (seat a.name p a.node) (progress a.node.id (knowledge a.node) + 1) a.parts p p.fillings

pub holds_emitted : {p : Place} {m store : Store} {number : ℕ} (a : Announcement p) → 0 < p.stamp →
    HasEmittedAll p a.node a.parts number m store → Holds p m →
    Holds (committing (commit_in a) p) (stamped_store p store)
holds_emitted {p} {m} {store} a founded has holds = record {
  meta_numbers = same_space (restamped (stored_of p) (p.stamp + 1) (store meta) founded (omega arith)
      (subst (IsMeta p.stamp p.xids.ceiling p.numbers.ceiling p.node) (sym (has.own meta refl)) holds.meta_numbers))
      (λ key one. ap (λ own. meta_at (p.stamp + 1) p.xids.ceiling p.numbers.ceiling own key) (after_is a)
      ∙ meta_behind (p.stamp + 1) p.xids.ceiling p.numbers.ceiling p a.node a.parts key
      ∙ sym (ap (λ own. meta_at (p.stamp + 1) p.xids.ceiling p.numbers.ceiling own key) a.is));
  table_rows = subst (AreTables p.tables) (sym (has.own 2 refl)) holds.table_rows;
  rows_held = rows_stay (commit_in a) p (store 3) (fillings_stay a)
      (subst (AreRows (standing_rows p)) (sym (has.own 3 refl)) holds.rows_held);
  node_held = subst (λ own. HoldsNode own (stamped_store p store)) (sym (after_is a))
      (node_stays (Some (node_after a)) store _
      (λ space other. put_other meta stamp_key (number_bytes (p.stamp + 1)) store space refl other) has.held);
  bare = never_bare (p.stamp + 1) (omega arith);
}

-- ---- the memory

-- the memory of a node that emitted events, with the tables of its sets as they change them
abbrev pub with_event : ℕ → Members → Memory → Memory
with_event stamp members m = record m { stamp = stamp; members = members }

runs_emitted : {p : Place} {m : Memory} (a : Announcement p) (members : Members) → Runs p m →
    HasLearned (bodies_in a.parts) m.members members → LearnsAll p a.node a.parts →
    Runs (committing (commit_in a) p) (with_event (m.stamp + 1) members m)
runs_emitted {p} {m} a members runs learned learns = record {
  up = runs.up;
  stamp = ap (λ n. n + 1) runs.stamp;
  settled = runs.settled;
  founded = omega arith;
  xids = runs.xids;
  numbers = runs.numbers;
  opened = λ name. opens_same p (committing (commit_in a) p) (find_named name p.opens) (get m.opens name)
      (refl, refl, fillings_stay a) (runs.opened name);
  locked = runs.locked;
  begun = runs.begun;
  known = subst (λ own. IsKnown own m.identity members) (sym (after_is a)) (record {
    identity_is = runs.known.identity_is ∙ ap identity_of a.is ∙ sym (identity_behind p a.node a.parts);
    members_are = λ name. learned.members name
        ∙ ap (learned_member_all (bodies_in a.parts) name)
        (runs.known.members_are name ∙ ap (λ own. member_at own name) a.is)
        ∙ sym (members_behind p a.node a.parts learns name);
    names_are = λ name. learned.names name
        ∙ ap (learned_name_all (bodies_in a.parts) name) (runs.known.names_are name ∙ ap (is_named name) a.is)
        ∙ sym (names_behind p a.node a.parts learns name);
  });
  unpromised = runs.unpromised;
}

-- ---- what came of it

-- What is known where the commit stands.
pub record HasStood {p : Place} {b : Base} (at : UpAt p b) (a : Announcement p) (new : Base) : Type 0 where
  pub store : Store
  pub number : ℕ
  pub has : HasEmittedAll p a.node a.parts number at.ready.fits.held.0 store
  pub changed : IsChanged (stamped_store p store) b.kept new.kept
  pub members : Members
  pub learned : HasLearned (bodies_in a.parts) b.memory.members members
  pub memory : new.memory ≡ with_event (b.memory.stamp + 1) members b.memory

pub emission_stands : {p : Place} {b : Base} (at : UpAt p b) (a : Announcement p) (new : Base) → HasStood at a new →
    LearnsAll p a.node a.parts → Fits (committing (commit_in a) p) new
emission_stands {p} {b} at a new s learns =
    let runs = running at in
    let told = at.ready.fits.told in
    let later = s.changed.later in
    fits_running (committing (commit_in a) p) new (stamped_store p s.store) runs.0
    (subst (Runs (committing (commit_in a) p)) (sym s.memory) (runs_emitted a s.members runs.1 s.learned learns))
    (omega (arith, told, later)) s.changed.held
    (holds_emitted a runs.1.founded s.has at.ready.fits.held.2)

pub emission_wavers : {p : Place} {b : Base} {number : ℕ} (at : UpAt p b) (a : Announcement p) (store : Store)
    (new : Base) → HasEmittedAll p a.node a.parts number at.ready.fits.held.0 store →
    LeftInDoubt at.ready.fits.held.0 (stamped_store p store) b new →
    (stands : Bool) × Fits (in_doubt (commit_in a) stands p) new
emission_wavers {p} at a store new has left =
    node_wavers {new = new} at (commit_in a) store left (same_id (commit_in a).deeds p.node p.promised, refl)
    (holds_emitted a (running at).1.founded has at.ready.fits.held.2)

-- ---- what the code wrote

-- what it emits, as the code names it
abbrev pub emitter_in : {p : Place} {b : Base} → UpAt p b → Announcement p → Emitter
emitter_in {p} at a = record { place = p; node = a.node; parts = a.parts; held = at.ready.fits.held.0 }

-- the node stands in the store
pub held_node : {p : Place} {b : Base} (n : Node) (at : UpAt p b) → p.node ≡ Some n →
    HoldsNode (Some n) at.ready.fits.held.0
held_node n at is = subst (λ own. HoldsNode own at.ready.fits.held.0) is at.ready.fits.held.2.node_held

-- What the code is told of it: the id of the node, the snapshot, and the bodies.
pub record Said {p : Place} (a : Announcement p) (own : ℕ) (seen : Snapshot) (bodies : List Body) : Type 0 where
  pub own_is : own ≡ a.node.id
  pub seen_is : seen ≡ taken p
  pub bodies_are : bodies_in a.parts ≡ bodies
  pub some : 0 < length bodies
  pub learns : LearnsAll p a.node a.parts

-- it emits one event at least
some_parts : {p : Place} {a : Announcement p} {own : ℕ} {seen : Snapshot} {bodies : List Body} →
    Said a own seen bodies → 0 < length a.parts
some_parts {a = a} s =
    let some = s.some in
    let same = ap length s.bodies_are in
    let long = length-map a.parts (λ m. m.body) in
    omega (arith, some, same, long)

pub told_in : {p : Place} {b : Base} {own : ℕ} {seen : Snapshot} {bodies : List Body} (at : UpAt p b)
    (a : Announcement p) → Said a own seen bodies → IsTold own seen bodies (emitter_in at a)
told_in at a s = record {
  own_is = sym s.own_is;
  seen_is = s.seen_is;
  bodies_are = s.bodies_are;
  some = some_parts s;
  learns = s.learns;
  holds = held_node a.node at a.is;
}

-- the number that it answers is that of the last one
pub number_in : {p : Place} {own number : ℕ} {seen : Snapshot} {bodies : List Body} {m store : Store}
    (a : Announcement p) → Said a own seen bodies → HasEmittedAll p a.node a.parts number m store →
    Emitted own number ≡ (emitting (seat a.name p a.node) a.parts).answer
number_in {p} a s has = λ i.
    Emitted (s.own_is i)
    ((has.number_is ∙ sym (last_is p a.node (progress a.node.id (knowledge a.node) + 1) a.parts (some_parts s) refl)) i)

-- the id that is kept is that of the node
pub own_is : {p : Place} {b : Base} {own : ℕ} (n : Node) → UpAt p b → p.node ≡ Some n →
    option_map (λ i. i.id) b.memory.identity ≡ Some own → own ≡ n.id
own_is {p} {b} {own} n at is some =
    let known : option_map (λ i. i.id) b.memory.identity ≡ Some n.id =
    ap (option_map (λ i. i.id)) ((running at).1.known.identity_is ∙ ap identity_of is) in
    cc (some, known)

-- so it is told, where the id that is kept is this one
pub said_of : {p : Place} {b : Base} {own : ℕ} {seen : Snapshot} {bodies : List Body} (a : Announcement p) →
    UpAt p b → option_map (λ i. i.id) b.memory.identity ≡ Some own → seen ≡ taken p → bodies_in a.parts ≡ bodies →
    0 < length bodies → LearnsAll p a.node a.parts → Said a own seen bodies
said_of a at own seen bodies some learns = record
    { own_is = own_is a.node at a.is own; seen_is = seen; bodies_are = bodies; some = some; learns = learns }

-- What is pending behind the emission.
pub record IsWritten {p : Place} {b : Base} (at : UpAt p b) (a : Announcement p) (number : ℕ) (mid : Kept) : Type 0
  where
    pub store : Store
    pub pending : mid.pending ≡ Some (Some (stamped_store p store))
    pub has : HasEmittedAll p a.node a.parts number at.ready.fits.held.0 store

pub is_written : {p : Place} {b : Base} {number : ℕ} {mid : Kept} (at : UpAt p b) (a : Announcement p) →
    WritesEvents (emitter_in at a) (b.memory.stamp + 1) (Ok number) mid → IsWritten at a number mid
is_written {p} at a w = record {
  store = w.0;
  pending = w.1 ∙ ap (λ s. Some (Some (put_at meta stamp_key (number_bytes (s + 1)) w.0))) (running at).1.stamp;
  has = w.2;
}

-- what is held once it stands, or is in doubt
pub held_stood : {p : Place} {b : Base} {at : UpAt p b} {a : Announcement p} {number : ℕ} {mid : Kept}
    (w : IsWritten at a number mid) (held : Option Store) → mid.pending ≡ Some held →
    held ≡ Some (stamped_store p w.store)
held_stood w held is = let pending = w.pending in cc (is, pending)

pub either_held : {p : Place} {b : Base} {at : UpAt p b} {a : Announcement p} {number : ℕ} {mid : Kept}
    (w : IsWritten at a number mid) (new : Kept) → mid.held ≡ b.kept.held →
    (new.held ≡ mid.held) ⊎ (mid.pending ≡ Some new.held) →
    (new.held ≡ Some at.ready.fits.held.0) ⊎ (new.held ≡ Some (stamped_store p w.store))
either_held {at = at} w new same either =
    elim either [
      | inl before ↦ inl (before ∙ same ∙ at.ready.fits.held.1)
      | inr made ↦ inr (held_stood w new.held made)
    ]

-- ---- a number that would be too big

pub felled_fits : {p : Place} {b : Base} (at : UpAt p b) (new : Base) → WentDown b new → Fits (fallen p.told p) new
felled_fits {p} {b} at new went =
    let told = at.ready.fits.told in
    let later = went.looked.later in
    record {
      stands = subst (λ s. StandsAs (downed s) (fallen p.told p) new.memory) (sym (running at).0) (
        went.down.up,
        went.down.doubt ∙ (running at).1.settled,
        named_as p (fallen p.told p) b.memory new.memory (named_up p b.memory (running at).1) went.down.identity refl,
      );
      told = omega (arith, told, later);
      held = (
        at.ready.fits.held.0,
        went.looked.held ∙ at.ready.fits.held.1,
        holds_same p (fallen p.told p) at.ready.fits.held.0 refl at.ready.fits.held.2,
      );
    }

-- a stop before the commit: a number would be too big, or the store failed
pub emission_stops : {p : Place} {b : Base} (stamp : ℕ) (at : UpAt p b) (a : Announcement p) (stop : Stop)
    (fault : DbFault) (new : Base) →
    (is_last_stamp p ≡ false) × WritesEvents (emitter_in at a) stamp (Err stop) new.kept →
    Halts stop fault b new × (b.kept.faults ≤ new.kept.faults) × (is_memory (halt_in fault) ≡ false) →
    ActsAs (commit_in a) (emitting (seat a.name p a.node) a.parts).answer p (Err fault) new
emission_stops {p} stamp at a (TooBig space) fault new (last, stops) (h, later, memory) =
    Burst space (ap (λ f. Err f) h.fault_is)
    (emission_beyond a.name p a.node a.parts last stops.1 ∙ ap (λ n. Some n) (sym stops.0))
    (felled_fits at new (record { down = h.down; looked = record { held = h.held; later = later } }))
emission_stops stamp at a others fault new (last, stops) (h, later, memory) =
    Broke fault refl last (look_stops at h memory stops)

-- What is written and pending before the commit of events of which the tables of sets learn nothing.
pub record WroteEvent {p : Place} {b : Base} (at : UpAt p b) (a : Announcement p) (number : ℕ) (mid : Base) : Type 0
  where
    pub written : IsWritten at a number mid.kept
    pub plain : HasLearned (bodies_in a.parts) b.memory.members b.memory.members
    pub learns : LearnsAll p a.node a.parts
    pub way : Midway b.kept mid.kept
    pub memory : mid.memory ≡ b.memory
