-- A loop that emits events one after the other: what stands in the store after some of them.
use Rattle.std.proofs.Common.{◌≡◌, ℕ, ◌+◌, ◌<◌, ◌≤◌, ◌^◌, true, List, [], ◌∷◌, length, Some, Result, Err}
use Rattle.std.proofs.Common.{refl, sym, ap, subst, ◌∙◌, arith}
use Rattle.std.specs.Prelude.{◌||◌}
use Rattle.std.proofs.lemmas.Bool.{le-leb, lt-leb}
use Rattle.slon_base.specs.Keeper.{Store, Kept}
use Rattle.store_rows.specs.declared.stop.Stop.{Stop}
use Rattle.store_rows.specs.declared.stop.Stop.TheVariants.{TooBig}
use Rattle.slon_model.specs.Deeds.{Node, Emits, knowledge, progress}
use Rattle.slon_model.specs.Events.{Event}
use Rattle.slon_model.specs.Place.{taken as taken_at}
use Rattle.slon_model.specs.Sessions.{Emission}
use Rattle.slon_model.specs.Snapshots.{Snapshot}
use Rattle.node_rows.specs.declared.body.Body.{Body}
use Rattle.node_state.specs.Held.{HoldsNode, is_own}
use Rattle.node_state.specs.Known.{IsHomed}
use Rattle.node_change.specs.Announced.{Announces}
use Rattle.node_change.specs.Done.{HasEmitted}
use Rattle.node_store.specs.Acting.{Emitter, IsTold, EmitsEach, HasEmittedAll, LearnsAll, behind, are_late}
use Rattle.node_store.specs.Acting.{bodies_in, next_event, emitting_deed}
use Rattle.node_store.proofs.Several.{one_behind, next_is}

-- What stands when these bodies are left: the node by then, the events that are left for it, and that all makes of it
-- what they make of the first one. The number is that of the last event, once there was one.
pub record IsLeft (e : Emitter) (bodies : List Body) (last : ℕ) (store : Store) : Type 0 where
  pub node : Node
  pub parts : List Emission
  pub same : node.id ≡ e.node.id
  pub bodies_are : bodies_in parts ≡ bodies
  pub held : HoldsNode (Some node) store
  pub learns : LearnsAll e.place node parts
  pub own : (space : ℕ) → is_own space ≡ true → store space ≡ e.held space
  pub behind_is : behind e.place node parts ≡ behind e.place e.node e.parts
  pub late_is : are_late e.place node parts ≡ are_late e.place e.node e.parts
  pub number_is : length parts < length e.parts → last ≡ progress node.id (knowledge node)

pub all_left : {own : ℕ} {seen : Snapshot} {bodies : List Body} (e : Emitter) (last : ℕ) → IsTold own seen bodies e →
    IsLeft e bodies last e.held
all_left e last told = record {
  node = e.node;
  parts = e.parts;
  same = refl;
  bodies_are = told.bodies_are;
  held = told.holds;
  learns = told.learns;
  own = λ space own. refl;
  behind_is = refl;
  late_is = refl;
  number_is = λ less. absurd (omega (arith, less));
}

-- nothing is left
pub none_left : {own : ℕ} {seen : Snapshot} {bodies : List Body} (e : Emitter) (last : ℕ) (store : Store) →
    IsTold own seen bodies e → IsLeft e [] last store → HasEmittedAll e.place e.node e.parts last e.held store
none_left e last store told left = by left.parts left.bodies_are left.behind_is left.late_is left.number_is
  where
    by : (parts : List Emission) → bodies_in parts ≡ [] → behind e.place left.node parts
        ≡ behind e.place e.node e.parts → are_late e.place left.node parts ≡ are_late e.place e.node e.parts →
        (length parts < length e.parts → last ≡ progress left.node.id (knowledge left.node)) →
        HasEmittedAll e.place e.node e.parts last e.held store
    by [] none behind_is late_is number_is = record {
      held = subst (λ n. HoldsNode (Some n) store) behind_is left.held;
      own = left.own;
      small = sym late_is;
      number_is = number_is told.some ∙ ap (λ id. progress id (knowledge left.node)) left.same
          ∙ ap (λ n. progress e.node.id (knowledge n)) behind_is;
    }
    by (m ∷ ms) none behind_is late_is number_is = absurd cc

-- ---- one more event

-- What is known as an event is emitted: the node has the id, and the place the snapshot.
pub record Spoken (e : Emitter) (own : ℕ) (seen : Snapshot) (body : Body) (more : List Body) : Type 0 where
  pub last : ℕ
  pub store : Store
  pub own_is : e.node.id ≡ own
  pub seen_is : seen ≡ taken_at e.place
  pub left : IsLeft e (body ∷ more) last store

-- the event by its number
abbrev pub event_for : ℕ → Snapshot → Body → ℕ → Event
event_for own seen body number = record { origin = own; number = number; taken = seen; body = body }

-- a table that it puts into a set is put into one that is known
pub homed_left : {e : Emitter} {own : ℕ} {seen : Snapshot} {body : Body} {more : List Body} →
    (s : Spoken e own seen body more) → IsHomed body (knowledge s.left.node).config
homed_left {e} {body = body} {more} s = by s.left.parts s.left.bodies_are s.left.learns
  where
    by : (parts : List Emission) → bodies_in parts ≡ body ∷ more → LearnsAll e.place s.left.node parts →
        IsHomed body (knowledge s.left.node).config
    by [] bodies learns = absurd cc
    by (m ∷ ms) bodies learns =
        let first : m.body ≡ body = cc in
        subst (λ b. IsHomed b (knowledge s.left.node).config) first learns.0.home

-- what is left behind it
pub one_left : {e : Emitter} {own : ℕ} {seen : Snapshot} {body : Body} {more : List Body}
    (s : Spoken e own seen body more) (number : ℕ) (new : Store) →
    (number ≡ progress s.left.node.id (knowledge s.left.node) + 1) × (number < 2 ^ 63) →
    HasEmitted s.left.node (event_for own seen body number) s.store new → IsLeft e more number new
one_left {e} {own} {seen} {body} {more} s number new (is, small) has =
    by s.left.parts s.left.bodies_are s.left.learns s.left.behind_is s.left.late_is s.left.number_is
  where
    node : Node
    node = s.left.node

    by : (parts : List Emission) → bodies_in parts ≡ body ∷ more → LearnsAll e.place node parts →
        behind e.place node parts ≡ behind e.place e.node e.parts →
        are_late e.place node parts ≡ are_late e.place e.node e.parts →
        (length parts < length e.parts → s.last ≡ progress node.id (knowledge node)) → IsLeft e more number new
    by [] bodies learns behind_is late_is number_is = absurd cc
    by (m ∷ ms) bodies learns behind_is late_is number_is =
        let first : m.body ≡ body = cc in
        let rest : bodies_in ms ≡ more = cc in
        let same : Emits (event_for own seen body number) ≡ Emits (next_event e.place node m.body) =
        λ i. Emits (record {
          origin = (sym s.own_is ∙ sym s.left.same) i;
          number = is i;
          taken = s.seen_is i;
          body = sym first i;
        }) in record {
          node = one_behind e.place node m;
          parts = ms;
          same = s.left.same;
          bodies_are = rest;
          held = has.held (emitting_deed e.place node m) (sym same) refl;
          learns = learns.1;
          own = λ space one. has.own space one ∙ s.left.own space one;
          behind_is = behind_is;
          late_is = ap (λ b. b || are_late e.place (one_behind e.place node m) ms)
              (sym (lt-leb (2 ^ 63) (progress node.id (knowledge node) + 1) (omega (arith, is, small)))) ∙ late_is;
          number_is = λ less. is ∙ sym (next_is e.place node m);
        }

-- its number is above the limit
pub late_left : {e : Emitter} {own : ℕ} {seen : Snapshot} {body : Body} {more : List Body}
    (s : Spoken e own seen body more) → 2 ^ 63 ≤ progress s.left.node.id (knowledge s.left.node) + 1 →
    are_late e.place e.node e.parts ≡ true
late_left {e} {body = body} {more} s most = by s.left.parts s.left.bodies_are s.left.late_is
  where
    node : Node
    node = s.left.node

    by : (parts : List Emission) → bodies_in parts ≡ body ∷ more →
        are_late e.place node parts ≡ are_late e.place e.node e.parts → are_late e.place e.node e.parts ≡ true
    by [] bodies late_is = absurd cc
    by (m ∷ ms) bodies late_is =
        sym late_is ∙ ap (λ b. b || are_late e.place (one_behind e.place node m) ms)
        (le-leb (2 ^ 63) (progress node.id (knowledge node) + 1) most)

-- ---- what the code tells of it

-- a stop of one event is one of all
pub event_stops : {e : Emitter} {own : ℕ} {seen : Snapshot} {body : Body} {more : List Body} (old new : Kept)
    (s : Spoken e own seen body more) (stop : Stop) →
    Announces s.left.node s.store (event_for own seen body) old new (Err stop) → EmitsEach e (Err stop) new
event_stops old new s (TooBig space) is = (is.0, late_left s is.1)
event_stops old new s others is = is

-- a stop that is handed on
pub hands_each : {stop : Stop} (e : Emitter) (k : Kept) (result : Result ℕ Stop) →
    (y : Stop) × (result ≡ Err y) × (y ≡ stop) → EmitsEach e (Err stop) k → EmitsEach e result k
hands_each e k result (y, is, same) stops =
    subst (λ r. EmitsEach e r k) (sym (is ∙ ap (λ s. Err s) same)) stops
