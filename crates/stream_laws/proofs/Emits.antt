-- A node that emits an event holds as much as before, and that event.
use Rattle.std.proofs.Common.{◌≡◌, inl, ℕ, suc, Bool, true, false, cond, List, [], ◌∷◌, length, Option, Some, refl, sym}
use Rattle.std.proofs.Common.{ap, subst, ◌∙◌, arith, is_some}
use Rattle.std.specs.Prelude.{◌+◌}
use Rattle.std.specs.Str.{bytes_eq}
use Rattle.std.specs.List.{AllByRecursion}
use Rattle.std.proofs.lemmas.Bool.{false≢true, false_from_ne_true}
use Rattle.std.proofs.lemmas.List.{append_assoc}
use Rattle.node_rows.specs.declared.rows.NodeRow.{NodeRow}
use Rattle.node_rows.specs.declared.body.Body.{Body}
use Rattle.node_rows.specs.declared.body.Body.TheVariants.{StoreNode, DropNode, StoreSet, SetAddTable, SubscribeSet}
use Rattle.node_rows.specs.declared.body.Body.TheVariants.{DropSet, FailoverSet}
use Rattle.slon_model.specs.Maps.{Map, entry_at, with_entry, number_at}
use Rattle.slon_model.specs.Events.{Event, Taken}
use Rattle.slon_model.specs.Config.{Config, change_by, named_node, set_row, taken_over, handed}
use Rattle.slon_model.specs.Deeds.{Node, Deed, Emits, knowledge, with_deeds, stream, met, progress}
use Rattle.slon_model.specs.Place.{deed, taken}
use Rattle.slon_model.specs.Sessions.{Seat, Emission, emissions}
use Rattle.slon_model.proofs.Names.{bytes_itself}
use Rattle.stream_laws.specs.Nodes.{Nodes, IsKnown}
use Rattle.stream_laws.specs.Making.{Mark, tells_of, IsMade, is_emitted, MayFollow}
use Rattle.stream_laws.specs.Applied.{applied_events}
use Rattle.stream_laws.specs.Facts.{Facts, AreRegular}
use Rattle.stream_laws.proofs.Lists.{number_here, there_with}
use Rattle.stream_laws.proofs.Growing.{Extends, Grow, GoOn, marked_grown, told_grown, events_grown, facts_grown}
use Rattle.stream_laws.proofs.Growing.{go_further, go_same, placed, turning, staying}
use Rattle.stream_laws.proofs.Streams.{applied_beside, own_told}
use Rattle.stream_laws.proofs.Marks.{IsNext, with_event, further, first_with, meets}

-- ---- an id that is known stays known

known_taken : (id backup : ℕ) (sets : List Taken) (c : Config) → IsKnown id c → IsKnown id (taken_over backup sets c)
known_taken id backup [] c is = is
known_taken id backup (s ∷ more) c is =
    elim (is_some (set_row s.0 c)) as (λ b. IsKnown id (cond b
    (handed s.0 backup s.1.0 s.1.1 (taken_over backup more c)) (taken_over backup more c))) [
      | true ↦ known_taken id backup more c is
      | false ↦ known_taken id backup more c is
    ]

known_named : (id node : ℕ) (nodes : Map NodeRow) → is_some (entry_at id nodes) ≡ true →
    is_some (entry_at id (named_node node nodes)) ≡ true
known_named id node nodes is =
    elim (is_some (entry_at node nodes)) as (λ b. is_some (entry_at id (cond b nodes
    (with_entry node (record { live = true; comment = [] }) nodes))) ≡ true) [
      | true ↦ is
      | false ↦ there_with id node _ nodes is
    ]

pub known_changed : (id origin number : ℕ) (body : Body) (c : Config) → IsKnown id c →
    IsKnown id (change_by origin number body c)
known_changed id origin number (StoreNode node comment) c is = there_with id node _ c.nodes is
known_changed id origin number (DropNode node) c is = there_with id node _ c.nodes is
known_changed id origin number (SubscribeSet set provider receiver forward) c is =
    known_named id receiver c.nodes is
known_changed id origin number (FailoverSet failed limit sets) c is = known_taken id origin sets c is
known_changed id origin number others c is = is

-- ---- one event

-- What a node of these may emit, as nobody has made known what it makes known.
pub record MayEmit (nodes : Nodes) (n : Node) (body : Body) : Type 0 where
  pub may : MayFollow n.id (stream n) body
  pub unmade : (mark : Mark) → tells_of body mark ≡ true → IsMade nodes mark → ⊥

-- A node of these that emits an event, the next one of its own.
pub record Emitting (nodes : Nodes) : Type 0 where
  pub name : List ℕ
  pub node : Node
  pub is : nodes name ≡ Some node
  pub deed : Deed
  pub event : Event
  pub own : event.origin ≡ node.id
  pub next : IsNext (knowledge node).progress event
  pub may : MayEmit nodes node event.body

abbrev pub behind : {nodes : Nodes} → Emitting nodes → Node
behind m = with_deeds (record m.deed { doing = Emits m.event } ∷ []) m.node

emitted_extends : {nodes : Nodes} (m : Emitting nodes) → Extends m.node (behind m)
emitted_extends m = record {
  id = refl;
  further = further m.event (knowledge m.node).progress m.next;
  knows = λ id. known_changed id m.event.origin m.event.number m.event.body (knowledge m.node).config;
  more = m.event ∷ [];
  all = refl;
}

emitted_facts : {old : Nodes} (m : Emitting old) → AreRegular old → (new : Nodes) → Grow old new →
    new m.name ≡ Some (behind m) → Facts new (behind m)
emitted_facts {old} m regular new grow is = record {
  knows = known_changed m.node.id m.event.origin m.event.number m.event.body (knowledge m.node).config f.knows;
  emitted = (m.own, number, m.may.may, f.emitted);
  whole = ap (λ k. number_at k (with_event m.event reached)) (sym m.own) ∙ here ∙ number;
  low = λ origin. omega (arith, f.low origin, further m.event reached m.next origin);
  first = first_with m.event reached m.next f.first;
  marked = meets new (knowledge m.node).config reached m.event (record {
    name = m.name;
    node = behind m;
    is = is;
    own = sym m.own;
    later = [];
    earlier = stream m.node;
    all = refl;
    far = number;
    may = subst (λ id. MayFollow id (stream m.node) m.event.body) (sym m.own) m.may.may;
    next = m.next;
    told = own_told old regular m.name m.node m.is;
    new = λ mark makes. false_from_ne_true _ (λ has. m.may.unmade mark makes (f.marked.met mark has).made);
  }) (marked_grown grow (knowledge m.node).config reached f.marked);
  applied =
      applied_beside m.event m.node.id m.node.given.progress reached (applied_events m.node) m.own f.applied;
  told = told_grown grow (knowledge m.node).told f.told;
  met = (
    record { name = m.name; node = behind m; is = is; own = sym m.own; among = inl refl },
    events_grown grow (met m.node) f.met,
  );
}
  where
    f : Facts old m.node
    f = regular.each m.name m.node m.is

    reached : Map ℕ
    reached = (knowledge m.node).progress

    here : number_at m.event.origin (with_event m.event reached) ≡ m.event.number
    here = number_here m.event.origin m.event.number reached

    number : m.event.number ≡ suc (length (stream m.node))
    number = m.next ∙ ap suc (ap (λ k. number_at k reached) m.own ∙ f.whole)

pub emitted_on : (old : Nodes) (m : Emitting old) → AreRegular old → GoOn old (placed m.name (Some (behind m)) old)
emitted_on old m regular =
    turning m.name m.node (behind m) old regular (record {
      is = m.is;
      fresh = Some m.event;
      emits = refl;
      unmade = m.may.unmade;
      extends = emitted_extends m;
      facts = emitted_facts m regular;
    })

-- ---- several events, one after the other

-- The node of a seat as it is by now, and the number of its next event.
pub record Ready (nodes : Nodes) (s : Seat) (number : ℕ) : Type 0 where
  pub node : Node
  pub is : nodes s.name ≡ Some node
  pub own : node.id ≡ s.node.id
  pub next : number ≡ suc (progress s.node.id (knowledge node))

abbrev event_of : Seat → ℕ → Emission → Event
event_of s number m = record { origin = s.node.id; number = number; taken = taken s.place; body = m.body }

abbrev emitting_of : {nodes : Nodes} {s : Seat} {number : ℕ} → (r : Ready nodes s number) → (m : Emission) →
    MayEmit nodes r.node m.body → Emitting nodes
emitting_of {s = s} {number = number} r m may = record {
  name = s.name;
  node = r.node;
  is = r.is;
  deed = deed s.place m.rows [] (Emits (event_of s number m));
  event = event_of s number m;
  own = sym r.own;
  next = r.next;
  may = may;
}

-- a body of a kind that each node may emit at any time
abbrev pub is_free : Body → Bool
is_free (StoreSet set origin comment) = false
is_free (SetAddTable set table name comment) = false
is_free (DropSet set) = false
is_free others = is_emitted others

abbrev pub AreFree : List Emission → Type 0
AreFree ms = AllByRecursion (λ m. is_free m.body ≡ true) ms

free_may : (nodes : Nodes) (n : Node) (body : Body) → is_free body ≡ true → MayEmit nodes n body
free_may nodes n (StoreSet set origin comment) free = absurd (false≢true free)
free_may nodes n (SetAddTable set table name comment) free = absurd (false≢true free)
free_may nodes n (DropSet set) free = absurd (false≢true free)
free_may nodes n others free = record { may = free; unmade = λ mark makes made. absurd (false≢true makes) }

-- the first of these may be emitted, and those behind it make nothing known for good
abbrev pub AreAllowed : Nodes → Node → List Emission → Type 0
AreAllowed nodes n [] = Unit {0}
AreAllowed nodes n (m ∷ ms) = MayEmit nodes n m.body × AreFree ms

pub free_allowed : (nodes : Nodes) (n : Node) (ms : List Emission) → AreFree ms → AreAllowed nodes n ms
free_allowed nodes n [] free = tt
free_allowed nodes n (m ∷ ms) free = (free_may nodes n m.body free.0, free.1)

-- what is placed last counts
pub placed_last : (name : List ℕ) (o first : Option Node) (nodes : Nodes) (k : List ℕ) →
    placed name o nodes k ≡ placed name o (placed name first nodes) k
placed_last name o first nodes k = by (bytes_eq k name)
  where
    by : (b : Bool) → cond b o (nodes k) ≡ cond b o (cond b first (nodes k))
    by true = refl
    by false = refl

pub placed_here : (name : List ℕ) (o : Option Node) (nodes : Nodes) → placed name o nodes name ≡ o
placed_here name o nodes = ap (λ b. cond b o (nodes name)) (bytes_itself name)

pub emissions_on : (s : Seat) (ms : List Emission) (number : ℕ) (nodes : Nodes) (r : Ready nodes s number) →
    AreAllowed nodes r.node ms → AreRegular nodes →
    GoOn nodes (placed s.name (Some (with_deeds (emissions s number ms) r.node)) nodes)
emissions_on s [] number nodes r allowed regular =
    staying s.name r.node r.node nodes regular (record {
      is = r.is;
      quiet = refl;
      id = refl;
      further = λ origin. omega arith;
      knows = λ id is. is;
      facts = λ new grow is. facts_grown grow r.node (regular.each s.name r.node r.is);
    })
emissions_on s (m ∷ ms) number nodes r allowed regular =
    go_same (λ k. ap (λ o. placed s.name o nodes k) (sym joined) ∙ placed_last s.name _ (Some first) nodes k)
    (go_further one (emissions_on s ms (number + 1) (placed s.name (Some first) nodes) ready
    (free_allowed _ first ms allowed.1) one.regular))
  where
    first : Node
    first = behind (emitting_of r m allowed.0)

    one : GoOn nodes (placed s.name (Some first) nodes)
    one = emitted_on nodes (emitting_of r m allowed.0) regular

    ready : Ready (placed s.name (Some first) nodes) s (number + 1)
    ready = record {
      node = first;
      is = placed_here s.name (Some first) nodes;
      own = r.own;
      next = let here = number_here s.node.id number (knowledge r.node).progress in omega (arith, here);
    }

    joined : Some (with_deeds (emissions s (number + 1) ms) first)
        ≡ Some (with_deeds (emissions s number (m ∷ ms)) r.node)
    joined = ap (λ ds. Some (record r.node { deeds = ds }))
        (sym (append_assoc (emissions s (number + 1) ms)
        (deed s.place m.rows [] (Emits (event_of s number m)) ∷ []) r.node.deeds))
