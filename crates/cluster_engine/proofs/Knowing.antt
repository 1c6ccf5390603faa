-- What nodes know of the transactions of others is so, and stays so.
use Rattle.std.proofs.Common.{◌≡◌, ◌∙◌, ◌<◌, ℕ, suc, Bool, true, false, cond, inl, inr, List, [], ◌∷◌, Option, Some}
use Rattle.std.proofs.Common.{None, refl, sym, ap, subst, arith}
use Rattle.std.specs.Prelude.{◌+◌, ◌⊎◌}
use Rattle.std.specs.FinMap.{empty, get, get-empty, remove}
use Rattle.std.specs.List.{AllByRecursion}
use Rattle.std.specs.Str.{bytes_eq}
use Rattle.slon_base.specs.Keeper.{key_cmp}
use Rattle.slon_model.specs.Deeds.{Logged, Node}
use Rattle.slon_model.specs.Logs.{logged}
use Rattle.slon_model.specs.Names.{Named, find_named}
use Rattle.slon_model.specs.Place.{Place}
use Rattle.slon_model.specs.Polls.{line_of, queue_at}
use Rattle.slon_model.specs.Sessions.{World}
use Rattle.slon_model.specs.World.{Happening, Step}
use Rattle.slon_model.proofs.Names.{all_map, one_found}
use Rattle.slon_laws.specs.Lists.{IsAmong}
use Rattle.slon_laws.specs.Older.{IsOlder}
use Rattle.slon_laws.specs.Spelled.{logs_in}
use Rattle.slon_laws.proofs.Lists.{all_among, among_all}
use Rattle.stream_laws.specs.Nodes.{IsEvent, node_in, nodes_in}
use Rattle.stream_laws.specs.Facts.{IsRegular, WaitsIn}
use Rattle.stream_laws.proofs.Copies.{HasReached, provided_ok}
use Rattle.stream_laws.proofs.Lists.{found_all}
use Rattle.stream_laws.proofs.Seats.{OnOk}
use Rattle.stream_laws.proofs.Waiting.{waiting_in}
use Rattle.image_laws.proofs.Older.{older_stay}
use Rattle.view_laws.specs.Past.{Past, past}
use Rattle.view_laws.proofs.Divided.{events_divide}
use Rattle.view_laws.proofs.Moments.{now_stays}
use Rattle.view_laws.proofs.Owned.{owned_now}
use Rattle.net_relation.proofs.Origins.{logs_have_origins}
use Rattle.slon_turns.specs.declared.bounds.Bound.{Bound}
use Rattle.slon_turns.specs.Bounds.{AreLearned, IsBound, IsLearned}
use Rattle.slon_turns.specs.Holding.{HoldBounds, Holdings, bounds_in}
use Rattle.slon_turns.proofs.Waiting.{found_in}
use Rattle.cluster_engine.specs.Agreed.{AllKnown, Clustered, Follows, IsKnown}

-- the history that led to a session
abbrev pub past_of : {w : World} {c : Clustered} → Follows w c → Past
past_of {w} follows = past follows.most follows.history w follows.leads

-- ---- what is logged

-- What was logged is an action of the database of its origin.
record HasSource (w : World) (l : Logged) : Type 0 where
  name : List ℕ
  place : Place
  found : find_named name w.places ≡ Some place
  node : Node
  is : place.node ≡ Some node
  own : node.id ≡ l.origin
  among : IsAmong l.action place.actions

-- the database that is a node
placed : (ps : Named Place) (name : List ℕ) (n : Node) → nodes_in ps name ≡ Some n →
    (p : Place) × (find_named name ps ≡ Some p) × (p.node ≡ Some n)
placed ps name n is = by (find_named name ps) refl is
  where
    by : (o : Option Place) → find_named name ps ≡ o → node_in o ≡ Some n →
        (p : Place) × (find_named name ps ≡ Some p) × (p.node ≡ Some n)
    by None found none = absurd cc
    by (Some p) found at = (p, found, at)

sourced : (t : Past) (name : List ℕ) (n : Node) → nodes_in t.world.places name ≡ Some n → (l : Logged) →
    IsAmong l (logged n) → HasSource t.world l
sourced t name n is l among =
    let o = logs_have_origins t.limit t.history t.world t.leads name n is l among in
    let at = placed t.world.places o.name o.node o.is in
    record {
      name = o.name;
      place = at.0;
      found = at.1;
      node = o.node;
      is = at.2;
      own = o.own;
      among = all_among (λ l. l.origin ≡ o.node.id → IsAmong l.action at.0.actions) l (logged o.node)
          (owned_now t o.name at.0 o.node at.1 at.2) o.among (sym o.own);
    }

-- of whatever node
logged_source : (t : Past) (name : List ℕ) (p : Place) → find_named name t.world.places ≡ Some p → (l : Logged) →
    IsAmong l (logs_in p.node) → HasSource t.world l
logged_source t name p found l among = by p.node refl among
  where
    by : (o : Option Node) → p.node ≡ o → IsAmong l (logs_in o) → HasSource t.world l
    by None none here = absurd here
    by (Some n) is here = sourced t name n (ap node_in found ∙ is) l here

-- ---- what is known

-- A database of a session that is a node.
record NodeIn (w : World) : Type 0 where
  name : List ℕ
  place : Place
  node : Node
  found : find_named name w.places ≡ Some place
  is : place.node ≡ Some node

-- two of them are one, if they are the same node
same_place : (w : World) → IsRegular w → (a b : NodeIn w) → a.node.id ≡ b.node.id → a.place ≡ b.place
same_place w regular a b same =
    one_found a.place b.place (sym a.found
    ∙ ap (λ name. find_named name w.places)
    (regular.nodes.apart a.name b.name a.node b.node (ap node_in a.found ∙ a.is) (ap node_in b.found ∙ b.is) same)
    ∙ b.found)

-- so it is of whatever is logged of the origin
bound_known : (t : Past) → IsRegular t.world → (b : Bound) → IsKnown t.world b → IsBound t.world b
bound_known t regular b k name p found =
    among_all (λ l. l.origin ≡ b.origin → l.action.number < b.number → l.action.xid < b.xid) (logs_in p.node)
    (λ l among from below.
    let s = logged_source t name p found l among in
    let same = same_place t.world regular
    (record { name = s.name; place = s.place; node = s.node; found = s.found; is = s.is })
    (record { name = k.name; place = k.place; node = k.node; found = k.found; is = k.is })
    (s.own ∙ from ∙ sym k.own) in
    all_among (λ a. a.number < b.number → a.xid < b.xid) l.action k.place.actions k.older.older
    (subst (λ (q : Place). IsAmong l.action q.actions) same s.among) below)

pub hold_bounds : (t : Past) → IsRegular t.world → (held : Holdings) → AllKnown t.world held →
    HoldBounds t.world held
hold_bounds t regular held known name =
    all_map (IsKnown t.world) (IsBound t.world) (λ b is. bound_known t regular b is)
    (bounds_in (get held name)) (known name)

-- ---- what is learned

-- an event that comes next for a node is one of the stream of its origin
next_event : (w : World) → IsRegular w → (origin : ℕ) (b : Bound) → (x : IsLearned w origin b) →
    IsEvent (nodes_in w.places) x.event
next_event w regular origin b x =
    (found_all (WaitsIn (nodes_in w.places) x.seat.name origin) _ (line_of origin (queue_at x.seat.name w.memory))
    x.event (waiting_in (nodes_in w.places) x.seat.name origin w.memory regular.waits) x.next).0.0.event

learned_known : (t : Past) → IsRegular t.world → (origin : ℕ) (b : Bound) → IsLearned t.world origin b →
    IsKnown t.world b
learned_known t regular origin b x = subst (IsKnown t.world) (sym x.is) (record {
  name = s.name;
  place = s.place;
  found = s.found;
  node = s.node;
  is = s.is;
  own = own;
  older = subst (λ n. IsOlder n x.event.taken.xmax s.place) numbers
      (events_divide t.limit t.history t.world t.leads x.event e s.place found entry.action s.among x.taken.seen);
})
  where
    entry : Logged
    entry = x.taken.entry

    e : IsEvent (nodes_in t.world.places) x.event
    e = next_event t.world regular origin b x

    reached : HasReached t.world x.event x.taken.provider x.seat x.taken.from
    reached = subst (OnOk (HasReached t.world x.event x.taken.provider x.seat)) x.taken.is
        (provided_ok x.taken.provider t.world x.seat x.event regular)

    s : HasSource t.world entry
    s = sourced t x.taken.from.name x.taken.from.node
        (ap node_in reached.0.0.0.found ∙ reached.0.0.0.node) entry x.taken.among

    own : s.node.id ≡ x.event.origin
    own = s.own ∙ x.taken.own

    found : find_named e.name t.world.places ≡ Some s.place
    found = ap (λ name. find_named name t.world.places)
        (regular.nodes.apart e.name s.name e.node s.node e.is (ap node_in s.found ∙ s.is) (e.own ∙ sym own))
        ∙ s.found

    numbers : suc entry.action.number ≡ x.number + 1
    numbers = let same = x.taken.number_is in omega (arith, same)

pub learn_known : (t : Past) → IsRegular t.world → (origin : ℕ) (old new : List Bound) →
    AreLearned t.world origin old new → AllByRecursion (IsKnown t.world) old → AllByRecursion (IsKnown t.world) new
learn_known t regular origin old new learns known =
    all_map (λ b. IsAmong b old ⊎ IsLearned t.world origin b) (IsKnown t.world) (λ b has. by b has) new learns
  where
    by : (b : Bound) → IsAmong b old ⊎ IsLearned t.world origin b → IsKnown t.world b
    by b (inl among) = all_among (IsKnown t.world) b old known among
    by b (inr x) = learned_known t regular origin b x

-- ---- what stays

-- a step of the session leaves it so
bound_stays : (t : Past) (v : World) (h : Happening) → Step t.world h v → (b : Bound) → IsKnown t.world b → IsKnown v b
bound_stays t v h step b k =
    let later = now_stays (past t.limit (h ∷ t.history) v (t.world, t.leads, step)) t.world (inr (inl refl)) k.name
    k.place k.node k.found k.is in
    record {
      name = k.name;
      place = later.0;
      found = later.1;
      node = later.2.node;
      is = later.2.is;
      own = later.2.id ∙ k.own;
      older = older_stay t.limit t.history (h ∷ []) t.world v t.leads (t.world, refl, step) k.name k.place later.0
          k.found later.1 b.number b.xid k.older;
    }

pub known_stay : (t : Past) (v : World) (h : Happening) → Step t.world h v → (held : Holdings) →
    AllKnown t.world held → AllKnown v held
known_stay t v h step held known name =
    all_map (IsKnown t.world) (IsKnown v) (λ b is. bound_stays t v h step b is)
    (bounds_in (get held name)) (known name)

-- nor does a database that is made change it
pub known_behind : (w v : World) → ((name : List ℕ) (p : Place) → find_named name w.places ≡ Some p →
    find_named name v.places ≡ Some p) → (held : Holdings) → AllKnown w held → AllKnown v held
known_behind w v stays held known name =
    all_map (IsKnown w) (IsKnown v) (λ b k. record {
      name = k.name;
      place = k.place;
      found = stays k.name k.place k.found;
      node = k.node;
      is = k.is;
      own = k.own;
      older = k.older;
    }) (bounds_in (get held name)) (known name)

-- ---- what is forgotten

pub known_removed : (w : World) (name : List ℕ) (held : Holdings) → AllKnown w held → AllKnown w (remove held name)
known_removed w name held known other =
    subst (λ o. AllByRecursion (IsKnown w) (bounds_in o)) (sym (found_in other name held)) (by (bytes_eq other name))
  where
    by : (b : Bool) → AllByRecursion (IsKnown w) (bounds_in (cond b None (get held other)))
    by true = tt
    by false = known other

pub known_recalled : (w : World) (name : List ℕ) (held : Holdings) (risen : Bool) → AllKnown w held →
    AllKnown w (cond risen (remove held name) held)
known_recalled w name held true known = known_removed w name held known
known_recalled w name held false known = known

-- at first nothing is known
pub none_known : (w : World) (held : Holdings) → held ≡ empty → AllKnown w held
none_known w held is name =
    subst (λ o. AllByRecursion (IsKnown w) (bounds_in o))
    (sym (ap (λ (m : Holdings). get m name) is ∙ get-empty key_cmp name)) tt
