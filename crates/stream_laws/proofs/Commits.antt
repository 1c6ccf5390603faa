-- The commits of a step, one after the other: behind each of them the nodes of the session went on.
use Rattle.std.proofs.Common.{◌≡◌, ◌⊎◌, inl, inr, ℕ, zero, suc, Bool, true, false, cond, List, [], ◌∷◌, Option, Some}
use Rattle.std.proofs.Common.{None, refl, sym, ap, subst, ◌∙◌, is_some, arith}
use Rattle.std.specs.Prelude.{◌&&◌, take, drop, option_map}
use Rattle.std.specs.List.{AllByRecursion}
use Rattle.std.specs.Str.{bytes_eq}
use Rattle.std.proofs.lemmas.Bool.{false≢true, false_from_ne_true}
use Rattle.slon_model.specs.Names.{Named, find_named, put_named}
use Rattle.slon_model.specs.Maps.{entry_at}
use Rattle.node_rows.specs.declared.body.Body.TheVariants.{StoreNode}
use Rattle.slon_model.specs.Deeds.{Node, Deed, Applies, Hears, knowledge, with_deeds, progress}
use Rattle.slon_model.specs.Place.{Place, deed, fallen}
use Rattle.slon_model.specs.Sessions.{World, Running, Commit, Seat, Emission, committing, in_doubt, stood_at, stood}
use Rattle.slon_model.specs.Sessions.{tells, emissions, next_event, felled, felled_at}
use Rattle.slon_model.specs.Membership.{becoming, first_of_cluster, joining, stored_by}
use Rattle.slon_model.specs.Reaching.{commit_of}
use Rattle.slon_model.specs.Polls.{hearing}
use Rattle.slon_model.specs.Working.{Carried, applied_by}
use Rattle.slon_model.specs.World.{broken_at, wavering, wavering_at}
use Rattle.slon_model.proofs.Names.{find-put, put_other, bytes_same}
use Rattle.stream_laws.specs.Nodes.{Nodes, nodes_in, node_in, IsEvent, HasConfirmed}
use Rattle.stream_laws.specs.Facts.{AreRegular}
use Rattle.stream_laws.proofs.Lists.{there_here}
use Rattle.stream_laws.proofs.Growing.{GoOn, placed, go_nowhere, go_further, go_same, found_where}
use Rattle.stream_laws.proofs.Emits.{Ready, AreAllowed, free_allowed, emissions_on, placed_here}
use Rattle.stream_laws.proofs.Marks.{IsNext}
use Rattle.stream_laws.proofs.Applies.{Applying, applied_on}
use Rattle.stream_laws.proofs.Hears.{heard_on}
use Rattle.stream_laws.proofs.Joins.{IsFree, joined_on, first_on}
use Rattle.stream_laws.proofs.Seats.{IsSeat, IsFound, seat_node}

-- ---- one database

-- the nodes of a session where one database changed
pub nodes_put : (name : List ℕ) (p q : Place) (ps : Named Place) → find_named name ps ≡ Some p → (k : List ℕ) →
    nodes_in (put_named name q ps) k ≡ placed name q.node (nodes_in ps) k
nodes_put name p q ps found k =
    ap node_in (find-put k name q ps)
    ∙ ap (λ o. node_in (cond (bytes_eq k name && is_some o) (Some q) (find_named k ps))) found ∙ by (bytes_eq k name)
  where
    by : (b : Bool) → node_in (cond (b && true) (Some q) (find_named k ps)) ≡ cond b q.node (nodes_in ps k)
    by true = refl
    by false = refl

-- a node that stays in its place
placed_same : (name : List ℕ) (o : Option Node) (nodes : Nodes) → nodes name ≡ o → (k : List ℕ) →
    placed name o nodes k ≡ nodes k
placed_same name o nodes is k = by (bytes_eq k name) refl
  where
    by : (b : Bool) → bytes_eq k name ≡ b → cond b o (nodes k) ≡ nodes k
    by true same = sym is ∙ ap nodes (sym (bytes_same k name same))
    by false other = refl

-- a database that changes without its node
pub put_same : (name : List ℕ) (p q : Place) (ps : Named Place) → find_named name ps ≡ Some p → q.node ≡ p.node →
    (k : List ℕ) → nodes_in (put_named name q ps) k ≡ nodes_in ps k
put_same name p q ps found same k =
    nodes_put name p q ps found k ∙ ap (λ o. placed name o (nodes_in ps) k) same
    ∙ placed_same name p.node (nodes_in ps) (ap node_in found) k

-- A commit on a database that is there, and the node that this is behind it.
pub record Standing (ps : Named Place) (c : Commit) (m : Node) : Type 0 where
  pub place : Place
  pub found : find_named c.name ps ≡ Some place
  pub node : (committing c place).node ≡ Some m

-- the databases where it stands
abbrev pub standing : Commit → Named Place → Named Place
standing c ps = stood_at c (find_named c.name ps) ps

standing_is : (ps : Named Place) (c : Commit) (m : Node) (s : Standing ps c m) →
    standing c ps ≡ put_named c.name (committing c s.place) ps
standing_is ps c m s = ap (λ o. stood_at c o ps) s.found

pub standing_nodes : (ps : Named Place) (c : Commit) (m : Node) → Standing ps c m → (k : List ℕ) →
    nodes_in (standing c ps) k ≡ placed c.name (Some m) (nodes_in ps) k
standing_nodes ps c m s k =
    ap (λ qs. nodes_in qs k) (standing_is ps c m s) ∙ nodes_put c.name s.place (committing c s.place) ps s.found k
    ∙ ap (λ o. placed c.name o (nodes_in ps) k) s.node

pub stands_on : (old : Nodes) (ps : Named Place) (c : Commit) (m : Node) → Standing ps c m →
    GoOn old (placed c.name (Some m) (nodes_in ps)) → GoOn old (nodes_in (standing c ps))
stands_on old ps c m s on = go_same (standing_nodes ps c m s) on

-- ---- all commits of a step

-- before and behind each of them the nodes went on
abbrev pub AllGoOn : Nodes → List Commit → Named Place → Type 0
AllGoOn old [] ps = GoOn old (nodes_in ps)
AllGoOn old (c ∷ cs) ps = GoOn old (nodes_in ps) × AllGoOn old cs (standing c ps)

begin : (old : Nodes) (cs : List Commit) (ps : Named Place) → AllGoOn old cs ps → GoOn old (nodes_in ps)
begin old [] ps all = all
begin old (c ∷ cs) ps all = all.0

pub all_stand : (old : Nodes) (cs : List Commit) (ps : Named Place) → AllGoOn old cs ps →
    GoOn old (nodes_in (stood cs ps))
all_stand old [] ps all = all
all_stand old (c ∷ cs) ps all = all_stand old cs (standing c ps) all.1

-- the node of a database with a commit in doubt is the one behind it, or the one before it
in_doubt_on : (old : Nodes) (c : Commit) (stands : Bool) (w : World) → GoOn old (nodes_in w.places) →
    GoOn old (nodes_in (standing c w.places)) →
    GoOn old (nodes_in (wavering_at c stands (find_named c.name w.places) w).places)
in_doubt_on old c stands w before behind = by (find_named c.name w.places) refl behind
  where
    either : (p : Place) → find_named c.name w.places ≡ Some p →
        GoOn old (nodes_in (put_named c.name (committing c p) w.places)) → (b : Bool) →
        GoOn old (nodes_in (put_named c.name (in_doubt c b p) w.places))
    either p found now true =
        go_same (λ k. nodes_put c.name p (in_doubt c true p) w.places found k
        ∙ sym (nodes_put c.name p (committing c p) w.places found k)) now
    either p found now false = go_same (put_same c.name p (in_doubt c false p) w.places found refl) before

    by : (o : Option Place) → find_named c.name w.places ≡ o → GoOn old (nodes_in (stood_at c o w.places)) →
        GoOn old (nodes_in (wavering_at c stands o w).places)
    by None found now = before
    by (Some p) found now = either p found now stands

pub wavers_on : (old : Nodes) (n : ℕ) (cs : List Commit) (stands : Bool) (w : World) (ps : Named Place) →
    AllGoOn old cs ps → w.places ≡ stood (take n cs) ps → GoOn old (nodes_in (wavering (drop n cs) stands w).places)
wavers_on old zero [] stands w ps all same = subst (λ qs. GoOn old (nodes_in qs)) (sym same) all
wavers_on old zero (c ∷ cs) stands w ps all same =
    in_doubt_on old c stands w (subst (λ qs. GoOn old (nodes_in qs)) (sym same) all.0)
    (subst (λ qs. GoOn old (nodes_in (standing c qs))) (sym same) (begin old cs (standing c ps) all.1))
wavers_on old (suc n) [] stands w ps all same = subst (λ qs. GoOn old (nodes_in qs)) (sym same) all
wavers_on old (suc n) (c ∷ cs) stands w ps all same = wavers_on old n cs stands w (standing c ps) all.1 same

-- ---- a database that goes down

pub felled_on : (old : Nodes) (o : Option (List ℕ)) (w : World) → GoOn old (nodes_in w.places) →
    GoOn old (nodes_in (felled o w).places)
felled_on old None w on = on
felled_on old (Some name) w on = by (find_named name w.places) refl
  where
    by : (o : Option Place) → find_named name w.places ≡ o → GoOn old (nodes_in (felled_at name o w).places)
    by None found = on
    by (Some p) found = go_same (put_same name p (fallen p.told p) w.places found refl) on

pub broken_on : (old : Nodes) (name : List ℕ) (count : ℕ) (o : Option Place) (w : World) →
    find_named name w.places ≡ o → GoOn old (nodes_in w.places) → GoOn old (nodes_in (broken_at name count o w).places)
broken_on old name count None w found on = on
broken_on old name count (Some p) w found on = go_same (put_same name p (fallen count p) w.places found refl) on

-- ---- the commits of a node of a seat

-- the deeds of the node are one commit
abbrev own_commit : Seat → List Deed → Commit
own_commit s ds = record { name = s.name; becomes = None; deeds = ds }

abbrev deeds_stand : (ps : Named Place) (s : Seat) (ds : List Deed) → IsSeat ps s →
    Standing ps (own_commit s ds) (with_deeds ds s.node)
deeds_stand ps s ds is = record { place = s.place; found = is.found; node = ap (option_map (with_deeds ds)) is.node }

deeds_all : (ps : Named Place) (s : Seat) (ds : List Deed) → IsSeat ps s → AreRegular (nodes_in ps) →
    GoOn (nodes_in ps) (placed s.name (Some (with_deeds ds s.node)) (nodes_in ps)) →
    AllGoOn (nodes_in ps) (own_commit s ds ∷ []) ps
deeds_all ps s ds is regular on = (
  go_nowhere (nodes_in ps) regular,
  stands_on (nodes_in ps) ps (own_commit s ds) (with_deeds ds s.node) (deeds_stand ps s ds is) on,
)

abbrev ready : (ps : Named Place) (s : Seat) → IsSeat ps s → Ready (nodes_in ps) s (next_event s)
ready ps s is = record {
  node = s.node;
  is = seat_node ps s is;
  own = refl;
  next = let same = ap (progress s.node.id) is.known in omega (arith, same);
}

pub emits_all : (ps : Named Place) (s : Seat) (ms : List Emission) → IsSeat ps s →
    AreAllowed (nodes_in ps) s.node ms → AreRegular (nodes_in ps) → AllGoOn (nodes_in ps) (commit_of s ms ∷ []) ps
emits_all ps s ms is allowed regular =
    deeds_all ps s (emissions s (next_event s) ms) is regular
    (emissions_on s ms (next_event s) (nodes_in ps) (ready ps s is) allowed regular)

pub hears_all : (ps : Named Place) (s : Seat) (confirms : List (ℕ × ℕ × ℕ)) → IsSeat ps s → AreRegular (nodes_in ps) →
    AllByRecursion (HasConfirmed (nodes_in ps)) confirms → AllGoOn (nodes_in ps) (hearing s confirms) ps
hears_all ps s [] is regular are = go_nowhere (nodes_in ps) regular
hears_all ps s (c ∷ cs) is regular are =
    deeds_all ps s (deed s.place [] [] (Hears (c ∷ cs)) ∷ []) is regular (heard_on (nodes_in ps) (record {
      name = s.name;
      node = s.node;
      is = seat_node ps s is;
      deed = deed s.place [] [] (Hears (c ∷ cs));
      confirms = c ∷ cs;
      are = are;
    }) regular)

abbrev pub applying_at : (ps : Named Place) (c : Carried) → IsSeat ps c.seat → IsEvent (nodes_in ps) c.event →
    IsNext (knowledge c.seat.node).progress c.event → Applying (nodes_in ps)
applying_at ps c is one next = record {
  name = c.seat.name;
  node = c.seat.node;
  is = seat_node ps c.seat is;
  deed = deed c.seat.place [] c.brought.logs (Applies c.event c.brought);
  event = c.event;
  brought = c.brought;
  one = one;
  next = next;
}

pub applies_all : (ps : Named Place) (c : Carried) → IsSeat ps c.seat → AreRegular (nodes_in ps) →
    IsEvent (nodes_in ps) c.event → IsNext (knowledge c.seat.node).progress c.event →
    AllGoOn (nodes_in ps) (applied_by c).commits ps
applies_all ps c is regular one next =
    deeds_all ps c.seat (deed c.seat.place [] c.brought.logs (Applies c.event c.brought) ∷ []) is regular
    (applied_on (nodes_in ps) (applying_at ps c is one next) regular)

-- ---- a database becomes a node

pub inits_all : (ps : Named Place) (e : List ℕ × Place) (id : ℕ) (comment : List ℕ) (run : Running) → IsFound ps e →
    ((name : List ℕ) → nodes_in ps name ≡ None) → AreRegular (nodes_in ps) →
    AllGoOn (nodes_in ps) (becoming e.0 (first_of_cluster id comment run) ∷ []) ps
inits_all ps e id comment run found none regular = (
  go_nowhere (nodes_in ps) regular,
  stands_on (nodes_in ps) ps (becoming e.0 (first_of_cluster id comment run)) (first_of_cluster id comment run)
      (record { place = e.1; found = found; node = refl })
      (first_on (nodes_in ps) e.0 id comment run none regular),
)

-- A database that is no node, and an id that no node knows.
pub record Newcomer (ps : Named Place) : Type 0 where
  pub name : List ℕ
  pub place : Place
  pub found : find_named name ps ≡ Some place
  pub none : place.node ≡ None
  pub id : ℕ
  pub unknown : (k : List ℕ) (n : Node) → nodes_in ps k ≡ Some n →
      is_some (entry_at id (knowledge n).config.nodes) ≡ false

-- the id is of no node, as each one knows itself
pub free_id : (ps : Named Place) (c : Newcomer ps) → AreRegular (nodes_in ps) → IsFree c.id (nodes_in ps)
free_id ps c regular k n is one =
    false≢true
    (sym (c.unknown k n is) ∙ ap (λ id. is_some (entry_at id (knowledge n).config.nodes)) (sym one)
    ∙ (regular.each k n is).knows)

-- the new node is of another database than the one that stores it
pub other_name : (ps : Named Place) (s : Seat) (c : Newcomer ps) → IsSeat ps s → bytes_eq c.name s.name ≡ false
other_name ps s c is = false_from_ne_true _ (λ same.
    let one : Some c.place ≡ Some s.place =
    sym c.found ∙ ap (λ k. find_named k ps) (bytes_same c.name s.name same) ∙ is.found in
    let never : None ≡ Some s.node = sym c.none ∙ ap node_in one ∙ is.node in
    absurd cc)

pub stores_all : (ps : Named Place) (s : Seat) (c : Newcomer ps) (comment : List ℕ) (run : Running) → IsSeat ps s →
    AreRegular (nodes_in ps) → AllGoOn (nodes_in ps) (stored_by s c.name c.id comment run).commits ps
stores_all ps s c comment run is regular = (
  go_nowhere (nodes_in ps) regular,
  (
    one,
    stands_on (nodes_in ps) (standing first ps) (becoming c.name (joining c.id own run)) (joining c.id own run)
        (record { place = c.place; found = found; node = refl })
        (go_further one (joined_on (nodes_in (standing first ps)) (record {
          name = c.name;
          none = ap node_in found ∙ c.none;
          id = c.id;
          free = free;
          run = run;
          giver_name = s.name;
          giver = own;
          is = nodes_are s.name ∙ placed_here s.name (Some own) (nodes_in ps);
          knows = there_here c.id _ (knowledge s.node).config.nodes;
        }) one.regular)),
  ),
)
  where
    emits : List Emission
    emits = tells (StoreNode c.id comment) ∷ []

    first : Commit
    first = commit_of s emits

    own : Node
    own = with_deeds first.deeds s.node

    one : GoOn (nodes_in ps) (nodes_in (standing first ps))
    one = (emits_all ps s emits is (free_allowed (nodes_in ps) s.node emits (refl, tt)) regular).1

    stands : Standing ps first own
    stands = deeds_stand ps s first.deeds is

    nodes_are : (k : List ℕ) → nodes_in (standing first ps) k ≡ placed s.name (Some own) (nodes_in ps) k
    nodes_are = standing_nodes ps first own stands

    found : find_named c.name (standing first ps) ≡ Some c.place
    found =
        ap (find_named c.name) (standing_is ps first own stands)
        ∙ put_other c.name s.name (committing first s.place) ps (other_name ps s c is) ∙ c.found

    free : IsFree c.id (nodes_in (standing first ps))
    free k x there same = by (found_where s.name k own x (nodes_in ps) (sym (nodes_are k) ∙ there))
      where
        by : ((k ≡ s.name) × (x ≡ own)) ⊎ (nodes_in ps k ≡ Some x) → ⊥
        by (inl at) =
            free_id ps c regular s.name s.node (seat_node ps s is) (sym (ap (λ (y : Node). y.id) at.1) ∙ same)
        by (inr before) = free_id ps c regular k x before same
