-- Each entry of the log of a node is one of the log of the node that is its origin.
use Rattle.std.proofs.Common.{◌≡◌, inl, inr, ℕ, Bool, true, false, cond, List, Option, Some, None, refl}
use Rattle.std.proofs.Common.{sym, ap, subst, ◌∙◌}
use Rattle.std.specs.Prelude.{option_map}
use Rattle.std.specs.List.{AllByRecursion}
use Rattle.std.specs.Str.{bytes_eq}
use Rattle.node_rows.specs.declared.rows.TableRow.{TableRow}
use Rattle.slon_model.specs.Names.{find_named}
use Rattle.slon_model.specs.Rows.{Action}
use Rattle.slon_model.specs.Config.{era_of, is_origin, member_of}
use Rattle.slon_model.specs.Deeds.{Brought, Knowledge, Logged, Node, knowledge, nothing_brought, with_deeds}
use Rattle.slon_model.specs.Following.{SetSync, kept_from, tables_taken}
use Rattle.slon_model.specs.Logs.{logged, logged_on, own_logs}
use Rattle.slon_model.specs.Moves.{with_commit}
use Rattle.slon_model.specs.Place.{Place, own_actions}
use Rattle.slon_model.specs.Sessions.{Commit, Seat, committing}
use Rattle.slon_model.specs.Working.{Carried}
use Rattle.slon_model.proofs.Names.{all_map, bytes_itself, bytes_same, one_found}
use Rattle.slon_laws.proofs.Following.{syncs_have, delta_has}
use Rattle.slon_laws.proofs.Later.{HoldsOf}
use Rattle.slon_laws.proofs.Lists.{all_given}
use Rattle.slon_laws.proofs.Owners.{OnSome}
use Rattle.stream_laws.specs.Nodes.{IsAmong, node_in, nodes_in}
use Rattle.stream_laws.proofs.Lists.{all_among, all_appended, all_each, among_all}
use Rattle.image_laws.proofs.Logging.{among_left, among_right}
use Rattle.image_laws.proofs.Staying.{Stays as StaysNode}
use Rattle.view_laws.specs.Past.{Past, past}
use Rattle.view_laws.proofs.Brought.{Brings, Copies, IsBrought, Nothing, part_has, was_then, taken_each}
use Rattle.view_laws.proofs.Doing.{taking}
use Rattle.view_laws.proofs.Moments.{now_stays}
use Rattle.net_relation.specs.Laws.{HasOrigin, LogsHaveOrigins}
use Rattle.net_relation.proofs.Behind.{begun_node, heard_node, holds_now, taken_node, told_logs, told_node}
use Rattle.net_relation.proofs.Links.{Begins, HearsSome, Linked, TakesOne, Tells, joined, joins}
use Rattle.net_relation.proofs.Links.{stores}
use Rattle.net_relation.proofs.Places.{NodeWent}
use Rattle.net_relation.proofs.Relating.{nodes_of}
use Rattle.net_relation.proofs.Stepping.{Does, Goes, Gone, Here, IsPut, Joins, Looks, Makes, Shuts, Stays, There}
use Rattle.net_relation.proofs.Stepping.{is_put}
use Rattle.net_relation.proofs.Stepping.{join_found, look, stores_linked, stores_look, with_look}
use Rattle.slon_model.specs.Views.{View}
use Rattle.stream_laws.proofs.Copies.{IsTakenOf}
use Rattle.stream_laws.proofs.Seats.{IsSeat}

-- all that each node logged has its origin
abbrev pub AreOfOrigins : Looks → Type 0
AreOfOrigins f =
    (name : List ℕ) (p : Place) (n : Node) → f name ≡ Some p → p.node ≡ Some n →
    AllByRecursion (HasOrigin (nodes_of f)) (logged n)

-- ---- a node goes on

-- it is the same node, and has logged no less
record Grows (n m : Node) : Type 0 where
  id : m.id ≡ n.id
  more : (l : Logged) → IsAmong l (logged n) → IsAmong l (logged m)

grows_same : (n m : Node) → (m.id ≡ n.id) × (logged m ≡ logged n) → Grows n m
grows_same n m same = record { id = same.0; more = λ l among. subst (IsAmong l) (sym same.1) among }

-- What a database that is put was, if it was a node.
record Put (f : Looks) (name : List ℕ) (q : Place) : Type 0 where
  grows : (n : Node) → nodes_of f name ≡ Some n → (m : Node) × (q.node ≡ Some m) × Grows n m
  new : (m : Node) → q.node ≡ Some m → AllByRecursion (HasOrigin (nodes_of (with_look name q f))) (logged m)

of_later : (f : Looks) (name : List ℕ) (q : Place) →
    ((n : Node) → nodes_of f name ≡ Some n → (m : Node) × (q.node ≡ Some m) × Grows n m) → (l : Logged) →
    HasOrigin (nodes_of f) l → HasOrigin (nodes_of (with_look name q f)) l
of_later f name q grows l o = by (bytes_eq o.name name) refl
  where
    by : (b : Bool) → bytes_eq o.name name ≡ b → HasOrigin (nodes_of (with_look name q f)) l
    by true at =
        let m = grows o.node (ap (nodes_of f) (sym (bytes_same o.name name at)) ∙ o.is) in
        record {
          name = o.name;
          node = m.0;
          is = ap (λ b. node_in (cond b (Some q) (f o.name))) at ∙ m.1;
          own = m.2.id ∙ o.own;
          among = m.2.more l o.among;
        }
    by false other = record {
      name = o.name;
      node = o.node;
      is = ap (λ b. node_in (cond b (Some q) (f o.name))) other ∙ o.is;
      own = o.own;
      among = o.among;
    }

put_origins : (f : Looks) (name : List ℕ) (q : Place) → AreOfOrigins f → Put f name q →
    AreOfOrigins (with_look name q f)
put_origins f name q was put k p n found is = by (is_put name q f k p found)
  where
    by : IsPut name q f k p → AllByRecursion (HasOrigin (nodes_of (with_look name q f))) (logged n)
    by (Here at same) = put.new n (ap (λ (r : Place). r.node) (sym same) ∙ is)
    by (There other there) =
        all_map (HasOrigin (nodes_of f)) (HasOrigin (nodes_of (with_look name q f))) (of_later f name q put.grows)
        (logged n) (was k p n there is)

-- a node that logs nothing more
same_put : (f : Looks) (name : List ℕ) (p q : Place) → AreOfOrigins f → f name ≡ Some p →
    ((m : Node) → q.node ≡ Some m → (n : Node) × (p.node ≡ Some n) × (m.id ≡ n.id) × (logged m ≡ logged n)) →
    ((n : Node) → p.node ≡ Some n → (m : Node) × (q.node ≡ Some m)) → Put f name q
same_put f name p q was found same there = record { grows = grows; new = new }
  where
    grows : (n : Node) → nodes_of f name ≡ Some n → (m : Node) × (q.node ≡ Some m) × Grows n m
    grows n is =
        let at = sym (ap node_in found) ∙ is in
        let m = there n at in
        let old = same m.0 m.1 in
        (m.0, m.1, subst (λ k. Grows k m.0) (one_found old.0 n (sym old.1 ∙ at)) (grows_same old.0 m.0 (old.2, old.3)))

    new : (m : Node) → q.node ≡ Some m → AllByRecursion (HasOrigin (nodes_of (with_look name q f))) (logged m)
    new m is =
        let old = same m is in
        subst (AllByRecursion (HasOrigin (nodes_of (with_look name q f)))) (sym old.3)
        (all_map (HasOrigin (nodes_of f)) (HasOrigin (nodes_of (with_look name q f))) (of_later f name q grows)
        (logged old.0) (was name p old.0 found old.1))

-- ---- a transaction of an application

own_origin : (own : ℕ) (k : Knowledge) (actions : List Action) →
    AllByRecursion (λ l. l.origin ≡ own) (own_logs own k actions)
own_origin own k actions =
    all_given (λ a. Unit {0}) (λ l. l.origin ≡ own) (λ a. logged_on own k a (member_of a.table k.config))
    (λ a any. by a (member_of a.table k.config)) actions (all_each (λ a. Unit {0}) (λ a. tt) actions)
  where
    by : (a : Action) (o : Option (ℕ × TableRow)) → OnSome (λ (l : Logged). l.origin ≡ own) (logged_on own k a o)
    by a None = tt
    by a (Some e) =
        elim (is_origin own e.1.set_id k.config)
        as (λ b. OnSome (λ (l : Logged). l.origin ≡ own) (cond b (Some (record {
          set_id = e.1.set_id;
          table_id = e.0;
          era = era_of e.1.set_id k.config;
          origin = own;
          action = a;
        })) None)) [
          | true ↦ refl
          | false ↦ tt
        ]

-- the node behind a commit of rows
commit_put : (f : Looks) (name : List ℕ) (p q : Place) → AreOfOrigins f → f name ≡ Some p → NodeWent p q.node →
    Put f name q
commit_put f name p q was found (inl same) =
    same_put f name p q was found (λ m is. (m, sym same ∙ is, refl, refl)) (λ n is. (n, same ∙ is))
commit_put f name p q was found (inr (xid, log, runs)) = by p.node refl
  where
    by : (o : Option Node) → p.node ≡ o → Put f name q
    by None at =
        same_put f name p q was found
        (λ m is. let never : None ≡ Some m = sym (log ∙ ap (option_map (with_commit xid p)) at) ∙ is in absurd cc)
        (λ n is. let never : None ≡ Some n = sym at ∙ is in absurd cc)
    by (Some n) at = record { grows = grows; new = new }
      where
        next : Node
        next = with_commit xid p n

        behind : q.node ≡ Some next
        behind = log ∙ ap (option_map (with_commit xid p)) at

        logs : List Logged
        logs = own_logs n.id (knowledge n) (own_actions xid p)

        grows : (m : Node) → nodes_of f name ≡ Some m → (k : Node) × (q.node ≡ Some k) × Grows m k
        grows m is = (
          next,
          behind,
          subst (λ i. Grows i next) (one_found n m (sym at ∙ sym (ap node_in found) ∙ is))
              (record { id = refl; more = λ l among. among_right l logs (logged n) among }),
        )

        there : nodes_of (with_look name q f) name ≡ Some next
        there = ap (λ b. node_in (cond b (Some q) (f name))) (bytes_itself name) ∙ behind

        new : (m : Node) → q.node ≡ Some m → AllByRecursion (HasOrigin (nodes_of (with_look name q f))) (logged m)
        new m is =
            subst (λ (i : Node). AllByRecursion (HasOrigin (nodes_of (with_look name q f))) (logged i))
            (one_found next m (sym behind ∙ is))
            (all_appended (HasOrigin (nodes_of (with_look name q f))) logs (logged n)
            (among_all (HasOrigin (nodes_of (with_look name q f))) logs (λ l among. record {
              name = name;
              node = next;
              is = there;
              own = sym (all_among (λ (l : Logged). l.origin ≡ n.id) l logs
                  (own_origin n.id (knowledge n) (own_actions xid p)) among);
              among = among_left l logs (logged n) among;
            }))
            (all_map (HasOrigin (nodes_of f)) (HasOrigin (nodes_of (with_look name q f))) (of_later f name q grows)
            (logged n) (was name p n found at)))

-- ---- a commit of a script or a turn

-- what is brought is of the logs of providers
brought_among : (t : Past) (x : Carried) → AreOfOrigins (look t.world) → IsBrought t x.seat x.event x.brought →
    AllByRecursion (HasOrigin (nodes_in t.world.places)) x.brought.logs
brought_among t x was (Nothing n) =
    subst (λ (b : Brought). AllByRecursion (HasOrigin (nodes_in t.world.places)) b.logs) (sym n.none) tt
brought_among t x was (Copies k) =
    subst (λ (b : Brought). AllByRecursion (HasOrigin (nodes_in t.world.places)) b.logs) (sym k.is) tt
brought_among t x was (Brings y) =
    subst (λ (b : Brought). AllByRecursion Has b.logs) (sym y.is)
    (syncs_have x.seat.place (λ r. Unit {0}) Has (λ rows l old is. tt) y.syncs nothing_brought
    (part_has (λ z. AllByRecursion Has z.rows) x.seat.known y.syncs y.follows.syncs y.part
    (taken_each (λ v. Unit {0}) (λ z. AllByRecursion Has z.rows) rows (kept_from x.event.origin then.known)
    y.follows.syncs y.follows.taken (all_each (λ v. Unit {0}) (λ v. tt) (kept_from x.event.origin then.known))))
    (tt, tt)).1
  where
    Has : Logged → Type 0
    Has = HasOrigin (nodes_in t.world.places)

    then : Seat
    then = y.at.seat

    -- what a provider had in its log then, it has there now
    log : (p : Seat) → IsSeat y.at.to.world.places p → AllByRecursion Has (logged p.node)
    log p is =
        among_all Has (logged p.node) (λ l among. all_among Has l (logged now.2.node)
        (was p.name now.0 now.2.node now.1 now.2.is)
        (subst (IsAmong l) (sym now.2.log) (among_right l now.2.newer (logged p.node) among)))
      where
        now : HoldsOf (StaysNode p.node) p.name t.world.places
        now = now_stays t y.at.to.world (was_then y.at) p.name p.place p.node is.found is.node

    rows : (v : ℕ × View) (z : SetSync) → Unit {0} → IsTakenOf y.at.to.world then x.event v z →
        AllByRecursion Has z.rows
    rows v z any taken =
        subst (λ (s : SetSync). AllByRecursion Has s.rows) (sym taken.is)
        (delta_has Has Has (tables_taken then.node.id v.0 then.known.config) (λ l is on. is) x.event.origin v.1.seen
        x.event.taken (logged taken.provider.node) (log taken.provider taken.reached.0.0.0))

linked_put : (t : Past) → AreOfOrigins (look t.world) → (c : Commit) (p : Place) → look t.world c.name ≡ Some p →
    Linked t c p → Put (look t.world) c.name (committing c p)
linked_put t was c p found does = by does
  where
    f : Looks
    f = look t.world

    q : Place
    q = committing c p

    -- the node logs nothing more
    still : (n m : Node) → p.node ≡ Some n → q.node ≡ Some m → (m.id ≡ n.id) × (logged m ≡ logged n) → Put f c.name q
    still n m at behind same =
        same_put f c.name p q was found
        (λ k is. (
          n,
          at,
          ap (λ (i : Node). i.id) (one_found k m (sym is ∙ behind)) ∙ same.0,
          ap logged (one_found k m (sym is ∙ behind)) ∙ same.1,
        ))
        (λ k is. (m, behind))

    by : Linked t c p → Put f c.name q
    by (Tells d) =
        still d.seat.node _ (ap (λ (r : Place). r.node) (sym d.at) ∙ d.is.node) (told_node d)
        (refl, told_logs d.seat d.emits d.may)
    by (HearsSome d) =
        still d.seat.node _ (ap (λ (r : Place). r.node) (sym d.at) ∙ d.is.node) (heard_node d) (refl, refl)
    by (Begins d) = record {
      grows = λ n is. let never : None ≡ Some n = sym (d.alone c.name) ∙ is in absurd cc;
      new = λ m is.
          subst (λ (i : Node). AllByRecursion (HasOrigin (nodes_of (with_look c.name q f))) (logged i))
          (one_found _ m (sym (begun_node d) ∙ is)) tt;
    }
    by (TakesOne d) = record { grows = grows; new = new }
      where
        n : Node
        n = d.carried.seat.node

        next : Node
        next = with_deeds (taking d.carried).deeds n

        at : p.node ≡ Some n
        at = ap (λ (r : Place). r.node) (sym d.at) ∙ d.is.work.seat.node

        grows : (m : Node) → nodes_of f c.name ≡ Some m → (k : Node) × (q.node ≡ Some k) × Grows m k
        grows m is = (
          next,
          taken_node d,
          subst (λ i. Grows i next) (one_found n m (sym at ∙ sym (ap node_in found) ∙ is))
              (record { id = refl; more = λ l among. among_right l d.carried.brought.logs (logged n) among }),
        )

        new : (m : Node) → q.node ≡ Some m → AllByRecursion (HasOrigin (nodes_of (with_look c.name q f))) (logged m)
        new m is =
            subst (λ (i : Node). AllByRecursion (HasOrigin (nodes_of (with_look c.name q f))) (logged i))
            (one_found next m (sym (taken_node d) ∙ is))
            (all_map (HasOrigin (nodes_of f)) (HasOrigin (nodes_of (with_look c.name q f)))
            (of_later f c.name q grows) (logged next)
            (all_appended (HasOrigin (nodes_of f)) d.carried.brought.logs (logged n)
            (brought_among t d.carried was d.is.brings) (was c.name p n found at)))

origins_step : (t : Past) → AreOfOrigins (look t.world) → (f : Looks) → Gone t f → AreOfOrigins f
origins_step t was f Stays = was
origins_step t was f (Makes name q none born) =
    put_origins (look t.world) name q was (record {
      grows = λ n is. let never : None ≡ Some n = sym (ap node_in none) ∙ is in absurd cc;
      new = λ m is. let never : None ≡ Some m = sym born.node ∙ is in absurd cc;
    })
origins_step t was f (Goes name p q found went) =
    put_origins (look t.world) name q was (commit_put (look t.world) name p q was found went.node)
origins_step t was f (Does c p found does) =
    put_origins (look t.world) c.name (committing c p) was (linked_put t was c p found does)
origins_step t was f (Joins j) =
    put_origins (stores_look j) j.new.name (committing (joins j) j.new.place)
    (put_origins (look t.world) j.seat.name (committing (stores j) j.seat.place) was
    (linked_put t was (stores j) j.seat.place j.is.found (stores_linked t j))) (record {
      grows = λ n is.
          let never : None ≡ Some n =
          sym j.new.none ∙ ap node_in (sym (join_found t j (committing (stores j) j.seat.place))) ∙ is in
          absurd cc;
      new = λ m is.
          subst (λ (i : Node). AllByRecursion (HasOrigin (nodes_of
          (with_look j.new.name (committing (joins j) j.new.place) (stores_look j)))) (logged i))
          (one_found (joined j) m is) tt;
    })
origins_step t was f (Shuts g gone name p q found shut) =
    let before = origins_step t was g gone in
    put_origins g name q before (commit_put g name p q before found (inl shut.node))

-- so it is in every session
pub origins_now : (t : Past) → AreOfOrigins (look t.world)
origins_now = holds_now AreOfOrigins (λ name p n found is. absurd cc) origins_step

pub logs_have_origins : LogsHaveOrigins
logs_have_origins limit history w leads name n is l among = by (find_named name w.places) refl is
  where
    by : (o : Option Place) → find_named name w.places ≡ o → node_in o ≡ Some n → HasOrigin (nodes_in w.places) l
    by None found none = absurd cc
    by (Some p) found at =
        all_among (HasOrigin (nodes_in w.places)) l (logged n)
        (origins_now (past limit history w leads) name p n found at) among
