-- Every step of a history leaves a session as it should be.
use Rattle.std.proofs.Common.{◌≡◌, ◌⊎◌, inl, inr, ℕ, Bool, true, false, cond, List, [], ◌∷◌, ◌++◌, Option, Some, None}
use Rattle.std.proofs.Common.{refl, sym, ap, subst, ◌∙◌, arith, is_some}
use Rattle.std.specs.Prelude.{◌==◌, option_map, drop}
use Rattle.std.specs.Str.{bytes_eq}
use Rattle.slon_model.specs.declared.numbering.Numbering.{Numbering}
use Rattle.slon_model.specs.declared.numbering.Numbering.TheVariants.{Xids, Actions}
use Rattle.slon_model.specs.Names.{Named, find_named, put_named}
use Rattle.slon_model.specs.Tasks.{Task, ToFound, Act, ToStep}
use Rattle.slon_model.specs.Deeds.{Node}
use Rattle.slon_model.specs.Place.{Place, own_count, stamped, with_counter, lifted, raised, founded, bare_place}
use Rattle.slon_model.specs.Moves.{Move, Founds, Begins, Writes, Commits, Rises, first_rows, prepared, with_commit}
use Rattle.slon_model.specs.Moves.{done}
use Rattle.slon_model.specs.Deciding.{Choice, AtFault, Wavers, Fate, AllStand, Breaks, DoubtsAt, decide, move_of}
use Rattle.slon_model.specs.Deciding.{place_by}
use Rattle.slon_model.specs.Sessions.{World, Memory}
use Rattle.slon_model.specs.World.{Happening, Step, Grants, Denies, Misses, Asks, Acts, Serving, Acting, Leads, start}
use Rattle.slon_model.specs.World.{outcome, memory_after, world_by}
use Rattle.slon_model.proofs.Names.{find-behind}
use Rattle.slon_laws.specs.Sound.{AreNamedOnce}
use Rattle.slon_laws.proofs.Acting.{acting_carries}
use Rattle.slon_laws.proofs.Named.{granted_free, once_carries, once_put}
use Rattle.slon_laws.proofs.Opens.{named_behind}
use Rattle.stream_laws.specs.Nodes.{Nodes, nodes_in, node_in}
use Rattle.stream_laws.specs.Facts.{Facts, AreRegular, AllWait, IsRegular}
use Rattle.stream_laws.proofs.Growing.{GoOn, placed, staying, go_nowhere, go_same, facts_grown, waits_grown}
use Rattle.stream_laws.proofs.Commits.{nodes_put, put_same, all_stand, wavers_on, felled_on, broken_on}
use Rattle.stream_laws.proofs.Waiting.{changed_waits, felled_waits, broken_waits, wavers_waits}
use Rattle.stream_laws.proofs.Outcomes.{IsOutcome, act_outcome}

-- ---- one database goes on

-- its node is the same, or it has done one more deed that commits rows
abbrev pub Logs : Place → Option Node → Type 0
Logs p o = (o ≡ p.node) ⊎ ((xid : ℕ) × (o ≡ option_map (with_commit xid p) p.node))

raised_node : (kind : Numbering) (p : Place) → (raised kind p).node ≡ p.node
raised_node Xids p = by (p.xids.next == p.xids.ceiling)
  where
    by : (b : Bool) → (cond b (stamped (with_counter Xids (lifted p.xids) p)) p).node ≡ p.node
    by true = refl
    by false = refl
raised_node Actions p = by (p.numbers.next == p.numbers.ceiling)
  where
    by : (b : Bool) → (cond b (stamped (with_counter Actions (lifted p.numbers) p)) p).node ≡ p.node
    by true = refl
    by false = refl

pub first_rows_node : (p : Place) → (first_rows p).node ≡ p.node
first_rows_node p = elim (p.stamp == 0) as (λ b. (cond b (founded p) p).node ≡ p.node) [
  | true ↦ refl
  | false ↦ refl
]

pub prepared_node : (move : Move) (p : Place) → (prepared move p).node ≡ p.node
prepared_node (Begins name) p = raised_node Xids p
prepared_node (Writes xid table change) p = raised_node Actions p
prepared_node Rises p = first_rows_node p
prepared_node others p = refl

pub done_logs : (move : Move) (p : Place) → Logs p (done move p).node
done_logs Founds p = inl (first_rows_node p)
done_logs (Begins name) p = inl (raised_node Xids p)
done_logs (Writes xid table change) p = inl (raised_node Actions p)
done_logs Rises p = inl (first_rows_node p)
done_logs (Commits name xid) p =
    elim (own_count xid p == 0) as (λ b. Logs p (cond b p.node (option_map (with_commit xid p) p.node))) [
      | true ↦ inl refl
      | false ↦ inr (xid, refl)
    ]
done_logs others p = inl refl

place_logs : (task : Task) (p : Place) (choice : Choice) → Logs p (place_by task p choice).node
place_logs task p (AtFault count also) =
    elim also as (λ b. Logs p (cond b (prepared (move_of (decide task p)) p) p).node) [
      | true ↦ inl (prepared_node (move_of (decide task p)) p)
      | false ↦ inl refl
    ]
place_logs task p (Wavers stands) =
    elim stands as (λ b. Logs p (cond b (done (move_of (decide task p)) p) p).node) [
      | true ↦ done_logs (move_of (decide task p)) p
      | false ↦ inl refl
    ]
place_logs task p others = done_logs (move_of (decide task p)) p

-- a node that commits rows holds as much as before
logged_facts : (nodes : Nodes) (n : Node) (xid : ℕ) (p : Place) → Facts nodes n → Facts nodes (with_commit xid p n)
logged_facts nodes n xid p f = record {
  knows = f.knows;
  emitted = f.emitted;
  whole = f.whole;
  low = f.low;
  first = f.first;
  marked = f.marked;
  applied = f.applied;
  told = f.told;
  met = f.met;
}

logs_on : (nodes : Nodes) (name : List ℕ) (n : Node) (xid : ℕ) (p : Place) → nodes name ≡ Some n → AreRegular nodes →
    GoOn nodes (placed name (Some (with_commit xid p n)) nodes)
logs_on nodes name n xid p is regular =
    staying name n (with_commit xid p n) nodes regular (record {
      is = is;
      quiet = refl;
      id = refl;
      further = λ origin. omega arith;
      knows = λ id is. is;
      facts = λ new grow there. logged_facts new n xid p (facts_grown grow n (regular.each name n is));
    })

put_logs : (name : List ℕ) (p q : Place) (ps : Named Place) → find_named name ps ≡ Some p → Logs p q.node →
    AreRegular (nodes_in ps) → GoOn (nodes_in ps) (nodes_in (put_named name q ps))
put_logs name p q ps found (inl same) regular =
    go_same (put_same name p q ps found same) (go_nowhere (nodes_in ps) regular)
put_logs name p q ps found (inr log) regular = by p.node refl
  where
    by : (o : Option Node) → p.node ≡ o → GoOn (nodes_in ps) (nodes_in (put_named name q ps))
    by None is =
        go_same (put_same name p q ps found (log.1 ∙ ap (option_map (with_commit log.0 p)) is ∙ sym is))
        (go_nowhere (nodes_in ps) regular)
    by (Some n) is =
        go_same (λ k. nodes_put name p q ps found k
        ∙ ap (λ o. placed name o (nodes_in ps) k) (log.1 ∙ ap (option_map (with_commit log.0 p)) is))
        (logs_on (nodes_in ps) name n log.0 p (ap node_in found ∙ is) regular)

-- ---- a new database

bare_none : (o : Option Node) → Logs bare_place o → o ≡ None
bare_none o (inl same) = same
bare_none o (inr log) = log.1

behind_same : (name : List ℕ) (q : Place) (ps : Named Place) → q.node ≡ None → (k : List ℕ) →
    nodes_in (ps ++ (name, q) ∷ []) k ≡ nodes_in ps k
behind_same name q ps none k =
    ap node_in (find-behind k name q ps) ∙ by (find_named k ps) (bytes_eq k name)
  where
    by : (o : Option Place) (b : Bool) → node_in (cond (is_some o) o (cond b (Some q) None)) ≡ node_in o
    by (Some p) b = refl
    by None true = none
    by None false = refl

-- ---- a session

-- where the nodes went on, and what waits was of the streams before
regular_again : (w v : World) → AreNamedOnce v.places → GoOn (nodes_in w.places) (nodes_in v.places) →
    AllWait (nodes_in w.places) v.memory.queues → IsRegular v
regular_again w v once on waits = record {
  once = once;
  nodes = on.regular;
  waits = waits_grown on.grow v.memory.queues waits;
}

queues_after : (act : Act) (m : Memory) → (memory_after act m).queues ≡ m.queues
queues_after (ToStep name) m = refl
queues_after others m = refl

acting_regular : (w v : World) (h : Happening) → Acting w h v → IsRegular w → IsRegular v
acting_regular w v h t regular =
    regular_again w v (acting_carries once_carries w v h t regular.once)
    (subst (λ u. GoOn (nodes_in w.places) (nodes_in u.places)) (sym t.is) (goes t.fate))
    (subst (λ u. AllWait (nodes_in w.places) u.memory.queues) (sym t.is) (waits t.fate))
  where
    is : IsOutcome w (outcome t.act w).commits (outcome t.act w).memory.queues
    is = act_outcome t.act w regular

    kept : AllWait (nodes_in w.places) (memory_after t.act w.memory).queues
    kept = subst (AllWait (nodes_in w.places)) (sym (queues_after t.act w.memory)) regular.waits

    goes : (fate : Fate) → GoOn (nodes_in w.places) (nodes_in (world_by t.act fate w).places)
    goes AllStand =
        felled_on (nodes_in w.places) (outcome t.act w).falls _
        (all_stand (nodes_in w.places) (outcome t.act w).commits w.places is.goes_on)
    goes (Breaks name count) =
        broken_on (nodes_in w.places) name count (find_named name w.places) _ refl
        (go_nowhere (nodes_in w.places) regular.nodes)
    goes (DoubtsAt before stands) =
        wavers_on (nodes_in w.places) before (outcome t.act w).commits stands _ w.places is.goes_on refl

    waits : (fate : Fate) → AllWait (nodes_in w.places) (world_by t.act fate w).memory.queues
    waits AllStand = felled_waits (nodes_in w.places) (outcome t.act w).falls _ is.waits
    waits (Breaks name count) = broken_waits (nodes_in w.places) name count (find_named name w.places) _ kept
    waits (DoubtsAt before stands) =
        wavers_waits (nodes_in w.places) (drop before (outcome t.act w).commits) stands _ kept

serving_regular : (w v : World) (h : Happening) → Serving w h v → IsRegular w → IsRegular v
serving_regular w v h t regular =
    subst IsRegular (sym t.is) (regular_again w _ (once_put t.name q w.places regular.once)
    (put_logs t.name t.place q w.places t.found (place_logs t.task t.place h.choice) regular.nodes)
    (changed_waits (nodes_in w.places) t.name q w regular.waits))
  where
    q : Place
    q = place_by t.task t.place h.choice

step_regular : (w v : World) (h : Happening) → Step w h v → IsRegular w → IsRegular v
step_regular w v h (Grants name result about granted takes told is) regular =
    subst IsRegular (sym is) (regular_again w _
    (named_behind name q w.places (granted_free name w granted) regular.once)
    (go_same (behind_same name q w.places (bare_none q.node (place_logs ToFound bare_place h.choice)))
    (go_nowhere (nodes_in w.places) regular.nodes)) regular.waits)
  where
    q : Place
    q = place_by ToFound bare_place h.choice
step_regular w v h (Denies name about denied sure told is) regular = subst IsRegular (sym is) regular
step_regular w v h (Misses name task about none sure told is) regular = subst IsRegular (sym is) regular
step_regular w v h (Asks t) regular = serving_regular w v h t regular
step_regular w v h (Acts t) regular = acting_regular w v h t regular

start_regular : (limit : ℕ) → IsRegular (start limit)
start_regular limit = record {
  once = tt;
  nodes = record {
    each = λ name n is. absurd cc;
    apart = λ a b m n is_m is_n one. absurd cc;
    once = λ mark x y. let none = x.is in absurd cc;
  };
  waits = tt;
}

-- every session that a legal history leads to is as it should be
pub regular_world : (limit : ℕ) (history : List Happening) (w : World) → Leads (start limit) history w → IsRegular w
regular_world limit [] w is = subst IsRegular (sym is) (start_regular limit)
regular_world limit (h ∷ hs) w leads = step_regular leads.0 w h leads.2 (regular_world limit hs leads.0 leads.1)
