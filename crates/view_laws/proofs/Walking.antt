-- What each way in which a database goes on keeps is kept by every history.
use Rattle.std.proofs.Common.{◌≡◌, inl, inr, refl, ℕ, Bool, true, false, cond, List, [], ◌∷◌, ◌++◌, Option, Some, None}
use Rattle.std.proofs.Common.{sym, ap, subst, ◌∙◌}
use Rattle.std.specs.List.{AllByRecursion}
use Rattle.slon_model.specs.Names.{Named, find_named}
use Rattle.slon_model.specs.Tasks.{Task, ToFound}
use Rattle.slon_model.specs.Deeds.{Node}
use Rattle.slon_model.specs.Place.{Place, bare_place, fallen, doubted}
use Rattle.slon_model.specs.Moves.{Move, prepared, done}
use Rattle.slon_model.specs.Deciding.{Choice, AtFault, Wavers, decide, move_of, place_by}
use Rattle.slon_model.specs.Sessions.{World, Commit, committing, stood_at}
use Rattle.slon_model.specs.World.{start, Happening, Step, Grants, Denies, Misses, Asks, Acts, Leads, outcome}
use Rattle.slon_model.proofs.Names.{all_map, all_put, all_behind, all_found, found_behind}
use Rattle.slon_laws.specs.Allowed.{MayMove}
use Rattle.slon_laws.specs.Turning.{Turned, Commits, Falls, Doubts, HoldsAt, AllHold}
use Rattle.slon_laws.specs.Worlds.{AllPlaces}
use Rattle.slon_laws.proofs.Acting.{acting_turns}
use Rattle.slon_laws.proofs.Decides.{allowed}
use Rattle.slon_laws.proofs.Later.{HoldsOf, put_holds}
use Rattle.stream_laws.specs.Nodes.{nodes_in, node_in}
use Rattle.image_laws.proofs.Images.{joined, later_step, ready_world}
pub use Rattle.image_laws.proofs.Staying.{KeptLater}
use Rattle.view_laws.specs.Past.{Past, PastUpTo, past, WasBefore, WasUpTo}
use Rattle.view_laws.proofs.Doing.{IsStep}
use Rattle.view_laws.proofs.Steps.{outcome_steps}

-- ---- a step

-- From P each way in which a database goes on leads to Q.
pub record Passes (t : Past) (P Q : Place → Type 0) : Type 0 where
  pub stays : (p : Place) → P p → Q p
  pub prepares : (move : Move) (p : Place) → P p → Q (prepared move p)
  pub moves : (task : Task) (p : Place) → MayMove task p (move_of (decide task p)) → P p →
      Q (done (move_of (decide task p)) p)
  pub falls : (count : ℕ) (p : Place) → Q p → Q (fallen count p)
  pub wavers : (stands : Bool) (p : Place) → Q p → Q (doubted stands p)
  pub promises : (node : Option ℕ) (p : Place) → Q p → Q (record p { promised = node })
  pub commits : (c : Commit) (p : Place) → IsStep t c p → P p → Q (committing c p)

pub either : (Q : Place → Type 0) (b : Bool) (p q : Place) → Q p → Q q → Q (cond b p q)
either Q true p q one other = one
either Q false p q one other = other

task_passes : {t : Past} {P Q : Place → Type 0} → Passes t P Q → (task : Task) (p : Place) (choice : Choice) → P p →
    Q (place_by task p choice)
task_passes {Q = Q} k task p (AtFault count also) is =
    k.falls count _
    (either Q also (prepared (move_of (decide task p)) p) p (k.prepares (move_of (decide task p)) p is) (k.stays p is))
task_passes {Q = Q} k task p (Wavers stands) is =
    k.wavers stands _
    (either Q stands (done (move_of (decide task p)) p) p (k.moves task p (allowed task p) is) (k.stays p is))
task_passes k task p others is = k.moves task p (allowed task p) is

abbrev Stepped : Past → (Place → Type 0) → Commit → Place → Type 0
Stepped t P c p = IsStep t c p × P p

turned_passes : {t : Past} {P Q : Place → Type 0} → Passes t P Q → (p q : Place) → Turned (Stepped t P) p q → Q p →
    Q q
turned_passes {Q = Q} k p q (Commits c one is) was = subst Q (sym is) (k.commits c p one.0 one.1)
turned_passes {Q = Q} k p q (Falls count is) was = subst Q (sym is) (k.falls count p was)
turned_passes {Q = Q} k p q (Doubts c stands one is) was =
    subst Q (sym is)
    (k.promises _ _ (k.wavers stands _ (either Q stands (committing c p) p (k.commits c p one.0 one.1) was)))

-- each commit of a step is of a database as it was before it
all_stepped : (t : Past) (P : Place → Type 0) →
    ((name : List ℕ) (p : Place) → find_named name t.world.places ≡ Some p → P p) → (cs : List Commit)
    (ps : Named Place) → AllHold (IsStep t) cs ps → AllHold (Stepped t P) cs ps
all_stepped t P here [] ps steps = tt
all_stepped t P here (c ∷ cs) ps steps =
    (by (find_named c.name ps) steps.0, all_stepped t P here cs (stood_at c (find_named c.name ps) ps) steps.1)
  where
    by : (o : Option Place) → HoldsAt (IsStep t) c o → HoldsAt (Stepped t P) c o
    by None step = tt
    by (Some p) step = (step, here c.name p step.found)

step_passes : {P Here Q : Place → Type 0} (t : Past) (v : World) (h : Happening) → Step t.world h v →
    ((p : Place) → P p → Q p) × ((name : List ℕ) (p : Place) → find_named name t.world.places ≡ Some p → P p → Here p) →
    Passes t Here Q → Here bare_place → AllPlaces P t.world → AllPlaces Q v
step_passes {P} {Here} {Q} t v h step on k bare all = by step
  where
    w : World
    w = t.world

    still : AllPlaces Q w
    still = all_map (λ e. P e.1) (λ e. Q e.1) (λ e. on.0 e.1) w.places all

    here : (name : List ℕ) (p : Place) → find_named name w.places ≡ Some p → Here p
    here name p found = on.1 name p found (all_found P name p w.places all found)

    by : Step w h v → AllPlaces Q v
    by (Grants name result about granted takes told is) =
        subst (AllPlaces Q) (sym is)
        (all_behind Q name _ w.places (task_passes k ToFound bare_place h.choice bare) still)
    by (Denies name about denied sure told is) = subst (AllPlaces Q) (sym is) still
    by (Misses name task about none sure told is) = subst (AllPlaces Q) (sym is) still
    by (Asks s) =
        subst (AllPlaces Q) (sym s.is)
        (all_put Q s.name _ w.places
        (task_passes k s.task s.place h.choice (here s.name s.place s.found)) still)
    by (Acts a) =
        acting_turns {R = λ ps. AllByRecursion (λ e. Q e.1) ps} (λ name p q ps found turned was. all_put Q name q ps
        (turned_passes k p q turned (all_found Q name p ps was found)) was) w v h a
        (all_stepped t Here here (outcome a.act w).commits w.places (outcome_steps t a.act)) still

-- ---- a history

-- the node of the database is one of the session
abbrev pub IsHere : Past → Place → Type 0
IsHere t p = (n : Node) → p.node ≡ Some n → (name : List ℕ) × (nodes_in t.world.places name ≡ Some n)

-- What holds of a database that is made, and is kept by each way in which a database goes on. It may speak of the
-- sessions before, in each of which it held of all databases.
pub record LivesOn (I : (World → Type 0) → Place → Type 0) : Type 0 where
  pub bare : (t : Past) → I (WasBefore t) bare_place
  pub stays : (t : Past) (p : Place) → I (WasBefore t) p → I (WasUpTo t) p
  pub passes : (t : Past) → ((s : Past) → PastUpTo t s → AllPlaces (I (WasBefore s)) s.world) →
      Passes t (λ p. IsHere t p × I (WasBefore t) p) (I (WasUpTo t))

-- it holds of every database of every session
lives : {I : (World → Type 0) → Place → Type 0} → LivesOn I → (limit : ℕ) (history : List Happening) (w : World)
    (leads : Leads (start limit) history w) (s : Past) → PastUpTo (past limit history w leads) s →
    AllPlaces (I (WasBefore s)) s.world
lives {I} l limit [] w is s (inl same) =
    subst (λ (r : Past). AllPlaces (I (WasBefore r)) r.world) (sym same) (subst (AllPlaces (I (λ u. ⊥))) (sym is) tt)
lives l limit [] w is s (inr before) = absurd before
lives {I} l limit (h ∷ hs) w leads s (inl same) =
    let before = lives l limit hs leads.0 leads.1 in
    let t = past limit hs leads.0 leads.1 in
    subst (λ (r : Past). AllPlaces (I (WasBefore r)) r.world) (sym same) (step_passes t w h leads.2
    (l.stays t, (λ name p found was. ((λ n is. (name, ap node_in found ∙ is)), was)))
    (l.passes t before) ((λ n is. absurd cc), l.bare t) (before t (inl refl)))
lives l limit (h ∷ hs) w leads s (inr before) = lives l limit hs leads.0 leads.1 s before

pub lives_in : {I : (World → Type 0) → Place → Type 0} → LivesOn I → (t : Past) → AllPlaces (I (WasBefore t)) t.world
lives_in l t = lives l t.limit t.history t.world t.leads t (inl refl)

-- ---- one database, beside the sessions

turned_on : {t : Past} {R : Place → Type 0} → Passes t R R → (p q : Place) → Turned (IsStep t) p q → R p → R q
turned_on {R = R} k p q (Commits c step is) was = subst R (sym is) (k.commits c p step was)
turned_on {R = R} k p q (Falls count is) was = subst R (sym is) (k.falls count p was)
turned_on {R = R} k p q (Doubts c stands step is) was =
    subst R (sym is)
    (k.promises _ _ (k.wavers stands _ (either R stands (committing c p) p (k.commits c p step was) was)))

passing_step : {R : Place → Type 0} (name : List ℕ) (t : Past) (v : World) (h : Happening) → Passes t R R →
    Step t.world h v → HoldsOf R name t.world.places → HoldsOf R name v.places
passing_step {R} name t v h k step (q, found, holds) = by step
  where
    w : World
    w = t.world

    by : Step w h v → HoldsOf R name v.places
    by (Grants other result about granted takes told is) =
        subst (λ u. HoldsOf R name u.places) (sym is) (q, found_behind name other _ q w.places found, holds)
    by (Denies other about denied sure told is) = subst (λ u. HoldsOf R name u.places) (sym is) (q, found, holds)
    by (Misses other task about none sure told is) = subst (λ u. HoldsOf R name u.places) (sym is) (q, found, holds)
    by (Asks s) =
        subst (λ u. HoldsOf R name u.places) (sym s.is)
        (put_holds name w.places (record {
          name = s.name;
          before = s.place;
          behind = place_by s.task s.place h.choice;
          at = s.found;
          on = λ was. task_passes k s.task s.place h.choice was;
        }) (q, found, holds))
    by (Acts a) =
        acting_turns {R = HoldsOf R name} (λ other p q ps at turned was. put_holds name ps (record {
          name = other;
          before = p;
          behind = q;
          at = at;
          on = λ was. turned_on k p q turned was;
        }) was) w v h a (outcome_steps t a.act) (q, found, holds)

-- what held of a database holds still, whatever a history brings
pub passing_later : {R : Place → Type 0} → ((t : Past) → Passes t R R) → (t : Past) (later : List Happening)
    (v : World) → Leads t.world later v → (name : List ℕ) → HoldsOf R name t.world.places → HoldsOf R name v.places
passing_later {R} k t [] v is name holds = subst (λ u. HoldsOf R name u.places) (sym is) holds
passing_later k t (h ∷ later) v goes_on name holds =
    let before = joined t.limit t.history later t.world goes_on.0 t.leads goes_on.1 in
    passing_step name (past t.limit (later ++ t.history) goes_on.0 before) v h
    (k (past t.limit (later ++ t.history) goes_on.0 before)) goes_on.2
    (passing_later k t later goes_on.0 goes_on.1 name holds)

-- the same of what is kept where stretches hold
pub stays_later : {R : Place → Type 0} → KeptLater R → (t : Past) (later : List Happening) (v : World) →
    Leads t.world later v → (name : List ℕ) → HoldsOf R name t.world.places → HoldsOf R name v.places
stays_later {R} k t [] v is name holds = subst (λ u. HoldsOf R name u.places) (sym is) holds
stays_later k t (h ∷ later) v goes_on name holds =
    later_step k name goes_on.0 v h (ready_world t.limit (later ++ t.history) goes_on.0
    (joined t.limit t.history later t.world goes_on.0 t.leads goes_on.1)) goes_on.2
    (stays_later k t later goes_on.0 goes_on.1 name holds)
