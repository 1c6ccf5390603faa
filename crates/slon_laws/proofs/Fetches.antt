-- What holds of all that nodes fetched and keep is kept by every step, whatever is forgotten, used up and given up.
use Rattle.std.proofs.Common.{◌≡◌, ℕ, Bool, true, false, cond, sym, List, [], ◌∷◌, Option, Some, None, Result, Ok}
use Rattle.std.proofs.Common.{Err, refl, subst, unwrap_or, not}
use Rattle.std.specs.Prelude.{◌==◌, ◌&&◌, drop}
use Rattle.std.proofs.lemmas.Bool.{eqb-true}
use Rattle.std.specs.List.{AllByRecursion}
use Rattle.std.specs.Str.{bytes_eq}
use Rattle.slon_model.specs.declared.reply.Refusal.{Refusal}
use Rattle.slon_model.specs.Names.{find_named}
use Rattle.slon_model.specs.Maps.{Map, entry_at}
use Rattle.slon_model.specs.Following.{Found}
use Rattle.slon_model.specs.Events.{Event}
use Rattle.slon_model.specs.Tasks.{Act, ToStep}
use Rattle.slon_model.specs.Place.{Place, is_running, fallen}
use Rattle.slon_model.specs.Deciding.{Fate, AllStand, Breaks, DoubtsAt}
use Rattle.slon_model.specs.Sessions.{World, Memory, Fetch, Commit, forgotten, remembered, changed, in_doubt, felled}
use Rattle.slon_model.specs.Sessions.{felled_at}
use Rattle.slon_model.specs.Turns.{sync_turn}
use Rattle.slon_model.specs.Scripts.{ordered}
use Rattle.slon_model.specs.Polls.{polled}
use Rattle.slon_model.specs.Working.{Fetched, fetch_of, fetched, fetched_for, fetches_at, kept_fetch, with_fetch}
use Rattle.slon_model.specs.Working.{without_fetch, worked}
use Rattle.slon_model.specs.World.{Happening, Step, Grants, Denies, Misses, Asks, Acts, Acting, broken_at, memory_after}
use Rattle.slon_model.specs.World.{outcome, wavering, wavering_at, world_by}
use Rattle.slon_model.proofs.Names.{all_map}
use Rattle.slon_laws.specs.Fetches.{AllKept}
use Rattle.slon_laws.proofs.Leaves.{Fetches, outcome_has}
use Rattle.slon_laws.proofs.Lists.{all_entry, all_filtered, all_named, all_with}
use Rattle.slon_laws.proofs.Results.{OnOk, any_ok}

-- what holds of one name, one origin and what was fetched
abbrev pub OfFetch : Type 1
OfFetch = List ℕ → ℕ → Fetch → Type 0

-- ---- what is forgotten

pub forgotten_kept : (G : OfFetch) (name : List ℕ) (m : Memory) → AllKept G m.fetches →
    AllKept G (forgotten name m).fetches
forgotten_kept G name m all =
    all_filtered (λ q. AllByRecursion (λ f. G q.0 f.0 f.1) q.1) (λ e. not (bytes_eq name e.0)) m.fetches all

remembered_kept : (G : OfFetch) (name : List ℕ) (was : Option Place) (q : Place) (m : Memory) →
    AllKept G m.fetches → AllKept G (remembered name was q m).fetches
remembered_kept G name None q m all = all
remembered_kept G name (Some p) q m all =
    elim (is_running q.standing && not (is_running p.standing))
    as (λ b. AllKept G (cond b (forgotten name m) m).fetches) [
      | true ↦ forgotten_kept G name m all
      | false ↦ all
    ]

changed_kept : (G : OfFetch) (name : List ℕ) (q : Place) (w : World) → AllKept G w.memory.fetches →
    AllKept G (changed name q w).memory.fetches
changed_kept G name q w all = remembered_kept G name (find_named name w.places) q w.memory all

felled_kept : (G : OfFetch) (o : Option (List ℕ)) (w : World) → AllKept G w.memory.fetches →
    AllKept G (felled o w).memory.fetches
felled_kept G None w all = all
felled_kept G (Some name) w all = by (find_named name w.places)
  where
    by : (o : Option Place) → AllKept G (felled_at name o w).memory.fetches
    by None = all
    by (Some p) = changed_kept G name (fallen p.told p) w all

broken_kept : (G : OfFetch) (name : List ℕ) (count : ℕ) (o : Option Place) (w : World) → AllKept G w.memory.fetches →
    AllKept G (broken_at name count o w).memory.fetches
broken_kept G name count None w all = all
broken_kept G name count (Some p) w all = changed_kept G name (fallen count p) w all

wavers_kept : (G : OfFetch) (cs : List Commit) (stands : Bool) (w : World) → AllKept G w.memory.fetches →
    AllKept G (wavering cs stands w).memory.fetches
wavers_kept G [] stands w all = all
wavers_kept G (c ∷ cs) stands w all = by (find_named c.name w.places)
  where
    by : (o : Option Place) → AllKept G (wavering_at c stands o w).memory.fetches
    by None = all
    by (Some p) = changed_kept G c.name (in_doubt c stands p) w all

-- ---- what is fetched, used up and given up

fetches_are : (G : OfFetch) (name : List ℕ) (m : Memory) → AllKept G m.fetches →
    AllByRecursion (λ f. G name f.0 f.1) (fetches_at name m)
fetches_are G name m all = by (find_named name m.fetches) refl
  where
    by : (o : Option (Map Fetch)) → find_named name m.fetches ≡ o →
        AllByRecursion (λ f. G name f.0 f.1) (unwrap_or o [])
    by None is = tt
    by (Some fs) is = all_named (λ q. AllByRecursion (λ f. G q.0 f.0 f.1) q.1) name fs m.fetches all is

without_kept : (G : OfFetch) (name : List ℕ) (origin : ℕ) (m : Memory) → AllKept G m.fetches →
    AllKept G (without_fetch name origin m).fetches
without_kept G name origin m all = (
  all_filtered (λ f. G name f.0 f.1) (λ e. not (origin == e.0)) (fetches_at name m) (fetches_are G name m all),
  forgotten_kept G name m all,
)

with_kept : (G : OfFetch) (x : Fetched) (m : Memory) → G x.seat.name x.event.origin (fetch_of x) →
    AllKept G m.fetches → AllKept G (with_fetch x m).fetches
with_kept G x m new all = (
  all_with (λ f. G x.seat.name f.0 f.1) x.event.origin (fetch_of x) (fetches_at x.seat.name m) new
      (fetches_are G x.seat.name m all),
  forgotten_kept G x.seat.name m all,
)

-- G of what a turn fetches
abbrev pub FetchesAre : OfFetch → World → Type 0
FetchesAre G w =
    (node origin : ℕ) → OnOk (λ x. G x.seat.name x.event.origin (fetch_of x)) (fetched node origin w)

outcome_kept : (G : OfFetch) (w : World) → FetchesAre G w → AllKept G w.memory.fetches → (act : Act) →
    AllKept G (outcome act w).memory.fetches
outcome_kept G w fetches all act =
    outcome_has w (λ cs queues fetches. AllKept G fetches) (record {
      nothing = all;
      stops = λ name. forgotten_kept G name w.memory all;
      gives_up = λ name origin. without_kept G name origin w.memory all;
      orders = λ o run. any_ok _ (ordered o run w) (λ stated. all);
      syncs = λ node. any_ok _ (sync_turn node w) (λ stated. all);
      polls = λ node server delivery. any_ok _ (polled node server w) (λ b. all);
      fetches = λ node origin. fetched_kept (fetched node origin w) (fetches node origin);
      works = λ node origin. any_ok _ (worked node origin w)
          (λ c. without_kept G c.seat.name c.event.origin w.memory all);
    }) act
  where
    fetched_kept : (r : Result Fetched Refusal) →
        OnOk (λ x. G x.seat.name x.event.origin (fetch_of x)) r →
        OnOk (λ x. AllKept G (with_fetch x w.memory).fetches) r
    fetched_kept (Ok x) is = with_kept G x w.memory is all
    fetched_kept (Err refusal) is = tt

-- ---- a step

fetches_after : (act : Act) (m : Memory) → (memory_after act m).fetches ≡ m.fetches
fetches_after (ToStep name) m = refl
fetches_after others m = refl

acting_kept : (G : OfFetch) (w v : World) (h : Happening) → Acting w h v → FetchesAre G w → AllKept G w.memory.fetches →
    AllKept G v.memory.fetches
acting_kept G w v h t fetches all = subst (λ u. AllKept G u.memory.fetches) (sym t.is) (by t.fate)
  where
    kept : AllKept G (memory_after t.act w.memory).fetches
    kept = subst (AllKept G) (sym (fetches_after t.act w.memory)) all

    by : (fate : Fate) → AllKept G (world_by t.act fate w).memory.fetches
    by AllStand = felled_kept G (outcome t.act w).falls _ (outcome_kept G w fetches all t.act)
    by (Breaks name count) = broken_kept G name count (find_named name w.places) _ kept
    by (DoubtsAt before stands) = wavers_kept G (drop before (outcome t.act w).commits) stands _ kept

pub kept_step : (G : OfFetch) (w v : World) (h : Happening) → Step w h v → FetchesAre G w → AllKept G w.memory.fetches →
    AllKept G v.memory.fetches
kept_step G w v h (Grants name result about granted takes told is) fetches all =
    subst (λ u. AllKept G u.memory.fetches) (sym is) all
kept_step G w v h (Denies name about denied sure told is) fetches all =
    subst (λ u. AllKept G u.memory.fetches) (sym is) all
kept_step G w v h (Misses name task about none sure told is) fetches all =
    subst (λ u. AllKept G u.memory.fetches) (sym is) all
kept_step G w v h (Asks t) fetches all =
    subst (λ u. AllKept G u.memory.fetches) (sym t.is) (changed_kept G t.name _ w all)
kept_step G w v h (Acts t) fetches all = acting_kept G w v h t fetches all

-- ---- what is kept for an event

-- what G says of all
pub all_kept : (G H : OfFetch) → ((name : List ℕ) (origin : ℕ) (f : Fetch) → G name origin f → H name origin f) →
    (fetches : Fetches) → AllKept G fetches → AllKept H fetches
all_kept G H on fetches all =
    all_map (λ q. AllByRecursion (λ f. G q.0 f.0 f.1) q.1) (λ q. AllByRecursion (λ f. H q.0 f.0 f.1) q.1)
    (λ q is. all_map (λ f. G q.0 f.0 f.1) (λ f. H q.0 f.0 f.1) (λ f. on q.0 f.0 f.1) q.1 is) fetches all

-- What was fetched for an event and is kept.
pub record IsKeptFor (G : OfFetch) (name : List ℕ) (e : Event) (f : Found) : Type 0 where
  pub fetch : Fetch
  pub has : G name e.origin fetch
  pub number : fetch.number ≡ e.number
  pub found : fetch.found ≡ f

pub kept_for : (G : OfFetch) (name : List ℕ) (e : Event) (m : Memory) (f : Found) → AllKept G m.fetches →
    kept_fetch name e.origin e m ≡ Some f → IsKeptFor G name e f
kept_for G name e m f all is = by (entry_at e.origin (fetches_at name m)) refl is
  where
    same : (fetch : Fetch) → G name e.origin fetch → (b : Bool) → (fetch.number == e.number) ≡ b →
        cond b (Some fetch.found) None ≡ Some f → IsKeptFor G name e f
    same fetch has true number is =
        record { fetch = fetch; has = has; number = eqb-true fetch.number e.number number; found = cc }
    same fetch has false number is = absurd cc

    by : (o : Option Fetch) → entry_at e.origin (fetches_at name m) ≡ o → fetched_for e.number o ≡ Some f →
        IsKeptFor G name e f
    by None there is = absurd cc
    by (Some fetch) there is =
        same fetch (all_entry (λ f. G name f.0 f.1) e.origin fetch (fetches_at name m) (fetches_are G name m all) there)
        (fetch.number == e.number) refl is
