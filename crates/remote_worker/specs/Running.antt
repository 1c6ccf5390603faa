-- Sets that a node keeps and that are read together, as they have one provider and the node is as far in each of them.
use Rattle.std.specs.Prelude.{◌≡◌, ℕ, List, [], ◌∷◌, filter, flat_map, map, Option, Some, None}
use Rattle.std.specs.List.{AllByRecursion}
use Rattle.slon_model.specs.Maps.{Map}
use Rattle.slon_model.specs.Events.{Event}
use Rattle.slon_model.specs.Deeds.{Logged}
use Rattle.slon_model.specs.Following.{SetSync, is_on_one}
use Rattle.slon_base.specs.Codec.{AllAre}
use Rattle.node_store.specs.declared.logged.LoggedRows.{LoggedRows}
use Rattle.node_store.specs.Bringing.{CanLogAll, HasLogged}
use Rattle.remote_worker.specs.declared.keeping.KeptSet.{KeptSet}
use Rattle.remote_worker.specs.declared.running.Run.{Run}
use Rattle.remote_worker.specs.Keeping.{CanFollow, Kept, seen_kept, taken_of}

-- the sets of a run, the first one first
abbrev pub sets_in : Run → List KeptSet
sets_in r = r.first ∷ r.others

abbrev pub seen_run : Run → List Kept
seen_run r = map seen_kept (sets_in r)

-- of a run that has been begun, if one has
abbrev pub sets_pending : Option Run → List KeptSet
sets_pending None = []
sets_pending (Some r) = sets_in r

-- all that are in these runs
abbrev pub sets_of_all : List Run → List KeptSet
sets_of_all runs = flat_map sets_in runs

-- It has the provider of the other one, and the node keeps the same snapshot of it.
pub record IsBeside (one other : Kept) : Type 0 where
  pub provider : other.provider ≡ one.provider
  pub seen : other.before.seen ≡ one.before.seen

-- They can be followed, and each has the provider and the snapshot of the first.
pub record CanRun (r : Run) : Type 0 where
  pub can : AllAre CanFollow (sets_in r)
  pub beside : AllByRecursion (λ k. IsBeside (seen_kept r.first) (seen_kept k)) r.others

-- the same of a run that has been begun, if one has
abbrev pub CanGoOn : Option Run → Type 0
CanGoOn None = Unit {0}
CanGoOn (Some r) = CanRun r

-- the tables of all sets of the run
abbrev pub tables_in : List KeptSet → Map (List ℕ)
tables_in sets = flat_map (λ k. k.tables) sets

-- what is taken of a set, where these are the rows
abbrev pub taken_with : List Logged → Kept → SetSync
taken_with logs k = record {
  set_id = k.set_id;
  before = k.before;
  view = k.view;
  tables = k.tables;
  rows = logs;
  forwards = k.forwards;
}

-- where they were read for several sets
abbrev pub taken_among : List Logged → Kept → SetSync
taken_among logs k = taken_with (filter (is_on_one k.tables) logs) k

-- of each set of a run, from a provider that has logged this
abbrev pub taken_run : Event → List Logged → List Kept → List SetSync
taken_run e logs ks = map (taken_of e logs) ks

-- The code has those of these actions of an origin that are on one of these tables.
abbrev pub HasPart : Map (List ℕ) → LoggedRows → LoggedRows → Type 0
HasPart tables found part =
    (origin : ℕ) (logs : List Logged) → HasLogged origin logs found.rows found.actions →
    HasLogged origin (filter (is_on_one tables) logs) part.rows part.actions

-- they can be spelled
abbrev pub CanLogFound : LoggedRows → Type 0
CanLogFound found = CanLogAll found.rows found.actions
