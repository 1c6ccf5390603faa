-- A set that a node keeps, as it is to take a SYNC.
use Rattle.std.specs.Prelude.{ℕ, ◌==◌, ◌&&◌, Bool, false, List, filter, map, Option, Some, None, option_map}
use Rattle.std.specs.Prelude.{unwrap_or}
use Rattle.store_rows.specs.Rows.{IsId}
use Rattle.node_rows.specs.declared.rows.SetRow.{SetRow}
use Rattle.node_rows.specs.declared.rows.Subscription.{Subscription}
use Rattle.node_rows.specs.declared.rows.TableRow.{TableRow}
use Rattle.slon_model.specs.Maps.{Map, pair_at}
use Rattle.slon_model.specs.Events.{Event}
use Rattle.slon_model.specs.Config.{Config, forwards, is_table_of}
use Rattle.slon_model.specs.Views.{View, Views, view_after}
use Rattle.slon_model.specs.Deeds.{Logged}
use Rattle.slon_model.specs.Following.{SetSync, delta, tables_taken}
use Rattle.slon_model.specs.Place.{Place}
use Rattle.slon_laws.specs.Spelled.{logs_in}
use Rattle.event_store.specs.Kept.{seen_view}
use Rattle.event_store.specs.Spellings.{CanView}
use Rattle.node_store.specs.Logged.{HaveEnded}
use Rattle.remote_worker.specs.declared.keeping.KeptSet.{KeptSet}

-- ---- by the rules

-- From which node the node takes a set, how far it is in that, and how far behind the SYNC, to which tables it takes
-- rows, and whether it logs them.
pub record Kept : Type 0 where
  pub set_id : ℕ
  pub provider : ℕ
  pub before : View
  pub view : View
  pub tables : Map (List ℕ)
  pub forwards : Bool

-- the node from which the node of this id takes a set of this origin
abbrev pub provider_at : ℕ → ℕ → ℕ → Config → ℕ
provider_at own origin set c =
    unwrap_or (option_map (λ u. u.provider) (pair_at set own c.subscriptions)) origin

-- of a set that the node of this id keeps
abbrev pub kept_for : ℕ → Config → Event → ℕ × View → Kept
kept_for own c e v = record {
  set_id = v.0;
  provider = provider_at own e.origin v.0 c;
  before = v.1;
  view = view_after e v.1;
  tables = tables_taken own v.0 c;
  forwards = forwards v.0 own c;
}

-- of all that it keeps of the origin of the event
abbrev pub kept_among : ℕ → Config → Event → Views → List Kept
kept_among own c e views = map (kept_for own c e) (filter (λ v. v.1.origin == e.origin) views)

-- what it takes of it from a provider that has logged this
abbrev pub taken_of : Event → List Logged → Kept → SetSync
taken_of e logs k = record {
  set_id = k.set_id;
  before = k.before;
  view = k.view;
  tables = k.tables;
  rows = delta e.origin k.tables k.before.seen e.taken logs;
  forwards = k.forwards;
}

-- where a provider is at this place, what it has logged of the origin below the number had ended as the node was as far
-- as it is in the set
abbrev pub HaveEndedBy : ℕ → ℕ → Kept → Place → Type 0
HaveEndedBy origin known k p = HaveEnded origin known k.before.seen.xmin (logs_in p.node)

-- the names of the tables of a set to which the node of this id takes rows
abbrev pub names_to : ℕ → ℕ → Config → List (List ℕ)
names_to own set c = map (λ t. t.1) (tables_taken own set c)

-- ---- in the code

abbrev pub seen_kept : KeptSet → Kept
seen_kept k = record {
  set_id = k.set;
  provider = k.provider;
  before = seen_view k.before;
  view = seen_view k.view;
  tables = k.tables;
  forwards = k.forwards;
}

pub record CanFollow (k : KeptSet) : Type 0 where
  pub set_id : IsId k.set
  pub provider : IsId k.provider
  pub view : CanView (seen_view k.view)

-- the node of this id is the origin of the set of a row, which is live
abbrev pub leads_in : ℕ → Option SetRow → Bool
leads_in own None = false
leads_in own (Some row) = row.live && row.origin == own

abbrev pub forwards_in : Option Subscription → Bool
forwards_in None = false
forwards_in (Some row) = row.forward

-- the node from which a subscription takes its set, or the origin where there is none
abbrev pub provider_in : Option Subscription → ℕ → ℕ
provider_in None origin = origin
provider_in (Some row) origin = row.provider

-- those of these tables that are live and in this set
abbrev pub tables_among : ℕ → List (ℕ × TableRow) → Map (List ℕ)
tables_among set rows = map (λ e. (e.0, e.1.name)) (filter (is_table_of set) rows)
