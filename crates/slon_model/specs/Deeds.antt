-- What a node did, and what it knows: a fold over what it did.
use Rattle.std.specs.Prelude.{ℕ, ◌==◌, ◌||◌, if◌then◌else◌, not, nat_lt, true, List, [], ◌∷◌, ◌++◌, map, filter}
use Rattle.std.specs.Prelude.{filter_map, Option, Some, None}
use Rattle.slon_model.specs.Maps.{Map, Map2, entry_at, with_entry, number_at, row_at, with_pair}
use Rattle.slon_model.specs.Rows.{Rows, Action}
use Rattle.slon_model.specs.Events.{Event, is_sync}
use Rattle.slon_model.specs.Config.{Config, change}
use Rattle.slon_model.specs.Names.{Named}
use Rattle.slon_model.specs.Views.{View, Views, views_emitted, views_told, with_views}

-- An action of the origin of an era on a table of its set, as a node logs it.
pub record Logged : Type 0 where
  pub set_id : ℕ
  pub table_id : ℕ
  pub era : ℕ
  pub origin : ℕ
  pub action : Action

-- What a node takes of sets as it applies an event: what it keeps of each from then on, the rows with which it fills
-- tables, what it logs, the newest action first, and how many rows came.
pub record Brought : Type 0 where
  pub views : Map View
  pub rows : Named Rows
  pub logs : List Logged
  pub count : ℕ

abbrev pub nothing_brought : Brought
nothing_brought = record { views = []; rows = []; logs = []; count = 0 }

-- What a node does in one transaction of its store.
pub data Doing : Type 0 where
  Emits : (event : Event) → Doing
  -- an event of another node
  Applies : (event : Event) (brought : Brought) → Doing
  -- a transaction of an application, with at least one action
  Commits : (xid : ℕ) → Doing
  -- confirmations: an origin, a node, and how far that node is
  Hears : (confirms : List (ℕ × ℕ × ℕ)) → Doing

-- A deed, with the number of the next action there as it was done, the rows that tables have as they come into a set by
-- it, and what it logs, the newest action first.
pub record Deed : Type 0 where
  pub first : ℕ
  pub rows : List (List ℕ × Rows)
  pub logs : List Logged
  pub doing : Doing

-- What a node knows.
pub record Knowledge : Type 0 where
  pub config : Config
  pub views : Views
  -- how far it is in each stream, its own too, and what it has deleted
  pub progress : Map ℕ
  pub low : Map ℕ
  -- the last event of each origin that is no SYNC
  pub news : Map ℕ
  -- by origin and node: what other nodes confirmed
  pub told : Map2 ℕ
  -- which log is active, and whether the other is being cleaned
  pub log : ℕ

-- ---- the fold

-- the node met an event: it is as far as that in its stream
abbrev pub noticed : Event → Map ℕ → Map ℕ
noticed e news = if is_sync e.body then news else with_entry e.origin e.number news

-- what a node was told of others, once it hears a confirmation, which rises and never falls
abbrev pub raised : ℕ × ℕ × ℕ → Map2 ℕ → Map2 ℕ
raised c told =
    if nat_lt (number_at c.1 (row_at c.0 told)) c.2 then with_pair c.0 c.1 c.2 told else told

abbrev pub heard : List (ℕ × ℕ × ℕ) → Map2 ℕ → Map2 ℕ
heard [] told = told
heard (c ∷ cs) told = heard cs (raised c told)

-- What the node of this id knows after one more deed.
abbrev pub learned : ℕ → Doing → Knowledge → Knowledge
learned own (Emits e) k =
    record k {
      config = change e k.config;
      views = views_emitted e e.body k.views;
      progress = with_entry e.origin e.number k.progress;
      news = noticed e k.news;
    }
learned own (Applies e b) k =
    record k {
      config = change e k.config;
      views = with_views b.views (views_told own e.body k.config k.views);
      progress = with_entry e.origin e.number k.progress;
      news = noticed e k.news;
    }
learned own (Commits xid) k = k
learned own (Hears confirms) k = record k { told = heard confirms k.told }

-- the deeds, the newest first, one after the other
abbrev pub learned_all : ℕ → Knowledge → List Deed → Knowledge
learned_all own given [] = given
learned_all own given (d ∷ ds) = learned own d.doing (learned_all own given ds)

-- What the rules know of a database that is a node: what it knew and which events it was given as it became one, and
-- all that it did, the newest first.
pub record Node : Type 0 where
  pub id : ℕ
  pub cluster : List ℕ
  pub given : Knowledge
  pub events : List Event
  pub deeds : List Deed

abbrev pub knowledge : Node → Knowledge
knowledge n = learned_all n.id n.given n.deeds

abbrev pub with_deeds : List Deed → Node → Node
with_deeds ds n = record n { deeds = ds ++ n.deeds }

-- ---- what the rest reads of it

abbrev pub emitted_by : Doing → Option Event
emitted_by (Emits e) = Some e
emitted_by others = None

abbrev pub met_by : Doing → Option Event
met_by (Emits e) = Some e
met_by (Applies e b) = Some e
met_by others = None

abbrev pub brought_in : Doing → Brought
brought_in (Applies e b) = b
brought_in others = nothing_brought

-- the events of the node, the newest first
abbrev pub stream : Node → List Event
stream n = filter_map (λ d. emitted_by d.doing) n.deeds

-- the events that it emitted, applied or was given
abbrev pub met : Node → List Event
met n = filter_map (λ d. met_by d.doing) n.deeds ++ n.events

-- the events that it holds: those that it has not deleted
abbrev pub held : Node → List Event
held n = let low = (knowledge n).low in filter (λ e. nat_lt (number_at e.origin low) e.number) (met n)

abbrev pub progress : ℕ → Knowledge → ℕ
progress origin k = number_at origin k.progress

-- how far the node of this id has heard another confirm; of itself it knows
abbrev pub told_of : ℕ → ℕ → ℕ → Knowledge → ℕ
told_of own origin node k = if node == own then progress origin k else number_at node (row_at origin k.told)

abbrev pub view_of : ℕ → Knowledge → Option View
view_of set k = entry_at set k.views

-- ---- new nodes

-- the node alone
abbrev pub first_config : ℕ → List ℕ → Config
first_config own comment =
    record {
      nodes = (own, record { live = true; comment = comment }) ∷ [];
      paths = [];
      sets = [];
      tables = [];
      subscriptions = [];
      fences = [];
    }

-- a node of a new cluster knows itself alone
abbrev pub first_knowledge : ℕ → List ℕ → Knowledge
first_knowledge own comment =
    record {
      config = first_config own comment;
      views = [];
      progress = [];
      low = [];
      news = [];
      told = [];
      log = 0;
    }

-- confirmations of a node by itself are none, nor are those of the new node
abbrev pub told_to : ℕ → ℕ × Map ℕ → ℕ × Map ℕ
told_to new e = (e.0, filter (λ c. not (c.0 == new || c.0 == e.0)) e.1)

-- how far the event node is, as a confirmation
abbrev pub told_progress : ℕ → Map ℕ → Map2 ℕ → Map2 ℕ
told_progress own [] told = told
told_progress own (p ∷ ps) told = with_pair p.0 own p.1 (told_progress own ps told)

-- what a new node is given by the event node of this id, which knows this
abbrev pub given_to : ℕ → ℕ → Knowledge → Knowledge
given_to new own k =
    record k { views = []; log = 0; told = map (told_to new) (told_progress own k.progress k.told) }
