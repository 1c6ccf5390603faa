-- The streams of events at a node: what it has of them, and what it knows of others.
use Rattle.std.specs.Prelude.{ℕ, ◌==◌, if◌then◌else◌, List, [], ◌∷◌, map, Option}
use Rattle.slon_model.specs.Maps.{Map, Map2, entry_at, with_entry, pair_at}
pub use Rattle.slon_model.specs.Events.{event_at}
use Rattle.slon_model.specs.Events.{Event}
use Rattle.slon_model.specs.Views.{Views}
use Rattle.slon_model.specs.Deeds.{Node, knowledge, held, noticed, told_to, told_progress}

-- what a node has of the streams
pub record Streams : Type 0 where
  -- the id of the node
  pub own : ℕ
  -- how far it is in the sets that it subscribes to
  pub views : Views
  -- the events that it holds, the newest first
  pub events : List Event
  -- how far it is in each stream, its own too
  pub progress : Map ℕ
  -- what it has deleted of each
  pub low : Map ℕ
  -- the last event of each origin that is no SYNC
  pub news : Map ℕ
  -- by origin and node: what other nodes confirmed
  pub told : Map2 ℕ

-- what the rules say that the node has
abbrev pub streams_of : Node → Streams
streams_of n =
    let k = knowledge n in
    record {
      own = n.id;
      views = k.views;
      events = held n;
      progress = k.progress;
      low = k.low;
      news = k.news;
      told = k.told;
    }

-- ---- what is looked up

-- by origin and node: how far the node is itself, or what it was told of another
abbrev pub confirmed_at : Streams → ℕ × ℕ → Option ℕ
confirmed_at s i = if i.1 == s.own then entry_at i.0 s.progress else pair_at i.0 i.1 s.told

-- ---- changes

-- the node met an event, and holds it
abbrev pub emitted : Event → Streams → Streams
emitted e s =
    record s {
      events = e ∷ s.events;
      progress = with_entry e.origin e.number s.progress;
      news = noticed e s.news;
    }

-- what a new node of this id gets
abbrev pub given : ℕ → Streams → Streams
given new s =
    record s {
      own = new;
      views = [];
      told = map (told_to new) (told_progress s.own s.progress s.told);
    }
