-- What a store holds of a node stays while its spaces stay.
use Rattle.std.proofs.Common.{◌≡◌, ℕ, List, Option, Some, None, refl, sym, subst, ◌∙◌, false}
use Rattle.std.specs.Prelude.{◌==◌}
use Rattle.slon_base.specs.Keeper.{Space, Store}
use Rattle.store_rows.specs.Space.{IsSpace}
use Rattle.slon_model.specs.Config.{Config}
use Rattle.slon_model.specs.Deeds.{Node}
use Rattle.set_config.specs.Holds.{HoldsConfig}
use Rattle.event_store.specs.Streams.{Streams}
use Rattle.event_store.specs.Holds.{HoldsStreams}
use Rattle.node_state.specs.Held.{HoldsNode, is_own}

-- the same space at another store
moved : {I X : Type 0} {key : I → List ℕ} {IsOne : I → Type 0} {value : X → List ℕ} {Can : X → Type 0}
    {entry : I → Option X} {space other : Space} → other ≡ space → IsSpace key IsOne value Can entry space →
    IsSpace key IsOne value Can entry other
moved {key = key} {IsOne} {value} {Can} {entry} is held = subst (IsSpace key IsOne value Can entry) (sym is) held

-- the spaces of a node are the same in two stores
abbrev pub AreSame : Store → Store → Type 0
AreSame m new = (space : ℕ) → is_own space ≡ false → new space ≡ m space

-- and so they are but for its log
abbrev pub AreNear : Store → Store → Type 0
AreNear m new = (space : ℕ) → is_own space ≡ false → (space == 15) ≡ false → new space ≡ m space

pub config_stays : (c : Config) (m new : Store) → AreNear m new → HoldsConfig c m → HoldsConfig c new
config_stays c m new same held = record {
  nodes = moved (same 4 refl refl) held.nodes;
  paths = moved (same 5 refl refl) held.paths;
  sets = moved (same 6 refl refl) held.sets;
  tables = moved (same 7 refl refl) held.tables;
  subscriptions = moved (same 8 refl refl) held.subscriptions;
  fences = moved (same 14 refl refl) held.fences;
}

pub streams_stay : (s : Streams) (m new : Store) → AreNear m new → HoldsStreams s m → HoldsStreams s new
streams_stay s m new same held = record {
  views = moved (same 9 refl refl) held.views;
  events = moved (same 10 refl refl) held.events;
  confirmations = moved (same 11 refl refl) held.confirmations;
  cleaned = moved (same 12 refl refl) held.cleaned;
  news = moved (same 13 refl refl) held.news;
}

pub node_stays : (node : Option Node) (m new : Store) → AreSame m new → HoldsNode node m → HoldsNode node new
node_stays None m new same holds = λ space other. same space other ∙ holds space other
node_stays (Some n) m new same held = record {
  id = held.id;
  cluster = held.cluster;
  config = config_stays _ m new (λ space other near. same space other) held.config;
  orderly = held.orderly;
  homes = held.homes;
  self = held.self;
  met = held.met;
  streams = streams_stay _ m new (λ space other near. same space other) held.streams;
  log = moved (same 15 refl) held.log;
  status = held.status;
  behind = held.behind;
  regular = held.regular;
  spare = λ space other spare. same space other ∙ held.spare space other spare;
}
