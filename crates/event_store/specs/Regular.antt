-- What holds of the streams of every node.
use Rattle.std.specs.Prelude.{◌≡◌, ◌<◌, ◌≤◌, List, [], ◌∷◌}
use Rattle.slon_base.specs.Codec.{AllAre}
use Rattle.slon_model.specs.Events.{Event}
use Rattle.slon_model.specs.Maps.{number_at}
use Rattle.event_store.specs.Giving.{HearsOfOthers}
use Rattle.event_store.specs.Ordered.{IsOrdered, AreOrdered}
use Rattle.event_store.specs.Spellings.{IsNumbered}
use Rattle.event_store.specs.Streams.{Streams}

-- the events of each origin fall in number, and each can be named in a store
abbrev pub AreFalling : List Event → Type 0
AreFalling [] = Unit {0}
AreFalling (e ∷ es) =
    IsNumbered (e.origin, e.number) × AllAre (λ f. f.origin ≡ e.origin → f.number < e.number) es × AreFalling es

-- The ids of its maps are in their range and ascend, and no other node told it how far it is itself. The events that it
-- holds fall in number, and are none beyond how far it is.
pub record IsRegular (s : Streams) : Type 0 where
  pub others : HearsOfOthers s
  pub views : IsOrdered s.views
  pub progress : IsOrdered s.progress
  pub told : AreOrdered s.told
  pub falling : AreFalling s.events
  pub met : AllAre (λ e. e.number ≤ number_at e.origin s.progress) s.events
