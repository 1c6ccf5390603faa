-- The events of other nodes that a node applied.
use Rattle.std.specs.Prelude.{◌≡◌, ◌≢◌, ℕ, suc, ◌+◌, ◌==◌, List, [], ◌∷◌, length, filter, filter_map, Option, Some}
use Rattle.std.specs.Prelude.{None}
use Rattle.slon_model.specs.Maps.{Map, number_at}
use Rattle.slon_model.specs.Events.{Event}
use Rattle.slon_model.specs.Deeds.{Node, Doing, Applies}

abbrev pub applied_in : Doing → Option Event
applied_in (Applies e brought) = Some e
applied_in others = None

-- the newest first
abbrev pub applied_events : Node → List Event
applied_events n = filter_map (λ d. applied_in d.doing) n.deeds

abbrev pub of_origin : ℕ → List Event → List Event
of_origin origin es = filter (λ e. e.origin == origin) es

-- The numbers of these events, the newest first, are those behind this one: each is one more than the one before it.
abbrev pub AreSuccessive : ℕ → List Event → Type 0
AreSuccessive before [] = Unit {0}
AreSuccessive before (e ∷ es) = (e.number ≡ suc (before + length es)) × AreSuccessive before es

-- Who was given so much of each stream and is so far by now has applied, of each stream but its own, all that is
-- between the two, each event once and in order.
pub record HasApplied (own : ℕ) (given reached : Map ℕ) (applied : List Event) : Type 0 where
  pub none : of_origin own applied ≡ []
  pub each : (origin : ℕ) → origin ≢ own → AreSuccessive (number_at origin given) (of_origin origin applied)
  pub all : (origin : ℕ) → origin ≢ own →
      number_at origin reached ≡ number_at origin given + length (of_origin origin applied)
