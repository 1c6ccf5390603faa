-- What a node keeps of a set that it is told to forward, or to receive no more.
use Rattle.std.proofs.Common.{◌≡◌, ℕ, Bool, true, false, cond, refl}
use Rattle.std.specs.Prelude.{◌==◌, ◌&&◌, not}
use Rattle.slon_base.specs.Keeper.{Store}
use Rattle.node_rows.specs.declared.body.Body.{Body}
use Rattle.node_rows.specs.declared.body.Body.TheVariants.{Sync, SubscribeSet, UnsubscribeSet}
use Rattle.slon_model.specs.Maps.{without_entry}
use Rattle.slon_model.specs.Config.{Config, forwards}
use Rattle.slon_model.specs.Views.{Views, based_at, views_told}
use Rattle.event_store.specs.Holds.{ShowsStreams}
use Rattle.event_store.specs.Streams.{Streams}
use Rattle.node_change.specs.declared.forwarding.Told.{Told}
use Rattle.node_change.specs.declared.forwarding.Told.TheVariants.{Nothing, Forwards, Leaves}
use Rattle.node_change.specs.Forwarding.{told_of}

-- the views of the node, which is told this of a set
abbrev pub views_by : ℕ → Config → Views → Told → Views
views_by own c views Nothing = views
views_by own c views (Forwards set) = cond (not (forwards set own c)) (based_at set views) views
views_by own c views (Leaves set) = without_entry set views

pub told_by : (own : ℕ) (body : Body) (c : Config) (views : Views) →
    views_told own body c views ≡ views_by own c views (told_of own body)
told_by own Sync c views = refl
told_by own (SubscribeSet set provider receiver forward) c views = by (receiver == own) forward
  where
    by : (is_own on : Bool) → cond (is_own && (on && not (forwards set own c))) (based_at set views) views
        ≡ views_by own c views (cond (is_own && on) (Forwards set) Nothing)
    by false on = refl
    by true false = refl
    by true true = refl
told_by own (UnsubscribeSet set receiver) c views = by (receiver == own)
  where
    by : (is_own : Bool) → cond is_own (without_entry set views) views
        ≡ views_by own c views (cond is_own (Leaves set) Nothing)
    by false = refl
    by true = refl
told_by own others c views = refl

-- views that are as they were
pub same_views : {base : Store} {s : Streams} {m : Store} → ShowsStreams base s m →
    ShowsStreams base (record s { views = s.views }) m
same_views shows = record {
  streams = record {
    views = shows.streams.views;
    events = shows.streams.events;
    confirmations = shows.streams.confirmations;
    cleaned = shows.streams.cleaned;
    news = shows.streams.news;
  };
  others = shows.others;
}
