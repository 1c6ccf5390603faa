-- The streams of a node and what it knows of the cluster stand in spaces of their own.
use Rattle.std.proofs.Common.{refl, sym}
use Rattle.event_store.specs.Apart.{ConfigStays, StreamsStay}
use Rattle.event_store.proofs.Holding.{whole, moved}

pub config_stays : ConfigStays
config_stays base m s c shows held = record {
  nodes = moved (sym (shows.others 4 refl)) held.nodes;
  paths = moved (sym (shows.others 5 refl)) held.paths;
  sets = moved (sym (shows.others 6 refl)) held.sets;
  tables = moved (sym (shows.others 7 refl)) held.tables;
  subscriptions = moved (sym (shows.others 8 refl)) held.subscriptions;
  fences = moved (sym (shows.others 14 refl)) held.fences;
}

pub streams_stay : StreamsStay
streams_stay base m s c shows held = whole
    (moved (sym (shows.others 9 refl)) held.views)
    (moved (sym (shows.others 10 refl)) held.events)
    (moved (sym (shows.others 11 refl)) held.confirmations)
    (moved (sym (shows.others 12 refl)) held.cleaned)
    (moved (sym (shows.others 13 refl)) held.news)
