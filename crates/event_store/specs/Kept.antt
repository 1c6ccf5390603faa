-- What a node keeps of the sets that it subscribes to.
use Rattle.std.specs.Prelude.{ℕ}
use Rattle.std.specs.FinMap.{get}
use Rattle.slon_base.specs.Codec.{number_bytes}
use Rattle.slon_base.specs.Keeper.{Store}
use Rattle.slon_model.specs.Views.{View}
use Rattle.txn_core.specs.Snapshots.{seen_as}
use Rattle.event_store.specs.declared.view.View as declared
use Rattle.event_store.specs.Formed.{IsRow}
use Rattle.event_store.specs.Spellings.{view_bytes, CanView}

-- as the rules know it
abbrev pub seen_view : declared.View → View
seen_view v =
    record {
      era = v.era;
      origin = v.origin;
      number = v.number;
      seen = seen_as v.seen;
      base_era = v.base_era;
      base = seen_as v.base;
    }

-- what is kept of this set
abbrev pub HasView : ℕ → Store → Type 0
HasView set m = IsRow view_bytes CanView (get (m 9) (number_bytes set))
