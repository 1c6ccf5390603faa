use Rattle.std.proofs.Common.{◌≡◌, ◌++◌, map, drop}
use Rattle.slon_model.specs.Place.{kept_text}
use Rattle.node_state.specs.Held.{seen_views}
use Rattle.node_state.proofs.keeping.kept_list.Given as goal

abbrev pub invariant-loop-set : goal.invariant-loop-set
invariant-loop-set l =
    record {
      lists : l.kept ++ map kept_text (seen_views (drop l.set-index l.views)) ≡ map kept_text (seen_views l.views);
    }
