use Rattle.std.proofs.Common.{◌≡◌, ◌++◌, length}
use Rattle.std.specs.Vec.Iter.{into_iter_items, into_iter_len}
use Rattle.slon_turns.proofs.following.push_all.Given as goal

abbrev pub invariant-loop-fetch : goal.invariant-loop-fetch
invariant-loop-fetch l =
    let left = into_iter_items l.fetch-iterator in
    record {
      counted : into_iter_len l.fetch-iterator ≡ length left;
      all : l.fetches ++ left ≡ l.fn.fetches ++ l.fn.more;
    }
