use Rattle.std.proofs.Common.{refl}
use Rattle.event_store.specs.Seen.{seen_event}
use Rattle.slon_model.specs.Place.{standing_rows}
use Rattle.node_store.proofs.Taking.{becomes_both, has_taken, same_tables, tables_taken}
use Rattle.node_store.proofs.bringing.take_set.Goals as goal

pub returns-clause-takes : goal.returns-clause-takes
returns-clause-takes g c n m p b own is can set =
    let e = seen_event c.args.event.now in
    let q = c.in_ok-apply_keeping.ensures.turns n m own is can.held can.takes can.home in
    let taken = has_taken n e b c.args.given m q.store set q.has in
    becomes_both q.store (g.K.Keeper.kept c.replace_tables.new.keeper) c.replace_tables.result
    (λ store stay rows. tables_taken n e b (standing_rows p) store taken stay rows) (
      c.replace_tables.ensures.others q.store q.is,
      c.replace_tables.ensures.replaces (standing_rows p) b.rows set.rows (record {
        store = q.store;
        is = q.is;
        has = same_tables (standing_rows p) m q.store (taken.own 3 refl) can.rows;
      }),
    )
