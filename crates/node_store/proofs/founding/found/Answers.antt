use Rattle.std.proofs.Common.{refl, arith}
use Rattle.slon_model.specs.Membership.{becoming, first_of_cluster}
use Rattle.app_store.proofs.Transacting.{small_stamp}
use Rattle.app_store.proofs.Upright.{up_at, running, untouched}
use Rattle.node_store.proofs.Becoming.{becomes_as, none_held}
use Rattle.node_store.proofs.Endings.{stamp_bursts, entry_breaks}
use Rattle.node_store.proofs.Several.{within_limit}
use Rattle.node_store.proofs.founding.found.Goals as goal

pub returns-then-database-ge-STORED_LIMIT-clause-founds : goal.returns-then-database-ge-STORED_LIMIT-clause-founds
returns-then-database-ge-STORED_LIMIT-clause-founds g c p ready none memory name run cluster =
    stamp_bursts (up_at ready c.requires.up) (omega (arith, c.if-database-ge-STORED_LIMIT.true))
    c.overflow.ensures.fault (record { down = c.overflow.ensures.down; looked = untouched _ })

pub returns-in-Ok-clause-founds : goal.returns-in-Ok-clause-founds
returns-in-Ok-clause-founds g c p ready none memory name run cluster =
    let at = up_at ready c.requires.up in
    let n = first_of_cluster c.args.id c.args.comment.now run in
    let room = c.if-database-ge-STORED_LIMIT.false in
    let w = c.in-Ok.ensures.writes run ready.fits.held.0 cluster ready.fits.held.1 (none_held at none) in
    becomes_as at n name c.become_node.result (record {
      none = none;
      fresh = refl;
      store = w.0;
      pending = w.1;
      is = w.2;
      known = w.3;
      way = c.in-Ok.ensures.enters;
      memory = refl;
    }) c.become_node.ensures memory
    (within_limit (becoming name n) p
    (small_stamp p c.args.database.now.state.stamp (running at).1.stamp (omega (arith, room))) refl)

pub returns-in-Err-clause-founds : goal.returns-in-Err-clause-founds
returns-in-Err-clause-founds g c p ready none memory name run cluster =
    entry_breaks (up_at ready c.requires.up) (omega (arith, c.if-database-ge-STORED_LIMIT.false))
    c.in-Err.ensures.enters (record { down = c.fall.ensures.down; fault_is = c.fall.ensures.fault }) memory
    (c.in-Err.ensures.writes run ready.fits.held.0 cluster ready.fits.held.1
    (none_held (up_at ready c.requires.up) none))
