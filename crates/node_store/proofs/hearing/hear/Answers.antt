use Rattle.std.proofs.Common.{map, refl, sym, ap, subst, arith}
use Rattle.std.specs.Prelude.{unwrap_or}
use Rattle.slon_base.specs.Codec.{AllAre}
use Rattle.node_keeper.specs.Fused.{fuse_kept}
use Rattle.event_store.specs.Telling.{IsOfOther, named}
use Rattle.app_store.proofs.Upright.{up_at, running, untouched}
use Rattle.node_store.proofs.Doers.{hearer, is_written, done_stood, done_doubted, known_hearing}
use Rattle.node_store.proofs.Emitted.{held_node}
use Rattle.node_store.proofs.Endings.{stamp_bursts, entry_breaks, commit_breaks}
use Rattle.node_store.proofs.Findings.{id_is}
use Rattle.node_store.proofs.hearing.hear.Goals as goal

pub write_heard-requires-clause-rows : goal.write_heard-requires-clause-rows
write_heard-requires-clause-rows g c =
    subst (λ own. AllAre (IsOfOther own) c.args.rows.now) (ap (λ o. unwrap_or o 0) (sym c.in-Some.ensures.id))
    c.requires.rows

pub returns-then-database-ge-STORED_LIMIT-clause-hears : goal.returns-then-database-ge-STORED_LIMIT-clause-hears
returns-then-database-ge-STORED_LIMIT-clause-hears g c p n ready is memory name =
    stamp_bursts (up_at ready c.requires.up) (omega (arith, c.if-database-ge-STORED_LIMIT.true))
    c.overflow.ensures.fault (record { down = c.overflow.ensures.down; looked = untouched _ })

pub returns-in-Done-clause-hears : goal.returns-in-Done-clause-hears
returns-in-Done-clause-hears g c p n ready is memory name =
    let at = up_at ready c.requires.up in
    let d = hearer n is (map named c.args.rows.now) name in
    let w = is_written {mid = fuse_kept g.K.Keeper.kept c.write_heard.new.keeper} at d refl
    (c.in-Ok.ensures.writes n ready.fits.held.0 (id_is at n is c.in-Some.ensures.id) ready.fits.held.1
    (held_node n at is)) in
    done_stood at d (omega (arith, c.if-database-ge-STORED_LIMIT.false), refl) w c.in-Ok.ensures.enters
    (rw c.in-Done.is at c.in-Ok-finish.ensures.ends) (record {
      members = c.args.database.now.state.node.members;
      known = known_hearing n (map named c.args.rows.now) is (running at).1;
      memory = refl;
    })

pub returns-in-InDoubt-clause-hears : goal.returns-in-InDoubt-clause-hears
returns-in-InDoubt-clause-hears g c p n ready is memory name =
    let at = up_at ready c.requires.up in
    let d = hearer n is (map named c.args.rows.now) name in
    let w = is_written {mid = fuse_kept g.K.Keeper.kept c.write_heard.new.keeper} at d refl
    (c.in-Ok.ensures.writes n ready.fits.held.0 (id_is at n is c.in-Some.ensures.id) ready.fits.held.1
    (held_node n at is)) in
    done_doubted at d (omega (arith, c.if-database-ge-STORED_LIMIT.false), refl) w c.in-Ok.ensures.enters
    (rw c.in-InDoubt.is at c.in-Ok-finish.ensures.ends)
    (record { up = c.take_down.ensures.up; doubt = refl; identity = c.take_down.ensures.identity })

pub returns-in-Err-finish-clause-hears : goal.returns-in-Err-finish-clause-hears
returns-in-Err-finish-clause-hears g c p n ready is memory name =
    commit_breaks (up_at ready c.requires.up) (omega (arith, c.if-database-ge-STORED_LIMIT.false))
    c.in-Ok.ensures.enters c.in-Err-finish.ensures.ends
    (record { down = c.fall.ensures.down; fault_is = c.fall.ensures.fault }) memory

pub returns-in-Err-clause-hears : goal.returns-in-Err-clause-hears
returns-in-Err-clause-hears g c p n ready is memory name =
    let at = up_at ready c.requires.up in
    entry_breaks at (omega (arith, c.if-database-ge-STORED_LIMIT.false)) c.in-Err.ensures.enters
    (record { down = c.fall-in-Err.ensures.down; fault_is = c.fall-in-Err.ensures.fault }) memory
    (c.in-Err.ensures.writes n ready.fits.held.0 (id_is at n is c.in-Some.ensures.id) ready.fits.held.1
    (held_node n at is))
