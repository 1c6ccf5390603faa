use Rattle.std.proofs.Common.{◌+◌, refl, arith}
use Rattle.std.proofs.lemmas.Result.{err_from_is_err_and}
use Rattle.node_keeper.specs.Fused.{fuse_kept}
use Rattle.store_rows.proofs.Putting.{none_more, puts_on, puts_within}
use Rattle.event_store.specs.Seen.{seen_event}
use Rattle.app_store.specs.Base.{memory_of}
use Rattle.node_store.specs.Bringing.{puts_allowed}
use Rattle.app_store.proofs.Upright.{up_at, running, untouched}
use Rattle.node_store.proofs.Acting.{never_memory}
use Rattle.node_store.proofs.Doers.{Applying, applier, brought_written, done_stood, done_doubted, known_applying}
use Rattle.node_store.proofs.Doers.{tables_at}
use Rattle.node_store.proofs.Emitted.{held_node}
use Rattle.node_store.proofs.Endings.{stamp_bursts, entry_breaks, commit_breaks}
use Rattle.node_store.proofs.Findings.{id_is}
use Rattle.node_store.proofs.applying.apply.Goals as goal

pub returns-then-database-ge-STORED_LIMIT-clause-applies : goal.returns-then-database-ge-STORED_LIMIT-clause-applies
returns-then-database-ge-STORED_LIMIT-clause-applies g c p n ready is memory takes learns b brought fills name =
    stamp_bursts (up_at ready c.requires.up) (omega (arith, c.if-database-ge-STORED_LIMIT.true))
    c.overflow.ensures.fault (record { down = c.overflow.ensures.down; looked = untouched _ })

pub returns-in_ok-learn-in-Done-clause-applies : goal.returns-in_ok-learn-in-Done-clause-applies
returns-in_ok-learn-in-Done-clause-applies g c p n ready is memory takes learns b brought fills name =
    let at = up_at ready c.requires.up in
    let e = seen_event c.args.event.now in
    let a : Applying p =
    record { node = n; is = is; event = e; brought = b; name = name; fills = fills } in
    let w = brought_written {mid = fuse_kept g.K.Keeper.kept c.write_applied.new.keeper} at a
    (c.in-Ok.ensures.writes n ready.fits.held.0 p b (id_is at n is c.in-Some.ensures.id) ready.fits.held.1
    (record { held = held_node n at is; rows = tables_at at; takes = takes; home = learns.home }) brought) in
    done_stood at (applier a) (omega (arith, c.if-database-ge-STORED_LIMIT.false), refl) w c.in-Ok.ensures.enters
    (rw c.in-Done.is at c.in-Ok-finish.ensures.ends) (record {
      members = c.learn.new.self.members;
      known = known_applying n e b is learns (record {
        members = c.in_ok-learn-in-Done.ensures.members;
        names = c.in_ok-learn-in-Done.ensures.names;
      }) (running at).1;
      memory = λ i. record (memory_of c.args.database.now.state) {
        stamp = c.args.database.now.state.stamp + 1;
        identity = c.in_ok-learn-in-Done.ensures.identity i;
        members = c.learn.new.self.members;
      };
    })

pub returns-in-InDoubt-clause-applies : goal.returns-in-InDoubt-clause-applies
returns-in-InDoubt-clause-applies g c p n ready is memory takes learns b brought fills name =
    let at = up_at ready c.requires.up in
    let e = seen_event c.args.event.now in
    let a : Applying p =
    record { node = n; is = is; event = e; brought = b; name = name; fills = fills } in
    let w = brought_written {mid = fuse_kept g.K.Keeper.kept c.write_applied.new.keeper} at a
    (c.in-Ok.ensures.writes n ready.fits.held.0 p b (id_is at n is c.in-Some.ensures.id) ready.fits.held.1
    (record { held = held_node n at is; rows = tables_at at; takes = takes; home = learns.home }) brought) in
    done_doubted at (applier a) (omega (arith, c.if-database-ge-STORED_LIMIT.false), refl) w c.in-Ok.ensures.enters
    (rw c.in-InDoubt.is at c.in-Ok-finish.ensures.ends)
    (record { up = c.take_down.ensures.up; doubt = refl; identity = c.take_down.ensures.identity })

pub returns-in-Err-finish-clause-applies : goal.returns-in-Err-finish-clause-applies
returns-in-Err-finish-clause-applies g c p n ready is memory takes learns b brought fills name =
    commit_breaks (up_at ready c.requires.up) (omega (arith, c.if-database-ge-STORED_LIMIT.false))
    c.in-Ok.ensures.enters c.in-Err-finish.ensures.ends
    (record { down = c.fall.ensures.down; fault_is = c.fall.ensures.fault }) memory

pub returns-in-Err-clause-applies : goal.returns-in-Err-clause-applies
returns-in-Err-clause-applies g c p n ready is memory takes learns b brought fills name =
    let at = up_at ready c.requires.up in
    entry_breaks at (omega (arith, c.if-database-ge-STORED_LIMIT.false)) c.in-Err.ensures.enters
    (record { down = c.fall-in-Err.ensures.down; fault_is = c.fall-in-Err.ensures.fault }) memory
    (c.in-Err.ensures.writes n ready.fits.held.0 p b (id_is at n is c.in-Some.ensures.id) ready.fits.held.1
    (record { held = held_node n at is; rows = tables_at at; takes = takes; home = learns.home }) brought)

pub returns-in_err-learn-in-Done-clause-applies : goal.returns-in_err-learn-in-Done-clause-applies
returns-in_err-learn-in-Done-clause-applies g c p n ready is memory takes learns b brought fills name =
    absurd (never_memory _ c.from_residual.result
    (err_from_is_err_and c.from_residual.result c.from_residual.ensures.1) memory)

pub returns-then-database-ge-STORED_LIMIT-clause-puts : goal.returns-then-database-ge-STORED_LIMIT-clause-puts
returns-then-database-ge-STORED_LIMIT-clause-puts g c deltas comes =
    puts_within 0 (puts_allowed deltas) (none_more refl) (omega arith)

pub returns-in_ok-learn-in-Done-clause-puts : goal.returns-in_ok-learn-in-Done-clause-puts
returns-in_ok-learn-in-Done-clause-puts g c deltas comes =
    puts_on (puts_allowed deltas) 0 (puts_allowed deltas) (c.in-Ok.ensures.puts deltas comes)
    c.in-Ok-finish.ensures.ends.puts (omega arith)

pub returns-in_err-learn-in-Done-clause-puts : goal.returns-in_err-learn-in-Done-clause-puts
returns-in_err-learn-in-Done-clause-puts g c deltas comes =
    puts_on (puts_allowed deltas) 0 (puts_allowed deltas) (c.in-Ok.ensures.puts deltas comes)
    c.in-Ok-finish.ensures.ends.puts (omega arith)

pub returns-in-InDoubt-clause-puts : goal.returns-in-InDoubt-clause-puts
returns-in-InDoubt-clause-puts g c deltas comes =
    puts_on (puts_allowed deltas) 0 (puts_allowed deltas) (c.in-Ok.ensures.puts deltas comes)
    c.in-Ok-finish.ensures.ends.puts (omega arith)

pub returns-in-Err-finish-clause-puts : goal.returns-in-Err-finish-clause-puts
returns-in-Err-finish-clause-puts g c deltas comes =
    puts_on (puts_allowed deltas) 0 (puts_allowed deltas) (c.in-Ok.ensures.puts deltas comes)
    c.in-Err-finish.ensures.ends.puts (omega arith)

pub returns-in-Err-clause-puts : goal.returns-in-Err-clause-puts
returns-in-Err-clause-puts g c deltas comes = c.in-Err.ensures.puts deltas comes

pub returns-in_default-clause-puts : goal.returns-in_default-clause-puts
returns-in_default-clause-puts g c deltas comes = puts_within 0 (puts_allowed deltas) (none_more refl) (omega arith)
