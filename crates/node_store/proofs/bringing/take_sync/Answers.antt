use Rattle.std.proofs.Common.{◌∙◌, ◌+◌, ◌*◌, ap, arith, length, refl}
use Rattle.store_rows.proofs.Putting.{puts_on, puts_within}
use Rattle.slon_model.specs.Place.{standing_rows}
use Rattle.event_store.specs.Kept.{seen_view}
use Rattle.change_apply.specs.Copied.{with_tables}
use Rattle.node_change.specs.Done.{with_view}
use Rattle.node_change.proofs.Keeping.{kept_on}
use Rattle.node_store.proofs.Following.{one_synced}
use Rattle.node_store.proofs.Taking.{becomes_both, same_tables}
use Rattle.node_store.proofs.bringing.take_sync.Goals as goal

pub returns-clause-takes : goal.returns-clause-takes
returns-clause-takes g c n e p m b t before sync =
    let given = c.args.sync in
    let kept = c.in_ok-keep_set.ensures.turns n e b before.store before.is before.has.held in
    let logged = c.in_ok-log_forwarded.ensures.logs n e (with_view (given.set, seen_view given.view) b) kept.store
    t.rows kept.is kept.has.held sync.logged.from (c.as_slice.ensures.value ∙ sync.logged.rows_are) in
    let all = kept_on logged.store kept.has.own logged.has in
    becomes_both logged.store (g.K.Keeper.kept c.apply_actions.new.keeper) c.apply_actions.result
    (λ store stay rows. one_synced b t given store sync (before.has, all) stay rows) (
      c.apply_actions.ensures.others logged.store logged.is,
      c.apply_actions.ensures.applies (with_tables b.rows (standing_rows p)) (record {
        store = logged.store;
        is = logged.is;
        has = same_tables (with_tables b.rows (standing_rows p)) before.store logged.store (all.own 3 refl)
            before.has.rows;
      }),
    )

pub returns-in_err-keep_set-clause-puts : goal.returns-in_err-keep_set-clause-puts
returns-in_err-keep_set-clause-puts g c =
    puts_within 1 (2 * length c.args.sync.rows + 1) c.in_err-keep_set.ensures.puts (omega arith)

pub returns-in_err-log_forwarded-clause-puts : goal.returns-in_err-log_forwarded-clause-puts
returns-in_err-log_forwarded-clause-puts g c =
    puts_on 1 (length c.as_slice.result.now) (2 * length c.args.sync.rows + 1) c.in_ok-keep_set.ensures.puts
    c.in_err-log_forwarded.ensures.puts (omega (arith, ap (λ rs. length rs) c.as_slice.ensures.value))

pub returns-clause-puts : goal.returns-clause-puts
returns-clause-puts g c =
    let given = c.args.sync in
    let logged = length c.as_slice.result.now in
    puts_on (1 + logged) (length given.actions) (2 * length given.rows + 1)
    (puts_on 1 logged (1 + logged) c.in_ok-keep_set.ensures.puts c.in_ok-log_forwarded.ensures.puts (omega arith))
    c.apply_actions.ensures.puts
    (omega (arith, ap (λ rs. length rs) c.as_slice.ensures.value, c.requires.can.logged.same_number))
