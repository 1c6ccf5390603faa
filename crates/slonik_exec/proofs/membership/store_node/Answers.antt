use Rattle.std.proofs.Common.{◌∙◌, Some, is_some, refl, sym, ap, subst}
use Rattle.std.proofs.lemmas.Result.{IfOk-weaker}
use Rattle.std.specs.Option.{option_copied}
use Rattle.slon_model.specs.declared.reply.Refusal.TheVariants as refused
use Rattle.slonik_exec.specs.declared.knowing.Heard.TheVariants.{Known}
use Rattle.slonik_exec.specs.declared.knowing.Question.TheVariants.{Node as OfNode}
use Rattle.slonik_exec.specs.Databases.{bases_of}
use Rattle.slonik_exec.specs.Heard.{RunsHeard, Hears}
use Rattle.slonik_exec.specs.Reached.{Addresses, IsQuietly, IsDownNode, Reaches, FindsLine}
use Rattle.slonik_exec.proofs.Stores.{Order}
use Rattle.slonik_exec.proofs.Storing.{seen_by, target_at, free_at, Asked, reach_refuses, line_refuses}
use Rattle.slonik_exec.proofs.Storing.{node_refuses, down_refuses, used_refuses, stop_breaks, runs_refused}
use Rattle.slonik_exec.proofs.Storing.{joinable_seen, asked_runs, asked_executes}
use Rattle.slonik_exec.proofs.membership.store_node.Goals as goal

pub returns-in-Refused-clause-runs : goal.returns-in-Refused-clause-runs
returns-in-Refused-clause-runs g c =
    let bases = bases_of g.K.Keeper.kept c.args.databases.now in
    runs_refused c.in-Refused.refusal bases (subst IsQuietly c.in-Refused.is c.in_ok-from.ensures.quiet)

pub returns-in-Refused-clause-executes : goal.returns-in-Refused-clause-executes
returns-in-Refused-clause-executes g c =
    let a : Addresses = record { lines = c.args.caller.lines.now; cluster = c.args.caller.cluster.now } in
    let o : Order = record { id = c.args.id; event_node = c.args.event_node; comment = c.args.comment.now } in
    let bases = bases_of g.K.Keeper.kept c.args.databases.now in
    reach_refuses a o bases c.in-Refused.refusal
    (subst (Reaches a o.event_node bases) c.in-Refused.is c.in_ok-from.ensures.reaches)

pub returns-in-Refused-2-clause-runs : goal.returns-in-Refused-2-clause-runs
returns-in-Refused-2-clause-runs g c =
    let bases = bases_of g.K.Keeper.kept c.args.databases.now in
    runs_refused c.in-Refused-2.refusal bases (subst IsQuietly c.in-Refused-2.is c.in_ok-to.ensures.quiet)

pub returns-in-Refused-2-clause-executes : goal.returns-in-Refused-2-clause-executes
returns-in-Refused-2-clause-executes g c =
    let a : Addresses = record { lines = c.args.caller.lines.now; cluster = c.args.caller.cluster.now } in
    let o : Order = record { id = c.args.id; event_node = c.args.event_node; comment = c.args.comment.now } in
    let bases = bases_of g.K.Keeper.kept c.args.databases.now in
    line_refuses a o bases c.in-At.from c.in-Refused-2.refusal (
      subst (Reaches a o.event_node bases) c.in-At.is c.in_ok-from.ensures.reaches,
      subst (FindsLine a.lines o.id bases) c.in-Refused-2.is c.in_ok-to.ensures.finds,
    )

pub returns-in-Some-clause-runs : goal.returns-in-Some-clause-runs
returns-in-Some-clause-runs g c =
    let bases = bases_of g.K.Keeper.kept c.args.databases.now in
    runs_refused (refused.AlreadyNode c.in-Some.node) bases refl

pub returns-in-Some-clause-executes : goal.returns-in-Some-clause-executes
returns-in-Some-clause-executes g c =
    let a : Addresses = record { lines = c.args.caller.lines.now; cluster = c.args.caller.cluster.now } in
    let o : Order = record { id = c.args.id; event_node = c.args.event_node; comment = c.args.comment.now } in
    let seen = seen_by {kept = g.K.Keeper.kept} {a = a} {o = o}
    (c.in_ok-from.ensures.here, c.in_ok-from.ensures.reaches) c.in-At.is
    (c.in_ok-to.ensures.here, c.in_ok-to.ensures.finds) c.in-At-2.is in
    node_refuses c.in-Some.node seen
    (target_at c.args.databases.now c.in-At-2.to c.index-databases-to.result c.index-databases-to.is)
    (sym c.node_id.ensures.id ∙ c.in-Some.is)

pub returns-in-Some-down_node-clause-runs : goal.returns-in-Some-down_node-clause-runs
returns-in-Some-down_node-clause-runs g c =
    let bases = bases_of g.K.Keeper.kept c.args.databases.now in
    runs_refused (refused.Down c.in_ok-database.database) bases refl

pub returns-in-Some-down_node-clause-executes : goal.returns-in-Some-down_node-clause-executes
returns-in-Some-down_node-clause-executes g c =
    let a : Addresses = record { lines = c.args.caller.lines.now; cluster = c.args.caller.cluster.now } in
    let o : Order = record { id = c.args.id; event_node = c.args.event_node; comment = c.args.comment.now } in
    let bases = bases_of g.K.Keeper.kept c.args.databases.now in
    let seen = seen_by {kept = g.K.Keeper.kept} {a = a} {o = o}
    (c.in_ok-from.ensures.here, c.in_ok-from.ensures.reaches) c.in-At.is
    (c.in_ok-to.ensures.here, c.in_ok-to.ensures.finds) c.in-At-2.is in
    let free = free_at c.args.databases.now c.in-At-2.to c.index-databases-to.result c.index-databases-to.is
    (c.node_id.ensures.has ∙ ap is_some c.in_default.is) in
    down_refuses c.in_ok-database.database seen free
    (subst (IsDownNode bases)
    (ap option_copied c.in-Some-down_node.is ∙ ap (λ t. Some t) (sym c.in_ok-database.ensures)) c.down_node.ensures)

pub join_both-requires-clause-joinable : goal.join_both-requires-clause-joinable
join_both-requires-clause-joinable g c =
    let a : Addresses = record { lines = c.args.caller.lines.now; cluster = c.args.caller.cluster.now } in
    let o : Order = record { id = c.args.id; event_node = c.args.event_node; comment = c.args.comment.now } in
    let bases = bases_of g.K.Keeper.kept c.args.databases.now in
    let seen = seen_by {kept = g.K.Keeper.kept} {a = a} {o = o}
    (c.in_ok-from.ensures.here, c.in_ok-from.ensures.reaches) c.in-At.is
    (c.in_ok-to.ensures.here, c.in_ok-to.ensures.finds) c.in-At-2.is in
    let free = free_at c.args.databases.now c.in-At-2.to c.index-databases-to.result c.index-databases-to.is
    (c.node_id.ensures.has ∙ ap is_some c.in_default.is) in
    let news = bases_of g.K.Keeper.kept c.known_somewhere.new.databases in
    joinable_seen c.known_somewhere.new.databases seen free
    (subst (λ h. RunsHeard bases h news) c.in-Known-false.is c.in_ok-reply.ensures.runs).1

pub returns-in-Stopped-clause-executes : goal.returns-in-Stopped-clause-executes
returns-in-Stopped-clause-executes g c =
    let a : Addresses = record { lines = c.args.caller.lines.now; cluster = c.args.caller.cluster.now } in
    let o : Order = record { id = c.args.id; event_node = c.args.event_node; comment = c.args.comment.now } in
    let bases = bases_of g.K.Keeper.kept c.args.databases.now in
    let news = bases_of g.K.Keeper.kept c.known_somewhere.new.databases in
    stop_breaks a o bases c.in-Stopped.reply news
    (subst (IsDownNode bases) (ap option_copied c.in_default-down_node.is) c.down_node.ensures)
    (subst (λ h. Hears (OfNode c.args.id) bases h news) c.in-Stopped.is c.in_ok-reply.ensures.hears)

pub returns-in-Known-true-clause-executes : goal.returns-in-Known-true-clause-executes
returns-in-Known-true-clause-executes g c =
    let a : Addresses = record { lines = c.args.caller.lines.now; cluster = c.args.caller.cluster.now } in
    let o : Order = record { id = c.args.id; event_node = c.args.event_node; comment = c.args.comment.now } in
    let bases = bases_of g.K.Keeper.kept c.args.databases.now in
    let seen = seen_by {kept = g.K.Keeper.kept} {a = a} {o = o}
    (c.in_ok-from.ensures.here, c.in_ok-from.ensures.reaches) c.in-At.is
    (c.in_ok-to.ensures.here, c.in_ok-to.ensures.finds) c.in-At-2.is in
    let free = free_at c.args.databases.now c.in-At-2.to c.index-databases-to.result c.index-databases-to.is
    (c.node_id.ensures.has ∙ ap is_some c.in_default.is) in
    let news = bases_of g.K.Keeper.kept c.known_somewhere.new.databases in
    used_refuses news seen free
    (subst (IsDownNode bases) (ap option_copied c.in_default-down_node.is) c.down_node.ensures)
    (subst (λ h. Hears (OfNode c.args.id) bases h news) (c.in-Known-true.is ∙ ap Known c.in-Known-true.field-0-test)
    c.in_ok-reply.ensures.hears)

pub returns-in-Known-false : goal.returns-in-Known-false
returns-in-Known-false g c =
    let a : Addresses = record { lines = c.args.caller.lines.now; cluster = c.args.caller.cluster.now } in
    let o : Order = record { id = c.args.id; event_node = c.args.event_node; comment = c.args.comment.now } in
    let bases = bases_of g.K.Keeper.kept c.args.databases.now in
    let seen = seen_by {kept = g.K.Keeper.kept} {a = a} {o = o}
    (c.in_ok-from.ensures.here, c.in_ok-from.ensures.reaches) c.in-At.is
    (c.in_ok-to.ensures.here, c.in_ok-to.ensures.finds) c.in-At-2.is in
    let free = free_at c.args.databases.now c.in-At-2.to c.index-databases-to.result c.index-databases-to.is
    (c.node_id.ensures.has ∙ ap is_some c.in_default.is) in
    let news = bases_of g.K.Keeper.kept c.known_somewhere.new.databases in
    let same = subst (λ h. RunsHeard bases h news) (c.in-Known-false.is ∙ ap Known c.in-Known-false.field-0-test)
    c.in_ok-reply.ensures.runs in
    let asked : Asked {g = g.K.Keeper} g.K.Keeper.kept a o c.args.databases.now c.known_somewhere.new.databases
    c.in-At.from c.in-At-2.to = record {
      seen = seen;
      free = free;
      runs = same.0;
      same = same.1;
      up = subst (IsDownNode bases) (ap option_copied c.in_default-down_node.is) c.down_node.ensures;
      hears = subst (λ h. Hears (OfNode c.args.id) bases h news)
          (c.in-Known-false.is ∙ ap Known c.in-Known-false.field-0-test) c.in_ok-reply.ensures.hears;
    } in
    record {
      runs = IfOk-weaker c.join_both.result _ _
          (λ reply joined. asked_runs reply c.join_both.new.databases asked joined) c.join_both.ensures.joined;
      executes = IfOk-weaker c.join_both.result _ _
          (λ reply joined. asked_executes reply c.join_both.new.databases asked joined) c.join_both.ensures.joined;
    }
