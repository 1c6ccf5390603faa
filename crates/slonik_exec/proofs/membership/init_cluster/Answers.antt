use Rattle.std.proofs.Common.{◌∙◌, Some, refl, sym, ap, subst}
use Rattle.std.proofs.lemmas.Result.{IfOk-weaker}
use Rattle.std.specs.Option.{option_copied}
use Rattle.slon_model.specs.declared.reply.Refusal.TheVariants as refused
use Rattle.slonik_exec.specs.Databases.{bases_of}
use Rattle.slonik_exec.specs.Reached.{name_on, Addresses, FindsLine, IsDown, IsFirstNode, IsQuietly, IsUpHere}
use Rattle.slonik_exec.proofs.Founding.{Vacant, changed_at, init_refuses, init_down, init_node, init_runs}
use Rattle.slonik_exec.proofs.Founding.{init_founds}
use Rattle.slonik_exec.proofs.Storing.{runs_refused}
use Rattle.slonik_exec.proofs.membership.init_cluster.Goals as goal

pub returns-in-Refused-clause-runs : goal.returns-in-Refused-clause-runs
returns-in-Refused-clause-runs g c =
    runs_refused c.in-Refused.refusal (bases_of g.K.Keeper.kept c.args.databases.now)
    (subst IsQuietly c.in-Refused.is c.in_ok-i.ensures.quiet)

pub returns-in-Refused-clause-executes : goal.returns-in-Refused-clause-executes
returns-in-Refused-clause-executes g c =
    let a : Addresses = record { lines = c.args.caller.lines.now; cluster = c.args.caller.cluster.now } in
    let bases = bases_of g.K.Keeper.kept c.args.databases.now in
    init_refuses a c.args.id c.args.comment.now bases c.in-Refused.refusal
    (subst (FindsLine a.lines c.args.id bases) c.in-Refused.is c.in_ok-i.ensures.finds)

pub returns-in-Some-clause-runs : goal.returns-in-Some-clause-runs
returns-in-Some-clause-runs g c =
    runs_refused (refused.Down c.in_ok-database.database) (bases_of g.K.Keeper.kept c.args.databases.now) refl

pub returns-in-Some-clause-executes : goal.returns-in-Some-clause-executes
returns-in-Some-clause-executes g c =
    let a : Addresses = record { lines = c.args.caller.lines.now; cluster = c.args.caller.cluster.now } in
    let bases = bases_of g.K.Keeper.kept c.args.databases.now in
    init_down a c.args.id c.args.comment.now bases c.in-At.i c.in_ok-database.database
    (subst (FindsLine a.lines c.args.id bases) c.in-At.is c.in_ok-i.ensures.finds)
    (subst (IsDown bases) (ap option_copied c.in-Some.is ∙ ap (λ t. Some t) (sym c.in_ok-database.ensures))
    c.down_database.ensures)

pub returns-in-Some-first_node-clause-runs : goal.returns-in-Some-first_node-clause-runs
returns-in-Some-first_node-clause-runs g c =
    runs_refused (refused.AlreadyNode c.in-Some-first_node.node) (bases_of g.K.Keeper.kept c.args.databases.now) refl

pub returns-in-Some-first_node-clause-executes : goal.returns-in-Some-first_node-clause-executes
returns-in-Some-first_node-clause-executes g c =
    let a : Addresses = record { lines = c.args.caller.lines.now; cluster = c.args.caller.cluster.now } in
    let bases = bases_of g.K.Keeper.kept c.args.databases.now in
    init_node a c.args.id c.args.comment.now bases c.in-At.i c.in-Some-first_node.node
    (subst (FindsLine a.lines c.args.id bases) c.in-At.is c.in_ok-i.ensures.finds) (
      subst (IsDown bases) (ap option_copied c.in_default.is) c.down_database.ensures,
      subst (IsFirstNode bases) c.in-Some-first_node.is c.first_node.ensures.first,
    )

pub returns-clause-runs : goal.returns-clause-runs
returns-clause-runs g c =
    let a : Addresses = record { lines = c.args.caller.lines.now; cluster = c.args.caller.cluster.now } in
    let databases = c.args.databases.now in
    let bases = bases_of g.K.Keeper.kept databases in
    let i = c.in-At.i in
    let vacant : Vacant {g = g.K.Keeper} g.K.Keeper.kept a c.args.id databases i = record {
      here = subst (IsUpHere {g = g.K.Keeper} (name_on c.args.id a.lines) databases) c.in-At.is c.in_ok-i.ensures.here;
      finds = subst (FindsLine a.lines c.args.id bases) c.in-At.is c.in_ok-i.ensures.finds;
      up = subst (IsDown bases) (ap option_copied c.in_default.is) c.down_database.ensures;
      first = subst (IsFirstNode bases) c.in_default-first_node.is c.first_node.ensures.first;
    } in
    let d = changed_at databases i c.index-databases-i.result c.found_at.new.named c.index-databases-i.is
    c.found_at.ensures.name in
    IfOk-weaker c.found_at.result _ _ (λ reply answers. init_runs reply vacant d answers) c.found_at.ensures.answers

pub returns-clause-executes : goal.returns-clause-executes
returns-clause-executes g c =
    let a : Addresses = record { lines = c.args.caller.lines.now; cluster = c.args.caller.cluster.now } in
    let databases = c.args.databases.now in
    let bases = bases_of g.K.Keeper.kept databases in
    let i = c.in-At.i in
    let vacant : Vacant {g = g.K.Keeper} g.K.Keeper.kept a c.args.id databases i = record {
      here = subst (IsUpHere {g = g.K.Keeper} (name_on c.args.id a.lines) databases) c.in-At.is c.in_ok-i.ensures.here;
      finds = subst (FindsLine a.lines c.args.id bases) c.in-At.is c.in_ok-i.ensures.finds;
      up = subst (IsDown bases) (ap option_copied c.in_default.is) c.down_database.ensures;
      first = subst (IsFirstNode bases) c.in_default-first_node.is c.first_node.ensures.first;
    } in
    let d = changed_at databases i c.index-databases-i.result c.found_at.new.named c.index-databases-i.is
    c.found_at.ensures.name in
    let free = c.first_node.ensures.none c.in_default-first_node.is i vacant.here.inside d.old d.held in
    IfOk-weaker c.found_at.result _ _ (λ reply founds. init_founds c.args.comment.now reply vacant d (free, founds))
    c.found_at.ensures.founds
