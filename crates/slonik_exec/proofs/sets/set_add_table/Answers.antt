use Rattle.std.proofs.Common.{◌∙◌, rules, set, get_or, Some, None, subst}
use Rattle.std.proofs.lemmas.List.{get_or_default}
use Rattle.slon_model.specs.Reaching.{reach}
use Rattle.slon_model.specs.Sessions.{bind, seat}
use Rattle.slon_model.specs.Sets as rules
use Rattle.slon_model.specs.declared.reply.Reply.TheVariants as replied
use Rattle.node_state.proofs.Formed.{if_ok}
use Rattle.slonik_exec.specs.Answering.{Answers}
use Rattle.slonik_exec.specs.Databases.{AreQuiet, bases_of, named_base, Runs}
use Rattle.slonik_exec.specs.Executing.{Executes, Comes, ChecksAll, RunsFound}
use Rattle.slonik_exec.specs.Reached.{name_on, Addresses, Reaches, IsNodeAt, IsNodeHere, IsQuietly}
use Rattle.slonik_exec.specs.Statements.{new_checks, AddsTable}
use Rattle.slonik_exec.proofs.AddingTables.{AtOrigin, adding, name_in, adds_executed, at_origin, origin_checked}
use Rattle.slonik_exec.proofs.AddingTables.{origin_found, origin_passed, origin_same, origin_still, origin_tries}
use Rattle.slonik_exec.proofs.Hearing.{distinct_same}
use Rattle.slonik_exec.proofs.Lifting.{runs_worked, own_at, put_worked}
use Rattle.slonik_exec.proofs.Lists.{find_position}
use Rattle.slonik_exec.proofs.Making.{AreAwake, TableDoes, table_due, table_ended, table_down, table_used}
use Rattle.slonik_exec.proofs.Making.{table_made, table_as}
use Rattle.slonik_exec.proofs.Seating.{executes_refused, executes_as, runs_quiet, worked_at}
use Rattle.slonik_exec.proofs.Sitting.{runs_refused}
use Rattle.slonik_exec.proofs.Trying.{runs_then}
use Rattle.slonik_exec.proofs.Works.{none_left}
use Rattle.slonik_exec.proofs.sets.set_add_table.Given.{Over}
use Rattle.slonik_exec.proofs.sets.set_add_table.Goals as goal

pub returns-in-Refused : goal.returns-in-Refused
returns-in-Refused g c =
    let t = table_as c.args.table in
    let a : Addresses = record { lines = c.args.caller.lines.now; cluster = c.args.caller.cluster.now } in
    let origin = c.args.origin in
    let bases = bases_of g.K.Keeper.kept c.args.databases.now in
    record {
      runs = runs_quiet c.in-Refused.refusal bases (subst IsQuietly c.in-Refused.is c.in_ok-i.ensures.quiet);
      executes = executes_as {a = a} (λ run w. bind (reach run origin w) (TableDoes t run w))
          (rules.set_add_table origin t) (table_due origin t) (executes_refused a origin bases c.in-Refused.refusal
          (TableDoes t) (subst (Reaches a origin bases) c.in-Refused.is c.in_ok-i.ensures.reaches));
    }

pub returns-in-Some : goal.returns-in-Some
returns-in-Some g c =
    let s = adding c.args.caller.lines.now c.args.caller.cluster.now c.args.origin c.args.table in
    let o : AtOrigin g.K.Keeper.kept s c.args.databases.now c.in-At.i _ c.check_set.new.seat (Some c.in-Some.reply) =
    at_origin c.index-databases-i.result c.in-At.is (c.in_ok-i.ensures.here, c.in_ok-i.ensures.reaches)
    c.in_ok-reply.ensures.name c.in-Some.is
    (record { checks = c.in_ok-reply.ensures.checks; refuses = c.in_ok-reply.ensures.refuses }) in
    record {
      runs = runs_worked c.in-Some.reply o.at o.own.checks;
      executes = adds_executed c.in-Some.reply o (λ w run call.
          subst (Comes w (TableDoes s.table run w (seat (name_in s) call.sits.place call.sits.node)) c.in-Some.reply)
          (put_worked o.at) (table_ended s.table call (origin_found o) (origin_checked o)));
    }

pub returns-in-Some-2 : goal.returns-in-Some-2
returns-in-Some-2 g c =
    let s = adding c.args.caller.lines.now c.args.caller.cluster.now c.args.origin c.args.table in
    let o : AtOrigin g.K.Keeper.kept s c.args.databases.now c.in-At.i _ c.check_set.new.seat None =
    at_origin c.index-databases-i.result c.in-At.is (c.in_ok-i.ensures.here, c.in_ok-i.ensures.reaches)
    c.in_ok-reply.ensures.name (none_left c.in_ok-reply.field-0 c.in_default.not-Some)
    (record { checks = c.in_ok-reply.ensures.checks; refuses = c.in_ok-reply.ensures.refuses }) in
    let refusal = c.in-Some-2.refusal in
    record {
      runs = runs_refused refusal _ _ (subst AreQuiet c.in-Some-2.is c.in_ok-refusal.ensures.quiet) (origin_tries o);
      executes = adds_executed (replied.Refused refusal) o (λ w run call.
          table_down s.table refusal call (origin_passed o)
          (λ v fits. c.in_ok-refusal.ensures.due v fits ∙ c.in-Some-2.is));
    }

pub check_new-requires-clause-distinct : goal.check_new-requires-clause-distinct
check_new-requires-clause-distinct g c =
    let s = adding c.args.caller.lines.now c.args.caller.cluster.now c.args.origin c.args.table in
    let o : AtOrigin g.K.Keeper.kept s c.args.databases.now c.in-At.i _ c.check_set.new.seat None =
    at_origin c.index-databases-i.result c.in-At.is (c.in_ok-i.ensures.here, c.in_ok-i.ensures.reaches)
    c.in_ok-reply.ensures.name (none_left c.in_ok-reply.field-0 c.in_default.not-Some)
    (record { checks = c.in_ok-reply.ensures.checks; refuses = c.in_ok-reply.ensures.refuses }) in
    distinct_same _ _ (origin_same o) c.requires.distinct

pub returns-in-Some-3 : goal.returns-in-Some-3
returns-in-Some-3 g c =
    let s = adding c.args.caller.lines.now c.args.caller.cluster.now c.args.origin c.args.table in
    let o : AtOrigin g.K.Keeper.kept s c.args.databases.now c.in-At.i _ c.check_set.new.seat None =
    at_origin c.index-databases-i.result c.in-At.is (c.in_ok-i.ensures.here, c.in_ok-i.ensures.reaches)
    c.in_ok-reply.ensures.name (none_left c.in_ok-reply.field-0 c.in_default.not-Some)
    (record { checks = c.in_ok-reply.ensures.checks; refuses = c.in_ok-reply.ensures.refuses }) in
    let mids = bases_of g.K.Keeper.kept (set c.args.databases.now c.in-At.i c.check_set.new.seat) in
    let reply = c.in-Some-3.reply in
    let news = bases_of g.K.Keeper.kept c.check_new.new.databases in
    let none = none_left c.in_ok-refusal.field-0 c.in_default-2.not-Some in
    let awake : AreAwake mids = λ w fits. c.in_ok-refusal.ensures.due w fits ∙ none in
    let runs : RunsFound mids (Some reply) news
    = subst (λ o. RunsFound mids o news) c.in-Some-3.is c.in_ok-reply-2.ensures.runs in
    let ends : ChecksAll (new_checks s.table.id s.table.name) mids (Some reply) news
    = subst (λ o. ChecksAll (new_checks s.table.id s.table.name) mids o news) c.in-Some-3.is
    c.in_ok-reply-2.ensures.refuses in
    record {
      runs = runs_then reply _ mids news (origin_tries o) runs;
      executes = adds_executed reply o
          (λ w run call. table_used s.table call (origin_passed o) awake (ends w));
    }

pub offset_bounds-databases-i-2 : goal.offset_bounds-databases-i-2
offset_bounds-databases-i-2 g c =
    let here : IsNodeAt {g = g.K.Keeper} (name_on c.args.origin c.args.caller.lines.now) c.args.databases.now c.in-At.i
    = subst (IsNodeHere {g = g.K.Keeper}
    (name_on c.args.origin c.args.caller.lines.now) c.args.databases.now) c.in-At.is
    c.in_ok-i.ensures.here in
    let inside = here.here.inside in
    search (rules, inside, c.well_formed)

-- the database is up still, and a node, behind what all nodes were asked
still_here : (g : Over) (c : goal.After-index-databases-i-2 g) →
    IsNodeAt {g = g.K.Keeper} (name_on c.args.origin c.args.caller.lines.now) c.check_new.new.databases c.in-At.i
still_here g c =
    let s = adding c.args.caller.lines.now c.args.caller.cluster.now c.args.origin c.args.table in
    let o : AtOrigin g.K.Keeper.kept s c.args.databases.now c.in-At.i _ c.check_set.new.seat None =
    at_origin c.index-databases-i.result c.in-At.is (c.in_ok-i.ensures.here, c.in_ok-i.ensures.reaches)
    c.in_ok-reply.ensures.name (none_left c.in_ok-reply.field-0 c.in_default.not-Some)
    (record { checks = c.in_ok-reply.ensures.checks; refuses = c.in_ok-reply.ensures.refuses }) in
    let mids = bases_of g.K.Keeper.kept (set c.args.databases.now c.in-At.i c.check_set.new.seat) in
    let late = c.check_new.new.databases in
    let news = bases_of g.K.Keeper.kept late in
    let runs : RunsFound mids None news
    = subst (λ o. RunsFound mids o news) (none_left c.in_ok-reply-2.field-0 c.in_default-3.not-Some)
    c.in_ok-reply-2.ensures.runs in
    origin_still late o runs.1

pub add_table-requires-clause-up : goal.add_table-requires-clause-up
add_table-requires-clause-up g c =
    let still = still_here g c in
    let z = get_or c.check_new.new.databases c.in-At.i c.index-databases-i-2.result in
    still.here.up z (get_or_default _ _ c.index-databases-i-2.result z still.here.inside)

pub add_table-requires-clause-node : goal.add_table-requires-clause-node
add_table-requires-clause-node g c =
    let still = still_here g c in
    let z = get_or c.check_new.new.databases c.in-At.i c.index-databases-i-2.result in
    still.node z (get_or_default _ _ c.index-databases-i-2.result z still.here.inside)

pub returns : goal.returns
returns g c =
    let s = adding c.args.caller.lines.now c.args.caller.cluster.now c.args.origin c.args.table in
    let o : AtOrigin g.K.Keeper.kept s c.args.databases.now c.in-At.i _ c.check_set.new.seat None =
    at_origin c.index-databases-i.result c.in-At.is (c.in_ok-i.ensures.here, c.in_ok-i.ensures.reaches)
    c.in_ok-reply.ensures.name (none_left c.in_ok-reply.field-0 c.in_default.not-Some)
    (record { checks = c.in_ok-reply.ensures.checks; refuses = c.in_ok-reply.ensures.refuses }) in
    let mids = bases_of g.K.Keeper.kept (set c.args.databases.now c.in-At.i c.check_set.new.seat) in
    let late = c.check_new.new.databases in
    let news = bases_of g.K.Keeper.kept late in
    let runs : RunsFound mids None news
    = subst (λ o. RunsFound mids o news) (none_left c.in_ok-reply-2.field-0 c.in_default-3.not-Some)
    c.in_ok-reply-2.ensures.runs in
    let i = c.in-At.i in
    let f = named_base g.K.Keeper.kept in
    let still = origin_still late o runs.1 in
    let z = get_or late i c.index-databases-i-2.result in
    let last = c.add_table.new.seat in
    let done = worked_at f (name_in s) late i c.index-databases-i-2.result last still.here.at
    c.add_table.ensures.name in
    let now = bases_of g.K.Keeper.kept (set late i last) in
    let none = none_left c.in_ok-refusal.field-0 c.in_default-2.not-Some in
    let awake : AreAwake mids = λ w fits. c.in_ok-refusal.ensures.due w fits ∙ none in
    let ends : ChecksAll (new_checks s.table.id s.table.name) mids None news
    = subst (λ o. ChecksAll (new_checks s.table.id s.table.name) mids o news)
    (none_left c.in_ok-reply-2.field-0 c.in_default-3.not-Some) c.in_ok-reply-2.ensures.refuses in
    let olds = bases_of g.K.Keeper.kept c.args.databases.now in
    record {
      runs = if_ok (λ reply. Answers z.name (f z).1 reply (f last).1) (λ reply. Runs olds reply now)
          c.add_table.result (λ reply answers. runs_then reply olds mids now (origin_tries o)
          (runs_then reply mids news now runs.0 (runs_worked reply done answers))) c.add_table.ensures.answers;
      executes = if_ok (λ reply. AddsTable z.name s.table (f z).1 reply (f last).1)
          (λ reply. Executes s.addresses (rules.set_add_table s.origin s.table) olds reply now) c.add_table.result
          (λ reply adds. adds_executed reply o (λ w run call.
          subst (Comes w (TableDoes s.table run w (seat (name_in s) call.sits.place call.sits.node)) reply)
          (put_worked done) (table_made s.table call (origin_passed o) (record {
            awake = awake;
            known = ends w;
            found = find_position f (name_in s) late i z done.is;
          }) (subst (λ n. AddsTable n s.table (f z).1 reply (f last).1) (own_at done.is) adds))))
          c.add_table.ensures.adds;
    }
