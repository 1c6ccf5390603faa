use Rattle.std.proofs.Common.{◌∙◌, true, false, map, set, get_or, ap, subst}
use Rattle.std.proofs.lemmas.List.{get_or_default}
use Rattle.slon_model.specs.Reaching.{reach}
use Rattle.slon_model.specs.Sessions.{bind, seat}
use Rattle.slon_model.specs.declared.reply.Reply.TheVariants as replied
use Rattle.slon_model.specs.declared.reply.Refusal.TheVariants as refused
use Rattle.node_rows.specs.declared.body.Body.TheVariants.{StoreSet}
use Rattle.node_state.proofs.Formed.{if_ok}
use Rattle.slonik_exec.specs.declared.knowing.Heard.TheVariants.{Known, Stopped}
use Rattle.slonik_exec.specs.declared.knowing.Question.TheVariants as asks
use Rattle.slonik_exec.specs.declared.reaching.Reached.TheVariants.{At}
use Rattle.slonik_exec.specs.Answering.{Answers}
use Rattle.slonik_exec.specs.Databases.{AreQuiet, bases_of, named_base, Runs}
use Rattle.slonik_exec.specs.Emitting.{Emits}
use Rattle.slonik_exec.specs.Executing.{Executes, Comes}
use Rattle.slonik_exec.specs.Reached.{name_on, Addresses, Reaches, IsNodeAt, IsNodeHere, IsQuietly}
use Rattle.slonik_exec.proofs.Lifting.{runs_worked, own_at, put_worked}
use Rattle.slonik_exec.proofs.Lists.{find_position}
use Rattle.slonik_exec.proofs.Making.{AreAwake, SetDoes, set_down, set_used, set_made}
use Rattle.slonik_exec.proofs.Seating.{executes_refused, executes_called, runs_quiet, worked_at}
use Rattle.slonik_exec.proofs.Sitting.{Asked, asked_as, breaks_so}
use Rattle.slonik_exec.proofs.Still.{node_still}
use Rattle.slonik_exec.proofs.Trying.{runs_then}
use Rattle.slonik_exec.proofs.Works.{none_left}
use Rattle.slonik_exec.proofs.sets.create_set.Goals as goal

pub returns-in-Refused : goal.returns-in-Refused
returns-in-Refused g c =
    let a : Addresses = record { lines = c.args.caller.lines.now; cluster = c.args.caller.cluster.now } in
    let bases = bases_of g.K.Keeper.kept c.args.databases.now in
    let origin = c.args.origin in
    record {
      runs = runs_quiet c.in-Refused.refusal bases (subst IsQuietly c.in-Refused.is c.in_ok-i.ensures.quiet);
      executes = executes_refused a origin bases c.in-Refused.refusal (SetDoes c.args.id origin c.args.comment.now)
          (subst (Reaches a origin bases) c.in-Refused.is c.in_ok-i.ensures.reaches);
    }

pub returns-in-Some : goal.returns-in-Some
returns-in-Some g c =
    let a : Addresses = record { lines = c.args.caller.lines.now; cluster = c.args.caller.cluster.now } in
    let bases = bases_of g.K.Keeper.kept c.args.databases.now in
    let origin = c.args.origin in
    let id = c.args.id in
    let comment = c.args.comment.now in
    let refusal = c.in-Some.refusal in
    record {
      runs = runs_quiet refusal bases (subst AreQuiet c.in-Some.is c.in_ok-refusal.ensures.quiet);
      executes = executes_called {a = a} {id = origin} c.in-At.i (SetDoes id origin comment) (replied.Refused refusal)
          (subst (Reaches a origin bases) c.in-At.is c.in_ok-i.ensures.reaches)
          (λ w run call. set_down id comment refusal call
          (c.in_ok-refusal.ensures.due w call.ready.fits ∙ c.in-Some.is));
    }

pub returns-in-Stopped-clause-executes : goal.returns-in-Stopped-clause-executes
returns-in-Stopped-clause-executes g c =
    let a : Addresses = record { lines = c.args.caller.lines.now; cluster = c.args.caller.cluster.now } in
    let bases = bases_of g.K.Keeper.kept c.args.databases.now in
    let origin = c.args.origin in
    let reply = c.in-Stopped.reply in
    let none = none_left c.in_ok-refusal.field-0 c.in_default.not-Some in
    let asked : Asked (asks.Set c.args.id) bases (Stopped reply)
    (bases_of g.K.Keeper.kept c.known_somewhere.new.databases) = asked_as c.in-Stopped.is
    (record { runs = c.in_ok-reply.ensures.runs; hears = c.in_ok-reply.ensures.hears }) in
    executes_called {a = a} {id = origin} c.in-At.i (SetDoes c.args.id origin c.args.comment.now) reply
    (subst (Reaches a origin bases) c.in-At.is c.in_ok-i.ensures.reaches)
    (λ w run call. breaks_so
    (asked.hears w call.ready (c.in_ok-refusal.ensures.due w call.ready.fits ∙ none)))

pub returns-in-Known-true-clause-executes : goal.returns-in-Known-true-clause-executes
returns-in-Known-true-clause-executes g c =
    let a : Addresses = record { lines = c.args.caller.lines.now; cluster = c.args.caller.cluster.now } in
    let bases = bases_of g.K.Keeper.kept c.args.databases.now in
    let origin = c.args.origin in
    let id = c.args.id in
    let none = none_left c.in_ok-refusal.field-0 c.in_default.not-Some in
    let awake : AreAwake bases = λ w fits. c.in_ok-refusal.ensures.due w fits ∙ none in
    let asked : Asked (asks.Set id) bases (Known true) (bases_of g.K.Keeper.kept c.known_somewhere.new.databases)
    = asked_as (c.in-Known-true.is ∙ ap (λ b. Known b) c.in-Known-true.field-0-test)
    (record { runs = c.in_ok-reply.ensures.runs; hears = c.in_ok-reply.ensures.hears }) in
    executes_called {a = a} {id = origin} c.in-At.i (SetDoes id origin c.args.comment.now)
    (replied.Refused (refused.IdUsed id)) (subst (Reaches a origin bases) c.in-At.is c.in_ok-i.ensures.reaches)
    (λ w run call. set_used id c.args.comment.now call awake asked)

pub emit-requires-clause-up : goal.emit-requires-clause-up
emit-requires-clause-up g c =
    let name = name_on c.args.origin c.args.caller.lines.now in
    let olds = c.args.databases.now in
    let mids = c.known_somewhere.new.databases in
    let i = c.in-At.i in
    let here : IsNodeAt {g = g.K.Keeper} name olds i
    = subst (IsNodeHere {g = g.K.Keeper} name olds) c.in-At.is c.in_ok-i.ensures.here in
    let asked : Asked (asks.Set c.args.id) (bases_of g.K.Keeper.kept olds) (Known false) (bases_of g.K.Keeper.kept mids)
    = asked_as (c.in-Known-false.is ∙ ap (λ b. Known b) c.in-Known-false.field-0-test)
    (record { runs = c.in_ok-reply.ensures.runs; hears = c.in_ok-reply.ensures.hears }) in
    let still = node_still g.K.Keeper.kept name olds mids i asked.runs.1 here in
    let x = get_or mids i c.index-databases-i.result in
    still.here.up x (get_or_default mids i c.index-databases-i.result x still.here.inside)

pub emit-requires-clause-node : goal.emit-requires-clause-node
emit-requires-clause-node g c =
    let name = name_on c.args.origin c.args.caller.lines.now in
    let olds = c.args.databases.now in
    let mids = c.known_somewhere.new.databases in
    let i = c.in-At.i in
    let here : IsNodeAt {g = g.K.Keeper} name olds i
    = subst (IsNodeHere {g = g.K.Keeper} name olds) c.in-At.is c.in_ok-i.ensures.here in
    let asked : Asked (asks.Set c.args.id) (bases_of g.K.Keeper.kept olds) (Known false) (bases_of g.K.Keeper.kept mids)
    = asked_as (c.in-Known-false.is ∙ ap (λ b. Known b) c.in-Known-false.field-0-test)
    (record { runs = c.in_ok-reply.ensures.runs; hears = c.in_ok-reply.ensures.hears }) in
    let still = node_still g.K.Keeper.kept name olds mids i asked.runs.1 here in
    let x = get_or mids i c.index-databases-i.result in
    still.node x (get_or_default mids i c.index-databases-i.result x still.here.inside)

pub returns : goal.returns
returns g c =
    let a : Addresses = record { lines = c.args.caller.lines.now; cluster = c.args.caller.cluster.now } in
    let origin = c.args.origin in
    let name = name_on origin a.lines in
    let id = c.args.id in
    let comment = c.args.comment.now in
    let f = named_base g.K.Keeper.kept in
    let olds = c.args.databases.now in
    let mids = c.known_somewhere.new.databases in
    let bases = bases_of g.K.Keeper.kept olds in
    let i = c.in-At.i in
    let here : IsNodeAt {g = g.K.Keeper} name olds i
    = subst (IsNodeHere {g = g.K.Keeper} name olds) c.in-At.is c.in_ok-i.ensures.here in
    let none = none_left c.in_ok-refusal.field-0 c.in_default.not-Some in
    let awake : AreAwake bases = λ w fits. c.in_ok-refusal.ensures.due w fits ∙ none in
    let asked : Asked (asks.Set id) bases (Known false) (bases_of g.K.Keeper.kept mids)
    = asked_as (c.in-Known-false.is ∙ ap (λ b. Known b) c.in-Known-false.field-0-test)
    (record { runs = c.in_ok-reply.ensures.runs; hears = c.in_ok-reply.ensures.hears }) in
    let still = node_still g.K.Keeper.kept name olds mids i asked.runs.1 here in
    let x = get_or mids i c.index-databases-i.result in
    let y = c.emit.new.seat in
    let news = map f (set mids i y) in
    let at = worked_at f name mids i c.index-databases-i.result y still.here.at c.emit.ensures.name in
    let said = StoreSet id origin c.in_ok-comment.comment in
    let reaches : Reaches a origin bases (At i)
    = subst (Reaches a origin bases) c.in-At.is c.in_ok-i.ensures.reaches in
    record {
      runs = if_ok (λ reply. Answers x.name (f x).1 reply (f y).1) (λ reply. Runs bases reply news) c.emit.result
          (λ reply answers. runs_then reply bases (map f mids) news asked.runs.0 (runs_worked reply at answers))
          c.emit.ensures.answers;
      executes = if_ok (λ reply. Emits x.name said (f x).1 reply (f y).1)
          (λ reply. Executes a (λ run w. bind (reach run origin w) (SetDoes id origin comment run w)) bases reply news)
          c.emit.result
          (λ reply emits. executes_called {a = a} {id = origin} i (SetDoes id origin comment) reply reaches
          (λ w run call. subst (Comes w
          (SetDoes id origin comment run w (seat name call.sits.place call.sits.node)) reply)
          (put_worked at) (set_made id comment call awake asked (find_position f name mids i x at.is)
          (subst (λ n. Emits n (StoreSet id origin comment) (f x).1 reply (f y).1) (own_at at.is)
          (subst (λ t. Emits x.name (StoreSet id origin t) (f x).1 reply (f y).1) c.in_ok-comment.ensures emits)))))
          c.emit.ensures.emits;
    }
