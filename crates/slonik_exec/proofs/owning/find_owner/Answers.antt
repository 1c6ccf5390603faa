use Rattle.std.proofs.Common.{◌∙◌, map, Option, Ok, Err, refl, ap, arith}
use Rattle.app_store.specs.Base.{base_of}
use Rattle.node_store.specs.declared.looking.Reign.{Reign}
use Rattle.slon_model.specs.World.{refusal_of}
use Rattle.slonik_exec.specs.Databases.{named_base}
use Rattle.slonik_exec.proofs.Asking.{Round, round_at}
use Rattle.slonik_exec.proofs.Seeking.{Query, none_sought, next_sought, stop_sought, nobody_found}
use Rattle.slonik_exec.proofs.Seeking.{owner_found, here_found}
use Rattle.slonik_exec.proofs.Telling.{not_short, words_at}
use Rattle.slonik_exec.proofs.owning.find_owner.Goals as goal

pub loop-i-init : goal.loop-i-init
loop-i-init g c =
    none_sought g.K.Keeper.kept (record { set_id = c.args.set; lines = c.args.lines.now }) c.args.databases.now

pub loop-i-preserved : goal.loop-i-preserved
loop-i-preserved g c =
    let f = named_base g.K.Keeper.kept in
    let items = c.loop-i.databases in
    let i = c.loop-i.i in
    let found = c.in-Ok.found in
    let y = c.led_on_line.new.named in
    let q : Query = record { set_id = c.args.set; lines = c.args.lines.now } in
    let r : Round (Option Reign)
    = round_at f items i c.index-databases-i.result (map f c.args.databases.now)
    (base_of g.K.Keeper.kept y.database) (Ok found) in
    next_sought {q = q} found c.better-best.result r (record {
      listed = record {
        inside = omega arith;
        distinct = c.requires.distinct;
        tries = c.loop-i.invariant.tries;
        same = c.loop-i.invariant.same;
        news = refl;
        held = refl;
      };
      sought = c.loop-i.invariant;
      left = record { acts = c.in-Ok.ensures.acts; same = c.in-Ok.ensures.same; up = c.in-Ok.ensures.up };
      stands = ap (λ n. (n, base_of g.K.Keeper.kept y.database)) c.in-Ok.ensures.name;
      leads = c.in-Ok.ensures.leads;
      here = c.in-Ok.ensures.here;
    }) c.better-best.ensures

pub returns-in-Err : goal.returns-in-Err
returns-in-Err g c =
    let f = named_base g.K.Keeper.kept in
    let items = c.loop-i.databases in
    let fault = c.in-Err.fault in
    let reply = c.in_ok-told-in-Err.field-0 in
    let y = c.led_on_line.new.named in
    let r : Round (Option Reign)
    = round_at f items c.loop-i.i c.index-databases-i.result (map f c.args.databases.now)
    (base_of g.K.Keeper.kept y.database) (Err fault) in
    let stopped = stop_sought {y = y} fault reply r (record {
      listed = record {
        inside = omega arith;
        distinct = c.requires.distinct;
        tries = c.loop-i.invariant.tries;
        same = c.loop-i.invariant.same;
        news = refl;
        held = refl;
      };
      sought = c.loop-i.invariant;
      left = record { acts = c.in-Err.ensures.acts; same = c.in-Err.ensures.same; up = c.in-Err.ensures.up };
      stands = ap (λ n. (n, base_of g.K.Keeper.kept y.database)) c.in-Err.ensures.name;
      leads = c.in-Err.ensures.leads;
      here = tt;
    }) (record {
      is = c.in_ok-told-in-Err.ensures.reply ∙ ap (λ n. refusal_of (words_at n) fault) c.in-Err.ensures.name;
      memory = not_short c.told.result reply fault c.in_ok-told-in-Err.was c.told.ensures.memory;
    }) in
    record { runs = stopped.0; here = tt; owns = stopped.1 }

pub returns-in-None-clause-runs : goal.returns-in-None-clause-runs
returns-in-None-clause-runs g c = (c.loop-i.invariant.tries, c.loop-i.invariant.same)

pub returns-in-None-clause-owns : goal.returns-in-None-clause-owns
returns-in-None-clause-owns g c = nobody_found c.loop-i.invariant (omega arith) c.in-None.is

pub returns-in-Some : goal.returns-in-Some
returns-in-Some g c =
    let claim = c.in-Some.claim in
    let sought = c.loop-i.invariant in
    record {
      runs = (sought.tries, sought.same);
      here = here_found claim sought.here c.in-Some.is;
      owns = owner_found claim sought (omega arith) c.in-Some.is;
    }
