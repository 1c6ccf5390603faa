use Rattle.std.proofs.Common.{Ok, Err, refl, sym, subst}
use Rattle.std.proofs.lemmas.Result.{IfOk-weaker}
use Rattle.slon_model.specs.World.{refusal_of}
use Rattle.node_change.specs.declared.side.Side.TheVariants.{From, To}
use Rattle.app_store.specs.Base.{base_of}
use Rattle.node_store.specs.Joining.{Pair}
use Rattle.remote_worker.specs.Looking.{Looking}
use Rattle.remote_worker.specs.declared.fetching.Found.TheVariants.{Brings, Refused}
use Rattle.remote_worker.specs.Fetching.{Fetches, IsCalmFound, IsOf}
use Rattle.remote_worker.specs.Working.{waits_as, IsAble}
use Rattle.slonik_exec.specs.Stored.{couple_of}
use Rattle.slonik_exec.proofs.Telling.{words_at}
use Rattle.slonik_exec.proofs.Works.{answers_then, refused_calm, replied}
use Rattle.slon_turns.specs.Fetching.{BringsTo}
use Rattle.slon_turns.specs.Polling.{RunsBetween, OwnRuns, ServerRuns}
use Rattle.slon_turns.proofs.Listens.{told_if}
use Rattle.slon_turns.proofs.Visits.{asked_of, calm_quiet, ended_between, falls_between, found_by, refused_between}
use Rattle.slon_turns.proofs.fetching.fetch_between.Goals as goal

pub end_at-requires-clause-able : goal.end_at-requires-clause-able
end_at-requires-clause-able g c =
    let w = c.in-Ok-Brings.fetched in
    let same = subst (IsOf c.args.trip.taken) c.in-Ok-Brings.field-0-is c.in-Ok-Brings.ensures.same in
    subst (λ o. IsAble (waits_as o w.state.number c.args.held.now.queue)) (sym same.origin)
    (subst (λ n. IsAble (waits_as c.args.trip.taken.origin n c.args.held.now.queue)) (sym same.number) c.requires.can.0)

pub returns-in-Ok-Refused : goal.returns-in-Ok-Refused
returns-in-Ok-Refused g c =
    let kept = g.K.Keeper.kept in
    let old = couple_of kept c.args.own.now c.args.provider.now in
    let new : Pair = record { from = base_of kept c.fetch.new.own; to = base_of kept c.fetch.new.provider } in
    let refusal = c.in-Ok-Refused.refusal in
    let calm = subst IsCalmFound c.in-Ok-Refused.field-0-is c.in-Ok-Refused.ensures.calm in
    let asked = asked_of c.args.trip c.in-Some.event.now in
    let looked = subst (λ f. Looking (Fetches asked) old.bases (Ok f) new) c.in-Ok-Refused.field-0-is
    c.in-Ok-Refused.ensures.fetches in
    record {
      runs = OwnRuns (refused_calm old.bases.from new.from (calm_quiet refusal calm) looked.own)
          looked.provider;
      brings = λ v can. let look = looked.looks v.post.place v.provider v.fits.ready v.ready refl in
          refused_between v refusal new
          (found_by v c.in-Some.event.now (Refused refusal) (sym c.in-Some.ensures) look.0, calm) (look.1, look.2);
      bounds = refl;
      names = (refl, refl);
    }

pub returns-in-Ok-Brings-clause-runs : goal.returns-in-Ok-Brings-clause-runs
returns-in-Ok-Brings-clause-runs g c =
    let looked = c.in-Ok-Brings.ensures.fetches in
    IfOk-weaker c.end_at.result _ _ (λ reply a. OwnRuns (answers_then looked.own a) looked.provider)
    c.end_at.ensures.answers

pub returns-in-Ok-Brings-clause-brings : goal.returns-in-Ok-Brings-clause-brings
returns-in-Ok-Brings-clause-brings g c =
    let kept = g.K.Keeper.kept in
    let old = couple_of kept c.args.own.now c.args.provider.now in
    let w = c.in-Ok-Brings.fetched in
    let mid : Pair = record { from = base_of kept c.fetch.new.own; to = base_of kept c.fetch.new.provider } in
    let asked = asked_of c.args.trip c.in-Some.event.now in
    let looked = subst (λ f. Looking (Fetches asked) old.bases (Ok f) mid) c.in-Ok-Brings.field-0-is
    c.in-Ok-Brings.ensures.fetches in
    let same = subst (IsOf c.args.trip.taken) c.in-Ok-Brings.field-0-is c.in-Ok-Brings.ensures.same in
    IfOk-weaker c.end_at.result _ _ (λ reply ends v can.
    let look = looked.looks v.post.place v.provider v.fits.ready v.ready refl in
    ended_between v w mid (record { from = base_of kept c.end_at.new.own.database; to = mid.to })
    c.end_at.new.held (found_by v c.in-Some.event.now (Brings w) (sym c.in-Some.ensures) look.0, same)
    ((look.1, look.2), can) ends)
    c.end_at.ensures.ends

pub returns-in-From-clause-runs : goal.returns-in-From-clause-runs
returns-in-From-clause-runs g c =
    let kept = g.K.Keeper.kept in
    let old = couple_of kept c.args.own.now c.args.provider.now in
    let new : Pair = record { from = base_of kept c.fetch.new.own; to = base_of kept c.fetch.new.provider } in
    let fault = c.in-Err.fell.fault in
    let asked = asked_of c.args.trip c.in-Some.event.now in
    let looked = subst (λ side. Looking (Fetches asked) old.bases (Err (record { side = side; fault = fault })) new)
    c.in-From.is c.in-Err.ensures.fetches in
    told_if (λ reply. RunsBetween old reply new) c.told.result fault (refusal_of (words_at old.names.from) fault)
    c.told.ensures.reply c.told.ensures.memory
    (λ reply told full. OwnRuns (replied (Err fault) old.bases.from new.from told looked.own) looked.provider)

pub returns-in-From-clause-brings : goal.returns-in-From-clause-brings
returns-in-From-clause-brings g c =
    let kept = g.K.Keeper.kept in
    let old = couple_of kept c.args.own.now c.args.provider.now in
    let new : Pair = record { from = base_of kept c.fetch.new.own; to = base_of kept c.fetch.new.provider } in
    let fault = c.in-Err.fell.fault in
    let held = c.args.held.now in
    let asked = asked_of c.args.trip c.in-Some.event.now in
    let looked = subst (λ side. Looking (Fetches asked) old.bases (Err (record { side = side; fault = fault })) new)
    c.in-From.is c.in-Err.ensures.fetches in
    told_if (λ reply. BringsTo c.args.trip old held reply new held)
    c.told.result fault (refusal_of (words_at old.names.from) fault) c.told.ensures.reply c.told.ensures.memory
    (λ reply told full v can.
    falls_between v From fault new (looked.looks v.post.place v.provider v.fits.ready v.ready full)
    (told, c.requires.up.1))

pub returns-in-To-clause-runs : goal.returns-in-To-clause-runs
returns-in-To-clause-runs g c =
    let kept = g.K.Keeper.kept in
    let old = couple_of kept c.args.own.now c.args.provider.now in
    let new : Pair = record { from = base_of kept c.fetch.new.own; to = base_of kept c.fetch.new.provider } in
    let fault = c.in-Err.fell.fault in
    let asked = asked_of c.args.trip c.in-Some.event.now in
    let looked = subst (λ side. Looking (Fetches asked) old.bases (Err (record { side = side; fault = fault })) new)
    c.in-To.is c.in-Err.ensures.fetches in
    told_if (λ reply. RunsBetween old reply new) c.told-in-To.result fault (refusal_of (words_at old.names.to) fault)
    c.told-in-To.ensures.reply c.told-in-To.ensures.memory
    (λ reply told full. ServerRuns looked.own (replied (Err fault) old.bases.to new.to told looked.provider))

pub returns-in-To-clause-brings : goal.returns-in-To-clause-brings
returns-in-To-clause-brings g c =
    let kept = g.K.Keeper.kept in
    let old = couple_of kept c.args.own.now c.args.provider.now in
    let new : Pair = record { from = base_of kept c.fetch.new.own; to = base_of kept c.fetch.new.provider } in
    let fault = c.in-Err.fell.fault in
    let held = c.args.held.now in
    let asked = asked_of c.args.trip c.in-Some.event.now in
    let looked = subst (λ side. Looking (Fetches asked) old.bases (Err (record { side = side; fault = fault })) new)
    c.in-To.is c.in-Err.ensures.fetches in
    told_if (λ reply. BringsTo c.args.trip old held reply new held)
    c.told-in-To.result fault (refusal_of (words_at old.names.to) fault) c.told-in-To.ensures.reply
    c.told-in-To.ensures.memory
    (λ reply told full v can.
    falls_between v To fault new (looked.looks v.post.place v.provider v.fits.ready v.ready full)
    (told, c.requires.up.1))
