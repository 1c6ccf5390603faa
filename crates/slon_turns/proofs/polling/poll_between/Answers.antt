use Rattle.std.proofs.Common.{◌∙◌, Err, refl, sym, ap, subst}
use Rattle.std.proofs.lemmas.Result.{IfOk-weaker}
use Rattle.slon_model.specs.World.{refusal_of}
use Rattle.app_store.specs.Base.{base_of}
use Rattle.app_store.proofs.Upright.{up_at}
use Rattle.node_store.proofs.Synced.{node_of}
use Rattle.remote_listener.specs.Asking.{Hands}
use Rattle.slonik_exec.specs.Stored.{couple_of}
use Rattle.slonik_exec.proofs.Seats.{same_up}
use Rattle.slonik_exec.proofs.Telling.{words_at}
use Rattle.slonik_exec.proofs.Works.{replied, answers_then, ready_still}
use Rattle.slon_turns.specs.Polling.{ListensTo, RunsBetween, OwnRuns, ServerRuns, AtOwn, due_in}
use Rattle.slon_turns.proofs.Answered.{answer_is}
use Rattle.slon_turns.proofs.Between.{acts_none, lists_none, cut_between, server_down, server_breaks}
use Rattle.slon_turns.proofs.Between.{is_linked, server_answers}
use Rattle.slon_turns.proofs.Listens.{stops_listens, told_if}
use Rattle.slon_turns.proofs.polling.poll_between.Goals as goal

pub returns-in-Err-clause-runs : goal.returns-in-Err-clause-runs
returns-in-Err-clause-runs g c =
    let old = couple_of g.K.Keeper.kept c.args.own.now c.args.server.now in
    let mid = base_of g.K.Keeper.kept c.link.new.own in
    told_if (λ reply. RunsBetween old reply (record { from = mid; to = old.bases.to })) c.told.result c.in-Err.fault
    (refusal_of (words_at old.names.from) c.in-Err.fault) c.told.ensures.reply c.told.ensures.memory
    (λ reply told full. OwnRuns (replied (Err c.in-Err.fault) old.bases.from mid told c.in-Err.ensures.acts)
    (acts_none old.bases.to))

pub returns-in-Err-clause-listens : goal.returns-in-Err-clause-listens
returns-in-Err-clause-listens g c =
    let old = couple_of g.K.Keeper.kept c.args.own.now c.args.server.now in
    let mid = base_of g.K.Keeper.kept c.link.new.own in
    told_if (λ reply. ListensTo c.args.listen old c.args.queue.now reply (record { from = mid; to = old.bases.to })
    c.args.queue.now) c.told.result c.in-Err.fault
    (refusal_of (words_at old.names.from) c.in-Err.fault) c.told.ensures.reply c.told.ensures.memory
    (λ reply told full m. AtOwn (stops_listens m.spot (due_in m) c.args.queue.now
    (c.in-Err.ensures.looks m.spot.place m.fits.ready full)
    (told ∙ ap (λ x. refusal_of (words_at x) c.in-Err.fault) (sym m.named)) m.fits.waits) m.ready.fits)

pub returns-then-hears_none-clause-listens : goal.returns-then-hears_none-clause-listens
returns-then-hears_none-clause-listens g c m =
    let look = c.in-Ok.ensures.looks m.spot.place m.fits.ready refl in
    lists_none m _ (record {
      wants = c.in-Ok.linked.state.wants;
      are = (look.0 m.node m.fits.is).1;
      fits = look.1;
    }) (sym c.hears_none.ensures ∙ c.if-hears_none.true)

pub returns-then-listen-clause-listens : goal.returns-then-listen-clause-listens
returns-then-listen-clause-listens g c m =
    let look = c.in-Ok.ensures.looks m.spot.place m.fits.ready refl in
    cut_between m _ (record {
      wanted = record {
        wants = c.in-Ok.linked.state.wants;
        are = (look.0 m.node m.fits.is).1;
        fits = look.1;
      };
      some = sym c.hears_none.ensures ∙ c.if-hears_none.false;
      apart = c.requires.ids.1;
    }) c.if-listen.true

pub returns-then-not-is_up-clause-listens : goal.returns-then-not-is_up-clause-listens
returns-then-not-is_up-clause-listens g c m =
    let look = c.in-Ok.ensures.looks m.spot.place m.fits.ready refl in
    server_down m _ c.in_ok-database.database (record {
      wanted = record {
        wants = c.in-Ok.linked.state.wants;
        are = (look.0 m.node m.fits.is).1;
        fits = look.1;
      };
      some = sym c.hears_none.ensures ∙ c.if-hears_none.false;
      apart = c.requires.ids.1;
    }) (c.if-listen.false, sym c.is_up.ensures ∙ c.if-not-is_up.true) c.in_ok-database.ensures

pub returns-in-Ok-ask-clause-runs : goal.returns-in-Ok-ask-clause-runs
returns-in-Ok-ask-clause-runs g c =
    IfOk-weaker c.answer.result _ _ (λ reply a. OwnRuns (answers_then c.in-Ok.ensures.acts a) c.in-Ok-ask.ensures.acts)
    c.answer.ensures.answers

pub returns-in-Ok-ask-clause-listens : goal.returns-in-Ok-ask-clause-listens
returns-in-Ok-ask-clause-listens g c =
    IfOk-weaker c.answer.result _ _ (λ reply comes m.
    let look = c.in-Ok.ensures.looks m.spot.place m.fits.ready refl in
    let wants = look.0 m.node m.fits.is in
    let up = sym c.is_up.ensures ∙ c.if-not-is_up.false in
    let here = node_of (up_at m.ready up) c.requires.nodes.1 in
    let asked = c.in-Ok-ask.ensures.looks m.server m.ready refl in
    let hands = subst (λ k. Hands k c.in-Ok.linked.state.wants here.0 _) wants.0 (asked.0 here.0 here.1) in
    server_answers m here.0 _ c.answer.new.queue (record {
      linked = is_linked m _ (record {
        wanted = record { wants = c.in-Ok.linked.state.wants; are = wants.1; fits = look.1 };
        some = sym c.hears_none.ensures ∙ c.if-hears_none.false;
        apart = c.requires.ids.1;
      }) c.if-listen.false;
      running = sym (same_up m.server _ m.ready.fits) ∙ up;
      is = here.1;
    }) (comes (record {
      spot = m.spot;
      node = m.node;
      server = _;
      named = m.named;
      delivery = m.delivery;
      own = m.own;
      fits = record { ready = ready_still m.fits.ready look.1; is = m.fits.is; waits = m.fits.waits };
      answer = answer_is m here.0 c.in-Ok.linked.state.wants _ here.1 wants.1 hands;
    })) asked.1) c.answer.ensures.comes

pub returns-in-Err-ask-clause-runs : goal.returns-in-Err-ask-clause-runs
returns-in-Err-ask-clause-runs g c =
    let old = couple_of g.K.Keeper.kept c.args.own.now c.args.server.now in
    let mid = base_of g.K.Keeper.kept c.link.new.own in
    let new = base_of g.K.Keeper.kept c.ask.new.server in
    told_if (λ reply. RunsBetween old reply (record { from = mid; to = new }))
    c.told-in-Err-ask.result c.in-Err-ask.fault
    (refusal_of (words_at old.names.to) c.in-Err-ask.fault) c.told-in-Err-ask.ensures.reply
    c.told-in-Err-ask.ensures.memory
    (λ reply told full. ServerRuns c.in-Ok.ensures.acts
    (replied (Err c.in-Err-ask.fault) old.bases.to new told c.in-Err-ask.ensures.acts))

pub returns-in-Err-ask-clause-listens : goal.returns-in-Err-ask-clause-listens
returns-in-Err-ask-clause-listens g c =
    let old = couple_of g.K.Keeper.kept c.args.own.now c.args.server.now in
    let mid = base_of g.K.Keeper.kept c.link.new.own in
    let new = base_of g.K.Keeper.kept c.ask.new.server in
    told_if (λ reply. ListensTo c.args.listen old c.args.queue.now reply (record { from = mid; to = new })
    c.args.queue.now) c.told-in-Err-ask.result c.in-Err-ask.fault
    (refusal_of (words_at old.names.to) c.in-Err-ask.fault) c.told-in-Err-ask.ensures.reply
    c.told-in-Err-ask.ensures.memory
    (λ reply told full m. server_breaks m _ (c.in-Err-ask.ensures.looks m.server m.ready full)
    (told, sym c.is_up.ensures ∙ c.if-not-is_up.false) (c.in-Ok.ensures.looks m.spot.place m.fits.ready refl).1)
