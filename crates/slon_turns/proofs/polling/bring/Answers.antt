use Rattle.std.proofs.Common.{◌∙◌, ℕ, Ok, sym, ap, subst, refl}
use Rattle.std.proofs.lemmas.Result.{IfOk-weaker}
use Rattle.slon_model.specs.declared.command.Delivery.TheVariants.{Once as IsOnce}
use Rattle.slon_model.specs.declared.reply.Answer.TheVariants.{LostOnTheWay}
use Rattle.slon_model.specs.declared.reply.Refusal.TheVariants.{Nothing}
use Rattle.slon_model.specs.declared.reply.Reply.TheVariants.{Accepted}
use Rattle.slon_model.specs.Sessions.{seat}
use Rattle.slon_model.specs.Polls.{poll_of}
use Rattle.slon_model.specs.World.{refusal_of}
use Rattle.event_store.specs.declared.queue.Queue.{Queue}
use Rattle.app_store.specs.Base.{Base, base_of}
use Rattle.slonik_exec.proofs.Telling.{words_at}
use Rattle.slonik_exec.proofs.Works.{answers_then, ready_still}
use Rattle.slon_turns.specs.Polling.{BringsAt, ListensAt, brought}
use Rattle.slon_turns.proofs.Listens.{refused_listens, stops_listens, polled_is, polled_empty, brought_none, brings_as}
use Rattle.slon_turns.proofs.Listens.{lost_listens, again_listens, told_if}
use Rattle.slon_turns.proofs.polling.bring.Goals as goal

pub returns-in-Err-clause-brings : goal.returns-in-Err-clause-brings
returns-in-Err-clause-brings g c =
    let kept = g.K.Keeper.kept in
    let old = base_of kept c.args.own.now.database in
    let new = base_of kept c.sift.new.own in
    told_if (λ reply. BringsAt c.args.delivery c.args.own.now.name c.args.asked.state.handed
    (old, c.args.queue.now) reply
    (new, c.args.queue.now)) c.told.result c.in-Err.fault
    (refusal_of (words_at c.args.own.now.name) c.in-Err.fault) c.told.ensures.reply c.told.ensures.memory
    (λ reply told full s n server is delivery fits handed. stops_listens s (brought s n server) c.args.queue.now
    (c.in-Err.ensures.looks s.place fits.ready full)
    (told ∙ ap (λ x. refusal_of (words_at x) c.in-Err.fault) (sym is)) fits.waits)

pub returns-then-is_empty-clause-brings : goal.returns-then-is_empty-clause-brings
returns-then-is_empty-clause-brings g c s n server is delivery fits handed =
    let look = c.in-Ok.ensures.looks s.place fits.ready refl in
    let polled = polled_is s n server c.args.asked.state.handed c.in-Ok.polled.state handed c.in-Ok.ensures.events
    (look.0 n fits.is) in
    refused_listens s (brought s n server) Nothing _ c.args.queue.now
    (brought_none s n server (sym (polled_empty s n c.in-Ok.polled.state _ polled) ∙ sym c.is_empty.ensures
    ∙ c.if-is_empty.true)) look.1 fits.waits

pub returns-in-Lost-clause-brings : goal.returns-in-Lost-clause-brings
returns-in-Lost-clause-brings g c s n server is delivery fits handed =
    let new = base_of g.K.Keeper.kept c.sift.new.own in
    let look = c.in-Ok.ensures.looks s.place fits.ready refl in
    let b = poll_of s.memory (seat s.name s.place n) server in
    let polled = polled_is s n server c.args.asked.state.handed c.in-Ok.polled.state handed c.in-Ok.ensures.events
    (look.0 n fits.is) in
    subst (λ (p : ℕ × ℕ). ListensAt s (brought s n server) (Accepted (LostOnTheWay p.0 p.1)) new c.args.queue.now)
    (sym c.counts-events.ensures)
    (brings_as {new = (new, c.args.queue.now)} s n server
    (sym (polled_empty s n c.in-Ok.polled.state b polled) ∙ sym c.is_empty.ensures ∙ c.if-is_empty.false)
    (lost_listens s n c.in-Ok.polled.state b (new, c.args.queue.now) polled (delivery ∙ c.in-Lost.is)
    (look.1, fits.waits)))

pub returns-in-Once : goal.returns-in-Once
returns-in-Once g c =
    let kept = g.K.Keeper.kept in
    record {
      answers = IfOk-weaker c.deliver.result _ _ (λ reply a. answers_then c.in-Ok.ensures.acts a)
          c.deliver.ensures.answers;
      brings = IfOk-weaker c.deliver.result _ _ (λ reply delivers s n server is delivery fits handed.
          let look = c.in-Ok.ensures.looks s.place fits.ready refl in
          let b = poll_of s.memory (seat s.name s.place n) server in
          let polled = polled_is s n server c.args.asked.state.handed c.in-Ok.polled.state handed
          c.in-Ok.ensures.events (look.0 n fits.is) in
          brings_as {new = (base_of kept c.deliver.new.own.database, c.deliver.new.queue)} s n server
          (sym (polled_empty s n c.in-Ok.polled.state b polled) ∙ sym c.is_empty.ensures ∙ c.if-is_empty.false)
          (subst (λ d. ListensAt (record s { delivery = d }) (Ok b) reply (base_of kept c.deliver.new.own.database)
          c.deliver.new.queue) (sym (delivery ∙ c.in-Once.is))
          (delivers (record s { delivery = IsOnce }) n b is refl
          (record { ready = ready_still fits.ready look.1; is = fits.is; waits = fits.waits })
          (record { own = polled.own; events = polled.events; confirms = polled.confirms }))))
          c.deliver.ensures.delivers;
      name = c.deliver.ensures.name;
    }

pub returns-in-Again : goal.returns-in-Again
returns-in-Again g c =
    let kept = g.K.Keeper.kept in
    let deliver = c.deliver-in-Again in
    record {
      answers = IfOk-weaker deliver.result _ _ (λ reply a. answers_then c.in-Ok.ensures.acts a) deliver.ensures.answers;
      brings = IfOk-weaker deliver.result _ _ (λ reply delivers s n server is delivery fits handed.
          let look = c.in-Ok.ensures.looks s.place fits.ready refl in
          let b = poll_of s.memory (seat s.name s.place n) server in
          let polled = polled_is s n server c.args.asked.state.handed c.in-Ok.polled.state handed
          c.in-Ok.ensures.events (look.0 n fits.is) in
          let new : Base × Queue = (base_of kept deliver.new.own.database, deliver.new.queue) in
          brings_as {new = new} s n server
          (sym (polled_empty s n c.in-Ok.polled.state b polled) ∙ sym c.is_empty.ensures ∙ c.if-is_empty.false)
          (again_listens {new = new} s n server (delivery ∙ c.in-Again.is)
          (delivers (record s { delivery = IsOnce }) n b is refl
          (record { ready = ready_still fits.ready look.1; is = fits.is; waits = fits.waits })
          (record { own = polled.own; events = polled.events; confirms = polled.confirms }))))
          deliver.ensures.delivers;
      name = deliver.ensures.name;
    }
