use Rattle.std.proofs.Common.{◌∙◌, ℕ, Ok, Err, ap}
use Rattle.std.proofs.lemmas.Result.{IfOk-weaker}
use Rattle.slon_model.specs.declared.command.Delivery.TheVariants.{Once}
use Rattle.slon_model.specs.World.{reply_of, refusal_of}
use Rattle.app_store.specs.Base.{base_of}
use Rattle.slonik_exec.proofs.Telling.{words_at}
use Rattle.slon_turns.specs.Polling.{DeliversAt, heard_as}
use Rattle.slon_turns.proofs.Listens.{delivers_at, told_if, joined_full}
use Rattle.slon_turns.proofs.polling.deliver.Goals as goal

pub returns-in-Ok-clause-delivers : goal.returns-in-Ok-clause-delivers
returns-in-Ok-clause-delivers g c =
    IfOk-weaker c.answered.result _ _ (λ reply told. delivers_at c.args.polled.state (record {
      result = Ok c.in-Ok.doubt;
      told = told ∙ ap (λ a. reply_of (words_at c.args.own.now.name) (Ok a))
          (c.heard.ensures ∙ ap (λ (p : ℕ × ℕ). heard_as p.0 p.1 c.in-Ok.doubt) c.counts-events.ensures);
      full = joined_full c.in-Ok.doubt;
      delivers = c.in-Ok.ensures.delivers;
      queue = c.in-Ok.ensures.queue;
      stays = tt;
    })) c.answered.ensures

pub returns-in-Err-clause-delivers : goal.returns-in-Err-clause-delivers
returns-in-Err-clause-delivers g c =
    let kept = g.K.Keeper.kept in
    let old = base_of kept c.args.own.now.database in
    let new = base_of kept c.deliver.new.own in
    told_if (λ reply. DeliversAt Once c.args.own.now.name c.args.polled.state (old, c.args.queue.now) reply
    (new, c.deliver.new.queue)) c.told.result c.in-Err.fault
    (refusal_of (words_at c.args.own.now.name) c.in-Err.fault) c.told.ensures.reply c.told.ensures.memory
    (λ reply told full. delivers_at c.args.polled.state (record {
      result = Err c.in-Err.fault;
      told = told;
      full = full;
      delivers = c.in-Err.ensures.delivers;
      queue = tt;
      stays = c.in-Err.ensures.stays;
    }))
