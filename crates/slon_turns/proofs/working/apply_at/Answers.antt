use Rattle.std.proofs.Common.{◌∙◌, Ok, Err, ap, subst, sym}
use Rattle.std.proofs.lemmas.Result.{IfOk-weaker}
use Rattle.slon_model.specs.World.{reply_of, refusal_of}
use Rattle.app_store.specs.Base.{base_of}
use Rattle.remote_worker.specs.Working.{waits_as, IsAble}
use Rattle.slonik_exec.proofs.Telling.{words_at}
use Rattle.slon_turns.specs.Applying.{applied_as, AppliesAt}
use Rattle.slon_turns.proofs.Applying.{applies_at}
use Rattle.slon_turns.proofs.Listens.{told_if, joined_full}
use Rattle.slon_turns.proofs.working.apply_at.Goals as goal

pub commit-requires-clause-due : goal.commit-requires-clause-due
commit-requires-clause-due g c =
    let w = c.args.fetched in
    let same = c.in_ok-settled.ensures.is in
    let queue = c.args.held.now.queue in
    subst (λ o. IsAble (waits_as o c.in_ok-settled.settled.state.number queue)) (sym same.origin)
    (subst (λ n. IsAble (waits_as w.origin n queue)) (sym same.number) c.requires.able)

pub returns-in-Ok-clause-applies : goal.returns-in-Ok-clause-applies
returns-in-Ok-clause-applies g c =
    let w = c.args.fetched in
    let state = w.state in
    IfOk-weaker c.answered.result _ _ (λ reply told. applies_at {w = w} (record {
      settled = c.in_ok-settled.settled;
      settles = c.in_ok-settled.ensures.is;
      result = Ok c.in-Ok.doubt;
      told = told ∙ ap (λ a. reply_of (words_at c.args.own.now.name) (Ok a))
          (c.applied.ensures ∙ ap (λ n. applied_as state.kind state.number n c.in-Ok.doubt) c.in_ok-rows.ensures);
      full = joined_full c.in-Ok.doubt;
      applies = c.in-Ok.ensures.applies;
      queue = c.in-Ok.ensures.queue;
      stays = tt;
      taken = c.take-kept.ensures.rest;
    })) c.answered.ensures

pub returns-in-Err-clause-applies : goal.returns-in-Err-clause-applies
returns-in-Err-clause-applies g c =
    let kept = g.K.Keeper.kept in
    let w = c.args.fetched in
    let old = base_of kept c.args.own.now.database in
    let new = base_of kept c.commit.new.own in
    let held = record c.args.held.now { queue = c.commit.new.queue } in
    told_if (λ reply. AppliesAt c.args.own.now.name w (old, c.args.held.now) reply (new, held))
    c.told.result c.in-Err.fault (refusal_of (words_at c.args.own.now.name) c.in-Err.fault) c.told.ensures.reply
    c.told.ensures.memory
    (λ reply told full. applies_at {w = w} (record {
      settled = c.in_ok-settled.settled;
      settles = c.in_ok-settled.ensures.is;
      result = Err c.in-Err.fault;
      told = told;
      full = full;
      applies = c.in-Err.ensures.applies;
      queue = tt;
      stays = c.in-Err.ensures.stays;
      taken = tt;
    }))
