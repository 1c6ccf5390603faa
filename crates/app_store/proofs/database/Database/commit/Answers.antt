use Rattle.std.proofs.Common.{◌∙◌, ◌+◌, refl, sym, ap, subst, arith, length}
use Rattle.std.proofs.lemmas.Bool.{false≢true}
use Rattle.std.specs.FinMap.{get, remove}
use Rattle.app_store.specs.Base.{base_of, memory_of}
use Rattle.app_store.proofs.Standing.{look_fell, up_from}
use Rattle.slon_model.specs.Tasks.{ToCommit}
use Rattle.app_store.proofs.Upright.{up_at, untouched}
use Rattle.app_store.proofs.Transacting.{end_refused, commits_none, commits_some, commit_doubted, commit_at_limit}
use Rattle.app_store.proofs.Halting.{halted, stopped}
use Rattle.app_store.proofs.Serving.{serves_well, serves_stop, serves_doubt, serves_big, ran_not, ran_done, ran_doubt}
use Rattle.app_store.proofs.Serving.{ran_stop, some_actions, down_from, plain_fell}
use Rattle.app_store.specs.Written.{AreWritten}
use Rattle.app_store.proofs.Written.{less_written}
use Rattle.app_store.proofs.database.Database.commit.Goals as goal

pub returns-in-None-clause-serves : goal.returns-in-None-clause-serves
returns-in-None-clause-serves g c =
    serves_well (ToCommit c.args.name.now) (base_of g.K.Keeper.kept c.args.self.now) _ _
    (c.if-not-self.false, refl) refl (ran_not _) (λ p ready memory.
    rw (c.in-None.ensures.map, c.as_slice.ensures.value)
    (end_refused (ToCommit c.args.name.now) c.args.name.now _ (up_at ready c.if-not-self.false)
    (ap (get c.args.self.now.state.opens) (sym c.as_slice.ensures.value)
    ∙ sym c.in-None.ensures.value) refl))

pub returns-then-actions-eq0-clause-serves : goal.returns-then-actions-eq0-clause-serves
returns-then-actions-eq0-clause-serves g c =
    serves_well (ToCommit c.args.name.now) (base_of g.K.Keeper.kept c.args.self.now) _ _
    (c.if-not-self.false, refl) refl (ran_not _) (λ p ready memory.
    commits_none c.args.name.now _ _ (up_at ready c.if-not-self.false)
    (record {
      transaction = c.in-Some.transaction;
      locks = c.release_all.new.self;
      there = ap (get c.args.self.now.state.opens) (sym c.as_slice.ensures.value) ∙ sym c.in-Some.ensures.value;
      frees = c.release_all.ensures;
    }) (c.len-actions.ensures, c.if-actions-eq0.true)
    (ap
    (λ o.
    record (base_of g.K.Keeper.kept c.args.self.now) {
      memory =
          record (memory_of c.args.self.now.state) { opens = o; locks = c.release_all.new.self };
    })
    (c.in-Some.ensures.map ∙ ap (remove c.args.self.now.state.opens) c.as_slice.ensures.value)))

pub returns-then-self-ge-STORED_LIMIT-clause-serves : goal.returns-then-self-ge-STORED_LIMIT-clause-serves
returns-then-self-ge-STORED_LIMIT-clause-serves g c =
    let most = c.if-self-ge-STORED_LIMIT.true in
    serves_big (ToCommit c.args.name.now) (base_of g.K.Keeper.kept c.args.self.now) _ c.overflow.result
    (c.if-not-self.false, refl)
    (record {
      fault_is = c.overflow.ensures.fault;
      ran = (ran_not _);
      needed = (omega (arith, most, c.overflow.ensures.down.stamp));
      fell = c.overflow.ensures.down.up;
    }) (λ p ready memory.
    commit_at_limit c.args.name.now _ c.in-Some.transaction (up_at ready c.if-not-self.false)
    (ap (get c.args.self.now.state.opens) (sym c.as_slice.ensures.value)
    ∙ sym c.in-Some.ensures.value)
    (some_actions (length c.in-Some.transaction.actions)
    (λ none. c.if-actions-eq0.false (c.len-actions.ensures ∙ none)))
    (omega (arith, most))
    (record {
      down = down_from (memory_of c.args.self.now.state) refl c.overflow.ensures.down;
      looked = untouched _;
    }))

pub returns-in-Done-clause-serves : goal.returns-in-Done-clause-serves
returns-in-Done-clause-serves g c =
    let tries = rw c.in-Done.is at c.in-Ok.ensures.tries in
    serves_well (ToCommit c.args.name.now) (base_of g.K.Keeper.kept c.args.self.now) _ _
    (c.if-not-self.false, refl) refl (ran_done tries) (λ p ready memory.
    let made = rw c.in-Done.is at (c.in-Ok.ensures.works ready.fits.held.0 ready.fits.held.1) in
    commits_some c.args.name.now _ (up_at ready c.if-not-self.false)
    (record {
      transaction = c.in-Some.transaction;
      locks = c.release_all.new.self;
      there = ap (get c.args.self.now.state.opens) (sym c.as_slice.ensures.value) ∙ sym c.in-Some.ensures.value;
      frees = c.release_all.ensures;
    })
    (record {
      count = c.len-actions.result;
      count_is = c.len-actions.ensures;
      some = some_actions (length c.in-Some.transaction.actions)
          (λ none. c.if-actions-eq0.false (c.len-actions.ensures ∙ none));
      can = c.in-Ok.ensures.can;
      less = omega (arith, c.if-self-ge-STORED_LIMIT.false);
    })
    (record { held = made; later = tries.counted.later })
    (ap (λ o. record (memory_of c.args.self.now.state) {
      stamp = c.args.self.now.state.stamp + 1;
      opens = o;
      locks = c.release_all.new.self;
    })
    (c.in-Some.ensures.map ∙ ap (remove c.args.self.now.state.opens) c.as_slice.ensures.value)))

pub returns-in-Ok-clause-serves : goal.returns-in-Ok-clause-serves
returns-in-Ok-clause-serves g c =
    let tries = rw c.in-InDoubt.is at c.in-Ok.ensures.tries in
    serves_doubt (ToCommit c.args.name.now) (base_of g.K.Keeper.kept c.args.self.now) _ _ (c.if-not-self.false, refl)
    (record { ran = (ran_doubt tries); doubts = tries.doubts.1; fell = c.take_down.ensures.up }) (λ p ready memory.
    let made = rw c.in-InDoubt.is at (c.in-Ok.ensures.works ready.fits.held.0 ready.fits.held.1) in
    commit_doubted c.args.name.now _ c.in-Some.transaction (up_at ready c.if-not-self.false)
    (ap (get c.args.self.now.state.opens) (sym c.as_slice.ensures.value)
    ∙ sym c.in-Some.ensures.value)
    (record {
      count = c.len-actions.result;
      count_is = c.len-actions.ensures;
      some = some_actions (length c.in-Some.transaction.actions)
          (λ none. c.if-actions-eq0.false (c.len-actions.ensures ∙ none));
      can = c.in-Ok.ensures.can;
      less = omega (arith, c.if-self-ge-STORED_LIMIT.false);
    })
    (record {
      up = c.take_down.ensures.up;
      doubt = refl;
      identity = c.take_down.ensures.identity;
      later = tries.counted.later;
      either = made;
    }))

pub returns-clause-serves : goal.returns-clause-serves
returns-clause-serves g c =
    serves_stop (ToCommit c.args.name.now) (base_of g.K.Keeper.kept c.args.self.now) _ c.in-Err.stop c.fall.result
    (c.if-not-self.false, refl)
    (halted _ _ _ _ _ (c.fall.ensures.fault, c.in-Err.ensures.tries.counted.within)
    ((ran_stop c.in-Err.ensures.tries), (λ _. c.in-Err.ensures.tries.doubts)) c.fall.ensures.down.up) (λ p ready memory.
    let works = c.in-Err.ensures.works ready.fits.held.0 ready.fits.held.1 in
    plain_fell (ToCommit c.args.name.now) c.fall.result _ (up_at ready c.if-not-self.false) refl
    (look_fell p (base_of g.K.Keeper.kept c.args.self.now) _ c.in-Err.stop c.fall.result
    (up_from ready c.if-not-self.false) (works.0 ∙ sym ready.fits.held.1)
    (stopped _ _ _ _ (record {
      up = c.fall.ensures.down.up;
      doubt = c.fall.ensures.down.doubt;
      identity = c.fall.ensures.down.identity;
    }) c.in-Err.ensures.tries.counted.failed
    c.fall.ensures.fault
    (memory, works.1))))

pub invariant_of-self : goal.invariant_of-self
invariant_of-self g c = (
  c.args.self.now.state.small,
  (
    λ down. absurd (false≢true (sym down ∙ c.if-not-self.false)),
    (
      subst AreWritten (sym c.remove.ensures.map) (less_written _ _ c.args.self.now.state.written),
      (c.args.self.now.state.marked, tt),
    ),
  ),
)
