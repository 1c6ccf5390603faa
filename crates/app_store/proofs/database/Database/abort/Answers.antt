use Rattle.std.proofs.lemmas.Bool.{false≢true}
use Rattle.std.proofs.Common.{◌∙◌, refl, sym, ap, subst}
use Rattle.std.specs.FinMap.{get, remove}
use Rattle.app_store.specs.Base.{base_of, memory_of}
use Rattle.slon_model.specs.Tasks.{ToAbort}
use Rattle.app_store.proofs.Upright.{up_at}
use Rattle.app_store.proofs.Transacting.{end_refused, aborts}
use Rattle.app_store.proofs.Serving.{serves_well, ran_not}
use Rattle.app_store.specs.Written.{AreWritten}
use Rattle.app_store.proofs.Written.{less_written}
use Rattle.app_store.proofs.database.Database.abort.Goals as goal

pub returns-in-None-clause-serves : goal.returns-in-None-clause-serves
returns-in-None-clause-serves g c =
    serves_well (ToAbort c.args.name.now) (base_of g.K.Keeper.kept c.args.self.now) _ _ (c.if-not-self.false, refl) refl
    (ran_not _) (λ p ready memory.
    rw (c.in-None.ensures.map, c.as_slice.ensures.value)
    (end_refused (ToAbort c.args.name.now) c.args.name.now _ (up_at ready c.if-not-self.false)
    (ap (get c.args.self.now.state.opens) (sym c.as_slice.ensures.value)
    ∙ sym c.in-None.ensures.value) refl))

pub returns-in-Some-clause-serves : goal.returns-in-Some-clause-serves
returns-in-Some-clause-serves g c =
    serves_well (ToAbort c.args.name.now) (base_of g.K.Keeper.kept c.args.self.now) _ _ (c.if-not-self.false, refl) refl
    (ran_not _) (λ p ready memory.
    aborts c.args.name.now _ (up_at ready c.if-not-self.false)
    (record {
      transaction = c.in-Some.transaction;
      locks = c.release_all.new.self;
      there = ap (get c.args.self.now.state.opens) (sym c.as_slice.ensures.value) ∙ sym c.in-Some.ensures.value;
      frees = c.release_all.ensures;
    })
    (ap
    (λ o.
    record (base_of g.K.Keeper.kept c.args.self.now) {
      memory =
          record (memory_of c.args.self.now.state) { opens = o; locks = c.release_all.new.self };
    })
    (c.in-Some.ensures.map ∙ ap (remove c.args.self.now.state.opens) c.as_slice.ensures.value)))

pub invariant_of-self : goal.invariant_of-self
invariant_of-self g c = (
  c.args.self.now.state.small,
  (
    λ down. absurd (false≢true (sym down ∙ c.if-not-self.false)),
    (
      subst AreWritten (sym c.remove.ensures.map) (less_written _ _ c.args.self.now.state.written),
      (c.args.self.now.state.marked, tt),
    ),
  ),
)
