use Rattle.std.proofs.Common.{◌∙◌}
use Rattle.std.proofs.Common.{Ok, Err, is_some, refl, sym, ap}
use Rattle.std.specs.FinMap.{get}
use Rattle.app_store.specs.Base.{base_of, memory_of, with_opened}
use Rattle.slon_model.specs.Tasks.{ToOpen}
use Rattle.app_store.proofs.Upright.{up_at}
use Rattle.app_store.proofs.Transacting.{begins_on, begin_stopped, name_used, none_at}
use Rattle.app_store.proofs.Serving.{serves_well, serves_part, ran_not}
use Rattle.app_store.proofs.database.Database.begin.Goals as goal

pub returns-then-contains_key-clause-serves : goal.returns-then-contains_key-clause-serves
returns-then-contains_key-clause-serves g c =
    serves_well (ToOpen c.args.name.now) (base_of g.K.Keeper.kept c.args.self.now) _ _ (c.if-not-self.false, refl) refl
    (ran_not _) (λ p ready memory.
    name_used c.args.name.now (up_at ready c.if-not-self.false)
    (ap (λ n. is_some (get c.args.self.now.state.opens n)) (sym c.as_slice.ensures.value)
    ∙ sym c.contains_key.ensures ∙ c.if-contains_key.true))

pub returns-in_ok-open-in-Ok-clause-serves : goal.returns-in_ok-open-in-Ok-clause-serves
returns-in_ok-open-in-Ok-clause-serves g c =
    let part = c.in-Ok.ensures.part in
    serves_part {T = Unit {0}} (ToOpen c.args.name.now) (base_of g.K.Keeper.kept c.args.self.now) _ (Ok tt) _
    (record { begun = (c.if-not-self.false, refl); prepared = refl; same = refl })
    (record { later = part.later; caused = part.caused; knows = part.knows; falls = tt {0}; big = tt {0} })
    (λ p ready memory.
    begins_on c.args.name.now _ c.draw-xid.result (up_at ready c.if-not-self.false)
    (none_at _ (ap (λ k. is_some (get c.args.self.now.state.opens k)) (sym c.as_slice.ensures.value)
    ∙ sym c.contains_key.ensures
    ∙ c.if-contains_key.false)) (c.in-Ok.ensures.raises p ready refl)
    (record {
      up = c.in-Ok.ensures.up;
      drawn = c.draw-xid.ensures.value;
      new_is =
          ap (λ m. record (base_of g.K.Keeper.kept c.raise.new.self) { memory = m })
          (c.in_ok-open-in-Ok.ensures
          ∙ (λ i. with_opened (c.as_slice-in-Ok.ensures.value i) c.draw-xid.result
          (record (memory_of c.raise.new.self.state) {
            xids = record { next = c.draw-xid.ensures.next i; ceiling = c.draw-xid.ensures.ceiling i };
          })));
    }))

pub returns-in-Err-clause-serves : goal.returns-in-Err-clause-serves
returns-in-Err-clause-serves g c =
    serves_part {T = Unit {0}} (ToOpen c.args.name.now) (base_of g.K.Keeper.kept c.args.self.now) _ (Err c.in-Err.fault)
    (Err c.in-Err.fault) (record { begun = (c.if-not-self.false, refl); prepared = refl; same = refl })
    c.in-Err.ensures.part (λ p ready memory.
    begin_stopped c.args.name.now _ c.in-Err.fault (up_at ready c.if-not-self.false)
    (none_at _ (ap (λ k. is_some (get c.args.self.now.state.opens k)) (sym c.as_slice.ensures.value)
    ∙ sym c.contains_key.ensures ∙ c.if-contains_key.false)) (c.in-Err.ensures.raises p ready memory))
