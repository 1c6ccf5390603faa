use Rattle.std.proofs.Common.{◌≡◌, ◌+◌, Some, ◌∷◌, drop, rules, subst, sym, ap, ◌∙◌}
use Rattle.std.proofs.lemmas.List.{drop_more, drop_all}
use Rattle.std.proofs.lemmas.Result.{err_from_is_err_and}
use Rattle.slon_base.specs.Codec.{AllAre}
use Rattle.store_rows.specs.Space.{IsPending}
use Rattle.store_rows.proofs.Spaces.{pending_as}
use Rattle.txn_core.specs.Snapshots.{seen_as}
use Rattle.node_rows.specs.declared.body.Body.{Body}
use Rattle.node_rows.specs.Spellings.{CanBody}
use Rattle.event_store.specs.Keeping.{KeepsViews}
use Rattle.node_store.specs.Acting.{Emitter, IsTold}
use Rattle.node_store.proofs.Emitting.{IsLeft, Spoken, all_left, none_left, homed_left, one_left, event_stops}
use Rattle.node_store.proofs.Emitting.{hands_each}
use Rattle.node_store.proofs.writing.emit_each.Goals as goal

pub loop-body-init : goal.loop-body-init
loop-body-init g c =
    let old = g.K.Keeper.kept c.args.keeper.now in
    let bodies = c.args.bodies.now in
    let rest : (e : Emitter) → IsTold c.args.own (seen_as c.args.taken.now) bodies e →
    old.pending ≡ Some (Some e.held) → IsPending (IsLeft e bodies 0) old =
    λ e told is. record { store = e.held; is = is; has = all_left e 0 told } in
    search (rules, rest)

pub returns-in_err-last-clause-emits : goal.returns-in_err-last-clause-emits
returns-in_err-last-clause-emits g c e told is =
    let bodies = c.args.bodies.now in
    let at = c.loop-body.body-index in
    let mid = g.K.Keeper.kept c.loop-body.keeper in
    let new = g.K.Keeper.kept c.announce.new.keeper in
    let more = drop (at + 1) bodies in
    let body : Body = c.body-item.result in
    let step = drop_more bodies at body c.loop-body-test.true ∙ ap (λ b. b ∷ more) (sym c.body-item.is) in
    let left = subst (λ bs. IsPending (IsLeft e bs c.loop-body.last) mid) step
    (c.loop-body.invariant.rest e told is) in
    let s : Spoken e c.args.own (seen_as c.args.taken.now) body more = record {
      last = c.loop-body.last;
      store = left.store;
      own_is = told.own_is;
      seen_is = told.seen_is;
      left = left.has;
    } in
    hands_each e new c.from_residual.result (err_from_is_err_and c.from_residual.result c.from_residual.ensures.1)
    (event_stops mid new s c.in_err-last.field-0.0
    (c.in_err-last.ensures.turns s.left.node s.store (s.left.same ∙ told.own_is) left.is s.left.held (homed_left s)))

pub loop-body-preserved : goal.loop-body-preserved
loop-body-preserved g c =
    let old = g.K.Keeper.kept c.args.keeper.now in
    let mid = g.K.Keeper.kept c.loop-body.keeper in
    let new = g.K.Keeper.kept c.announce.new.keeper in
    let bodies = c.args.bodies.now in
    let at = c.loop-body.body-index in
    let more = drop (at + 1) bodies in
    let body : Body = c.body-item.result in
    let before = c.loop-body.invariant in
    let step = drop_more bodies at body c.loop-body-test.true ∙ ap (λ b. b ∷ more) (sym c.body-item.is) in
    let can = subst (AllAre CanBody) step before.can in
    let keeps = subst (AllAre KeepsViews) step before.keeps in
    let rest : (e : Emitter) → IsTold c.args.own (seen_as c.args.taken.now) bodies e →
    old.pending ≡ Some (Some e.held) → IsPending (IsLeft e more c.in_ok-last.last) new =
    λ e told is.
    let left = subst (λ bs. IsPending (IsLeft e bs c.loop-body.last) mid) step (before.rest e told is) in
    let s : Spoken e c.args.own (seen_as c.args.taken.now) body more = record {
      last = c.loop-body.last;
      store = left.store;
      own_is = told.own_is;
      seen_is = told.seen_is;
      left = left.has;
    } in
    let turns = c.in_ok-last.ensures.turns s.left.node s.store (s.left.same ∙ told.own_is) left.is s.left.held
    (homed_left s) in
    pending_as (λ store has. one_left s c.in_ok-last.last store (turns.0, turns.1) has) turns.2 in
    search (rules, rest, can, keeps)

pub returns-clause-emits : goal.returns-clause-emits
returns-clause-emits g c e told is =
    let bodies = c.args.bodies.now in
    let end = drop_all c.loop-body.body-index bodies c.loop-body-test.false in
    pending_as (λ store left. none_left e c.loop-body.last store told left)
    (subst (λ more. IsPending (IsLeft e more c.loop-body.last) (g.K.Keeper.kept c.loop-body.keeper)) end
    (c.loop-body.invariant.rest e told is))
