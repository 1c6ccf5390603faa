use Rattle.std.proofs.Common.{◌≡◌, ◌-◌, ◌∷◌, cond, length, drop, rules, sym, ap, subst, ◌∙◌, arith}
use Rattle.std.proofs.Math.Seq.{drop-length}
use Rattle.std.proofs.lemmas.Result.{err_from_is_err_and}
use Rattle.slon_base.specs.Keeper.{Store}
use Rattle.store_rows.specs.Space.{IsPending}
use Rattle.store_rows.proofs.Spaces.{hands_stop}
use Rattle.node_rows.specs.Spellings.{CanBeTaken}
use Rattle.slon_model.specs.Config.{Config, handed, taken_over}
use Rattle.set_config.specs.Holds.{Shows}
use Rattle.set_config.proofs.Backward.{one_back, at_index}
use Rattle.set_config.proofs.Changed.{live_taken}
use Rattle.set_config.proofs.handing.take_over.Goals as goal

pub loop-index-init : goal.loop-index-init
loop-index-init g c =
    let sets = c.args.sets.now in
    let old = g.K.Keeper.kept c.args.keeper.now in
    let turns : (base : Store) (config : Config) → IsPending (Shows base config) old → IsPending (Shows base
    (taken_over c.args.backup (drop (length sets) sets) config)) old =
    λ base config p. subst (λ more. IsPending (Shows base (taken_over c.args.backup more config)) old)
    (sym (drop-length sets)) p in
    search (rules, turns)

pub take_set-requires-clause-can : goal.take_set-requires-clause-can
take_set-requires-clause-can g c =
    let s = c.index-sets-index.result in
    let can = at_index CanBeTaken c.args.sets.now (c.loop-index.index - 1) s c.requires.can.1 (omega arith) in
    (c.requires.can.0, subst CanBeTaken (sym c.index-sets-index.is) can)

pub loop-index-preserved : goal.loop-index-preserved
loop-index-preserved g c =
    let backup = c.args.backup in
    let sets = c.args.sets.now in
    let index = c.loop-index.index in
    let old = g.K.Keeper.kept c.args.keeper.now in
    let now = g.K.Keeper.kept c.take_set.new.keeper in
    let s = c.index-sets-index.result in
    let more = drop index sets in
    let turns : (base : Store) (config : Config) → IsPending (Shows base config) old → IsPending (Shows base
    (taken_over backup (drop (index - 1) sets) config)) now =
    λ base config p. subst (λ left. IsPending (Shows base (taken_over backup left config)) now)
    (sym (one_back sets index s (omega arith) (omega arith) ∙ ap (λ x. x ∷ more) (sym c.index-sets-index.is)))
    (subst (λ b. IsPending (Shows base (cond b (handed s.0 backup s.1.0 s.1.1 (taken_over backup more config))
    (taken_over backup more config))) now) (live_taken s.0 backup more config)
    (c.in_ok-take_set.ensures.turns base _ (c.loop-index.invariant.turns base config p))) in
    search (rules, turns)

pub returns-in_err-take_set-clause-turns : goal.returns-in_err-take_set-clause-turns
returns-in_err-take_set-clause-turns g c base config p =
    hands_stop _ _ c.from_residual.result (err_from_is_err_and c.from_residual.result c.from_residual.ensures.1)
    (c.in_err-take_set.ensures.turns base _ (c.loop-index.invariant.turns base config p))

pub returns-clause-turns : goal.returns-clause-turns
returns-clause-turns g c base config p =
    let none : c.loop-index.index ≡ 0 = omega arith in
    subst (λ i. IsPending (Shows base (taken_over c.args.backup (drop i c.args.sets.now) config))
    (g.K.Keeper.kept c.loop-index.keeper)) none (c.loop-index.invariant.turns base config p)
