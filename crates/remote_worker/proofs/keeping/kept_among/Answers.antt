use Rattle.std.specs.Prelude.{◌==◌}
use Rattle.std.proofs.Common.{arith, ◌≡◌, ◌∙◌, ◌+◌, ◌++◌, ◌∷◌, ℕ, true, Some, sym, ap, subst, drop, map}
use Rattle.std.proofs.lemmas.Grind.{common_steps}
use Rattle.std.proofs.lemmas.List.{drop_more}
use Rattle.slon_base.specs.Codec.{AllAre}
use Rattle.slon_base.specs.Keeper.{Store, sight}
use Rattle.store_rows.specs.Rows.{IsId}
use Rattle.store_rows.proofs.Reading.{all_snoc}
use Rattle.store_rows.proofs.Spaces.{looked_on, sight_same}
use Rattle.slon_model.specs.Config.{Config}
use Rattle.set_config.specs.Holds.{HoldsConfig}
use Rattle.event_store.specs.Kept.{seen_view}
use Rattle.event_store.specs.Seen.{seen_event}
use Rattle.event_store.specs.Spellings.{CanView}
use Rattle.node_state.specs.Held.{seen_views}
use Rattle.remote_worker.specs.Keeping.{CanFollow, kept_among, seen_kept}
use Rattle.remote_worker.proofs.Taking.{kept_pushed}
use Rattle.remote_worker.proofs.keeping.kept_among.Goals as goal

-- equal numbers pass the test
is_same : (a b : ℕ) → a ≡ b → (a == b) ≡ true
is_same a b same = grind (arith, common_steps)

pub kept_set-requires-clause-kept : goal.kept_set-requires-clause-kept
kept_set-requires-clause-kept g c =
    let views = c.args.views.now in
    let at = c.loop-kept.kept-index in
    let step = drop_more views at c.kept-item.result c.loop-kept-test.true
    ∙ ap (λ v. v ∷ drop (at + 1) views) (sym c.kept-item.is) in
    (subst (AllAre (λ e. IsId e.0 × CanView (seen_view e.1))) step c.loop-kept.invariant.views).0

pub loop-kept-preserved : goal.loop-kept-preserved
loop-kept-preserved g c =
    let views = c.args.views.now in
    let at = c.loop-kept.kept-index in
    let item = c.kept-item.result in
    let e = seen_event c.args.event.now in
    let before = c.loop-kept.invariant in
    let found = c.in_ok-kept_set.ensures in
    let step = drop_more views at item c.loop-kept-test.true
    ∙ ap (λ v. v ∷ drop (at + 1) views) (sym c.kept-item.is) in
    let left = subst (AllAre (λ v. IsId v.0 × CanView (seen_view v.1))) step before.views in
    let says : (m : Store) (conf : Config) → sight (g.K.Keeper.kept c.args.keeper.now) ≡ Some m →
    HoldsConfig conf m → c.args.rows.now ≡ conf.tables →
    map seen_kept c.push.new.self ++ kept_among c.args.own conf e (seen_views (drop (at + 1) views))
    ≡ kept_among c.args.own conf e (seen_views views) =
    λ m conf seen held rows.
    subst (λ sets. map seen_kept sets ++ kept_among c.args.own conf e (seen_views (drop (at + 1) views))
    ≡ kept_among c.args.own conf e (seen_views views)) (sym c.in_ok-push.ensures.ok)
    (kept_pushed {own = c.args.own} {c = conf} {e = e} {all = seen_views views} {v = (item.0, seen_view item.1)}
    {vs = seen_views (drop (at + 1) views)} {k = c.in_ok-kept_set.field-0} c.loop-kept.sets (record {
      same = is_same item.1.origin e.origin c.if-kept-event.false;
      is = found.says m conf (sight_same before.looked ∙ seen) held rows;
    }) (subst (λ vs. map seen_kept c.loop-kept.sets ++ kept_among c.args.own conf e (seen_views vs)
    ≡ kept_among c.args.own conf e (seen_views views)) step (before.says m conf seen held rows))) in
    record {
      looked = looked_on before.looked found.safe found.same;
      views = left.1;
      can = subst (AllAre CanFollow) (sym c.in_ok-push.ensures.ok)
          (all_snoc CanFollow c.loop-kept.sets c.in_ok-kept_set.field-0 before.can found.can);
      says = says;
    }
