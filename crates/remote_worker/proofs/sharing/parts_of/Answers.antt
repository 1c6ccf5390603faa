use Rattle.std.proofs.Common.{rules, ◌≡◌, ◌∙◌, ℕ, List, [], ◌∷◌, ◌++◌, map, sym, ap, subst}
use Rattle.std.proofs.lemmas.List.{nil_from_length}
use Rattle.std.specs.List.{AllByRecursion}
use Rattle.std.specs.Vec.Iter.{into_iter_items}
use Rattle.store_rows.proofs.Reading.{all_snoc}
use Rattle.slon_base.specs.Codec.{AllAre}
use Rattle.slon_model.specs.Deeds.{Logged}
use Rattle.node_store.specs.Bringing.{HasLogged}
use Rattle.remote_worker.specs.Keeping.{CanFollow, seen_kept}
use Rattle.remote_worker.specs.Loading.{CanFetch, HaveFetches}
use Rattle.remote_worker.specs.Running.{sets_in, taken_among}
use Rattle.remote_worker.proofs.Together.{LeavesParts, last_part, next_part}
use Rattle.remote_worker.proofs.sharing.parts_of.Goals as goal

pub loop-kept-init : goal.loop-kept-init
loop-kept-init c =
    let run = c.args.run in
    let left = into_iter_items c.into_iter-kept-iterator.result in
    let items = c.into_iter-kept-iterator.ensures.into_iter_gives.0 ∙ c.into_vec-kept-items.ensures in
    let can_left = subst (AllAre CanFollow) (sym items) c.requires.can.0.can.1 in
    let made : c.push.new.self ≡ c.in_ok-part_of.field-0 ∷ [] =
    c.in_ok-push.ensures.ok ∙ ap (λ fs. fs ++ c.in_ok-part_of.field-0 ∷ []) c.new-fetches.ensures in
    let can = subst (AllByRecursion CanFetch) (sym made) (c.in_ok-part_of.ensures.can, tt) in
    let has : (origin : ℕ) (logs : List Logged) → HasLogged origin logs c.args.found.now.rows c.args.found.now.actions →
    LeavesParts origin logs (sets_in run) left c.push.new.self = λ origin logs read. record {
      syncs = taken_among logs (seen_kept run.first) ∷ [];
      have = subst (HaveFetches origin (taken_among logs (seen_kept run.first) ∷ [])) (sym made)
          (c.in_ok-part_of.ensures.has origin logs read, tt);
      are = ap (λ ks. taken_among logs (seen_kept run.first) ∷ map (taken_among logs) (map seen_kept ks)) items;
    } in
    search (rules, can_left, can, has)

pub loop-kept-preserved : goal.loop-kept-preserved
loop-kept-preserved c =
    let run = c.args.run in
    let left = into_iter_items c.next.new.self in
    let before = c.loop-kept.invariant in
    let step = c.in-Some.ensures.steps.0 in
    let fetch = c.in_ok-part_of-2.field-0 in
    let can_left = (subst (AllAre CanFollow) step before.can_left).1 in
    let can = subst (AllByRecursion CanFetch) (sym c.in_ok-push-2.ensures.ok)
    (all_snoc CanFetch c.loop-kept.fetches fetch before.can c.in_ok-part_of-2.ensures.can) in
    let has : (origin : ℕ) (logs : List Logged) → HasLogged origin logs c.args.found.now.rows c.args.found.now.actions →
    LeavesParts origin logs (sets_in run) left c.push-in-loop-kept.new.self = λ origin logs read.
    subst (LeavesParts origin logs (sets_in run) left) (sym c.in_ok-push-2.ensures.ok)
    (next_part c.in-Some.kept fetch
    (subst (λ ks. LeavesParts origin logs (sets_in run) ks c.loop-kept.fetches) step (before.has origin logs read))
    (c.in_ok-part_of-2.ensures.has origin logs read)) in
    search (rules, can_left, can, has)

pub returns-clause-has : goal.returns-clause-has
returns-clause-has c origin logs read =
    let end = nil_from_length (into_iter_items c.loop-kept.kept-iterator)
    (sym c.loop-kept.invariant.counted ∙ c.in-None.ensures.steps.0) in
    last_part (subst (λ ks. LeavesParts origin logs (sets_in c.args.run) ks c.loop-kept.fetches) end
    (c.loop-kept.invariant.has origin logs read))
