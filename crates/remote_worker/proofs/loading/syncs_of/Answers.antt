use Rattle.std.proofs.Common.{rules, ◌≡◌, ◌∙◌, ◌++◌, [], ◌∷◌, map, sym, ap, subst}
use Rattle.std.proofs.lemmas.List.{append_assoc, append-nil, nil_from_length}
use Rattle.std.specs.List.{AllByRecursion}
use Rattle.std.specs.Vec.Iter.{into_iter_items}
use Rattle.store_rows.proofs.Reading.{all_snoc}
use Rattle.node_store.specs.declared.bringing.SetSync.{SetSync}
use Rattle.node_store.specs.Bringing.{CanSync}
use Rattle.remote_worker.specs.declared.loading.SetFetch.{SetFetch}
use Rattle.remote_worker.specs.Loading.{CanFetch}
use Rattle.remote_worker.proofs.loading.syncs_of.Goals as goal

abbrev sync_in : SetFetch → SetSync
sync_in f = f.sync

pub loop-fetch-init : goal.loop-fetch-init
loop-fetch-init c =
    let left = into_iter_items c.into_iter-fetch-iterator.result in
    let items = c.into_iter-fetch-iterator.ensures.into_iter_gives.0 ∙ c.into_vec-fetch-items.ensures in
    let can_left = subst (AllByRecursion CanFetch) (sym items) c.requires in
    let is : c.new-syncs.result ++ map sync_in left ≡ map sync_in c.args.fetches =
    ap (λ xs. xs ++ map sync_in left) c.new-syncs.ensures ∙ ap (map sync_in) items in
    search (rules, can_left, is)

pub loop-fetch-preserved : goal.loop-fetch-preserved
loop-fetch-preserved c =
    let syncs = c.loop-fetch.syncs in
    let left = into_iter_items c.next.new.self in
    let before = c.loop-fetch.invariant in
    let step = c.in-Some.ensures.steps.0 in
    let all = subst (AllByRecursion CanFetch) step before.can_left in
    let can_left = all.1 in
    let can = subst (AllByRecursion CanSync) (sym c.in_ok-push.ensures.ok)
    (all_snoc CanSync syncs c.in-Some.fetch.sync before.can all.0) in
    let is : c.push.new.self ++ map sync_in left ≡ map sync_in c.args.fetches =
    ap (λ xs. xs ++ map sync_in left) c.in_ok-push.ensures.ok
    ∙ append_assoc syncs (c.in-Some.fetch.sync ∷ []) (map sync_in left)
    ∙ ap (λ fs. syncs ++ map sync_in fs) (sym step) ∙ before.is in
    search (rules, can_left, can, is)

pub returns-clause-is : goal.returns-clause-is
returns-clause-is c =
    let syncs = c.loop-fetch.syncs in
    let end = nil_from_length (into_iter_items c.loop-fetch.fetch-iterator)
    (sym c.loop-fetch.invariant.counted ∙ c.in-None.ensures.steps.0) in
    sym (append-nil syncs) ∙ ap (λ fs. syncs ++ map sync_in fs) (sym end) ∙ c.loop-fetch.invariant.is
