use Rattle.std.proofs.Common.{◌≡◌, refl, sym, ap, subst, ◌∙◌, option_map}
use Rattle.std.proofs.lemmas.Result.{err_from_is_err_and}
use Rattle.store_rows.specs.Rows.{IsId}
use Rattle.store_rows.specs.Space.{IsPending}
use Rattle.store_rows.proofs.Spaces.{becomes, hands_stop, sees}
use Rattle.event_store.specs.Giving.{AreConfirmations, all_turned, forgets, passes}
use Rattle.event_store.specs.Holds.{ShowsStreams}
use Rattle.event_store.specs.Streams.{given}
use Rattle.event_store.proofs.Copies.{made, given_shows}
use Rattle.event_store.proofs.Formed.{stops_at, passes_on}
use Rattle.event_store.proofs.Listed.{listed}
use Rattle.event_store.proofs.NewNodes.{Copied}
use Rattle.event_store.proofs.giving.give_streams.Goals as goal

pub returns-in_err-rows-clause-turns : goal.returns-in_err-rows-clause-turns
returns-in_err-rows-clause-turns g c base s own hears p =
    let list = listed (p.store 11) p.has.streams.confirmations in
    hands_stop _ _ c.from_residual.result (err_from_is_err_and c.from_residual.result c.from_residual.ensures.1)
    (c.in_err-rows.ensures.gives p.store list.rows (sees p) list.can list.spelled)

pub returns-in_err-rows-clause-form : goal.returns-in_err-rows-clause-form
returns-in_err-rows-clause-form g c m seen =
    passes_on _ _ c.from_residual.result (err_from_is_err_and c.from_residual.result c.from_residual.ensures.1)
    (λ space handed. handed)
    (stops_at 11 (AreConfirmations m) _ c.in_err-rows.ensures.space
    (λ formed. c.in_err-rows.ensures.gives m formed.rows seen formed.can formed.spelled))

pub returns-clause-turns : goal.returns-clause-turns
returns-clause-turns g c base s own hears p =
    let new = c.args.new in
    let list = listed (p.store 11) p.has.streams.confirmations in
    let copied : Copied s (p.store 11) =
    record { id = subst IsId (sym own) c.requires.can.0; hears = hears; list = list } in
    let rows = c.in_ok-rows.ensures.gives p.store list.rows (sees p) list.can list.spelled in
    let first = sym (c.as_slice.ensures.value ∙ rows) in
    let second = sym (c.as_slice-2.ensures.value ∙ rows) in
    let cleared = c.in_ok-clear_space.ensures.clears p.store (c.in_ok-rows.ensures.same ∙ p.is) in
    let forgot = all_turned (forgets new) c.as_slice.result.now in
    let passed = all_turned (passes c.args.own new) c.as_slice-2.result.now in
    let pending : IsPending (λ m. m ≡ forgot cleared.store) (g.K.Keeper.kept c.forget_all.new.keeper) = record {
      store = forgot cleared.store;
      is = c.in_ok-forget_all.ensures.put ∙ ap (option_map (option_map forgot)) cleared.is;
      has = refl;
    } in
    let same : made new copied cleared.store ≡ passed (forgot cleared.store) =
    λ k. all_turned (passes (own k) new) (second k) (all_turned (forgets new) (first k) cleared.store) in
    becomes _ passed _ c.pass_all.result c.pass_all.ensures.put c.pass_all.ensures.only pending
    (λ m is. subst (λ n. ShowsStreams base (given new s) (passed n)) (sym is)
    (subst (ShowsStreams base (given new s)) same
    (given_shows new copied cleared.store c.requires.can.1 cleared.has p.has)))
