use Rattle.std.proofs.Common.{◌∙◌, is_some, sym, ap}
use Rattle.std.specs.FinMap.{get, insert}
use Rattle.slon_lemmas.proofs.Tests.{none_of}
use Rattle.node_state.specs.declared.memory.Member.{Member}
use Rattle.node_state.specs.Members.{MemberMap}
use Rattle.node_state.proofs.Formed.{on_ok}
use Rattle.node_state.proofs.Joining.{IsNew, added}
use Rattle.node_state.proofs.members.add_member.Goals as goal

pub returns-in_ok-name-in-Some : goal.returns-in_ok-name-in-Some
returns-in_ok-name-in-Some c own sets are =
    let row = c.args.row.now in
    let members = c.args.members.now in
    let here : Member = record { table = c.args.table; set = row.set_id; leads = c.in-Some.leads } in
    let named = c.in_ok-name-in-Some.ensures.items ∙ c.as_slice-in-Some.ensures.value in
    let new : IsNew members own sets (c.args.table, row) c.in-Some.leads = record {
      live = c.if-not-row.false;
      free = none_of _ (ap (λ k. is_some (get members k)) (sym c.as_slice.ensures.value) ∙ sym c.contains_key.ensures
          ∙ c.if-contains_key.false);
      some = sym c.in-Some.is ∙ c.leading.ensures ∙ are row.set_id;
    } in
    on_ok _ _ c.insert.result
    (λ is name. ap (λ (ms : MemberMap). get ms name) (is ∙ ap (λ k. insert members k here) named)
    ∙ added members own sets (c.args.table, row) c.in-Some.leads new name) c.insert.ensures.ok
