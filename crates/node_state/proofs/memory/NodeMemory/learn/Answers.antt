use Rattle.std.proofs.Common.{◌∙◌, cond, Some, ap, sym, subst, is_some}
use Rattle.std.specs.Prelude.{◌||◌}
use Rattle.std.specs.FinMap.{get}
use Rattle.std.specs.Str.{bytes_eq}
use Rattle.node_state.specs.declared.memory.Member.{Member}
use Rattle.node_state.specs.Known.{learned_as, learned_name}
use Rattle.node_state.specs.Members.{MemberMap, NameMap}
use Rattle.node_state.proofs.Formed.{on_ok, on_any}
use Rattle.node_state.proofs.Joining.{name_learned}
use Rattle.node_state.proofs.Dropping.{left_live}
use Rattle.node_state.proofs.Nobody.{AreLive, put_member, members_stay, no_members}
use Rattle.node_state.proofs.memory.NodeMemory.learn.Goals as goal

pub invariant_of-self-in-SetAddTable : goal.invariant_of-self-in-SetAddTable
invariant_of-self-in-SetAddTable c =
    let can = rw c.in-SetAddTable.is at c.requires in
    record {
      identified = c.args.self.now.identified;
      numbered = members_stay c.insert.result (record { ok = c.insert.ensures.ok; err = c.insert.ensures.err })
          (can.1, can.0) c.args.self.now.numbered;
    }

pub returns-in_ok-insert-in-SetAddTable-clause-members : goal.returns-in_ok-insert-in-SetAddTable-clause-members
returns-in_ok-insert-in-SetAddTable-clause-members c =
    let old = c.args.self.now.members.live in
    let member : Member = record { table = c.in-SetAddTable.table; set = c.in-SetAddTable.set; leads = c.args.leads } in
    let named = c.in_ok-live-in-SetAddTable.ensures.items ∙ c.as_slice.ensures.value in
    on_any c.insert-in-SetAddTable.result
    (λ q. ap (λ (ms : MemberMap). get ms q) c.in_ok-insert-in-SetAddTable.ensures.ok
    ∙ put_member old c.in_ok-live-in-SetAddTable.live.items member q
    ∙ ap (λ k. cond (bytes_eq q k) (Some member) (get old q)) named
    ∙ ap (λ b. learned_as c.args.leads b q (get old q)) (sym c.in-SetAddTable.is))

pub returns-in_ok-insert-in-SetAddTable-clause-names : goal.returns-in_ok-insert-in-SetAddTable-clause-names
returns-in_ok-insert-in-SetAddTable-clause-names c =
    let old = c.args.self.now.members.names in
    let named = c.in_ok-name-in-SetAddTable.ensures.items ∙ c.as_slice-in-SetAddTable.ensures.value in
    on_ok _ _ c.insert-in-SetAddTable.result
    (λ is q. ap (λ (ns : NameMap). is_some (get ns q)) is
    ∙ name_learned old c.in_ok-name-in-SetAddTable.name.items q
    ∙ ap (λ k. bytes_eq q k || is_some (get old q)) named
    ∙ ap (λ b. learned_name b q (is_some (get old q))) (sym c.in-SetAddTable.is)) c.insert-in-SetAddTable.ensures.ok

pub invariant_of-self-in-Break-branch-4 : goal.invariant_of-self-in-Break-branch-4
invariant_of-self-in-Break-branch-4 c = record {
  identified = c.args.self.now.identified;
  numbered = no_members c.replace-live.new.dest (c.replace-live.ensures.after ∙ c.new.ensures);
}

pub invariant_of-self-in-DropSet : goal.invariant_of-self-in-DropSet
invariant_of-self-in-DropSet c = record {
  identified = c.args.self.now.identified;
  numbered = left_live c.in-DropSet.set c.replace-live.result c.in_ok-self-in-DropSet.field-0
      c.in_ok-self-in-DropSet.ensures (subst AreLive (sym c.replace-live.ensures.value) c.args.self.now.numbered);
}
