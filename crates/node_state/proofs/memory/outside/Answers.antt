use Rattle.std.proofs.Common.{◌∙◌, List, ℕ, subst, sym, ap}
use Rattle.std.proofs.lemmas.Bool.{eq-eqb}
use Rattle.std.specs.Global.{Vec}
use Rattle.slon_base.specs.ByteMap.{pairs}
use Rattle.set_config.proofs.Entries.{not_eq}
use Rattle.node_state.specs.declared.memory.Member.{Member}
use Rattle.node_state.proofs.Dropping.{AreLeft, none_left_yet, passed_by, taken_over}
use Rattle.node_state.proofs.memory.outside.Goals as goal

pub loop-name-init : goal.loop-name-init
loop-name-init c = record {
  goes = subst (λ (es : List (List ℕ × Member)). AreLeft c.args.set c.args.live es c.new-left.result)
      (sym c.into_entries-name-items.ensures ∙ sym (ap (λ (es : List (Vec ℕ × Member)). pairs es)
      c.into_iter-name-iterator.ensures.into_iter_gives))
      (none_left_yet c.args.set c.args.live c.new-left.result c.new-left.ensures);
}

pub loop-name-preserved-in-Continue-1 : goal.loop-name-preserved-in-Continue-1
loop-name-preserved-in-Continue-1 c =
    let set = c.args.set in
    let all = c.args.live in
    let left = c.loop-name.left in
    let member = c.in-Some.member in
    let rest = pairs c.next.new.self in
    record {
      goes = taken_over set all left c.insert.new.self (c.in-Some.name.items, member) rest
          (not_eq member.set set c.if-member-set.true, c.in_ok-insert.ensures.ok)
          (subst (λ es. AreLeft set all (pairs es) left) c.in-Some.ensures.steps c.loop-name.invariant.goes);
    }

pub loop-name-preserved : goal.loop-name-preserved
loop-name-preserved c =
    let set = c.args.set in
    let all = c.args.live in
    let left = c.loop-name.left in
    record {
      goes = passed_by set all left c.in-Some.name.items c.in-Some.member (pairs c.next.new.self)
          (eq-eqb c.in-Some.member.set set c.if-member-set.false)
          (subst (λ es. AreLeft set all (pairs es) left) c.in-Some.ensures.steps c.loop-name.invariant.goes);
    }
