use Rattle.std.proofs.Common.{◌∙◌, sym, ap}
use Rattle.std.specs.FinMap.{get}
use Rattle.std.specs.Option.{option_copied}
use Rattle.node_state.specs.Closing.{HandedMember}
use Rattle.node_state.specs.Handed.{HandedSet}
use Rattle.node_state.proofs.Formed.{if_ok, reads_as}
use Rattle.node_state.proofs.Locking.{IsFound, found_says, found_tells, found_handed, handed_found}
use Rattle.node_state.proofs.closing.find_closed.Given.{Over}
use Rattle.node_state.proofs.closing.find_closed.Goals as goal

found_here : (g : Over) (c : goal.After-closed_member g) →
    IsFound c.args.memory.now.members c.args.table.now c.in-Some.member.now
found_here g c = record {
  is = ap (λ k. get c.args.memory.now.members.live k) (sym c.as_slice.ensures.value) ∙ sym c.get.ensures
      ∙ ap option_copied c.in-Some.is;
}

pub returns-in-Some-clause-says : goal.returns-in-Some-clause-says
returns-in-Some-clause-says g c m node seen held known =
    found_says c.args.table.now node m c.in-Some.member.now c.closed_member.result held
    (sym (found_here g c).is ∙ known.members_are c.args.table.now) (λ n. c.closed_member.ensures.says m n seen)

pub returns-in-Some-clause-tells : goal.returns-in-Some-clause-tells
returns-in-Some-clause-tells g c m seen =
    let memory = c.args.memory.now in
    if_ok _ _ c.closed_member.result
    (λ found. found_tells memory.members c.args.table.now c.in-Some.member.now m found (found_here g c))
    (c.closed_member.ensures.tells m seen)

pub returns-in-Some-clause-form : goal.returns-in-Some-clause-form
returns-in-Some-clause-form g c m seen =
    let members = c.args.memory.now.members in
    let table = c.args.table.now in
    let member = c.in-Some.member.now in
    reads_as (HandedMember member m) (HandedSet members table m) c.closed_member.result
    (found_handed members table member m (found_here g c)) (handed_found members table member m (found_here g c))
    (c.closed_member.ensures.form m seen)
