use Rattle.std.proofs.Common.{◌∙◌, ap, sym, subst}
use Rattle.std.proofs.lemmas.List.{get_or_default}
use Rattle.slon_model.specs.declared.reply.Refusal.TheVariants as refused
use Rattle.slonik_exec.specs.declared.reaching.Reached.TheVariants.{Refused}
use Rattle.slonik_exec.specs.Turning.{HasTurn}
use Rattle.slonik_exec.proofs.Seated.{any_member, found_inside, turning, is_some_this, missed_turn, down_turn, off_turn}
use Rattle.slonik_exec.proofs.Seated.{on_turn_at, seat_at_turn}
use Rattle.slonik_exec.proofs.turns.turn_of.Goals as goal

pub returns-in_default-clause-turns : goal.returns-in_default-clause-turns
returns-in_default-clause-turns g c =
    missed_turn g.K.Keeper.kept c.args.node c.args.started.now c.args.databases.now
    (sym c.index_of_node.ensures ∙ c.in_default.is)

pub returns-then-not-is_up-clause-turns : goal.returns-then-not-is_up-clause-turns
returns-then-not-is_up-clause-turns g c =
    let items = c.args.databases.now in
    let i = c.in-Some.i in
    let at = sym c.index_of_node.ensures ∙ c.in-Some.is in
    let t = turning {kept = g.K.Keeper.kept} {node = c.args.node} items i c.index-databases-i.result at
    c.requires.distinct in
    let name = ap (λ d. d.name) (get_or_default items i c.index-databases-i.result
    c.index-databases-i-then-not-is_up.result (found_inside _ items i c.index-databases-i.result at)) in
    subst (λ n. HasTurn g.K.Keeper.kept c.args.node c.args.started.now items (Refused (refused.Down n)))
    (name ∙ sym c.in_ok-database.ensures)
    (down_turn c.args.started.now t (sym c.is_up.ensures ∙ c.if-not-is_up.true))

pub returns-then-not-contains-clause-turns : goal.returns-then-not-contains-clause-turns
returns-then-not-contains-clause-turns g c =
    let t = turning {kept = g.K.Keeper.kept} {node = c.args.node} c.args.databases.now c.in-Some.i
    c.index-databases-i.result (sym c.index_of_node.ensures ∙ c.in-Some.is) c.requires.distinct in
    off_turn c.args.started.now t (sym c.is_up.ensures ∙ c.if-not-is_up.false, is_some_this t)
    (sym (c.contains.ensures.value ∙ any_member c.args.node c.args.started.now) ∙ c.if-not-contains.true)

pub returns-clause-here : goal.returns-clause-here
returns-clause-here g c =
    let t = turning {kept = g.K.Keeper.kept} {node = c.args.node} c.args.databases.now c.in-Some.i
    c.index-databases-i.result (sym c.index_of_node.ensures ∙ c.in-Some.is) c.requires.distinct in
    seat_at_turn t (sym c.is_up.ensures ∙ c.if-not-is_up.false, is_some_this t)

pub returns-clause-turns : goal.returns-clause-turns
returns-clause-turns g c =
    let t = turning {kept = g.K.Keeper.kept} {node = c.args.node} c.args.databases.now c.in-Some.i
    c.index-databases-i.result (sym c.index_of_node.ensures ∙ c.in-Some.is) c.requires.distinct in
    on_turn_at c.args.started.now t (sym c.is_up.ensures ∙ c.if-not-is_up.false, is_some_this t)
    (sym (c.contains.ensures.value ∙ any_member c.args.node c.args.started.now) ∙ c.if-not-contains.false)
