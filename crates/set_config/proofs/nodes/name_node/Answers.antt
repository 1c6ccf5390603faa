use Rattle.std.proofs.Common.{sym, ◌∙◌}
use Rattle.store_rows.proofs.Spaces.{pending_same, sees}
use Rattle.set_config.proofs.Holding.{heard_of}
use Rattle.set_config.proofs.nodes.name_node.Goals as goal

pub returns-then-branch-clause-turns : goal.returns-then-branch-clause-turns
returns-then-branch-clause-turns g c base config p =
    let known = sym (c.in_ok-has_row.ensures.gives p.store (sees p) ∙ heard_of p c.args.node c.requires.can)
    ∙ c.if-branch.true in
    rw known (pending_same p c.in_ok-has_row.ensures.same)

pub returns-clause-turns : goal.returns-clause-turns
returns-clause-turns g c base config p =
    let known = sym (c.in_ok-has_row.ensures.gives p.store (sees p) ∙ heard_of p c.args.node c.requires.can)
    ∙ c.if-branch.false in
    let empty = c.in_ok-from_str.ensures in
    rw known (rw (sym empty) (c.put_node.ensures.turns base config (pending_same p c.in_ok-has_row.ensures.same)))
