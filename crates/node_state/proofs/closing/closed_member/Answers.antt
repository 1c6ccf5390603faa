use Rattle.std.proofs.Common.{◌∙◌, Some, sym}
use Rattle.store_rows.proofs.Spaces.{sight_safe}
use Rattle.node_state.proofs.Locking.{holds_of, locked_shut, is_open}
use Rattle.node_state.proofs.closing.closed_member.Goals as goal

pub returns-then-branch-2-clause-tells : goal.returns-then-branch-2-clause-tells
returns-then-branch-2-clause-tells g c m seen =
    let first = c.in_ok-has_row.ensures in
    locked_shut c.args.member m c.in_ok-is_locked.field-0 (holds_of _ c.if-not-member.false)
    (c.in_ok-is_locked.ensures.found m (sight_safe first.safe first.same ∙ seen)) c.if-branch-2.true

pub returns-clause-tells : goal.returns-clause-tells
returns-clause-tells g c m seen =
    let first = c.in_ok-has_row.ensures in
    is_open c.args.member m c.in_ok-has_row.field-0 (first.gives m seen) c.if-branch.false
    (λ row can is. sym (c.in_ok-is_locked.ensures.says m (Some row) (sight_safe first.safe first.same ∙ seen) can is)
    ∙ c.if-branch-2.false)
