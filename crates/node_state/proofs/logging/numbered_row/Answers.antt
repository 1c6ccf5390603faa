use Rattle.std.proofs.Common.{◌≡◌, ◌∙◌, Some, sym, ap}
use Rattle.std.specs.FinMap.{get}
use Rattle.std.specs.Option.{option_copied}
use Rattle.change_capture.proofs.Spelling.{columns_spelled}
use Rattle.node_state.proofs.Capturing.{captured}
use Rattle.node_state.proofs.logging.numbered_row.Goals as goal

pub log_row_of-requires-clause-texts : goal.log_row_of-requires-clause-texts
log_row_of-requires-clause-texts c =
    columns_spelled c.args.action.now (captured c.args.action.now c.requires.captured).can

pub returns-in_ok-row-in-Some-clause-can : goal.returns-in_ok-row-in-Some-clause-can
returns-in_ok-row-in-Some-clause-can c =
    let a = captured c.args.action.now c.requires.captured in
    let found : get c.args.memory.now.members.live c.args.action.now.table ≡ Some c.in-Some.member.now =
    ap (λ k. get c.args.memory.now.members.live k) (sym c.as_slice.ensures.value) ∙ sym c.get.ensures
    ∙ ap option_copied c.in-Some.is in
    let ids = c.args.memory.now.numbered c.args.action.now.table c.in-Some.member.now found in
    (a.number, c.in_ok-row-in-Some.ensures.can c.requires.small ids.0 a.can)
