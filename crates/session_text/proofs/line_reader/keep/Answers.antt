use Rattle.std.proofs.Common.{◌∙◌, arith}
use Rattle.session_text.proofs.Lines.{take_grown}
use Rattle.session_text.proofs.line_reader.keep.Goals as goal

pub returns-clause-kept : goal.returns-clause-kept
returns-clause-kept c =
    c.in_ok-extend_from_slice.ensures.items
    ∙ take_grown 8194 _ c.args.line.now.items c.args.piece.now (omega arith) (omega (arith, c.args.line.now.ok.0))
