use Rattle.std.proofs.Common.{◌∙◌, ap, is_some}
use Rattle.node_store.proofs.looking.has_table.Goals as goal

pub returns-in-Ok-clause-looks : goal.returns-in-Ok-clause-looks
returns-in-Ok-clause-looks g c p ready memory =
    let looks = c.in-Ok.ensures.looks p ready memory in (c.is_some.ensures ∙ ap is_some looks.0, looks.1)
