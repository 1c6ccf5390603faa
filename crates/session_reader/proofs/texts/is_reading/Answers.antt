use Rattle.std.proofs.Common.{sym, ◌∙◌}
use Rattle.session_reader.proofs.Spoken.{lines_hold, statements_hold}
use Rattle.session_reader.proofs.texts.is_reading.Goals as goal

pub returns-then-are_node_lines : goal.returns-then-are_node_lines
returns-then-are_node_lines c are =
    rw c.in-Read.is (
      lines_hold c.in-Read.script.nodes (sym c.are_node_lines.ensures ∙ c.if-are_node_lines.true),
      statements_hold c.in-Read.script.statements (sym c.are_statements.ensures ∙ are),
    )
