-- What is answered can be said: the texts that replies repeat are each on one line.
use Rattle.std.proofs.Common.{◌≡◌, true, List, [], ◌∷◌, ℕ}
use Rattle.std.proofs.lemmas.Bool.{and_parts}
use Rattle.slonik_script.specs.declared.script.Command.{Command as Order}
use Rattle.slonik_script.specs.declared.script.Command.TheVariants.{Echo, SetAddTable}
use Rattle.slonik_script.specs.declared.script.Statement.{Statement}
use Rattle.slonik_script.specs.declared.script.Statement.TheVariants.{Single, Try as Tries}
use Rattle.slon_model.specs.Forms.{is_line}
use Rattle.slon_model.specs.Spoken.{IsOrder, IsStatement, AreStatements, AreNodeLines}
use Rattle.session_reader.specs.Texts.{is_order, is_statement, are_statements, are_node_lines}

order_holds : (order : Order) → is_order order ≡ true → IsOrder order
order_holds (Echo text) is = is
order_holds (SetAddTable set origin id name key comment) is = is
order_holds others is = tt

statement_holds : (statement : Statement) → is_statement statement ≡ true → IsStatement statement
statement_holds (Single order) is = order_holds order is
statement_holds (Tries block) is = tt

pub statements_hold : (statements : List Statement) → are_statements statements ≡ true → AreStatements statements
statements_hold [] are = tt
statements_hold (one ∷ more) are =
    let parts = and_parts (is_statement one) (are_statements more) are in
    (statement_holds one parts.0, statements_hold more parts.1)

pub lines_hold : (lines : List (ℕ × List ℕ)) → are_node_lines lines ≡ true → AreNodeLines lines
lines_hold [] are = tt
lines_hold (one ∷ more) are =
    let parts = and_parts (is_line one.1) (are_node_lines more) are in
    (parts.0, lines_hold more parts.1)
