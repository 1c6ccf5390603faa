use Rattle.std.proofs.Common.{◌∷◌, ap}
use Rattle.node_rows.proofs.Bodies.{read_ok, read_err, drop_node, drop_node_made}
use Rattle.node_rows.proofs.body.read_drop_node.Goals as goal

pub returns-in-Ok : goal.returns-in-Ok
returns-in-Ok c =
    read_ok 3 drop_node drop_node_made c.in-Ok.ensures.can (ap (λ bs. 3 ∷ bs) c.in-Ok.ensures.found)
    c.in-Ok.ensures.again

pub returns-in-Err : goal.returns-in-Err
returns-in-Err c = read_err 3 drop_node drop_node_made c.in-Err.ensures.again
