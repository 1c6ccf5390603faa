use Rattle.std.proofs.Common.{◌∷◌, ap}
use Rattle.node_rows.proofs.Bodies.{read_ok, read_err, drop_set, drop_set_made}
use Rattle.node_rows.proofs.body.read_drop_set.Goals as goal

pub returns-in-Ok : goal.returns-in-Ok
returns-in-Ok c =
    read_ok 7 drop_set drop_set_made c.in-Ok.ensures.can (ap (λ bs. 7 ∷ bs) c.in-Ok.ensures.found)
    c.in-Ok.ensures.again

pub returns-in-Err : goal.returns-in-Err
returns-in-Err c = read_err 7 drop_set drop_set_made c.in-Err.ensures.again
