use Rattle.std.proofs.Common.{◌∷◌, ap}
use Rattle.node_rows.proofs.Bodies.{read_ok, read_err, move_set, move_set_made}
use Rattle.node_rows.proofs.body.read_move_set.Goals as goal

pub returns-in-Ok : goal.returns-in-Ok
returns-in-Ok c =
    let can = c.in-Ok.ensures.can in
    read_ok 12 move_set move_set_made (can.0, can.1.0, can.1.1.0, can.1.1.1.0, can.1.1.1.1)
    (ap (λ bs. 12 ∷ bs) c.in-Ok.ensures.found)
    (λ parts rest can. c.in-Ok.ensures.again parts rest (can.0, (can.1, (can.2, (can.3, can.4)))))

pub returns-in-Err : goal.returns-in-Err
returns-in-Err c =
    read_err 12 move_set move_set_made
    (λ parts rest can. c.in-Err.ensures.again parts rest (can.0, (can.1, (can.2, (can.3, can.4)))))
