use Rattle.std.proofs.Common.{◌∙◌, sym, ap}
use Rattle.store_rows.proofs.Spaces.{looked_none, looked_on, sight_same}
use Rattle.slon_model.specs.Deeds.{knowledge, told_of}
use Rattle.event_store.specs.Streams.{streams_of}
use Rattle.node_store.specs.Reached.{has_heard}
use Rattle.node_store.proofs.Confirmed.{told_at}
use Rattle.node_store.proofs.reached.active_in.Goals as goal

pub returns-clause-says : goal.returns-clause-says
returns-clause-says g c m n seen own held =
    let node = c.args.node in
    let looked = looked_on looked_none c.in_ok-row.ensures.safe c.in_ok-row.ensures.same in
    let heard = c.in_ok-number.ensures.says m (streams_of n) (sight_same looked ∙ seen) held.streams
    ∙ told_at n c.args.own node ∙ ap (λ o. told_of n.id o node (knowledge n)) (sym own) in
    c.has_heard.ensures ∙ ap (λ x. has_heard x c.in_ok-row.row) heard
    ∙ ap (has_heard (told_of n.id n.id node (knowledge n)))
    (c.in_ok-row.ensures.says m (knowledge n).config seen held.config)
