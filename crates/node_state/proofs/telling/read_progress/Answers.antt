use Rattle.std.proofs.Common.{◌∙◌, ◌∷◌, ◌++◌, [], sym, ap, arith, true≢false, unwrap_or}
use Rattle.std.proofs.lemmas.Result.{err_from_is_err_and}
use Rattle.store_rows.proofs.Spaces.{sight_same, looked_on}
use Rattle.node_state.proofs.Counting.{IsPlaced, live_at, ids_past, handed_past, handed_end, counted_on, counted_over}
use Rattle.node_state.proofs.Formed.{passes_on}
use Rattle.node_state.proofs.telling.read_progress.Goals as goal

pub returns-in_err-number-clause-form : goal.returns-in_err-number-clause-form
returns-in_err-number-clause-form g c m seen =
    let e = c.loop-node-item.result in
    let at : IsPlaced c.args.nodes.now c.loop-node.node-index e =
    record { below = omega arith; is = c.loop-node-item.is } in
    passes_on _ _ c.from_residual.result (err_from_is_err_and c.from_residual.result c.from_residual.ensures.1)
    (λ space lacks. (e.0, live_at c.args.nodes.now c.loop-node.node-index e at c.if-not-row.false, lacks))
    (c.in_err-number.ensures.form m (sight_same c.loop-node.invariant.looked ∙ seen))

pub loop-node-preserved-then-not-row : goal.loop-node-preserved-then-not-row
loop-node-preserved-then-not-row g c =
    let i = c.loop-node.invariant in
    let nodes = c.args.nodes.now in
    let n = c.loop-node.node-index in
    let e = c.loop-node-item.result in
    let at : IsPlaced nodes n e = record { below = omega arith; is = c.loop-node-item.is } in
    record {
      looked = i.looked;
      ids = (ids_past nodes n e at i.ids).1;
      says = λ m count seen are. counted_over count nodes n e c.loop-node.progress at c.if-not-row.true
          ∙ i.says m count seen are;
      form = λ m seen space handed. handed_past c.args.own m nodes n e
          (at, λ live other lacks. true≢false (sym live ∙ c.if-not-row.true)) space (i.form m seen space handed);
    }

pub loop-node-preserved : goal.loop-node-preserved
loop-node-preserved g c =
    let i = c.loop-node.invariant in
    let nodes = c.args.nodes.now in
    let n = c.loop-node.node-index in
    let e = c.loop-node-item.result in
    let at : IsPlaced nodes n e = record { below = omega arith; is = c.loop-node-item.is } in
    let ids = ids_past nodes n e at i.ids in
    let read = c.in_ok-number.ensures in
    record {
      looked = looked_on i.looked read.safe read.same;
      ids = ids.1;
      says = λ m count seen are.
          let number = read.says m (count e.0) (sight_same i.looked ∙ seen) (are.small e.0 ids.0)
          (are.counts e.0 ids.0) in
          let told = c.in_ok-push.ensures.ok
          ∙ ap (λ k. c.loop-node.progress ++ (e.0, k) ∷ [])
          (c.unwrap_or.ensures ∙ ap (λ o. unwrap_or o 0) number) in
          counted_on count nodes n e c.loop-node.progress c.push.new.self (at, c.if-not-row.false) told
          ∙ i.says m count seen are;
      form = λ m seen space handed. handed_past c.args.own m nodes n e
          (at, λ live. read.form m (sight_same i.looked ∙ seen)) space (i.form m seen space handed);
    }

pub returns-clause-form : goal.returns-clause-form
returns-clause-form g c m seen space handed =
    handed_end c.args.own m c.args.nodes.now c.loop-node.node-index (omega arith) space
    (c.loop-node.invariant.form m seen space handed)
