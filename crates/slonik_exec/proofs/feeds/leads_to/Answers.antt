use Rattle.std.proofs.Common.{◌≡◌, ◌∙◌, ◌-◌, ◌+◌, suc, length, sym, subst, arith}
use Rattle.std.specs.Prelude.{◌==◌}
use Rattle.std.proofs.lemmas.Bool.{eqb-true, false_from_ne_true}
use Rattle.slon_model.specs.Subscribing.{leads_to}
use Rattle.slonik_exec.proofs.Chains.{step_up}
use Rattle.slonik_exec.proofs.feeds.leads_to.Goals as goal

pub loop-preserved : goal.loop-preserved
loop-preserved c =
    let i = c.loop.invariant in
    let rows = c.args.rows.now in
    let node = c.loop.node in
    let left = length rows - (c.loop.counter + 1) in
    let more : length rows - c.loop.counter ≡ suc left = omega (arith, c.loop-test.true, i.few) in
    let other = false_from_ne_true (node == c.args.receiver) (λ is.
    c.if-node-receiver.false (eqb-true node c.args.receiver is)) in
    record {
      few = omega (arith, c.loop-test.true);
      leads = sym (step_up left c.args.receiver node c.in-Some.provider rows other
          (sym c.provider_of.ensures ∙ c.in-Some.is))
          ∙ subst (λ n. leads_to (suc n) c.args.receiver rows node
          ≡ leads_to (suc (length rows)) c.args.receiver rows c.args.from) more i.leads;
    }
