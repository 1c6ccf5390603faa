use Rattle.std.proofs.Common.{◌∙◌, sym}
use Rattle.slonik_exec.proofs.Leading.{led_at}
use Rattle.slonik_exec.proofs.owning.led.Goals as goal

pub returns-in-Ok-clause-leads : goal.returns-in-Ok-clause-leads
returns-in-Ok-clause-leads g c p ready memory =
    let led = led_at c.args.set ready (record {
      up = sym c.is_up.ensures ∙ c.if-not-is_up.false;
      own_is = sym c.node_id.ensures.id ∙ c.in-Some.is;
    }) (c.in-Ok.ensures.looks p ready memory) in (λ name. c.led_by.ensures ∙ led.0 name, led.1)
