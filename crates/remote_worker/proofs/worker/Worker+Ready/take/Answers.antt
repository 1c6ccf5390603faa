use Rattle.std.proofs.Common.{◌∙◌, sym, ap, refl}
use Rattle.std.specs.Option.{option_copied}
use Rattle.remote_worker.proofs.worker.Worker+Ready.take.Goals as goal

pub returns-in_default : goal.returns-in_default
returns-in_default c = sym c.get.ensures ∙ ap option_copied c.in_default.is

pub returns-then-not-can_carry_out : goal.returns-then-not-can_carry_out
returns-then-not-can_carry_out c =
    (c.in-Some.event.now, sym c.in-Some.ensures, sym c.can_carry_out.ensures ∙ c.if-not-can_carry_out.true)

pub returns : goal.returns
returns c = (
  refl,
  refl,
  refl,
  record {
    event = c.in-Some.event.now;
    is = sym c.in-Some.ensures;
    can = sym c.can_carry_out.ensures ∙ c.if-not-can_carry_out.false;
    kind = c.kind_of.ensures;
    errand = c.errand_in.ensures;
  },
)
