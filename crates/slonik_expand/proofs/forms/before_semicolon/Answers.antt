use Rattle.std.proofs.Common.{sym, ap, ◌∙◌, take}
use Rattle.std.specs.Option.{option_map}
use Rattle.slonik_expand.proofs.Semicolons.{before_is}
use Rattle.slonik_expand.proofs.forms.before_semicolon.Goals as goal

pub returns-in_err-end : goal.returns-in_err-end
returns-in_err-end c =
    rw c.from_residual.ensures (sym (before_is c.args.tokens.now
    ∙ ap (option_map (λ i. take i c.args.tokens.now)) (sym c.in_err-end.ensures)))

pub returns : goal.returns
returns c =
    sym (before_is c.args.tokens.now ∙ ap (option_map (λ i. take i c.args.tokens.now)) (sym c.in_ok-end.ensures))
