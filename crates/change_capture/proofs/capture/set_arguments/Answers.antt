use Rattle.std.proofs.Common.{◌∷◌, [], ◌++◌, ap, sym, ◌∙◌}
use Rattle.std.specs.Fmt.{decimal}
use Rattle.change_capture.proofs.Pairs.{paired-append, paired_all}
use Rattle.change_capture.proofs.capture.set_arguments.Goals as goal

pub returns : goal.returns
returns c =
    let columns = c.args.columns.now in
    let key = c.args.key.now in
    let all =
    paired_all c.loop-number.arguments columns c.loop-number.number-index c.loop-number-test.false
    c.loop-number.invariant in
    c.in_ok-push_column-2.ensures ∙ ap (λ l. l ++ decimal 1 ∷ key ∷ []) all
    ∙ sym (paired-append columns ((1, key) ∷ []))
