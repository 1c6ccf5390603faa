use Rattle.std.proofs.Common.{◌∙◌}
use Rattle.std.proofs.lemmas.Result.{MatchResult-weaker}
use Rattle.session_text.proofs.Said.{text_is}
use Rattle.session_text.proofs.read.is_text.Goals as goal

pub returns : goal.returns
returns c =
    c.is_ok.ensures.value
    ∙ text_is c.from_utf8.result c.args.line.now
    (MatchResult-weaker c.from_utf8.result c.from_utf8.ensures.cases (λ x p. p.1) (λ y q. q.0))
