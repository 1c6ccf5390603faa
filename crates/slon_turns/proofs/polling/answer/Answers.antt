use Rattle.std.proofs.Common.{subst}
use Rattle.std.specs.Option.{option_map}
use Rattle.std.proofs.lemmas.Result.{IfOk-weaker}
use Rattle.slon_turns.specs.Polling.{IsAnswer}
use Rattle.slon_turns.proofs.Answered.{known_listens, unknown_listens}
use Rattle.slon_turns.proofs.polling.answer.Goals as goal

pub returns-in-Some-clause-comes : goal.returns-in-Some-clause-comes
returns-in-Some-clause-comes g c =
    IfOk-weaker c.bring.result _ _ (λ reply brings s.
    let answer = subst (λ asked. IsAnswer s.spot s.node s.server (option_map (λ l. l.state.handed) asked)) c.in-Some.is
    s.answer in
    known_listens s.spot s.node s.server answer.0
    (brings s.spot s.node s.server s.named s.delivery s.fits answer.1)) c.bring.ensures.brings

pub returns-in-None-clause-comes : goal.returns-in-None-clause-comes
returns-in-None-clause-comes g c s =
    unknown_listens s.spot s.node s.server c.args.listen.node
    (subst (λ asked. IsAnswer s.spot s.node s.server (option_map (λ l. l.state.handed) asked)) c.in-None.is s.answer)
    s.own (s.fits.ready.fits, s.fits.waits)
