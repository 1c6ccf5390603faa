use Rattle.std.proofs.Common.{sym, subst, refl}
use Rattle.slonik_exec.proofs.Texts.{IsTextIn, dbname_text, service_text, or_nothing}
use Rattle.slonik_exec.proofs.reaching.database_in.Goals as goal

pub returns-in-Some-clause-text : goal.returns-in-Some-clause-text
returns-in-Some-clause-text c text = subst IsTextIn (sym c.in-Some.ensures) (dbname_text c.args.conninfo.now text)

pub returns-in-None-clause-text : goal.returns-in-None-clause-text
returns-in-None-clause-text c text =
    or_nothing c.value_in-in-None.result _ c.unwrap_or.result c.unwrap_or.ensures refl
    (subst IsTextIn (sym c.value_in-in-None.ensures) (service_text c.args.conninfo.now text))
