use Rattle.app_store.proofs.numbers.raise.Goals as goal

pub returns-in-Done-clause-raises : goal.returns-in-Done-clause-raises
returns-in-Done-clause-raises g c m held =
    let works = c.in_ok-make_ceiling.ensures.works m held in
    rw (← c.raise-ceiling.ensures.value) (rw c.in-Done.is at works)

pub returns-in-InDoubt-clause-raises : goal.returns-in-InDoubt-clause-raises
returns-in-InDoubt-clause-raises g c m held =
    let works = c.in_ok-make_ceiling.ensures.works m held in
    (rw (← c.raise-ceiling.ensures.value) (rw c.in-InDoubt.is at works), tt)
