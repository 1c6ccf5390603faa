use Rattle.std.proofs.Common.{◌∙◌, ap, sym, subst}
use Rattle.slon_laws.specs.Older.{AreOlder}
use Rattle.app_store.specs.Begun.{start_at}
use Rattle.app_store.proofs.Starting.{start_older}
use Rattle.app_store.proofs.Upright.{running, up_at}
use Rattle.app_store.proofs.database.Database.first_number.Goals as goal

pub returns-clause-older : goal.returns-clause-older
returns-clause-older g c p ready =
    let runs = (running (up_at ready c.requires.up)).1 in
    subst (λ n. AreOlder n c.args.xid p.actions)
    (sym (c.number_at.ensures ∙ ap (start_at c.args.xid) c.as_slice.ensures.value))
    (start_older p c.args.xid c.args.self.now.state.begun runs.begun)
