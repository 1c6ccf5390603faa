use Rattle.std.proofs.Common.{◌≡◌, Ok, Err, sym, subst, Option}
use Rattle.std.specs.Prelude.{option_map}
use Rattle.slon_model.specs.Config.{Config, set_row}
use Rattle.slon_model.specs.Deeds.{knowledge}
use Rattle.app_store.specs.Base.{base_of}
use Rattle.node_store.specs.declared.looking.Reign.{Reign}
use Rattle.node_store.specs.Looking.{OfConfig, reign_of}
use Rattle.remote_worker.specs.Fetching.{IsLed}
use Rattle.remote_worker.specs.Looking.{Seen}
use Rattle.remote_worker.specs.Working.{seen_copying}
use Rattle.remote_worker.proofs.Finding.{led_is}
use Rattle.remote_worker.proofs.Looking.{looked_up, seen_fails, seen_so}
use Rattle.remote_worker.proofs.fetching.leads.Goals as goal

pub returns-in-Ok : goal.returns-in-Ok
returns-in-Ok g c =
    let old = base_of g.K.Keeper.kept c.args.provider.now in
    let new = base_of g.K.Keeper.kept c.set_reign.new.database in
    let asked = seen_copying c.args.copying in
    subst (λ led. Seen (OfConfig (IsLed asked)) old (Ok led) new) (sym c.leads_by.ensures)
    (seen_so (λ p says n is. led_is asked (knowledge n).config c.in-Ok.reign (says n is))
    (looked_up (OfConfig (λ (k : Config) (found : Option Reign). found ≡ option_map reign_of (set_row asked.set_id k)))
    (Ok c.in-Ok.reign) c.in-Ok.ensures.acts c.in-Ok.ensures.looks c.in-Ok.ensures.same))

pub returns-in-Err : goal.returns-in-Err
returns-in-Err g c =
    seen_fails
    (looked_up (OfConfig (λ (k : Config) (found : Option Reign). found
    ≡ option_map reign_of (set_row c.args.copying.set k))) (Err c.in-Err.fault)
    c.in-Err.ensures.acts c.in-Err.ensures.looks c.in-Err.ensures.same)
