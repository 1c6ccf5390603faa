-- What a forwarder has logged, by the committed actions at the origin of the set.
use Rattle.std.proofs.Common.{◌≡◌, Some, sym, ap, ◌∙◌}
use Rattle.slon_model.specs.Rows.{Action}
use Rattle.slon_model.specs.Snapshots.{sees}
use Rattle.slon_model.specs.Config.{era_of}
use Rattle.slon_model.specs.Deeds.{knowledge}
use Rattle.slon_model.specs.Logs.{logged}
use Rattle.slon_model.specs.Eras.{Stretch, stretch_of}
use Rattle.stream_laws.specs.Nodes.{node_in}
use Rattle.image_laws.specs.Facts.{IsLogged}
use Rattle.image_laws.specs.Laws.{LogHas}
use Rattle.image_laws.proofs.Images.{logs_have_the_actions}
use Rattle.net_relation.specs.Laws.{ForwardersHaveTheActions}
use Rattle.net_relation.proofs.Consequences.{forwarders_log}
use Rattle.net_relation.proofs.Stretches.{stretch_is}

pub forwarders_have_the_actions : ForwardersHaveTheActions
forwarders_have_the_actions limit history w leads name p found x at set k forward a is = (
  there.0,
  forwarders_log limit history w leads name x (ap node_in found ∙ at) set k forward there.0 (record {
    among = there.1;
    of = (log.2.only there.0 there.1 on).set_id ∙ of.0;
    own = (log.2.only there.0 there.1 on).origin;
    seen = ap (λ (b : Action). sees k.view.seen b.xid) there.2 ∙ is.seen;
    unseen = ap (λ (b : Action). sees k.view.base b.xid) there.2 ∙ is.unseen;
  }),
  there.2,
)
  where
    log : (s : Stretch) × (stretch_of set (era_of set (knowledge x).config) a.table x ≡ Some s) × LogHas p x s
    log = logs_have_the_actions limit history w leads name p found x at set a.table is.held

    of : (log.0.set_id ≡ set) × (log.0.table ≡ a.table)
    of = stretch_is set (era_of set (knowledge x).config) a.table x log.0 log.1

    there : IsLogged (logged x) a
    there = log.2.all a is.among (sym of.1) is.came (is.within log.0 log.1)

    on : there.0.action.table ≡ log.0.table
    on = ap (λ (b : Action). b.table) there.2 ∙ sym of.1
