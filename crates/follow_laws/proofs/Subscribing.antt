-- The laws of all histories, of one of them.
use Rattle.std.proofs.Common.{ℕ, List}
use Rattle.slon_model.specs.World.{World, Happening, Leads, start}
use Rattle.stream_laws.proofs.Laws.{events_are_applied_once}
use Rattle.follow_laws.proofs.Earlier.{sets_were_so}
use Rattle.view_laws.proofs.Going.{views_go_on}
use Rattle.view_laws.proofs.Viewed.{views_begin}
use Rattle.net_relation.proofs.Consequences.{laws_apply}
use Rattle.net_relation.proofs.Serving.{providers_give_the_same}
use Rattle.net_relation.proofs.Sessions.{sessions_have_nets}
use Rattle.follow_laws.proofs.Holding.{tables_follow}
use Rattle.follow_laws.specs.Subscribed.{Subscribed}

pub subscribed : (limit : ℕ) (history : List Happening) (w : World) → Leads (start limit) history w →
    Subscribed limit history w
subscribed limit history w leads = record {
  tables = λ k table among.
      tables_follow limit history w leads k.name k.place k.found k.node k.at k.set_id k.view k.keeps table among;
  sets = λ k. sets_were_so limit history w leads k.name k.place k.found k.node k.at k.set_id k.view k.keeps;
  views = λ earlier later u parts begins goes_on k q found m at.
      views_go_on limit earlier later u w begins goes_on k.name k.place q k.found found k.node m k.at at k.set_id k.view
      k.keeps;
  begins = λ k. views_begin limit history w leads k.name k.place k.found k.node k.at k.set_id k.view k.keeps;
  events = events_are_applied_once limit history w leads;
  nets = λ name p found x at set.
      let n = sessions_have_nets limit history w leads name p found x at set in (n, laws_apply w p x set n);
  provided = providers_give_the_same limit history w leads;
}
