use Rattle.net_laws.specs.Laws.{FailoverBegins, KeptKeepsView, TakeoverStaysBelow, TakeoverIsWhole}
use Rattle.net_laws.proofs.Laws.{always, failover_begins, kept_keeps_view, takeover_stays_below, takeover_is_whole}
use Rattle.net_laws.proofs.takeovers_keep_views.Goals as goal

pub returns : goal.returns
returns c = record {
  begins = always FailoverBegins failover_begins;
  kept = always KeptKeepsView kept_keeps_view;
  below = always TakeoverStaysBelow takeover_stays_below;
  whole = always TakeoverIsWhole takeover_is_whole;
}
