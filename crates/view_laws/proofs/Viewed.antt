-- What is known of the views that a node of a session keeps.
use Rattle.std.proofs.Common.{◌≡◌, ◌∙◌, ℕ, List, Some, sym, ap, subst}
use Rattle.slon_model.specs.Views.{View, views_told}
use Rattle.slon_model.specs.Deeds.{Node, knowledge, view_of}
use Rattle.slon_model.specs.Sessions.{World}
use Rattle.stream_laws.specs.Nodes.{nodes_in, node_in}
use Rattle.stream_laws.proofs.Lists.{all_among}
use Rattle.view_laws.specs.Known.{AreRising, AreSeen, IsSeen}
use Rattle.view_laws.specs.Laws.{ViewsBegin}
use Rattle.view_laws.specs.Past.{Past, WasBefore, WasUpTo, past}
use Rattle.view_laws.proofs.Living.{NodeLives, event_of, knew, node_lives}
use Rattle.view_laws.proofs.Rising.{found_stands, views_rising}
use Rattle.view_laws.proofs.Seen.{same_views, seen_later, views_seen}
use Rattle.view_laws.proofs.Turned.{rising_told}
use Rattle.view_laws.proofs.Saying.{says_emitted}
use Rattle.view_laws.proofs.Walking.{lives_in}

-- ---- views stand in the order of their sets

abbrev ViewsRise : (World → Type 0) → Node → Type 0
ViewsRise Was n = AreRising (knowledge n).views

views_rise : NodeLives ViewsRise
views_rise = record {
  later = λ t n was. was;
  logs = λ t n p xid was. was;
  tells = λ t s is number m n says was.
      subst AreRising
      (sym (same_views (event_of s number m.body) m.body (knowledge n).views (says_emitted s n m says))) was;
  takes = λ t knew x origin is was.
      let k = knowledge x.seat.node in
      views_rising x.brought.views (views_told x.seat.node.id x.event.body k.config k.views)
      (rising_told x.seat.node.id x.event.body k.config k.views was);
  hears = λ t s confirms was. was;
  becomes = λ t knew n deeds views knows.
      subst (λ ds. ViewsRise (WasUpTo t) (record n { deeds = ds })) (sym deeds) (subst AreRising (sym views) tt);
}

pub rising_now : (t : Past) (name : List ℕ) (n : Node) → nodes_in t.world.places name ≡ Some n →
    AreRising (knowledge n).views
rising_now t = knew ViewsRise t (lives_in (node_lives views_rise) t)

-- what is known of the views of each node
pub seen_now : (t : Past) (name : List ℕ) (n : Node) → nodes_in t.world.places name ≡ Some n → (set : ℕ) (v : View) →
    view_of set (knowledge n) ≡ Some v → IsSeen (WasUpTo t) n set v
seen_now t name n is set v found =
    seen_later t n set v (all_among (λ v. IsSeen (WasBefore t) n v.0 v.1) (set, v) (knowledge n).views
    (knew AreSeen t (lives_in (node_lives views_seen) t) name n is)
    (found_stands set v (knowledge n).views found))

pub views_begin : ViewsBegin
views_begin limit history w leads name p found n is set v view =
    let seen = seen_now (past limit history w leads) name n (ap node_in found ∙ is) set v view in
    record {
      event = seen.enabled;
      applied = seen.applied;
      own = seen.of;
      enables = seen.enables;
      since = seen.since;
    }
