-- Of which transactions the actions are that the snapshot of an event sees, and those before them.
use Rattle.std.proofs.Common.{◌≡◌, ℕ, List, Some, sym, ap, subst, ◌∙◌}
use Rattle.slon_model.specs.Names.{find_named}
use Rattle.slon_model.specs.Snapshots.{Snapshot}
use Rattle.slon_model.specs.Place.{taken}
use Rattle.stream_laws.specs.Nodes.{node_in}
use Rattle.image_laws.specs.Laws.{WasTaken}
use Rattle.image_laws.proofs.Older.{snapshots_divide}
use Rattle.image_laws.proofs.Staying.{Stays}
use Rattle.slon_laws.proofs.Later.{HoldsOf}
use Rattle.view_laws.specs.Known.{IsEmitted}
use Rattle.view_laws.specs.Laws.{EventsDivide}
use Rattle.view_laws.specs.Past.{Past, past, Moment, WasUpTo}
use Rattle.view_laws.proofs.Emitted.{emitted_in}
use Rattle.view_laws.proofs.Moments.{NodeAt, node_now, now_stays, one_name, reached_up_to}

-- the snapshot of a moment was taken in the history
abbrev pub was_taken : (t : Past) (m : Moment (WasUpTo t)) (name : List ℕ) → m.name ≡ name → (k : Snapshot) →
    k ≡ taken m.place →
    WasTaken t.limit name t.world k
was_taken t m name same k is =
    let r = reached_up_to t m.session m.was in
    record {
      history = r.history;
      later = r.later;
      before = m.session;
      leads = r.leads;
      goes_on = r.goes_on;
      place = m.place;
      found = subst (λ k. find_named k m.session.places ≡ Some m.place) same m.found;
      is = is;
    }

pub events_divide : EventsDivide
events_divide limit history w leads e is p found a among seen =
    snapshots_divide limit is.name w p found e.taken (was_taken t m is.name same e.taken emitted.taken) a among seen
  where
    t : Past
    t = past limit history w leads

    emitted : IsEmitted (WasUpTo t) e
    emitted = emitted_in t e is

    m : Moment (WasUpTo t)
    m = emitted.moment

    now : HoldsOf (Stays m.node) m.name w.places
    now = now_stays t m.session m.was m.name m.place m.node m.found m.at

    here : NodeAt t
    here = record {
      name = is.name;
      place = p;
      found = found;
      node = is.node;
      at = sym (ap node_in found) ∙ is.is;
    }

    same : m.name ≡ is.name
    same = one_name t (node_now t m now) here (now.2.id ∙ emitted.own ∙ sym is.own)
