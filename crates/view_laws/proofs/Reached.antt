-- The sessions before one in its history, and what was in them, now.
use Rattle.std.proofs.Common.{◌≡◌, inl, inr, ℕ, List, [], ◌∷◌, ◌++◌, Option, Some, None, refl, sym, ap, subst, ◌∙◌}
use Rattle.slon_model.specs.Names.{find_named}
use Rattle.slon_model.specs.Events.{Event}
use Rattle.slon_model.specs.Deeds.{Node, stream}
use Rattle.slon_model.specs.Place.{Place}
use Rattle.slon_model.specs.Sessions.{World}
use Rattle.slon_model.specs.World.{start, Happening, Leads}
use Rattle.slon_model.proofs.Names.{all_found}
use Rattle.slon_laws.specs.Sound.{Sound}
use Rattle.slon_laws.proofs.Later.{HoldsOf}
use Rattle.slon_laws.proofs.Worlds.{sound_world}
use Rattle.stream_laws.specs.Nodes.{IsAmong, nodes_in, node_in, IsEvent}
use Rattle.stream_laws.specs.Facts.{IsRegular}
use Rattle.stream_laws.proofs.Lists.{among_behind}
use Rattle.stream_laws.proofs.Steps.{regular_world}
use Rattle.stream_laws.proofs.Streams.{one_node, same_number}
use Rattle.image_laws.proofs.Images.{later_step, ready_world}
use Rattle.image_laws.proofs.Staying.{KeptLater, Stays, stays_itself, node_stays}
use Rattle.view_laws.specs.Past.{Past, past, IsBefore, WasUpTo}
use Rattle.view_laws.specs.Known.{WasEvent}

pub regular_now : (t : Past) → IsRegular t.world
regular_now t = regular_world t.limit t.history t.world t.leads

pub sound_now : (t : Past) (name : List ℕ) (p : Place) → find_named name t.world.places ≡ Some p → Sound p
sound_now t name p found =
    all_found Sound name p t.world.places (sound_world t.limit t.history t.world t.leads) found

-- ---- a session of the history

-- The history up to a session, and how it went on from there.
pub record Reached (t : Past) (u : World) : Type 0 where
  pub history : List Happening
  pub leads : Leads (start t.limit) history u
  pub later : List Happening
  pub goes_on : Leads u later t.world
  pub all : later ++ history ≡ t.history

reached_by : (limit : ℕ) (history : List Happening) (w : World) (leads : Leads (start limit) history w) (u : World) →
    IsBefore limit history w leads u → Reached (past limit history w leads) u
reached_by limit [] w leads u was = absurd was
reached_by limit (h ∷ hs) w leads u (inl is) = record {
  history = hs;
  leads = subst (Leads (start limit) hs) (sym is) leads.1;
  later = h ∷ [];
  goes_on = (leads.0, sym is, leads.2);
  all = refl;
}
reached_by limit (h ∷ hs) w leads u (inr was) =
    let before = reached_by limit hs leads.0 leads.1 u was in
    record {
      history = before.history;
      leads = before.leads;
      later = h ∷ before.later;
      goes_on = (leads.0, before.goes_on, leads.2);
      all = ap (λ hs. h ∷ hs) before.all;
    }

pub reached_up_to : (t : Past) (u : World) → WasUpTo t u → Reached t u
reached_up_to t u (inl is) = record {
  history = t.history;
  leads = subst (Leads (start t.limit) t.history) (sym is) t.leads;
  later = [];
  goes_on = sym is;
  all = refl;
}
reached_up_to t u (inr was) = reached_by t.limit t.history t.world t.leads u was

-- the history up to a session
abbrev pub past_of : (t : Past) (u : World) → Reached t u → Past
past_of t u r = past t.limit r.history u r.leads

-- ---- one database, later

-- what held of a database in a session before holds now
held_since : {R : Place → Type 0} → KeptLater R → (name : List ℕ) (limit : ℕ) (history : List Happening) (w : World)
    (leads : Leads (start limit) history w) (u : World) →
    IsBefore limit history w leads u × HoldsOf R name u.places → HoldsOf R name w.places
held_since k name limit [] w leads u (was, holds) = absurd was
held_since {R} k name limit (h ∷ hs) w leads u (inl is, holds) =
    later_step k name leads.0 w h (ready_world limit hs leads.0 leads.1) leads.2
    (subst (λ v. HoldsOf R name v.places) is holds)
held_since k name limit (h ∷ hs) w leads u (inr was, holds) =
    later_step k name leads.0 w h (ready_world limit hs leads.0 leads.1) leads.2
    (held_since k name limit hs leads.0 leads.1 u (was, holds))

pub held_now : {R : Place → Type 0} → KeptLater R → (name : List ℕ) (t : Past) (u : World) → WasUpTo t u →
    HoldsOf R name u.places → HoldsOf R name t.world.places
held_now {R} k name t u (inl is) holds = subst (λ v. HoldsOf R name v.places) is holds
held_now k name t u (inr was) holds = held_since k name t.limit t.history t.world t.leads u (was, holds)

-- ---- a node of a session before

-- it is the node of the same database now
pub now_stays : (t : Past) (u : World) → WasUpTo t u → (name : List ℕ) (p : Place) (n : Node) →
    find_named name u.places ≡ Some p → p.node ≡ Some n → HoldsOf (Stays n) name t.world.places
now_stays t u was name p n found at = held_now (node_stays n) name t u was (p, found, stays_itself n p at)

-- an event of a stream of a session before is of that stream now
pub event_now : (t : Past) (e : Event) → WasEvent (WasUpTo t) e → IsEvent (nodes_in t.world.places) e
event_now t e was = by (find_named was.is.name was.session.places) refl was.is.is
  where
    by : (o : Option Place) → find_named was.is.name was.session.places ≡ o → node_in o ≡ Some was.is.node →
        IsEvent (nodes_in t.world.places) e
    by None found none = absurd cc
    by (Some p) found at =
        let later = now_stays t was.session was.was was.is.name p was.is.node found at in
        let stays = later.2 in
        record {
          name = was.is.name;
          node = stays.node;
          is = ap node_in later.1 ∙ stays.is;
          own = stays.id ∙ was.is.own;
          among =
              subst (IsAmong e) (sym stays.all) (among_behind e stays.more (stream was.is.node) was.is.among);
        }

-- two events of one origin with one number are one
pub one_of : (t : Past) (a b : Event) → IsEvent (nodes_in t.world.places) a → IsEvent (nodes_in t.world.places) b →
    (a.origin ≡ b.origin) × (a.number ≡ b.number) → a ≡ b
one_of t a b is_a is_b same =
    same_number is_b.node.id (stream is_b.node) a b (r.nodes.each is_b.name is_b.node is_b.is).emitted
    (subst (λ n. IsAmong a (stream n)) (one_node (nodes_in t.world.places) r.nodes is_a.name is_b.name is_a.node
    is_b.node is_a.is (is_b.is, is_a.own ∙ same.0 ∙ sym is_b.own)) is_a.among) is_b.among same.1
  where
    r : IsRegular t.world
    r = regular_now t
