-- The events that a node applied, by their numbers, and those of the streams that they are of.
use Rattle.std.proofs.Common.{◌≡◌, ◌≢◌, ◌⊎◌, inl, inr, ℕ, ◌<◌, ◌≤◌, true, List, [], ◌∷◌, ◌++◌, Option, Some, None}
use Rattle.std.proofs.Common.{refl, sym, ap, subst, ◌∙◌, arith, length}
use Rattle.std.specs.Prelude.{◌+◌, ◌==◌}
use Rattle.std.proofs.lemmas.Bool.{cases_lt, eq-eqb, eqb-true}
use Rattle.slon_model.specs.Names.{find_named}
use Rattle.slon_model.specs.Maps.{number_at}
use Rattle.slon_model.specs.Events.{Event}
use Rattle.slon_model.specs.Deeds.{Node, knowledge, progress, stream}
use Rattle.slon_model.specs.Place.{Place}
use Rattle.slon_model.specs.Sessions.{World}
use Rattle.slon_model.specs.Working.{Carried}
use Rattle.slon_laws.proofs.Later.{HoldsOf}
use Rattle.stream_laws.specs.Nodes.{IsAmong, IsEvent, node_in, nodes_in}
use Rattle.stream_laws.specs.Applied.{AreSuccessive, HasApplied, applied_events, of_origin}
use Rattle.stream_laws.specs.Facts.{Facts}
use Rattle.stream_laws.specs.Making.{AreEmitted}
use Rattle.stream_laws.proofs.Laws.{events_are_applied_once}
use Rattle.stream_laws.proofs.Seats.{seat_node}
use Rattle.stream_laws.proofs.Streams.{among_earlier, number_within, one_node}
use Rattle.image_laws.proofs.Logging.{among_filtered, filtered_among}
use Rattle.image_laws.proofs.Staying.{Stays}
use Rattle.view_laws.specs.Past.{Past, WasUpTo}
use Rattle.view_laws.proofs.Doing.{IsTaken}
use Rattle.view_laws.proofs.Reached.{now_stays, one_of, past_of, reached_up_to, regular_now}

-- ---- numbers

-- each event that was applied is one that the node is as far as
pub applied_within : (before : ℕ) (es : List Event) (e : Event) → AreSuccessive before es → IsAmong e es →
    e.number ≤ before + length es
applied_within before [] e are among = absurd among
applied_within before (f ∷ fs) e are (inl is) =
    let same = ap (λ (g : Event). g.number) is in let number = are.0 in omega (arith, same, number)
applied_within before (f ∷ fs) e are (inr later) =
    let rest = applied_within before fs e are.1 later in omega (arith, rest)

-- a number behind the first one is that of one of these
pub applied_at : (before : ℕ) (es : List Event) → AreSuccessive before es → (k : ℕ) → before < k →
    k ≤ before + length es → (e : Event) × IsAmong e es × (e.number ≡ k)
applied_at before [] are k above within = absurd (omega (arith, above, within))
applied_at before (e ∷ es) are k above within =
    by (cases_lt (before + length es) k) (applied_at before es are.1 k above)
  where
    by : (before + length es < k) ⊎ (k ≤ before + length es) →
        (k ≤ before + length es → (e : Event) × IsAmong e es × (e.number ≡ k)) →
        (f : Event) × IsAmong f (e ∷ es) × (f.number ≡ k)
    by (inl last) rest = (e, inl refl, (let number = are.0 in omega (arith, number, last, within)))
    by (inr less) rest = let there = rest less in (there.0, inr there.1, there.2)

pub applied_above : (before : ℕ) (es : List Event) (e : Event) → AreSuccessive before es → IsAmong e es →
    before < e.number
applied_above before [] e are among = absurd among
applied_above before (f ∷ fs) e are (inl is) =
    let same = ap (λ (g : Event). g.number) is in let number = are.0 in omega (arith, same, number)
applied_above before (f ∷ fs) e are (inr later) = applied_above before fs e are.1 later

-- ---- a node of a session

-- each event that the node applied of an origin comes before the next one of it
pub applied_before : (t : Past) (x : Carried) (origin : ℕ) → IsTaken t origin x → (e : Event) →
    IsAmong e (applied_events x.seat.node) → e.origin ≡ x.event.origin → e.number < x.event.number
applied_before t x origin is e among own =
    let within = applied_within (number_at x.event.origin x.seat.node.given.progress)
    (of_origin x.event.origin (applied_events x.seat.node)) e (has.each x.event.origin is.work.other)
    (among_filtered (λ f. f.origin == x.event.origin) e (applied_events x.seat.node) among
    (eq-eqb e.origin x.event.origin own)) in
    let far = has.all x.event.origin is.work.other in
    let next = is.work.next in
    omega (arith, within, far, next)
  where
    has : HasApplied x.seat.node.id x.seat.node.given.progress (knowledge x.seat.node).progress
        (applied_events x.seat.node)
    has = ((regular_now t).nodes.each x.seat.name x.seat.node (seat_node t.world.places x.seat is.work.seat)).applied

-- Another event of the origin of one that the node applied, behind that, and no later than the node is.
pub record Passed (t : Past) (n : Node) (e : Event) : Type 0 where
  pub first : Event
  pub applied : IsAmong first (applied_events n)
  pub other : first.origin ≢ n.id
  pub is : IsEvent (nodes_in t.world.places) e
  pub own : e.origin ≡ first.origin
  pub behind : first.number < e.number
  pub far : e.number ≤ progress first.origin (knowledge n)

-- the node applied it too
pub was_applied : (t : Past) (name : List ℕ) (n : Node) → nodes_in t.world.places name ≡ Some n → (e : Event) →
    Passed t n e → IsAmong e (applied_events n)
was_applied t name n is e p = subst (λ f. IsAmong f (applied_events n)) same there.0
  where
    origin : ℕ
    origin = p.first.origin

    es : List Event
    es = of_origin origin (applied_events n)

    has : HasApplied n.id n.given.progress (knowledge n).progress (applied_events n)
    has = ((regular_now t).nodes.each name n is).applied

    given : ℕ
    given = number_at origin n.given.progress

    found : (f : Event) × IsAmong f es × (f.number ≡ e.number)
    found =
        let above = applied_above given es p.first (has.each origin p.other)
        (among_filtered (λ f. f.origin == origin) p.first (applied_events n) p.applied (eq-eqb origin origin refl)) in
        let behind = p.behind in
        let all = has.all origin p.other in
        let far = p.far in
        applied_at given es (has.each origin p.other) e.number (omega (arith, above, behind)) (omega (arith, all, far))

    there : IsAmong found.0 (applied_events n) × ((found.0.origin == origin) ≡ true)
    there = filtered_among (λ f. f.origin == origin) found.0 (applied_events n) found.1

    same : found.0 ≡ e
    same =
        one_of t found.0 e ((events_are_applied_once t.limit t.history t.world t.leads).events name n is found.0
        there.0) p.is (eqb-true found.0.origin origin there.1 ∙ sym p.own, found.2)

-- ---- a session before

-- an event that comes before one of a session of the history was of the same stream there
pub event_before : (t : Past) (u : World) → WasUpTo t u → (e : Event) (y : IsEvent (nodes_in u.places) e) (f : Event) →
    IsEvent (nodes_in t.world.places) f → (f.origin ≡ e.origin) × (f.number ≤ e.number) → IsAmong f (stream y.node)
event_before t u was e y f is before = cases (find_named y.name u.places) refl y.is
  where
    then : Facts (nodes_in u.places) y.node
    then = (regular_now (past_of t u (reached_up_to t u was))).nodes.each y.name y.node y.is

    among : (p : Place) → find_named y.name u.places ≡ Some p → p.node ≡ Some y.node → IsAmong f (stream y.node)
    among p found at =
        among_earlier y.node.id now.2.more (stream y.node) f
        (subst (λ id. AreEmitted id (now.2.more ++ stream y.node)) now.2.id
        (subst (AreEmitted now.2.node.id) now.2.all facts.emitted))
        (subst (IsAmong f) now.2.all (subst (λ n. IsAmong f (stream n)) one is.among))
        (let low = (number_within y.node.id (stream y.node) e then.emitted y.among).1 in
        let within = before.1 in
        omega (arith, low, within))
      where
        now : HoldsOf (Stays y.node) y.name t.world.places
        now = now_stays t u was y.name p y.node found at

        there : nodes_in t.world.places y.name ≡ Some now.2.node
        there = ap node_in now.1 ∙ now.2.is

        facts : Facts (nodes_in t.world.places) now.2.node
        facts = (regular_now t).nodes.each y.name now.2.node there

        one : is.node ≡ now.2.node
        one = one_node (nodes_in t.world.places) (regular_now t).nodes is.name y.name is.node now.2.node is.is
            (there, is.own ∙ before.0 ∙ sym y.own ∙ sym now.2.id)

    cases : (o : Option Place) → find_named y.name u.places ≡ o → node_in o ≡ Some y.node → IsAmong f (stream y.node)
    cases None found none = absurd cc
    cases (Some p) found at = among p found at
