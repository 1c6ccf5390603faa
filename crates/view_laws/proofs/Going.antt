-- The snapshot that a node keeps of a set never goes back, until the node gives the set up.
use Rattle.std.proofs.Common.{◌≡◌, ◌≢◌, ◌⊎◌, inl, inr, ℕ, Bool, true, false, cond, [], ◌∷◌, Some, refl}
use Rattle.std.proofs.Common.{sym, ap, subst, ◌∙◌, arith}
use Rattle.std.specs.List.{AllByRecursion}
use Rattle.slon_model.specs.Maps.{Map, entry_at}
use Rattle.slon_model.specs.Snapshots.{Covers, covers}
use Rattle.slon_model.specs.Events.{Event}
use Rattle.slon_model.specs.Views.{View, view_after, views_told, with_views}
use Rattle.slon_model.specs.Deeds.{Node, Brought, Hears as HearsOf, Knowledge, knowledge, nothing_brought}
use Rattle.slon_model.specs.Deeds.{view_of, with_deeds}
use Rattle.slon_model.specs.Moves.{with_commit}
use Rattle.slon_model.specs.Place.{Place, deed, taken}
use Rattle.slon_model.specs.Sessions.{Seat}
use Rattle.slon_model.specs.Following.{SetSync}
use Rattle.slon_model.specs.Working.{Carried}
use Rattle.slon_model.proofs.Names.{all_map, one_found}
use Rattle.slon_laws.proofs.Later.{HoldsOf}
use Rattle.stream_laws.specs.Nodes.{IsAmong, nodes_in}
use Rattle.stream_laws.specs.Applied.{applied_events}
use Rattle.stream_laws.proofs.Lists.{all_among}
use Rattle.view_laws.proofs.Applied.{applied_before}
use Rattle.stream_laws.proofs.Seats.{seat_node}
use Rattle.view_laws.proofs.Doing.{IsTaken}
use Rattle.view_laws.specs.Known.{IsEmitted, IsSeen, leaves}
use Rattle.view_laws.specs.Laws.{GaveUp, GoesOn, ViewsGoOn}
use Rattle.view_laws.specs.Past.{Past, past, WasUpTo}
use Rattle.view_laws.proofs.Brought.{IsBrought, IsKept, Nothing, Copies, Brings}
use Rattle.view_laws.proofs.Doing.{taking}
use Rattle.view_laws.proofs.Viewed.{rising_now, seen_now}
use Rattle.view_laws.proofs.Emitted.{emitted_in}
use Rattle.view_laws.proofs.Living.{HasNode, NodeGoes, deed_of, event_of}
use Rattle.view_laws.proofs.Living.{node_passes}
use Rattle.view_laws.proofs.Rising.{found_in, stands_found, there_in}
use Rattle.view_laws.proofs.Seen.{is_older, same_views, syncs_seen}
use Rattle.view_laws.proofs.Turned.{IsLike, IsToldAs, there_told, told_like}
use Rattle.view_laws.proofs.Saying.{says_emitted}
use Rattle.view_laws.proofs.Walking.{passing_later}
use Rattle.view_laws.proofs.Unmoved.{left_from, unviewed}

-- ---- a SYNC

-- a view behind a SYNC of its origin covers what it covered
pub after_covers : (t : Past) (n : Node) (set : ℕ) (v : View) (e : Event) → IsEmitted (WasUpTo t) e →
    e.origin ≡ v.origin → IsSeen (WasUpTo t) n set v → Covers (view_after e v).seen v.seen
after_covers t n set v e emitted origin is = by (covers v.seen e.taken) refl
  where
    by : (b : Bool) → covers v.seen e.taken ≡ b → Covers (cond b v.seen e.taken) v.seen
    by true same = λ x sees. sees
    by false differ =
        subst (Covers e.taken) (sym is.seen) (subst (λ k. Covers k (taken is.moment.place)) (sym emitted.taken)
        (is_older t n set v e (emitted, origin) is differ).covers)

-- ---- an event

-- The view goes on from that of before.
abbrev GoesFrom : View → View → Type 0
GoesFrom before v = (v.origin ≡ before.origin) × (v.era ≡ before.era) × Covers v.seen before.seen

brought_goes : (t : Past) (x : Carried) (origin : ℕ) → IsTaken t origin x → (set : ℕ) (v : View) →
    view_of set (knowledge x.seat.node) ≡ Some v → IsBrought t x.seat x.event x.brought →
    AllByRecursion (λ y. y.0 ≡ set → GoesFrom v y.1) x.brought.views
brought_goes t x origin is set v found (Nothing n) =
    subst (λ (c : Brought). AllByRecursion (λ y. y.0 ≡ set → GoesFrom v y.1) c.views) (sym n.none) tt
brought_goes t x origin is set v found (Copies k) =
    subst (λ (c : Brought). AllByRecursion (λ y. y.0 ≡ set → GoesFrom v y.1) c.views) (sym k.is) (
      λ same. absurd (unviewed t origin x is k v (ap (λ i. view_of i (knowledge x.seat.node)) same ∙ found)),
      tt,
    )
brought_goes t x origin is set v found (Brings y) =
    subst (λ (c : Brought). AllByRecursion P c.views) (sym y.is)
    (syncs_seen P s.place y.syncs nothing_brought
    (all_map (IsKept s.known x.event) (λ (z : SetSync). P (z.set_id, z.view)) goes y.syncs y.kept) tt)
  where
    P : ℕ × View → Type 0
    P y = y.0 ≡ set → GoesFrom v y.1

    s : Seat
    s = x.seat

    own : nodes_in t.world.places s.name ≡ Some s.node
    own = seat_node t.world.places s is.work.seat

    goes : (z : SetSync) → IsKept s.known x.event z → P (z.set_id, z.view)
    goes z k same =
        let among = subst (λ (j : Knowledge). IsAmong (z.set_id, z.before) j.views) is.work.seat.known k.among in
        let stands = stands_found z.set_id z.before (knowledge s.node).views (rising_now t s.name s.node own) among in
        let one : z.before ≡ v =
        one_found z.before v (sym stands ∙ ap (λ i. entry_at i (knowledge s.node).views) same ∙ found) in
        subst (GoesFrom v) (sym k.view) (subst (λ u. GoesFrom u (view_after x.event z.before)) one (
          refl,
          refl,
          after_covers t s.node z.set_id z.before x.event (emitted_in t x.event is.work.event) (sym k.origin)
              (seen_now t s.name s.node own z.set_id z.before stands),
        ))

-- ---- a node

goes_same : (set : ℕ) (before : View) (n m : Node) → (knowledge m).views ≡ (knowledge n).views →
    GoesOn set before n → GoesOn set before m
goes_same set before n m same on = record {
  view = on.view;
  found = ap (entry_at set) same ∙ on.found;
  origin = on.origin;
  era = on.era;
  covers = on.covers;
}

-- unless the node gives the set up by it
pub takes_on : (t : Past) (x : Carried) (origin : ℕ) → IsTaken t origin x → (set : ℕ) (before : View) →
    leaves set x.seat.node.id x.event.body ≡ false → GoesOn set before x.seat.node →
    GoesOn set before (with_deeds (taking x).deeds x.seat.node)
takes_on t x origin is set before stays on =
    by (found_in set there.0 x.brought.views views there.1)
  where
    k : Knowledge
    k = knowledge x.seat.node

    views : Map View
    views = views_told x.seat.node.id x.event.body k.config k.views

    told : (y : View) × (entry_at set views ≡ Some y) × IsToldAs x.seat.node.id set x.event.body k.config on.view y
    told = there_told x.seat.node.id set x.event.body k.config k.views on.view on.found stays

    like : IsLike on.view told.0
    like = told_like x.seat.node.id set x.event.body k.config on.view told.0 told.2

    there : (y : View) × (entry_at set (with_views x.brought.views views) ≡ Some y)
    there = there_in set told.0 x.brought.views views told.1

    by : IsAmong (set, there.0) x.brought.views
        ⊎ ((entry_at set views ≡ Some there.0)
        × AllByRecursion (λ v. v.0 ≢ set) x.brought.views) →
        GoesOn set before (with_deeds (taking x).deeds x.seat.node)
    by (inl among) =
        let goes =
        all_among (λ y. y.0 ≡ set → GoesFrom on.view y.1) (set, there.0) x.brought.views
        (brought_goes t x origin is set on.view on.found is.brings) among refl in
        record {
          view = there.0;
          found = there.1;
          origin = goes.0 ∙ on.origin;
          era = goes.1 ∙ on.era;
          covers = λ y sees. goes.2 y (on.covers y sees);
        }
    by (inr kept) =
        let one = one_found told.0 there.0 (sym told.1 ∙ kept.0) in
        record {
          view = there.0;
          found = there.1;
          origin = ap (λ (v : View). v.origin) (sym one) ∙ like.origin ∙ on.origin;
          era = ap (λ (v : View). v.era) (sym one) ∙ like.era ∙ on.era;
          covers = subst (λ (v : View). Covers v.seen before.seen) one
              (subst (λ k. Covers k before.seen) (sym like.seen) on.covers);
        }

-- The node was this one, and goes on with the set, or gave it up.
record Keeps (set : ℕ) (before : View) (n m : Node) : Type 0 where
  more : (e : Event) → IsAmong e (applied_events n) → IsAmong e (applied_events m)
  goes : GoesOn set before m ⊎ GaveUp set before n m

gave_up : (set : ℕ) (before : View) (n m k : Node) → k.id ≡ m.id →
    ((e : Event) → IsAmong e (applied_events m) → IsAmong e (applied_events k)) → GaveUp set before n m →
    GaveUp set before n k
gave_up set before n m k id more g = record {
  event = g.event;
  applied = more g.event g.applied;
  new = g.new;
  own = g.own;
  leaves = subst (λ i. leaves set i g.event.body ≡ true) (sym id) g.leaves;
}

keeps_same : (set : ℕ) (before : View) (n m k : Node) →
    (k.id ≡ m.id) × (applied_events k ≡ applied_events m) × ((knowledge k).views ≡ (knowledge m).views) →
    Keeps set before n m → Keeps set before n k
keeps_same set before n m k (id, same, views) on = record {
  more = λ e among. subst (IsAmong e) (sym same) (on.more e among);
  goes = elim on.goes [
    | inl goes ↦ inl (goes_same set before m k views goes)
    | inr left ↦ inr (gave_up set before n m k id (λ e among. subst (IsAmong e) (sym same) among) left)
  ];
}

-- an event of another node
keeps_taken : (t : Past) (x : Carried) (origin : ℕ) → IsTaken t origin x → (set : ℕ) (before : View) (n : Node) →
    Keeps set before n x.seat.node → Keeps set before n (with_deeds (taking x).deeds x.seat.node)
keeps_taken t x origin is set before n on = record { more = λ e among. inr (on.more e among); goes = either on.goes }
  where
    Goes : Type 0
    Goes = GoesOn set before (with_deeds (taking x).deeds x.seat.node)
        ⊎ GaveUp set before n (with_deeds (taking x).deeds x.seat.node)

    by : GoesOn set before x.seat.node → (b : Bool) → leaves set x.seat.node.id x.event.body ≡ b → Goes
    by goes true left =
        let own = left_from t x origin is set goes.view goes.found left in
        inr (record {
          event = x.event;
          applied = inl refl;
          new = λ among.
              let before = applied_before t x origin is x.event (on.more x.event among) refl in omega (arith, before);
          own = sym own ∙ goes.origin;
          leaves = left;
        })
    by goes false stays = inl (takes_on t x origin is set before stays goes)

    either : GoesOn set before x.seat.node ⊎ GaveUp set before n x.seat.node → Goes
    either (inl goes) = by goes (leaves set x.seat.node.id x.event.body) refl
    either (inr left) =
        inr (gave_up set before n x.seat.node (with_deeds (taking x).deeds x.seat.node) refl
        (λ e among. inr among) left)

goes_on : (t : Past) (set : ℕ) (before : View) (n : Node) → NodeGoes t (Keeps set before n)
goes_on t set before n = record {
  logs = λ m p xid on. keeps_same set before n m (with_commit xid p m) (refl, refl, refl) on;
  does = record {
    tells = λ s is number e m says on.
        let views = same_views (event_of s number e.body) e.body (knowledge m).views (says_emitted s m e says) in
        keeps_same set before n m (with_deeds (deed_of s number e ∷ []) m) (refl, refl, views) on;
    takes = λ x origin is on. keeps_taken t x origin is set before n on;
    hears = λ s confirms on.
        let heard = with_deeds (deed s.place [] [] (HearsOf confirms) ∷ []) s.node in
        keeps_same set before n s.node heard (refl, refl, refl) on;
  };
}

pub views_go_on : ViewsGoOn
views_go_on limit history later w v leads leads_on name p q found found_later n m is_n is_m set before view =
    subst (λ k. GoesOn set before k ⊎ GaveUp set before n k)
    (one_found there.2.0 m (sym there.2.1 ∙ ap (λ (r : Place). r.node) same ∙ is_m)) there.2.2.goes
  where
    first : Keeps set before n n
    first = record {
      more = λ e among. among;
      goes = inl (record { view = before; found = view; origin = refl; era = refl; covers = λ x sees. sees });
    }

    there : HoldsOf (HasNode (Keeps set before n)) name v.places
    there =
        passing_later (λ t. node_passes t (goes_on t set before n)) (past limit history w leads) later v leads_on name
        (p, found, (n, is_n, first))

    same : there.0 ≡ q
    same = one_found there.0 q (sym there.1 ∙ found_later)
