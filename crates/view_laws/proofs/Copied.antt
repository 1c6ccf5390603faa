-- What a node copies is a set of the origin of the event by which it does: that origin leads the set, and gives it, or
-- another node does that forwards it.
use Rattle.std.proofs.Common.{◌≡◌, ◌⊎◌, inl, inr, ℕ, Bool, true, false, cond, Option, Some, None, refl, sym, ap, subst}
use Rattle.std.proofs.Common.{◌∙◌, not, is_some}
use Rattle.std.specs.Prelude.{◌==◌, ◌&&◌, option_map, unwrap_or}
use Rattle.std.proofs.lemmas.Bool.{and_from, and_parts, eq-eqb, eqb-true, false≢true}
use Rattle.node_rows.specs.declared.body.Body.{Body}
use Rattle.node_rows.specs.declared.body.Body.TheVariants.{Sync, EnableSubscription}
use Rattle.node_rows.specs.declared.rows.SetRow.{SetRow}
use Rattle.slon_model.specs.Maps.{entry_at}
use Rattle.slon_model.specs.Snapshots.{Snapshot}
use Rattle.slon_model.specs.Events.{Event}
use Rattle.slon_model.specs.Config.{Config, era_of, forwards, is_origin, leads_row, live_set, set_row}
use Rattle.slon_model.specs.Views.{View}
use Rattle.slon_model.specs.Deeds.{Node, Brought, Knowledge, knowledge, view_of}
use Rattle.slon_model.specs.Place.{Place, taken}
use Rattle.slon_model.specs.Sessions.{World, Seat}
use Rattle.slon_model.specs.Following.{Found}
use Rattle.slon_model.specs.Working.{Copying, ToCopy, ToFollow, errand_in, forwarded, given_at, receives_from}
use Rattle.slon_model.specs.Working.{still_leads}
use Rattle.slon_model.proofs.Names.{one_found}
use Rattle.slon_laws.proofs.Later.{HoldsOf}
use Rattle.stream_laws.specs.Nodes.{nodes_in, node_in, IsEvent}
use Rattle.stream_laws.proofs.Applies.{IsSetOf}
use Rattle.stream_laws.proofs.Copies.{IsCopy, Leading, one_leader, origin_row}
use Rattle.stream_laws.proofs.Streams.{one_node}
use Rattle.image_laws.proofs.Dropping.{over}
use Rattle.image_laws.proofs.Staying.{IsOver, IsRowOf, Stays}
use Rattle.view_laws.specs.Known.{IsEmitted, IsSeen, enables, feeds}
use Rattle.view_laws.specs.Past.{Moment, Past, WasUpTo}
use Rattle.view_laws.proofs.Brought.{IsCopied, was_then}
use Rattle.view_laws.proofs.Emitted.{emitted_in}
use Rattle.view_laws.proofs.Moments.{now_stays, regular_now}
use Rattle.stream_laws.proofs.Seats.{IsSeat, seat_node}

-- ---- the origin of a set

-- the row of a set that a node led, as it has it later
stays_row : (a : Node) (q : Place) (b : Node) → Stays a q → q.node ≡ Some b → (set : ℕ) (row : SetRow) →
    entry_at set (knowledge a).config.sets ≡ Some row → (b.id ≡ a.id) × IsRowOf set row (knowledge b).config
stays_row a q b stays is set row found = (
  ap (λ (n : Node). n.id) (sym one) ∙ stays.id,
  subst (λ (n : Node). IsRowOf set row (knowledge n).config) one (stays.rows set row found),
)
  where
    one : stays.node ≡ b
    one = one_found stays.node b (sym stays.is ∙ is)

-- it is the origin of the set still, whether that is live or not
pub stays_owner : (a : Node) (q : Place) (b : Node) → Stays a q → q.node ≡ Some b → (set : ℕ) →
    is_origin a.id set (knowledge a).config ≡ true → IsSetOf set b.id (knowledge b).config
stays_owner a q b stays is set leads = by (origin_row a.id set (knowledge a).config leads)
  where
    by : IsSetOf set a.id (knowledge a).config → IsSetOf set b.id (knowledge b).config
    by (row, found, own) =
        let there = stays_row a q b stays is set row found in
        elim there.1 [
          | inl same ↦ (row, same, own ∙ sym there.0)
          | inr ended ↦ (over row, ended, own ∙ sym there.0)
        ]

-- a set is live or not
pub live_or_over : (set : ℕ) (c : Config) → (is_some (set_row set c) ≡ true) ⊎ IsOver set c
live_or_over set c = by (set_row set c)
  where
    by : (o : Option SetRow) → (is_some o ≡ true) ⊎ (o ≡ None)
    by None = inr refl
    by (Some row) = inl refl

-- the set is led as before, if it is live
pub stays_leading : (a : Node) (q : Place) (b : Node) → Stays a q → q.node ≡ Some b → (set : ℕ) →
    is_origin a.id set (knowledge a).config ≡ true → is_some (set_row set (knowledge b).config) ≡ true →
    (is_origin b.id set (knowledge b).config ≡ true)
    × (era_of set (knowledge b).config ≡ era_of set (knowledge a).config)
stays_leading a q b stays is set leads live =
    let there = stays_row a q b stays is set found.0 found.1 in by there.0 there.1
  where
    found : IsSetOf set a.id (knowledge a).config
    found = origin_row a.id set (knowledge a).config leads

    era_by : Option SetRow → ℕ
    era_by o = unwrap_or (option_map (λ row. row.era) (live_set o)) 0

    by : b.id ≡ a.id → IsRowOf set found.0 (knowledge b).config →
        (is_origin b.id set (knowledge b).config ≡ true)
        × (era_of set (knowledge b).config ≡ era_of set (knowledge a).config)
    by id (inl row) = (
      ap (λ o. leads_row b.id (live_set o)) row ∙ ap (λ id. leads_row id (live_set (Some found.0))) id
          ∙ ap (λ o. leads_row a.id (live_set o)) (sym found.1) ∙ leads,
      ap era_by row ∙ sym (ap era_by found.1),
    )
    by id (inr ended) = absurd (false≢true (sym (ap (λ o. is_some (live_set o)) ended) ∙ live))

-- the node of a moment that led a set is its origin now
abbrev pub leading_now : (t : Past) (m : Moment (WasUpTo t)) (set : ℕ) →
    is_origin m.node.id set (knowledge m.node).config ≡ true →
    (y : Leading (nodes_in t.world.places) set) × (y.node.id ≡ m.node.id)
leading_now t m set leads =
    let now : HoldsOf (Stays m.node) m.name t.world.places =
    now_stays t m.session m.was m.name m.place m.node m.found m.at in (
      record {
        name = m.name;
        node = now.2.node;
        is = ap node_in now.1 ∙ now.2.is;
        leads = stays_owner m.node now.0 now.2.node now.2 now.2.is set leads;
      },
      now.2.id,
    )

-- who says that a node subscribes to a set is the origin of the set
pub feeder_leads : (t : Past) (e : Event) (is : IsEvent (nodes_in t.world.places) e) (set : ℕ) →
    feeds set e.body ≡ true → IsSetOf set is.node.id (knowledge is.node).config
feeder_leads t e is set feed =
    subst (λ n. IsSetOf set n.id (knowledge n).config) (one_node (nodes_in t.world.places)
    (regular_now t).nodes now.0.name is.name now.0.node is.node now.0.is
    (is.is, now.1 ∙ emitted.own ∙ sym is.own)) now.0.leads
  where
    emitted : IsEmitted (WasUpTo t) e
    emitted = emitted_in t e is

    now : (y : Leading (nodes_in t.world.places) set) × (y.node.id ≡ emitted.moment.node.id)
    now = leading_now t emitted.moment set (emitted.leads set feed)

-- the origin of a view is the node that leads the set
pub seen_leads : (t : Past) (n : Node) (set : ℕ) (v : View) → IsSeen (WasUpTo t) n set v →
    (y : Leading (nodes_in t.world.places) set) → v.origin ≡ y.node.id
seen_leads t n set v seen y =
    let now = leading_now t seen.moment set seen.leads in
    sym seen.own ∙ sym now.1 ∙ one_leader (nodes_in t.world.places) (regular_now t).nodes set now.0 y

-- the node that leads the set is the one that says so
pub feeder_is : (t : Past) (e : Event) (is : IsEvent (nodes_in t.world.places) e) (set : ℕ) →
    feeds set e.body ≡ true → (p : Seat) → IsSeat t.world.places p →
    IsSetOf set p.node.id (knowledge p.node).config → p.node.id ≡ is.node.id
feeder_is t e is set feed p seat leads =
    one_leader (nodes_in t.world.places) (regular_now t).nodes set
    (record { name = p.name; node = p.node; is = seat_node t.world.places p seat; leads = leads })
    (record { name = is.name; node = is.node; is = is.is; leads = feeder_leads t e is set feed })

-- ---- the event

pub enables_feeds : (set node : ℕ) (body : Body) → enables set node body ≡ true → feeds set body ≡ true
enables_feeds set node (EnableSubscription id provider receiver forward era) is =
    (and_parts (id == set) (receiver == node) is).0
enables_feeds set node others is = absurd (false≢true is)

-- a set is copied with the event of a new subscription
copies_by : (own : ℕ) (receives : Bool) (origin : ℕ) (body : Body) (c : Copying) →
    errand_in own receives origin body ≡ Some (ToCopy c) → enables c.set_id own body ≡ true
copies_by own receives origin (EnableSubscription set provider receiver forward era) c asked =
    by (receiver == own) refl asked
  where
    first : Copying
    first = record { set_id = set; provider = provider; era = era }

    by : (b : Bool) → (receiver == own) ≡ b → cond b (Some (ToCopy first)) None ≡ Some (ToCopy c) →
        (set == c.set_id && receiver == own) ≡ true
    by true same is =
        let one : first ≡ c = cc in
        and_from (set == c.set_id) (receiver == own) (eq-eqb set c.set_id (ap (λ (k : Copying). k.set_id) one)) same
    by false other none = absurd cc
copies_by own receives origin Sync c asked = by (receives && not (origin == own)) asked
  where
    by : (b : Bool) → cond b (Some ToFollow) None ≡ Some (ToCopy c) → enables c.set_id own Sync ≡ true
    by true is = absurd cc
    by false is = absurd cc
copies_by own receives origin others c asked = absurd cc

pub copy_asks : (w : World) (s : Seat) (e : Event) (f : Found) (k : IsCopy w s e f) →
    enables k.copying.set_id s.node.id e.body ≡ true
copy_asks w s e f k = copies_by s.node.id (receives_from e.origin s.known) e.origin e.body k.copying k.asked

-- ---- what is given

-- A provider gives a set as the origin of it, by its own snapshot, or as a node that forwards it, by that of its view.
pub data CopySource (c : Copying) (p : Seat) (seen : Snapshot) : Type 0 where
  FromOrigin : is_origin p.node.id c.set_id (knowledge p.node).config ≡ true →
      era_of c.set_id (knowledge p.node).config ≡ c.era → seen ≡ taken p.place → CopySource c p seen
  FromForwarder : (v : View) → view_of c.set_id (knowledge p.node) ≡ Some v → v.era ≡ c.era →
      forwards c.set_id p.node.id (knowledge p.node).config ≡ true → seen ≡ v.seen → CopySource c p seen

source_of : (c : Copying) (p : Seat) (seen : Snapshot) → p.known ≡ knowledge p.node → given_at c p ≡ Some seen →
    CopySource c p seen
source_of c p seen known gives = by (still_leads c p) refl gives
  where
    leads : (k : Knowledge) → p.known ≡ k → still_leads c p ≡ true →
        (is_origin p.node.id c.set_id k.config ≡ true) × ((era_of c.set_id k.config == c.era) ≡ true)
    leads k same is =
        and_parts (is_origin p.node.id c.set_id k.config) (era_of c.set_id k.config == c.era)
        (subst (λ (j : Knowledge). (is_origin p.node.id c.set_id j.config && era_of c.set_id j.config == c.era) ≡ true)
        same is)

    forward : (v : View) → view_of c.set_id p.known ≡ Some v → (b : Bool) →
        (v.era == c.era && forwards c.set_id p.node.id p.known.config) ≡ b →
        cond b (Some v.seen) None ≡ Some seen → CopySource c p seen
    forward v found true passes is =
        let both = and_parts (v.era == c.era) (forwards c.set_id p.node.id p.known.config) passes in
        FromForwarder v (ap (view_of c.set_id) (sym known) ∙ found) (eqb-true v.era c.era both.0)
        (subst (λ (k : Knowledge). forwards c.set_id p.node.id k.config ≡ true) known both.1)
        (sym (one_found v.seen seen is))
    forward v found false fails is = absurd cc

    forwarder : (o : Option View) → view_of c.set_id p.known ≡ o → forwarded c p o ≡ Some seen → CopySource c p seen
    forwarder None found is = absurd cc
    forwarder (Some v) found is =
        forward v found (v.era == c.era && forwards c.set_id p.node.id p.known.config) refl is

    by : (b : Bool) → still_leads c p ≡ b →
        cond b (Some (taken p.place)) (forwarded c p (view_of c.set_id p.known)) ≡ Some seen → CopySource c p seen
    by true is given =
        let both = leads (knowledge p.node) known is in
        FromOrigin both.0 (eqb-true (era_of c.set_id (knowledge p.node).config) c.era both.1)
        (sym (one_found (taken p.place) seen given))
    by false over given = forwarder (view_of c.set_id p.known) refl given

pub copy_source : (w : World) (s : Seat) (e : Event) (f : Found) (k : IsCopy w s e f) →
    CopySource k.copying k.provider k.seen
copy_source w s e f k = source_of k.copying k.provider k.seen k.reached.0.0.0.known k.gives

-- the provider, as it was then
abbrev pub copy_moment : (t : Past) (s : Seat) (e : Event) (b : Brought) → IsCopied t s e b → Moment (WasUpTo t)
copy_moment t s e b k =
    record {
      session = k.at.to.world;
      was = was_then k.at;
      name = k.copy.provider.name;
      place = k.copy.provider.place;
      found = k.copy.reached.0.0.0.found;
      node = k.copy.provider.node;
      at = k.copy.reached.0.0.0.node;
    }
