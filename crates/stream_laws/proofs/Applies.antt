-- A node that applies the next event of another one holds as much as before, and knows what that event makes known.
use Rattle.std.proofs.Common.{◌≡◌, ◌≢◌, ◌≤◌, inl, inr, ℕ, true, false, List, [], ◌∷◌, Option, Some, None, is_some, refl}
use Rattle.std.proofs.Common.{sym, ap, subst, ◌∙◌, arith}
use Rattle.std.proofs.lemmas.Bool.{eqb-true, false≢true, false_from_ne_true, true≢false}
use Rattle.node_rows.specs.declared.rows.SetRow.{SetRow}
use Rattle.node_rows.specs.declared.body.Body.{Body}
use Rattle.node_rows.specs.declared.body.Body.TheVariants.{StoreSet, DropSet, SetAddTable}
use Rattle.slon_model.specs.Maps.{Map, entry_at, number_at}
use Rattle.slon_model.specs.Events.{Event}
use Rattle.slon_model.specs.Config.{Config}
use Rattle.slon_model.specs.Deeds.{Node, Deed, Brought, Applies, knowledge, with_deeds, stream, met, progress}
use Rattle.slon_model.proofs.Names.{one_found}
use Rattle.stream_laws.specs.Nodes.{IsAmong, Nodes, IsEvent}
use Rattle.stream_laws.specs.Making.{Mark, OfSet, OfEnd, tells_of, has_mark, IsMade, IsMet, HasLasted, HasStored}
use Rattle.stream_laws.specs.Making.{AreEmitted, is_emitted, MayFollow}
use Rattle.stream_laws.specs.Applied.{applied_events}
use Rattle.stream_laws.specs.Facts.{Facts, AreRegular}
use Rattle.stream_laws.proofs.Lists.{all_among, among_behind, number_beside}
use Rattle.stream_laws.proofs.Growing.{Grow, GoOn, placed, staying, event_grown, marked_grown, told_grown, events_grown}
use Rattle.stream_laws.proofs.Streams.{applied_next, Found, among_earlier, among_found, number_within, own_is}
use Rattle.stream_laws.proofs.Streams.{one_node, has_told}
pub use Rattle.stream_laws.proofs.Marks.{IsSetOf}
use Rattle.stream_laws.proofs.Marks.{IsNext, further, first_with, Meeting, meets}
use Rattle.stream_laws.proofs.Emits.{known_changed}

-- An event of this origin may be of this body, for one who knows so much: a set begins at the origin, and a table comes
-- into a set that is known as live, and began there; a set ends that is known, and began there. All others are of kinds
-- that are emitted.
abbrev pub MayCome : ℕ → Body → Config → Type 0
MayCome own (StoreSet set origin comment) c = origin ≡ own
MayCome own (SetAddTable set table name comment) c = IsSetOf set own c × (has_mark (OfEnd set) c ≡ false)
MayCome own (DropSet set) c = IsSetOf set own c
MayCome own others c = is_emitted others ≡ true

-- A node of these that applies an event of one of them, the next one of its origin, and what it brings with that.
pub record Applying (nodes : Nodes) : Type 0 where
  pub name : List ℕ
  pub node : Node
  pub is : nodes name ≡ Some node
  pub deed : Deed
  pub event : Event
  pub brought : Brought
  pub one : IsEvent nodes event
  pub next : IsNext (knowledge node).progress event

abbrev pub having_applied : {nodes : Nodes} → Applying nodes → Node
having_applied a = with_deeds (record a.deed { doing = Applies a.event a.brought } ∷ []) a.node

-- the event is not its own, as it is at the end of its own stream
pub not_own : {nodes : Nodes} (a : Applying nodes) → AreRegular nodes → a.event.origin ≢ a.node.id
not_own {nodes} a regular same =
    let node = one_node nodes regular a.one.name a.name a.one.node a.node a.one.is (a.is, a.one.own ∙ same) in
    let f = regular.each a.name a.node a.is in
    let within = number_within a.node.id (stream a.node) a.event f.emitted
    (subst (λ n. IsAmong a.event (stream n)) node a.one.among) in
    let far = ap (λ k. progress k (knowledge a.node)) same in
    absurd (omega (arith, within.1, far, f.whole, a.next))

-- nobody has made known before what the event makes known
pub meeting : {nodes : Nodes} (a : Applying nodes) → AreRegular nodes →
    Meeting nodes (knowledge a.node).config (knowledge a.node).progress a.event
meeting {nodes} a regular = record {
  name = a.one.name;
  node = a.one.node;
  is = a.one.is;
  own = a.one.own;
  later = found.later;
  earlier = found.earlier;
  all = found.all;
  far = found.are.1;
  may = subst (λ id. MayFollow id found.earlier a.event.body) a.one.own found.are.2;
  next = a.next;
  told = λ e among.
      let there = among_behind e found.later (a.event ∷ found.earlier) (inr among) in
      let within = number_within a.one.node.id found.earlier e found.are.3 among in
      has_told nodes regular (knowledge a.node).config reached f.marked.emitted e
      (own_is nodes a.one.name a.one.node a.one.is maker e (subst (IsAmong e) (sym found.all) there))
      (omega (arith, within.1, found.are.1, a.next, at));
  new = λ mark makes. false_from_ne_true _ (λ has.
      let before = f.marked.met mark has in
      let same = regular.once mark before.made (maker_makes mark makes) in
      let node = one_found _ _ (sym before.made.is ∙ ap nodes same.0 ∙ a.one.is) in
      let far = ap (λ (n : Node). number_at n.id reached) node in
      absurd (omega (arith, before.within, same.1, far, at, a.next)));
}
  where
    reached : Map ℕ
    reached = (knowledge a.node).progress

    at : number_at a.one.node.id reached ≡ number_at a.event.origin reached
    at = ap (λ k. number_at k reached) a.one.own

    maker : Facts nodes a.one.node
    maker = regular.each a.one.name a.one.node a.one.is

    f : Facts nodes a.node
    f = regular.each a.name a.node a.is

    found : Found a.one.node.id (stream a.one.node) a.event
    found = among_found a.one.node.id (stream a.one.node) a.event maker.emitted a.one.among

    maker_makes : (mark : Mark) → tells_of a.event.body mark ≡ true → IsMade nodes mark
    maker_makes mark makes = record {
      name = a.one.name;
      node = a.one.node;
      is = a.one.is;
      event = a.event;
      among = a.one.among;
      makes = makes;
    }

-- ---- the end of a set

-- an event by which a set ends says so of this one
pub ends_of : (id : ℕ) (body : Body) → tells_of body (OfEnd id) ≡ true → body ≡ DropSet id
ends_of id (DropSet set) makes = ap DropSet (sym (eqb-true id set makes))
ends_of id others makes = absurd (false≢true makes)

-- who has emitted that a set ends had stored it
pub end_stored : (nodes : Nodes) → AreRegular nodes → (set : ℕ) (made : IsMade nodes (OfEnd set)) →
    (stored : IsMade nodes (OfSet set)) × (stored.node ≡ made.node)
end_stored nodes regular set made =
    let f = among_found made.node.id (stream made.node) made.event
    (regular.each made.name made.node made.is).emitted made.among in
    let stored : HasStored set f.earlier =
    subst (MayFollow made.node.id f.earlier) (ends_of set made.event.body made.makes) f.are.2 in (
      record {
        name = made.name;
        node = made.node;
        is = made.is;
        event = stored.0;
        among =
            subst (IsAmong stored.0) (sym f.all)
            (among_behind stored.0 f.later (made.event ∷ f.earlier) (inr stored.1));
        makes = stored.2;
      },
      refl,
    )

-- ---- what the node knows of the set of the event

-- the origin of the event made the set known
abbrev stored_by : {nodes : Nodes} (a : Applying nodes) → (regular : AreRegular nodes) → (set : ℕ) →
    HasStored set (meeting a regular).earlier → IsMade nodes (OfSet set)
stored_by a regular set stored =
    let m = meeting a regular in
    record {
      name = m.name;
      node = m.node;
      is = m.is;
      event = stored.0;
      among =
          subst (IsAmong stored.0) (sym m.all)
          (among_behind stored.0 m.later (a.event ∷ m.earlier) (inr stored.1));
      makes = stored.2;
    }

-- the node knows the set that an earlier event of the same origin stored
set_known : {nodes : Nodes} (a : Applying nodes) → (regular : AreRegular nodes) → (set : ℕ) →
    HasStored set (meeting a regular).earlier → IsSetOf set a.event.origin (knowledge a.node).config
set_known {nodes} a regular set stored =
    by (entry_at set c.sets) refl (m.told stored.0 stored.1 (OfSet set) stored.2)
  where
    c : Config
    c = (knowledge a.node).config

    m : Meeting nodes c (knowledge a.node).progress a.event
    m = meeting a regular

    by : (o : Option SetRow) → entry_at set c.sets ≡ o → is_some o ≡ true → IsSetOf set a.event.origin c
    by None none known = absurd (false≢true known)
    by (Some row) found known =
        let made = (regular.each a.name a.node a.is).marked.origins set row found in
        let first = regular.once (OfSet set) made.0 (stored_by a regular set stored) in
        let node = one_found _ _ (sym made.0.is ∙ ap nodes first.0 ∙ m.is) in
        (row, found, sym made.1 ∙ ap (λ (n : Node). n.id) node ∙ m.own)

-- and knows it as live, where that one has not emitted before that it has ended
set_lasts : {nodes : Nodes} (a : Applying nodes) → (regular : AreRegular nodes) → (set : ℕ) →
    HasStored set (meeting a regular).earlier × HasLasted set (meeting a regular).earlier →
    has_mark (OfEnd set) (knowledge a.node).config ≡ false
set_lasts {nodes} a regular set (stored, lasted) =
    false_from_ne_true (has_mark (OfEnd set) c) (λ ended.
    never ((regular.each a.name a.node a.is).marked.met (OfEnd set) ended))
  where
    c : Config
    c = (knowledge a.node).config

    reached : Map ℕ
    reached = (knowledge a.node).progress

    m : Meeting nodes c reached a.event
    m = meeting a regular

    never : IsMet nodes reached (OfEnd set) → ⊥
    never met = by (among_earlier m.node.id m.later (a.event ∷ m.earlier) d
        (subst (AreEmitted m.node.id) m.all (regular.each m.name m.node m.is).emitted)
        (subst (IsAmong d) m.all (subst (λ (n : Node). IsAmong d (stream n)) one met.made.among))
        (omega (arith, within, at, m.next, m.far)))
      where
        d : Event
        d = met.made.event

        by_end : (made : IsMade nodes (OfSet set)) × (made.node ≡ met.made.node)
        by_end = end_stored nodes regular set met.made

        one : met.made.node ≡ m.node
        one =
            let once = regular.once (OfSet set) by_end.0 (stored_by a regular set stored) in
            sym by_end.1 ∙ one_found by_end.0.node m.node (sym by_end.0.is ∙ ap nodes once.0 ∙ m.is)

        within : d.number ≤ number_at met.made.node.id reached
        within = met.within

        at : number_at met.made.node.id reached ≡ number_at a.event.origin reached
        at = ap (λ (n : Node). number_at n.id reached) one ∙ ap (λ id. number_at id reached) m.own

        by : IsAmong d (a.event ∷ m.earlier) → ⊥
        by (inl same) =
            let number = ap (λ (e : Event). e.number) same in absurd (omega (arith, number, within, at, m.next))
        by (inr early) =
            true≢false (sym met.made.makes
            ∙ all_among (λ e. tells_of e.body (OfEnd set) ≡ false) d m.earlier lasted early)

pub may_come : {nodes : Nodes} (a : Applying nodes) → AreRegular nodes →
    MayCome a.event.origin a.event.body (knowledge a.node).config
may_come a regular = by a.event.body (meeting a regular).may
  where
    by : (body : Body) → MayFollow a.event.origin (meeting a regular).earlier body →
        MayCome a.event.origin body (knowledge a.node).config
    by (StoreSet set origin comment) may = may
    by (SetAddTable set table name comment) may = (set_known a regular set may.0, set_lasts a regular set may)
    by (DropSet set) may = set_known a regular set may
    by others may = may

applied_facts : {old : Nodes} (a : Applying old) → AreRegular old → (new : Nodes) → Grow old new →
    Facts new (having_applied a)
applied_facts {old} a regular new grow = record {
  knows = known_changed a.node.id a.event.origin a.event.number a.event.body (knowledge a.node).config f.knows;
  emitted = f.emitted;
  whole =
      number_beside a.node.id a.event.origin a.event.number reached (λ same. not_own a regular (sym same)) ∙ f.whole;
  low = λ origin. omega (arith, f.low origin, further a.event reached a.next origin);
  first = first_with a.event reached a.next f.first;
  marked = marked_grown grow _ _ (meets old (knowledge a.node).config reached a.event (meeting a regular) f.marked);
  applied =
      applied_next a.event a.node.id a.node.given.progress reached (applied_events a.node) (not_own a regular) a.next
      f.applied;
  told = told_grown grow (knowledge a.node).told f.told;
  met = (event_grown grow a.event a.one, events_grown grow (met a.node) f.met);
}
  where
    f : Facts old a.node
    f = regular.each a.name a.node a.is

    reached : Map ℕ
    reached = (knowledge a.node).progress

pub applied_on : (old : Nodes) (a : Applying old) → AreRegular old →
    GoOn old (placed a.name (Some (having_applied a)) old)
applied_on old a regular =
    staying a.name a.node (having_applied a) old regular (record {
      is = a.is;
      quiet = refl;
      id = refl;
      further = further a.event (knowledge a.node).progress a.next;
      knows = λ id. known_changed id a.event.origin a.event.number a.event.body (knowledge a.node).config;
      facts = λ new grow is. applied_facts a regular new grow;
    })
