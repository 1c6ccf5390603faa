-- A table of a set of the origin of an event, which a node knows as it applies that, it knew as it found what is to
-- come with the event.
use Rattle.std.proofs.Common.{◌≡◌, ◌∙◌, ℕ, ◌≤◌, true, inl, inr, sym, ap, subst, arith, is_some, refl}
use Rattle.std.proofs.lemmas.Bool.{false≢true}
use Rattle.std.specs.Str.{bytes_eq}
use Rattle.node_rows.specs.declared.rows.TableRow.{TableRow}
use Rattle.slon_model.specs.Maps.{number_at}
use Rattle.slon_model.specs.Events.{Event}
use Rattle.slon_model.specs.Config.{Config, set_row}
use Rattle.slon_model.specs.Deeds.{Node, knowledge, progress}
use Rattle.slon_model.specs.Sessions.{Seat}
use Rattle.slon_model.proofs.Names.{bytes_itself, bytes_same, one_found}
use Rattle.stream_laws.specs.Nodes.{IsAmong, nodes_in, IsEvent}
use Rattle.stream_laws.specs.Making.{OfName, IsMet, IsTold as MakesKnown, tells_of}
use Rattle.stream_laws.specs.Facts.{Facts}
use Rattle.stream_laws.proofs.Copies.{Leading}
use Rattle.stream_laws.proofs.Lists.{among_any, any_among}
use Rattle.stream_laws.proofs.Seats.{IsSeat, seat_node}
use Rattle.stream_laws.proofs.Streams.{has_told}
use Rattle.image_laws.proofs.Staying.{IsTableOf}
use Rattle.view_laws.specs.Past.{Past}
use Rattle.view_laws.proofs.Brought.{Finding, seat_stays}
use Rattle.view_laws.proofs.Reached.{regular_now}
use Rattle.view_laws.proofs.Tables.{KnownTable, Table, made_by, made_by_leader, one_table, table_of, whole_now}
use Rattle.view_laws.proofs.Unmoved.{Since, event_then}

-- what the node knew then it knows, or has dropped since
pub tables_stay_known : (t : Past) (s : Seat) (e : Event) (a : Finding t s e) → IsSeat t.world.places s →
    (f : ℕ × TableRow) → IsAmong f (knowledge a.seat.node).config.tables → IsTableOf f (knowledge s.node).config
tables_stay_known t s e a is f among =
    let stays = seat_stays t s e a is in
    subst (λ (n : Node). IsTableOf f (knowledge n).config) (one_found stays.node s.node (sym stays.is ∙ is.node))
    (stays.tables f among)

-- A table that a node knows by the id, the name and the set of this one.
pub record IsLike (c : Config) (f : ℕ × TableRow) : Type 0 where
  pub entry : ℕ × TableRow
  pub among : IsAmong entry c.tables
  pub set_id : entry.1.set_id ≡ f.1.set_id
  pub name : entry.1.name ≡ f.1.name

pub still_like : (f : ℕ × TableRow) (c : Config) → IsTableOf f c → IsLike c f
still_like f c (inl there) = record { entry = f; among = there; set_id = refl; name = refl }
still_like f c (inr ended) = record { entry = _; among = ended.0; set_id = refl; name = refl }

-- where its set is live it is the same
pub live_table : (f : ℕ × TableRow) (c : Config) → is_some (set_row f.1.set_id c) ≡ true → IsTableOf f c →
    IsAmong f c.tables
live_table f c live (inl there) = there
live_table f c live (inr ended) = absurd (false≢true (sym (ap is_some ended.1) ∙ live))

-- two live tables that a node knows by one name are one
same_table : (t : Past) (a b : KnownTable t) → a.entry.1.name ≡ b.entry.1.name →
    a.entry.1.live ≡ b.entry.1.live → a.entry ≡ b.entry
same_table t a b name live =
    let one = one_table t (table_of t a) (table_of t b) name in
    λ i. (one.1 i, record { set_id = one.0 i; name = name i; live = live i; comment = one.2 i })

-- a node has met the event by which it knows a table
known_within : (t : Past) (k : KnownTable t) →
    (table_of t k).event.number ≤ progress (table_of t k).event.origin (knowledge k.node)
known_within t k =
    let n = ap (λ (m : Node). number_at m.id (knowledge k.node).progress) node
    ∙ ap (λ id. number_at id (knowledge k.node).progress) table.is.own in
    let within = met.within in
    let number = once.1 in
    omega (arith, n, within, number)
  where
    table : Table t
    table = table_of t k

    facts : Facts (nodes_in t.world.places) k.node
    facts = (regular_now t).nodes.each k.name k.node k.is

    met : IsMet (nodes_in t.world.places) (knowledge k.node).progress (OfName k.entry.1.name)
    met = facts.marked.met (OfName k.entry.1.name)
        (among_any (λ e. bytes_eq k.entry.1.name e.1.name) k.entry (knowledge k.node).config.tables k.among
        (bytes_itself k.entry.1.name))

    once : (met.made.name ≡ table.is.name) × (met.made.event.number ≡ table.event.number)
    once = (regular_now t).nodes.once (OfName k.entry.1.name) met.made
        (made_by t table.event table.is (OfName k.entry.1.name)
        (ap (λ body. tells_of body (OfName k.entry.1.name)) table.body ∙ bytes_itself k.entry.1.name))

    node : met.made.node ≡ table.is.node
    node = one_found met.made.node table.is.node
        (sym met.made.is ∙ ap (nodes_in t.world.places) once.0 ∙ table.is.is)

-- a table of a live set was known so
pub table_then : (t : Past) (i : Since t) (k : ℕ × TableRow) → IsAmong k (knowledge i.seat.node).config.tables →
    is_some (set_row k.1.set_id (knowledge i.seat.node).config) ≡ true →
    (leader : Leading (nodes_in t.world.places) k.1.set_id) × (leader.node.id ≡ i.event.origin) →
    IsAmong k (knowledge i.at.seat.node).config.tables
table_then t i k among live leads =
    subst (λ f. IsAmong f (knowledge a.seat.node).config.tables) (sym one) mark.1
  where
    s : Seat
    s = i.seat

    e : Event
    e = i.event

    a : Finding t s e
    a = i.at

    known : KnownTable t
    known = record {
      name = s.name;
      node = s.node;
      is = seat_node t.world.places s i.work.seat;
      entry = k;
      among = among;
    }

    table : Table t
    table = table_of t known

    from : table.event.origin ≡ e.origin
    from = sym table.is.own ∙ made_by_leader t table leads.0 ∙ leads.1

    within : table.event.number ≤ progress e.origin (knowledge s.node)
    within = subst (λ id. table.event.number ≤ progress id (knowledge s.node)) from (known_within t known)

    was : IsEvent (nodes_in a.to.world.places) table.event
    was = event_then t i table.event table.is from within

    then : Facts (nodes_in a.to.world.places) a.seat.node
    then = (regular_now a.to).nodes.each a.seat.name a.seat.node
        (seat_node a.to.world.places a.seat a.work.seat)

    told : MakesKnown (knowledge a.seat.node).config table.event
    told =
        has_told (nodes_in a.to.world.places) (regular_now a.to).nodes (knowledge a.seat.node).config
        (knowledge a.seat.node).progress then.marked.emitted table.event was
        (let id = ap (λ i. progress i (knowledge a.seat.node)) (was.own ∙ from) in
        let next = i.work.next in
        let before = a.work.next in
        omega (arith, within, id, next, before))

    mark : (f : ℕ × TableRow) × IsAmong f (knowledge a.seat.node).config.tables × (bytes_eq k.1.name f.1.name ≡ true)
    mark =
        any_among (λ f. bytes_eq k.1.name f.1.name) (knowledge a.seat.node).config.tables
        (told (OfName k.1.name)
        (ap (λ body. tells_of body (OfName k.1.name)) table.body ∙ bytes_itself k.1.name))

    name : k.1.name ≡ mark.0.1.name
    name = bytes_same k.1.name mark.0.1.name mark.2

    c : Config
    c = (knowledge s.node).config

    stays : IsTableOf mark.0 c
    stays = tables_stay_known t s e a i.work.seat mark.0 mark.1

    like : IsLike c mark.0
    like = still_like mark.0 c stays

    set : mark.0.1.set_id ≡ k.1.set_id
    set =
        sym like.set_id
        ∙ sym (one_table t table (table_of t (record {
          name = s.name;
          node = s.node;
          is = known.is;
          entry = like.entry;
          among = like.among;
        })) (name ∙ sym like.name)).0

    live_there : is_some (set_row mark.0.1.set_id c) ≡ true
    live_there = ap (λ i. is_some (set_row i c)) set ∙ live

    there : IsAmong mark.0 c.tables
    there = live_table mark.0 c live_there stays

    one : k ≡ mark.0
    one =
        let whole = whole_now t s.name s.node known.is in
        same_table t known
        (record { name = s.name; node = s.node; is = known.is; entry = mark.0; among = there }) name
        (whole.live k among live ∙ sym (whole.live mark.0 there live_there))
