-- What a node logs of a table that came into a set behind an event, the snapshot of that event does not see.
use Rattle.std.proofs.Common.{◌≡◌, inl, inr, ◌<◌, true, false, ◌∷◌, Some}
use Rattle.std.proofs.Common.{refl, sym, ap, subst, ◌∙◌, arith, length}
use Rattle.slon_model.specs.Names.{find_named}
use Rattle.slon_model.specs.Maps.{number_at}
use Rattle.slon_model.specs.Deeds.{Logged, Node, knowledge, stream}
use Rattle.slon_model.specs.Events.{Event}
use Rattle.slon_model.specs.Logs.{logged}
use Rattle.slon_model.specs.Place.{Place, taken}
use Rattle.slon_model.specs.Sessions.{Seat, seat}
use Rattle.slon_model.specs.Snapshots.{sees}
use Rattle.slon_model.proofs.Names.{all_map, bytes_itself, one_found}
use Rattle.slon_laws.specs.Sound.{Sound}
use Rattle.slon_laws.proofs.Later.{HoldsOf}
use Rattle.stream_laws.specs.Nodes.{IsAmong, node_in, nodes_in}
use Rattle.stream_laws.specs.Facts.{Facts}
use Rattle.stream_laws.specs.Making.{AreEmitted, IsMet, Mark, OfName, tells_of}
use Rattle.stream_laws.proofs.Laws.{marks_are_made_once}
use Rattle.stream_laws.proofs.Lists.{all_among}
use Rattle.stream_laws.proofs.Streams.{Found, among_earlier, among_found}
use Rattle.image_laws.proofs.Staying.{Stays}
use Rattle.view_laws.specs.Known.{HadEmitted, IsAdded}
use Rattle.view_laws.specs.Past.{Past, WasUpTo}
use Rattle.view_laws.proofs.Added.{added_now}
use Rattle.view_laws.proofs.Emitted.{emitted_in}
use Rattle.view_laws.proofs.Moments.{NodeAt, Reached, event_now, now_stays, past_of, reached_up_to, regular_now}
use Rattle.view_laws.proofs.Reached.{held_now}
use Rattle.view_laws.proofs.Reaching.{own_covered}
use Rattle.view_laws.proofs.Tables.{Table, one_event, whole_now}
use Rattle.image_laws.proofs.Had.{IsLateFor, LateLogs, Owned, late_later, owned_own}
use Rattle.image_laws.proofs.Images.{logs_listed}
use Rattle.image_laws.proofs.Since.{since_itself}
use Rattle.image_laws.specs.Fits.{IsListed, IsOfOther}
use Rattle.view_laws.proofs.Moments.{sound_now}
use Rattle.std.proofs.lemmas.Bool.{false≢true}
use Rattle.std.proofs.Common.{◌⊎◌}

-- ---- an entry of a log

-- An entry of the log of the origin of a set, on a table that came into the set by this event. The set may have ended.
pub record LateEntry (t : Past) : Type 0 where
  pub at : NodeAt t
  pub table : Table t
  pub there : IsAmong table.event (stream at.node)
  pub owned : Owned at.node table.name
  pub entry : Logged
  pub among : IsAmong entry (logged at.node)
  pub on : entry.action.table ≡ table.name

-- the session in which the table came into the set
late_moment : (t : Past) (k : LateEntry t)
    (f : Found k.at.node.id (stream k.at.node) k.table.event) → HadEmitted (WasUpTo t) k.at.node.id f.earlier
late_moment t k f =
    subst (IsAdded (WasUpTo t) k.at.node.id f.earlier) k.table.body
    (added_now t k.at.name k.at.node (ap node_in k.at.found ∙ k.at.at) f.later k.table.event f.earlier f.all)

pub late_unseen : (t : Past) (k : LateEntry t) (e : Event) → IsAmong e (stream k.at.node) →
    e.number < k.table.event.number → sees e.taken k.entry.action.xid ≡ true → ⊥
late_unseen t k e among before seen =
    by (all_among (IsLateFor (taken p) k.table.name x) k.entry (logged x)
    (later.2.logs x (subst (λ (q : Place). q.node ≡ Some x) (one_found k.at.place later.0
    (sym (ap (λ name. find_named name t.world.places) named ∙ k.at.found) ∙ later.1)) k.at.at)) k.among k.on)
  where
    x : Node
    x = k.at.node

    here : nodes_in t.world.places k.at.name ≡ Some x
    here = ap node_in k.at.found ∙ k.at.at

    are : AreEmitted x.id (stream x)
    are = ((regular_now t).nodes.each k.at.name x here).emitted

    f : Found x.id (stream x) k.table.event
    f = among_found x.id (stream x) k.table.event are k.there

    had : HadEmitted (WasUpTo t) x.id f.earlier
    had = late_moment t k f

    m : Node
    m = had.moment.node

    p : Place
    p = had.moment.place

    r : Reached t had.moment.session
    r = reached_up_to t had.moment.session had.moment.was

    u : Past
    u = past_of t had.moment.session r

    then : nodes_in u.world.places had.moment.name ≡ Some m
    then = ap node_in had.moment.found ∙ had.moment.at

    now : HoldsOf (Stays m) had.moment.name t.world.places
    now = now_stays t had.moment.session had.moment.was had.moment.name p m had.moment.found had.moment.at

    named : had.moment.name ≡ k.at.name
    named = (regular_now t).nodes.apart had.moment.name k.at.name now.2.node x (ap node_in now.1 ∙ now.2.is) here
        (now.2.id ∙ had.own)

    facts : Facts (nodes_in u.world.places) m
    facts = (regular_now u).nodes.each had.moment.name m then

    -- the event was one of those before
    early : IsAmong e (stream m)
    early =
        subst (IsAmong e) (sym had.before) (first (among_earlier x.id f.later (k.table.event ∷ f.earlier) e
        (subst (AreEmitted x.id) f.all are) (subst (IsAmong e) f.all among)
        (let number = f.are.1 in omega (arith, number, before))))
      where
        first : IsAmong e (k.table.event ∷ f.earlier) → IsAmong e f.earlier
        first (inl same) = let at = ap (λ (g : Event). g.number) same in absurd (omega (arith, at, before))
        first (inr later) = later

    there : Seat
    there = seat had.moment.name p m

    -- so the snapshot that was taken then sees the transaction
    sees_it : sees (taken p) k.entry.action.xid ≡ true
    sees_it =
        let of : m.id ≡ e.origin = sym (among_found m.id (stream m) e facts.emitted early).are.0 in
        own_covered u there (record { found = had.moment.found; node = had.moment.at; known = refl }) e
        (emitted_in u e (record { name = had.moment.name; node = m; is = then; own = of; among = early })) (sym of)
        k.entry.action.xid seen

    -- the table was in no set then
    not_listed : IsListed k.table.name (knowledge m).config → ⊥
    not_listed listed =
        let within = met.within in
        let whole = facts.whole in
        let number = f.are.1 in
        let long = ap length had.before in
        let at = ap (λ (g : Event). g.number) same in
        let who = ap (λ i. number_at i (knowledge m).progress) maker in
        omega (arith, within, whole, number, long, at, who)
      where
        mark : Mark
        mark = OfName k.table.name

        met : IsMet (nodes_in u.world.places) (knowledge m).progress mark
        met = (marks_are_made_once u.limit u.history u.world u.leads).met had.moment.name m then mark listed

        of : met.made.node.id ≡ met.made.event.origin
        of =
            sym (among_found met.made.node.id (stream met.made.node) met.made.event
            ((regular_now u).nodes.each met.made.name met.made.node met.made.is).emitted met.made.among).are.0

        same : met.made.event ≡ k.table.event
        same =
            one_event t met.made.event k.table.event (event_now t met.made.event (record {
              session = had.moment.session;
              was = had.moment.was;
              is = record {
                name = met.made.name;
                node = met.made.node;
                is = met.made.is;
                own = of;
                among = met.made.among;
              };
            })) k.table.is mark (
              met.made.makes,
              ap (λ body. tells_of body mark) k.table.body ∙ bytes_itself k.table.name,
            )

        maker : met.made.node.id ≡ m.id
        maker = of ∙ ap (λ (g : Event). g.origin) same ∙ f.are.0 ∙ sym had.own

    sound : Sound p
    sound = sound_now u had.moment.name p had.moment.found

    first : LateLogs p k.table.name p
    first = record {
      since = since_itself p;
      logs = λ n at.
          all_map (λ l. IsListed l.action.table (knowledge n).config) (IsLateFor (taken p) k.table.name n)
          (λ l listed on. absurd (not_listed (subst (λ (o : Node). IsListed k.table.name (knowledge o).config)
          (one_found n m (sym at ∙ had.moment.at))
          (subst (λ name. IsListed name (knowledge n).config) on listed)))) (logged n)
          (logs_listed u.limit u.history u.world u.leads had.moment.name p had.moment.found n at);
    }

    later : HoldsOf (LateLogs p k.table.name) had.moment.name t.world.places
    later = held_now (late_later p k.table.name sound) had.moment.name t had.moment.session had.moment.was
        (p, had.moment.found, first)

    by : (sees (taken p) k.entry.action.xid ≡ false) ⊎ IsOfOther x.id (knowledge x).config k.table.name → ⊥
    by (inl unseen) = false≢true (sym unseen ∙ sees_it)
    by (inr other) = owned_own x k.table.name (whole_now t k.at.name x here) k.owned other
