-- Every session has its nets: each command keeps them, and so does each history.
use Rattle.std.proofs.Common.{◌≡◌, ◌≢◌, inl, inr, ℕ, ◌≤◌, Bool, true, false, cond, List, length, Some}
use Rattle.std.proofs.Common.{None, refl, sym, ap, subst, ◌∙◌, arith}
use Rattle.std.specs.Prelude.{option_map}
use Rattle.std.specs.List.{AllByRecursion}
use Rattle.std.specs.Str.{bytes_eq}
use Rattle.std.proofs.lemmas.Bool.{cases_eq, true≢false}
use Rattle.std.proofs.lemmas.List.{length-map}
use Rattle.net_laws.specs.Subscriptions.{row, up_to}
use Rattle.slon_model.specs.Names.{find_named}
use Rattle.slon_model.specs.Deeds.{Node, knowledge, progress, stream, view_of, with_deeds}
use Rattle.slon_model.specs.Logs.{logged}
use Rattle.slon_model.specs.Place.{Place, taken}
use Rattle.slon_model.specs.Sessions.{committing, next_event}
use Rattle.slon_model.specs.World.{World}
use Rattle.slon_model.proofs.Names.{bytes_itself, one_found}
use Rattle.stream_laws.specs.Nodes.{IsAmong, nodes_in, node_in}
use Rattle.stream_laws.proofs.Growing.{placed}
use Rattle.stream_laws.proofs.Lists.{number_here}
use Rattle.stream_laws.proofs.Streams.{one_node}
use Rattle.image_laws.specs.Moments.{IsOrder, IsTaken, count_of}
use Rattle.image_laws.proofs.Orders.{order_in, order_is}
use Rattle.view_laws.specs.Past.{Moment, Past, WasBefore, WasUpTo, past}
use Rattle.view_laws.proofs.Moments.{now_stays, regular_now, sound_now}
use Rattle.net_relation.specs.Reading.{first_net, moment_of, read, said, unfed}
use Rattle.net_relation.specs.Matching.{BarsExactly, BarsNoOther, MatchesNode}
use Rattle.net_relation.specs.Laws.{SessionsHaveNets}
use Rattle.net_relation.proofs.Barring.{all_barred, all_exactly, all_leads, barred_fits, pairs_in}
use Rattle.net_relation.proofs.Beginning.{Joining, giver_none, giver_other, join_free, joined_later, joined_none}
use Rattle.net_relation.proofs.Beginning.{joined_spared, new_net}
use Rattle.net_relation.proofs.Behind.{holds_along}
use Rattle.net_relation.proofs.Earlier.{WasThen, then_still, CopiesFind, ProvidersHave}
use Rattle.net_relation.proofs.Emitting.{next_number}
use Rattle.net_relation.proofs.Going.{NetAt, went_net}
use Rattle.net_relation.proofs.Links.{Join, giver, joined, joins, stores}
use Rattle.net_relation.proofs.Moments.{count_is, taken_now}
use Rattle.net_relation.proofs.Nets.{Spares, leads_on}
use Rattle.net_relation.proofs.Places.{Born, Shut, Went, shut_ticks}
use Rattle.net_relation.proofs.Relating.{Netted, Origin, frame, node_behind, node_later, nodes_of, nodes_same}
use Rattle.net_relation.proofs.Relating.{nodes_with}
use Rattle.net_relation.proofs.Relating.{origin_placed}
use Rattle.net_relation.proofs.Stepping.{Does, Goes, Gone, Here, IsPut, Joins, Looks, Makes, Shuts, Stays, There}
use Rattle.net_relation.proofs.Stepping.{is_put}
use Rattle.net_relation.proofs.Stepping.{join_found, look, stores_linked, stores_look, with_look}
use Rattle.net_relation.proofs.Whole.{does_net}
use Rattle.net_relation.proofs.Providing.{Stood, copies_find, providers_have}

-- ---- a node joins

-- a node of the session behind the first commit is one of before, or the node that stores the new one
stored_nodes : (t : Past) (j : Join t.world) (P : Node → Type 0) →
    ((name : List ℕ) (o : Node) → nodes_in t.world.places name ≡ Some o → P o) → P (giver j) →
    (name : List ℕ) (o : Node) → nodes_of (stores_look j) name ≡ Some o → P o
stored_nodes t j P old new name o is = by (bytes_eq name j.seat.name) is
  where
    by : (b : Bool) → node_in (cond b (Some (committing (stores j) j.seat.place)) (look t.world name)) ≡ Some o → P o
    by true there =
        subst P (one_found (giver j) o (sym (ap (option_map (with_deeds (stores j).deeds)) j.is.node) ∙ there)) new
    by false there = old name o there

stored_free : (t : Past) (j : Join t.world) (name : List ℕ) (o : Node) → nodes_of (stores_look j) name ≡ Some o →
    o.id ≢ j.new.id
stored_free t j =
    stored_nodes t j (λ o. o.id ≢ j.new.id) (λ name o is same. join_free t j name o is same) (giver_other t j)

-- The net of a database behind the first commit.
record Stored (set : ℕ) (t : Past) (j : Join t.world) : Type 0 where
  name : List ℕ
  place : Place
  found : stores_look j name ≡ Some place
  leader : Node
  at : place.node ≡ Some leader
  ended : List ℕ
  netted : Netted set ended (nodes_of (stores_look j)) place leader

giver_there : (t : Past) (j : Join t.world) → nodes_of (stores_look j) j.seat.name ≡ Some (giver j)
giver_there t j =
    ap (λ b. node_in (cond b (Some (committing (stores j) j.seat.place)) (look t.world j.seat.name)))
    (bytes_itself j.seat.name)
    ∙ ap (option_map (with_deeds (stores j).deeds)) j.is.node

-- the new node is given no more of its stream than there is
stored_joining : (set : ℕ) (t : Past) (j : Join t.world) (s : Stored set t j) →
    Joining set s.ended t j (nodes_of (stores_look j)) s.place s.leader
stored_joining set t j s =
    by (is_put j.seat.name (committing (stores j) j.seat.place) (look t.world) s.name s.place s.found)
  where
    -- of the node that stores it
    own : giver j ≡ s.leader →
        (progress s.leader.id (knowledge (giver j)) ≤ length (read set (stream s.leader)))
        × AllByRecursion (Spares j.new.id) (read set (stream s.leader))
    own same = subst (λ (x : Node). (progress x.id (knowledge (giver j)) ≤ length (read set (stream x)))
        × AllByRecursion (Spares j.new.id) (read set (stream x))) same (
          let far = number_here j.seat.node.id (next_event j.seat) (knowledge j.seat.node).progress in
              let number = next_number t j.seat j.is in
              let long = length-map (stream (giver j)) (said set) in
              omega (arith, far, number, long),
          (tt, joined_spared t j set j.seat.name j.seat.node (ap node_in j.is.found ∙ j.is.node)),
        )

    -- of another one
    other : bytes_eq s.name j.seat.name ≡ false → look t.world s.name ≡ Some s.place →
        (progress s.leader.id (knowledge (giver j)) ≤ length (read set (stream s.leader)))
        × AllByRecursion (Spares j.new.id) (read set (stream s.leader))
    other differs there = (
      let reached = (s.netted.nodes j.seat.name (giver j) (giver_there t j) apart).reached in
          let behind = node_behind s.netted (giver j).id in
          omega (arith, reached, behind),
      joined_spared t j set s.name s.leader is,
    )
      where
        is : nodes_in t.world.places s.name ≡ Some s.leader
        is = ap node_in there ∙ s.at

        apart : j.seat.node.id ≢ s.leader.id
        apart same =
            let one = (regular_now t).nodes.apart s.name j.seat.name s.leader j.seat.node is
            (ap node_in j.is.found ∙ j.is.node) (sym same) in
            true≢false (sym (ap (bytes_eq s.name) (sym one) ∙ bytes_itself s.name) ∙ differs)

    both : (progress s.leader.id (knowledge (giver j)) ≤ length (read set (stream s.leader)))
        × AllByRecursion (Spares j.new.id) (read set (stream s.leader)) →
        Joining set s.ended t j (nodes_of (stores_look j)) s.place s.leader
    both is = record {
      netted = s.netted;
      free = stored_free t j;
      other = stored_free t j s.name s.leader (ap node_in s.found ∙ s.at);
      far = is.0;
      spares = is.1;
    }

    by : IsPut j.seat.name (committing (stores j) j.seat.place) (look t.world) s.name s.place →
        Joining set s.ended t j (nodes_of (stores_look j)) s.place s.leader
    by (Here at same) =
        both (own (one_found (giver j) s.leader
        (sym (ap (option_map (with_deeds (stores j).deeds)) j.is.node)
        ∙ ap (λ (p : Place). p.node) (sym same) ∙ s.at)))
    by (There differs there) = both (other differs there)

joins_net : (set : ℕ) (a : List ℕ) (t : Past) (j : Join t.world) → NetAt set (WasUpTo t) a (stores_look j) →
    NetAt set (WasUpTo t) a (with_look j.new.name (committing (joins j) j.new.place) (stores_look j))
joins_net set a t j was r there = by (is_put j.new.name q g a r there)
  where
    q : Place
    q = committing (joins j) j.new.place

    g : Looks
    g = stores_look j

    joined_at : nodes_of (with_look j.new.name q g) ≡ placed j.new.name (Some (joined j)) (nodes_of g)
    joined_at = nodes_with j.new.name q g

    none : (i : Node) → nodes_of g j.new.name ≡ Some i → i.id ≡ j.new.id
    none i is =
        let never : None ≡ Some i =
        sym j.new.none ∙ ap node_in (sym (join_found t j (committing (stores j) j.seat.place))) ∙ is in
        absurd cc

    here : Origin set (WasUpTo t) a (nodes_of g) j.new.place →
        Origin set (WasUpTo t) a (nodes_of (with_look j.new.name q g)) q
    here o = record {
      ended = o.ended;
      clock = record { each = o.clock.each; count = o.clock.count; apart = o.clock.apart };
      is = λ y is.
          subst (λ (i : Node). Netted set o.ended (nodes_of (with_look j.new.name q g)) q i)
          (one_found (joined j) y is)
          (subst (λ all. Netted set o.ended all q (joined j)) (sym joined_at)
          (origin_placed (new_net set o.ended (nodes_of g) q (joined j) refl
          (record { each = o.clock.each; count = o.clock.count; apart = o.clock.apart })
          (λ name o is other. stored_nodes t j (λ o. (progress j.new.id (knowledge o) ≡ 0)
          × (moment_of j.new.id (view_of set (knowledge o)) ≡ None)) (joined_none t j set) (giver_none t j set) name o
          is))
          j.new.name none));
      -- it has logged nothing
      then = λ m same.
          then_still o.ended (λ l (y, is, among, own).
          absurd (subst (λ (i : Node). IsAmong l (logged i)) (sym (one_found (joined j) y is)) among)) (o.then m same);
    }

    by : IsPut j.new.name q g a r → Origin set (WasUpTo t) a (nodes_of (with_look j.new.name q g)) r
    by (Here at same) =
        subst (Origin set (WasUpTo t) a (nodes_of (with_look j.new.name q g))) (sym same)
        (here (was j.new.place (ap g at ∙ join_found t j (committing (stores j) j.seat.place))))
    by (There differs at) =
        let o = was r at in
        record {
          ended = o.ended;
          clock = o.clock;
          is = λ x is.
              let k = stored_joining set t j (record {
                name = a;
                place = r;
                found = at;
                leader = x;
                at = is;
                ended = o.ended;
                netted = o.is x is;
              }) in
              subst (λ all. Netted set o.ended all r x) (sym joined_at)
              (node_later k.netted j.new.name (joined j) none (joined_later k));
          then = o.then;
        }

-- ---- every command

-- a database that is made was not there before
made_new : (t : Past) (m : Moment (WasUpTo t)) → look t.world m.name ≡ None → ⊥
made_new t m none =
    let now = now_stays t m.session m.was m.name m.place m.node m.found m.at in
    let never : None ≡ Some now.0 = sym none ∙ now.1 in absurd cc

-- and is no node
makes_net : (set : ℕ) (a : List ℕ) (t : Past) (name : List ℕ) (q : Place) → look t.world name ≡ None →
    Born q → NetAt set (WasUpTo t) a (look t.world) → NetAt set (WasUpTo t) a (with_look name q (look t.world))
makes_net set a t name q none born was r there = by (is_put name q f a r there)
  where
    f : Looks
    f = look t.world

    same : nodes_of (with_look name q f) ≡ nodes_of f
    same = nodes_same name q f (born.node ∙ sym (ap node_in none))

    by : IsPut name q f a r → Origin set (WasUpTo t) a (nodes_of (with_look name q f)) r
    by (Here at is) = subst (Origin set (WasUpTo t) a (nodes_of (with_look name q f))) (sym is) (record {
      ended = born.ended;
      clock = born.clock;
      is = λ x at. let never : None ≡ Some x = sym born.node ∙ at in absurd cc;
      then = λ m here. absurd (made_new t m (ap f (here ∙ at) ∙ none));
    })
    by (There differs at) = subst (λ all. Origin set (WasUpTo t) a all r) (sym same) (was r at)

shut_went : (p q : Place) → Shut p q → Went p q
shut_went p q s = record { ticks = shut_ticks p q s; node = inl s.node }

-- what was so before, and what is so now
nets_up_to : (set : ℕ) (a : List ℕ) (t : Past) → NetAt set (WasBefore t) a (look t.world) →
    NetAt set (WasUpTo t) a (look t.world)
nets_up_to set a t was p found =
    record { ended = o.ended; clock = o.clock; is = o.is; then = λ m same. by m m.was same }
  where
    o : Origin set (WasBefore t) a (nodes_in t.world.places) p
    o = was p found

    now : (m : Moment (WasUpTo t)) → m.session ≡ t.world → m.name ≡ a →
        WasThen set o.ended p.node m.session m.place m.node
    now m here same = record {
      seen = subst (λ q. IsTaken (order_in o.ended) (length o.ended) (taken q)) (sym place)
          (taken_now p o.ended (sound_now t a p found) o.clock);
      logs = λ x is l among of. subst (λ (n : Node). IsAmong l (logged n)) (one_found x m.node (sym is ∙ at)) among;
      rows = λ k i is other u has.
          let there = ap (λ (w : World). nodes_in w.places k) (sym here) ∙ is in
          let matches = (o.is m.node at).nodes k i there other in
          matches.row u (ap (λ far. row unfed i.id (up_to far (read set (stream m.node)))) matches.reached ∙ has);
      has = subst (λ u. ProvidersHave set u m.node) (sym here) (providers_have set t stood);
      finds = subst (λ u. CopiesFind set u m.node) (sym here) (copies_find set t stood);
    }
      where
        place : m.place ≡ p
        place = one_found m.place p (sym m.found ∙ ap (λ (w : World). find_named m.name w.places) here
            ∙ ap (look t.world) same ∙ found)

        at : p.node ≡ Some m.node
        at = ap (λ (q : Place). q.node) (sym place) ∙ m.at

        stood : Stood set t
        stood = record {
          name = a;
          place = p;
          leader = m.node;
          at = ap node_in found ∙ at;
          ended = o.ended;
          netted = o.is m.node at;
        }

    by : (m : Moment (WasUpTo t)) → WasUpTo t m.session → m.name ≡ a →
        WasThen set o.ended p.node m.session m.place m.node
    by m (inl here) same = now m here same
    by m (inr before) same =
        o.then (record {
          session = m.session;
          was = before;
          name = m.name;
          place = m.place;
          found = m.found;
          node = m.node;
          at = m.at;
        }) same

net_step : (set : ℕ) (a : List ℕ) (t : Past) → NetAt set (WasUpTo t) a (look t.world) → (f : Looks) → Gone t f →
    NetAt set (WasUpTo t) a f
net_step set a t was f Stays = was
net_step set a t was f (Makes name q none born) = makes_net set a t name q none born was
net_step set a t was f (Goes name p q found went) = went_net set a (look t.world) name q found went was
net_step set a t was f (Does c p found does) = does_net set a t c p found does was
net_step set a t was f (Joins j) =
    joins_net set a t j (does_net set a t (stores j) j.seat.place j.is.found (stores_linked t j) was)
net_step set a t was f (Shuts g gone name p q found shut) =
    went_net set a g name q found (shut_went p q shut) (net_step set a t was g gone)

-- ---- every session

-- the order and the nets of a database
pub origin_now : (t : Past) (set : ℕ) (name : List ℕ) (p : Place) → find_named name t.world.places ≡ Some p →
    Origin set (WasBefore t) name (nodes_in t.world.places) p
origin_now t set name =
    holds_along (λ Was f. NetAt set Was name f) (λ p none. absurd cc)
    (λ t was f gone. net_step set name t (nets_up_to set name t was) f gone) t.limit t.history t.world t.leads

pub sessions_have_nets : SessionsHaveNets
sessions_have_nets limit history w leads name p found x at set = record {
  order = order_in o.ended;
  is = subst (IsOrder (order_in o.ended)) many (order_is o.ended o.clock.apart);
  now = subst (λ now. IsTaken (order_in o.ended) now (taken p)) many
      (taken_now p o.ended (sound_now (past limit history w leads) name p found) o.clock);
  net = record n.net { nodes = all_barred dropped n.net.nodes };
  leads = leads_on (first_net x.id) n.net _ n.leads (all_leads dropped n.net);
  matches = record {
    origin = record {
      origin = n.origin.origin;
      start = n.origin.start;
      stream = n.origin.stream;
      now = n.origin.now;
      full = n.origin.full;
      rows = n.origin.rows;
      bars = no_other x (exactly name x (ap node_in found ∙ at) n.origin.bars);
    };
    events =
        subst (λ now. AllByRecursion (λ e. IsTaken (order_in o.ended) now e.taken) (stream x)) (sym n.now) n.events;
    nodes = λ k i is other.
        subst (λ now. MatchesNode set (order_in o.ended) now x i (all_barred dropped n.net.nodes i.id)) (sym n.now)
        (barred_fits (frame set o.ended x) i (n.net.nodes i.id) _ (n.nodes k i is other)
        (no_other i (exactly k i is (n.nodes k i is other).whole.bars)));
    bars = λ k i is. exactly k i is (bars_no_other k i is);
  };
}
  where
    t : Past
    t = past limit history w leads

    o : Origin set (WasBefore t) name (nodes_in w.places) p
    o = origin_now t set name p found

    n : Netted set o.ended (nodes_in w.places) p x
    n = o.is x at

    many : length o.ended ≡ count_of (taken p)
    many = sym (count_is p o.ended o.clock)

    -- all that the nodes have as dropped
    dropped : List (ℕ × ℕ)
    dropped = pairs_in w.places

    exactly : (k : List ℕ) (i : Node) → nodes_in w.places k ≡ Some i →
        BarsNoOther (knowledge i).config (n.net.nodes i.id) →
        BarsExactly (knowledge i).config (all_barred dropped n.net.nodes i.id)
    exactly k i is =
        all_exactly w.places (regular_now t).once (regular_now t).nodes n.net.nodes k i is

    no_other : (i : Node) → BarsExactly (knowledge i).config (all_barred dropped n.net.nodes i.id) →
        BarsNoOther (knowledge i).config (all_barred dropped n.net.nodes i.id)
    no_other i is id barred = sym (is id) ∙ barred

    bars_no_other : (k : List ℕ) (i : Node) → nodes_in w.places k ≡ Some i →
        BarsNoOther (knowledge i).config (n.net.nodes i.id)
    bars_no_other k i is = elim (cases_eq i.id x.id) [
      | inl same ↦ subst (λ (m : Node). BarsNoOther (knowledge m).config (n.net.nodes m.id))
          (one_node (nodes_in w.places) (regular_now t).nodes name k x i (ap node_in found ∙ at) (is, sym same))
          n.origin.bars
      | inr other ↦ (n.nodes k i is other).whole.bars
    ]
