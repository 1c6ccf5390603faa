-- What a node takes of a set with a SYNC from its provider is what it would take from the origin.
use Rattle.std.proofs.Common.{◌≡◌, ℕ, List, [], ◌∷◌, Option, Some, refl, sym, ap, subst, ◌∙◌, map, unwrap_or, suc, ◌≤◌}
use Rattle.std.specs.Prelude.{◌==◌, option_map}
use Rattle.std.specs.List.{AllByRecursion}
use Rattle.std.proofs.lemmas.Bool.{eqb-true}
use Rattle.node_rows.specs.declared.rows.Subscription.{Subscription}
use Rattle.slon_model.specs.Maps.{pair_at}
use Rattle.slon_model.specs.Rows.{Rows}
use Rattle.slon_model.specs.Events.{Event, is_sync}
use Rattle.slon_model.specs.Deeds.{Knowledge, knowledge, progress}
use Rattle.slon_model.specs.Following.{Found, SetSync, kept_from, set_sync}
use Rattle.slon_model.specs.Logs.{logged}
use Rattle.slon_model.specs.Sessions.{Seat}
use Rattle.slon_model.specs.Views.{View, Views}
use Rattle.stream_laws.specs.Nodes.{IsAmong, IsEvent, nodes_in}
use Rattle.stream_laws.proofs.Copies.{AreTakenOf, IsFollowed, IsTakenOf}
use Rattle.stream_laws.proofs.Lists.{among_all}
use Rattle.stream_laws.proofs.Seats.{seat_node}
use Rattle.stream_laws.proofs.Works.{IsWork}
use Rattle.image_laws.specs.Deltas.{applied}
use Rattle.image_laws.proofs.Logging.{filtered_among}
use Rattle.view_laws.specs.Contents.{actions_on}
use Rattle.view_laws.specs.Past.{Past}
use Rattle.view_laws.proofs.Rising.{stands_found}
use Rattle.view_laws.proofs.Viewed.{rising_now}
use Rattle.net_relation.specs.Laws.{Keeper}
use Rattle.net_relation.proofs.Consequences.{keepers_subscribe}
use Rattle.net_relation.proofs.Serving.{providers_give_the_same}
use Rattle.follow_laws.proofs.Contents.{synced}

-- A node finds what there is for a SYNC, which is its next event.
pub record Follow (u : Past) : Type 0 where
  pub origin : ℕ
  pub seat : Seat
  pub event : Event
  pub work : IsWork u.world origin seat event
  pub read : Found
  pub follows : IsFollowed u.world seat event read

-- what it would take from the origin
abbrev pub from_origin : {u : Past} → Follow u → ℕ × View → SetSync
from_origin y = set_sync y.seat.node.id (knowledge y.seat.node) y.event (logged y.work.event.node)

-- the set is kept
abbrev keeper_of : (u : Past) (y : Follow u) (v : ℕ × View) →
    IsAmong v (kept_from y.event.origin (knowledge y.seat.node)) → Keeper u.world v.0 y.work.event.node
keeper_of u y v among =
    let there = filtered_among (λ w. w.1.origin == y.event.origin) v (knowledge y.seat.node).views among in
    let own = seat_node u.world.places y.seat y.work.seat in
    record {
      name = y.seat.name;
      node = y.seat.node;
      is = own;
      view = v.1;
      keeps = stands_found v.0 v.1 (knowledge y.seat.node).views (rising_now u y.seat.name y.seat.node own) there.0;
      own = eqb-true v.1.origin y.event.origin there.1 ∙ sym y.work.event.own;
    }

taken_same : (u : Past) (y : Follow u) (v : ℕ × View) → IsAmong v (kept_from y.event.origin (knowledge y.seat.node)) →
    (z : SetSync) → IsTakenOf u.world y.seat y.event v z → z.rows ≡ (from_origin y v).rows
taken_same u y v among z taken =
    ap (λ (s : SetSync). s.rows) taken.is
    ∙ ap (λ k. (set_sync y.seat.node.id k y.event (logged taken.provider.node) v).rows) known
    ∙ providers_give_the_same u.limit u.history u.world u.leads x.name x.node x.is v.0 keeper y.event (record {
      name = taken.provider.name;
      node = taken.provider.node;
      is = seat_node u.world.places taken.provider taken.reached.0.0.0;
      row = row.0;
      has = row.1;
      own = sym (taken.reached.0.0.1
          ∙ ap (λ (k : Knowledge). provider_by (pair_at v.0 y.seat.node.id k.config.subscriptions)) known
          ∙ ap provider_by row.1);
      among = x.among;
      sync = ap is_sync y.follows.body;
      next = y.work.next ∙ ap (λ i. suc (progress i (knowledge y.seat.node))) (sym x.own);
      applied =
          subst (λ i. y.event.number ≤ progress i (knowledge taken.provider.node)) (sym x.own) taken.reached.1;
    })
  where
    x : IsEvent (nodes_in u.world.places) y.event
    x = y.work.event

    known : y.seat.known ≡ knowledge y.seat.node
    known = y.work.seat.known

    keeper : Keeper u.world v.0 x.node
    keeper = keeper_of u y v among

    row : (s : Subscription) × (pair_at v.0 y.seat.node.id (knowledge y.seat.node).config.subscriptions ≡ Some s)
    row = keepers_subscribe u.limit u.history u.world u.leads x.name x.node x.is v.0 keeper

    provider_by : Option Subscription → ℕ
    provider_by o = unwrap_or (option_map (λ (s : Subscription). s.provider) o) y.event.origin

synced_by : (u : Past) (y : Follow u) (table : List ℕ) (vs : Views) (zs : List SetSync) →
    AreTakenOf u.world y.seat y.event vs zs →
    AllByRecursion (λ v. (z : SetSync) → IsTakenOf u.world y.seat y.event v z → z.rows ≡ (from_origin y v).rows) vs →
    (rows : Rows) → synced table zs rows ≡ synced table (map (from_origin y) vs) rows
synced_by u y table [] [] taken same rows = refl
synced_by u y table (v ∷ vs) (z ∷ zs) taken same rows =
    synced_by u y table vs zs taken.1 same.1 (applied (actions_on table z.rows) rows)
    ∙ ap (λ ls. synced table (map (from_origin y) vs) (applied (actions_on table ls) rows)) (same.0 z taken.0)
synced_by u y table [] (z ∷ zs) taken same rows = absurd taken
synced_by u y table (v ∷ vs) [] taken same rows = absurd taken

-- so it is with what comes to a table, of all sets of the origin
pub synced_same : (u : Past) (y : Follow u) (table : List ℕ) (rows : Rows) →
    synced table y.follows.syncs rows
    ≡ synced table (map (from_origin y) (kept_from y.event.origin (knowledge y.seat.node))) rows
synced_same u y table rows =
    synced_by u y table (kept_from y.event.origin y.seat.known) y.follows.syncs y.follows.taken
    (among_all (λ v. (z : SetSync) → IsTakenOf u.world y.seat y.event v z → z.rows ≡ (from_origin y v).rows)
    (kept_from y.event.origin y.seat.known)
    (λ v among. taken_same u y v (subst (λ k. IsAmong v (kept_from y.event.origin k)) y.work.seat.known among))) rows
    ∙ ap (λ k. synced table (map (from_origin y) (kept_from y.event.origin k)) rows) y.work.seat.known
