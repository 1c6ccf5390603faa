-- A node that emits an event and carries it out.
use Rattle.std.proofs.Common.{◌≡◌, ℕ, sym, ap, subst, ◌∙◌, arith}
use Rattle.std.specs.Prelude.{Result, Err}
use Rattle.slon_base.specs.Keeper.{Store, Kept}
use Rattle.store_rows.specs.Rows.{IsId}
use Rattle.store_rows.specs.declared.stop.Stop.{Stop}
use Rattle.store_rows.specs.declared.stop.Stop.TheVariants.{Failed, TooBig}
use Rattle.store_rows.specs.Steps.{IsOutside}
use Rattle.node_rows.specs.Spellings.{CanBody}
use Rattle.slon_model.specs.Maps.{number_at}
use Rattle.slon_model.specs.Events.{Event}
use Rattle.slon_model.specs.Config.{change}
use Rattle.slon_model.specs.Deeds.{Node, knowledge}
use Rattle.set_config.specs.Holds.{Shows}
use Rattle.event_store.specs.Emitting.{EmitsNext, next_number}
use Rattle.event_store.specs.Holds.{ShowsStreams}
use Rattle.event_store.specs.Keeping.{KeepsViews}
use Rattle.event_store.specs.Spellings.{IsStored}
use Rattle.event_store.specs.Streams.{streams_of, emitted}
use Rattle.node_state.specs.Held.{NodeHeld, IsMet}
use Rattle.node_state.specs.Known.{IsHomed}
use Rattle.node_change.specs.Announced.{Announces}
use Rattle.node_change.specs.Done.{HasEmitted}
use Rattle.node_change.proofs.Meeting.{has_emitted}

-- An event that a node emits: what the store held, what it held with the event, and what it holds now.
pub record Emission (n : Node) (e : Event) (m mid new : Store) : Type 0 where
  pub held : NodeHeld n m
  pub own : e.origin ≡ n.id
  pub next : e.number ≡ next_number (streams_of n)
  pub small : IsStored e.number
  pub keeps : KeepsViews e.body
  pub can : CanBody e.body
  pub home : IsHomed e.body (knowledge n).config
  pub streams : ShowsStreams m (emitted e (streams_of n)) mid
  pub config : Shows mid (change e (knowledge n).config) new

-- it has a name in a store, and is behind all events that the node met
pub emission : {n : Node} {e : Event} {m mid new : Store} → Emission n e m mid new → HasEmitted n e m new
emission {n} {e} em = has_emitted (record {
  held = em.held;
  named = (subst IsId (sym em.own) em.held.id, em.small);
  takes = record {
    known = subst (λ id. IsMet id (knowledge n).config) (sym em.own) em.held.self;
    later =
        let same = ap (λ o. number_at o (knowledge n).progress) em.own in
        let next = em.next in
        omega (arith, same, next);
  };
  home = em.home;
  keeps = em.keeps;
  can = em.can;
  streams = em.streams;
  config = em.config;
})

-- ---- work that stopped

-- no event was emitted
pub emit_stops : (n : Node) (m : Store) (event : ℕ → Event) (old new : Kept) {stop : Stop} (result : Result ℕ Stop) →
    (y : Stop) × (result ≡ Err y) × (y ≡ stop) → EmitsNext m (streams_of n) event old new (Err stop) →
    Announces n m event old new result
emit_stops n m event old new {stop} result (y, is, same) emits =
    subst (Announces n m event old new) (sym (is ∙ ap (λ e. Err e) same)) (of stop emits)
  where
    of : (stop : Stop) → EmitsNext m (streams_of n) event old new (Err stop) →
        Announces n m event old new (Err stop)
    of (TooBig space) emits = emits
    of Failed emits = emits
    of others emits = emits

-- it was not carried out
pub change_stops : (n : Node) (m : Store) (event : ℕ → Event) (old new : Kept) {stop : Stop} (result : Result ℕ Stop) →
    (y : Stop) × (result ≡ Err y) × (y ≡ stop) → IsOutside stop → Announces n m event old new result
change_stops n m event old new {stop} result (y, is, same) outside =
    subst (Announces n m event old new) (sym (is ∙ ap (λ e. Err e) same)) (of stop outside)
  where
    of : (stop : Stop) → IsOutside stop → Announces n m event old new (Err stop)
    of (TooBig space) outside = absurd outside
    of Failed outside = tt
    of others outside = outside
