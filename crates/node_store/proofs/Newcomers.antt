-- A node that joins: what the event node holds and knows behind the event that stores it.
use Rattle.std.proofs.Common.{◌≡◌, ℕ, true, cond, List, [], ◌∷◌, Some, Result, Err, refl, sym, ap, subst}
use Rattle.std.proofs.Common.{◌∙◌, is_some}
use Rattle.std.proofs.lemmas.Bool.{eq-eqb}
use Rattle.slon_base.specs.Keeper.{Store, Kept, put_at}
use Rattle.node_rows.specs.declared.body.Body.{Body}
use Rattle.node_rows.specs.declared.body.Body.TheVariants.{StoreNode}
use Rattle.set_config.proofs.Entries.{entry-with}
use Rattle.slon_model.specs.Config.{change_by}
use Rattle.slon_model.specs.Deeds.{Node, knowledge}
use Rattle.slon_model.specs.Sessions.{Emission}
use Rattle.slon_model.specs.Maps.{Map, entry_at, with_entry}
use Rattle.store_rows.specs.Steps.{IsOutside}
use Rattle.store_rows.specs.declared.stop.Stop.{Stop}
use Rattle.store_rows.specs.declared.stop.Stop.TheVariants.{TooBig}
use Rattle.node_change.specs.declared.side.Failed.{Failed}
use Rattle.node_state.specs.Held.{HoldsNode}
use Rattle.node_state.proofs.Staying.{node_stays}
use Rattle.node_state.specs.declared.memory.NodeMemory.{NodeMemory}
use Rattle.node_change.specs.declared.side.Side.{Side}
use Rattle.node_change.specs.declared.side.Side.TheVariants.{From, To}
use Rattle.node_store.specs.Acting.{Emitter, WritesEvents, behind, bodies_in, next_event}
use Rattle.node_store.specs.Joining.{Newcomer, Stamps, WritesBoth, StopsEvent}
use Rattle.app_store.specs.Spelled.{meta, stamp_key}
use Rattle.app_store.proofs.Holding.{put_other}

-- what is said of two stores
pub record Ends : Type 0 where
  pub from : Kept
  pub to : Kept

-- the stamp of the transaction is no part of the node
pub held_after : (n : Node) (store : Store) (bytes : List ℕ) → HoldsNode (Some n) store →
    HoldsNode (Some n) (put_at meta stamp_key bytes store)
held_after n store bytes held =
    node_stays (Some n) store _ (λ space other. put_other meta stamp_key bytes store space refl other) held

known_with : {X : Type 0} (id : ℕ) (x : X) (es : Map X) → is_some (entry_at id (with_entry id x es)) ≡ true
known_with id x es =
    ap is_some (entry-with id id x es) ∙ ap (λ b. is_some (cond b (Some x) (entry_at id es))) (eq-eqb id id refl)

-- a node that is stored is known
pub stored_known : (id : ℕ) (comment : List ℕ) (e : Emitter) (body : Body) → bodies_in e.parts ≡ body ∷ [] →
    body ≡ StoreNode id comment →
    is_some (entry_at id (knowledge (behind e.place e.node e.parts)).config.nodes) ≡ true
stored_known id comment e body bodies is = by e.parts bodies
  where
    by : (parts : List Emission) → bodies_in parts ≡ body ∷ [] →
        is_some (entry_at id (knowledge (behind e.place e.node parts)).config.nodes) ≡ true
    by [] bodies = absurd cc
    by (m ∷ []) bodies =
        let first : m.body ≡ StoreNode id comment = cc in
        let event = next_event e.place e.node m.body in
        ap (λ b. is_some (entry_at id (change_by event.origin event.number b (knowledge e.node).config).nodes)) first
        ∙ known_with id _ (knowledge e.node).config.nodes
    by (m ∷ k ∷ more) bodies = absurd cc

-- a stop of the event node, and a stop of either
pub stops_event : (k : Kept) (e : Emitter) (stamp : ℕ) (stop : Stop) → WritesEvents e stamp (Err stop) k →
    StopsEvent e From stop
stops_event k e stamp (TooBig space) stops = stops
stops_event k e stamp others stops = stops

stops_outside : (e : Emitter) (side : Side) (stop : Stop) → IsOutside stop → StopsEvent e side stop
stops_outside e From (TooBig space) only = absurd only
stops_outside e From others only = only
stops_outside e To stop only = only

-- a stop that is handed on, of both
pub both_short : {f : Failed} (e : Emitter) (new : Newcomer) (stamps : Stamps) (two : Ends)
    (result : Result (ℕ × NodeMemory) Failed) → (y : Failed) × (result ≡ Err y) × (y ≡ f) → IsOutside f.stop →
    WritesBoth e new stamps result two.from two.to
both_short {f} e new stamps two result (y, is, same) only =
    subst (λ r. WritesBoth e new stamps r two.from two.to) (sym is)
    (stops_outside e y.side y.stop (subst (λ (g : Failed). IsOutside g.stop) (sym same) only))
