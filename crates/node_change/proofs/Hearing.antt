-- The nodes that are heard at a server, and those that are known, as the rows of all nodes list them.
use Rattle.std.proofs.Common.{◌≡◌, ℕ, Bool, true, false, cond, List, [], ◌∷◌, filter, refl, sym, ap, ◌∙◌}
use Rattle.std.specs.Prelude.{◌==◌, ◌&&◌, not, is_none}
use Rattle.node_rows.specs.declared.rows.NodeRow.{NodeRow}
use Rattle.slon_base.specs.Keeper.{Store}
use Rattle.node_rows.specs.Spellings.{node_bytes, CanNode}
use Rattle.slon_model.specs.Maps.{Map, ids, entry_at}
use Rattle.slon_model.specs.Config.{Config, hears, is_live, is_live_row, heard_in, is_known, known}
use Rattle.set_config.specs.Holds.{HoldsConfig}
use Rattle.node_state.proofs.Listing.{AreAt, HoldsMap, all_at}
use Rattle.node_state.specs.Held.{IsOrderly}
use Rattle.node_change.specs.Listening.{heard_among, known_among}

-- the rows of the nodes are in the store
pub nodes_held : {c : Config} {m : Store} → HoldsConfig c m → IsOrderly c → HoldsMap node_bytes CanNode c.nodes (m 4)
nodes_held held orderly = record { ordered = orderly.nodes; holds = held.nodes }

heard_at : (own server : ℕ) (c : Config) (es : Map NodeRow) → AreAt es c.nodes → heard_among own server c es
    ≡ filter (λ origin. not (origin == own) && hears own server origin c) (filter (λ node. is_live node c) (ids es))
heard_at own server c [] at = refl
heard_at own server c (e ∷ es) at =
    step e.1.live (heard_at own server c es at.1)
    ∙ ap (λ b. filter is_other (cond b (e.0 ∷ live) live)) (sym (ap is_live_row at.0))
  where
    is_other : ℕ → Bool
    is_other origin = not (origin == own) && hears own server origin c

    live : List ℕ
    live = filter (λ node. is_live node c) (ids es)

    step : (b : Bool) → heard_among own server c es ≡ filter is_other live →
        cond (b && is_other e.0) (e.0 ∷ heard_among own server c es) (heard_among own server c es)
        ≡ filter is_other (cond b (e.0 ∷ live) live)
    step true is = ap (λ l. cond (is_other e.0) (e.0 ∷ l) l) is
    step false is = is

pub heard_is : (own server : ℕ) (c : Config) → IsOrderly c →
    heard_among own server c c.nodes ≡ heard_in own server c
heard_is own server c orderly = heard_at own server c c.nodes (all_at c.nodes orderly.nodes.rising)

known_at : (c : Config) (es : Map NodeRow) → AreAt es c.nodes →
    known_among c es ≡ filter (λ node. is_known node c) (ids es)
known_at c [] at = refl
known_at c (e ∷ es) at =
    ap (λ b. cond (b && is_none (entry_at e.0 c.fences)) (e.0 ∷ known_among c es) (known_among c es))
    (sym (ap is_live_row at.0))
    ∙ ap (λ l. cond (is_known e.0 c) (e.0 ∷ l) l) (known_at c es at.1)

pub known_is : (c : Config) → IsOrderly c → known_among c c.nodes ≡ known c
known_is c orderly = known_at c c.nodes (all_at c.nodes orderly.nodes.rising)
