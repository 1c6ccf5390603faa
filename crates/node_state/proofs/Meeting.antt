-- Which nodes a node has events of.
use Rattle.std.proofs.Common.{◌≡◌, ℕ, Bool, true, false, cond, [], ◌∷◌, Some, refl, sym, ap, ◌∙◌, is_some, unwrap_or}
use Rattle.std.specs.Prelude.{◌==◌}
use Rattle.std.proofs.lemmas.Bool.{eqb-true}
use Rattle.slon_model.specs.Maps.{Map, entry_at, number_at}
use Rattle.slon_model.specs.Config.{Config}
use Rattle.node_state.specs.Held.{AreMet}

-- it has none of a node that it does not know
pub unmet : (id : ℕ) (progress : Map ℕ) (c : Config) → AreMet progress c → is_some (entry_at id c.nodes) ≡ false →
    number_at id progress ≡ 0
unmet id [] c met unknown = refl
unmet id (e ∷ es) c met unknown = step (id == e.0) refl (unmet id es c met.1 unknown)
  where
    step : (same : Bool) → (id == e.0) ≡ same → number_at id es ≡ 0 →
        unwrap_or (cond same (Some e.1) (entry_at id es)) 0 ≡ 0
    step true same rest =
        let known = ap (λ q. is_some (entry_at q c.nodes)) (eqb-true id e.0 same) in
        let bad : true ≡ false = sym met.0 ∙ sym known ∙ unknown in
        absurd cc
    step false other rest = rest
