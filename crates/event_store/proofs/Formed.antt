-- What is read, and what is not in its form.
use Rattle.std.proofs.Common.{◌≡◌, ℕ, Result, Err, sym, ap, subst, ◌∙◌}
use Rattle.store_rows.specs.declared.stop.Stop.{Stop}
use Rattle.store_rows.specs.declared.stop.Stop.TheVariants.{Failed, NoMemory, BadRow, TooBig}
use Rattle.store_rows.specs.Steps.{IsOutside, IsOfSpace}
pub use Rattle.set_config.proofs.Holding.{gives_stop}
use Rattle.event_store.specs.Formed.{Lacks, StopsAt, Reads, ReadsBelow}

-- what was read is in its form
pub none_lacks : {space : ℕ} {IsFormed : Type 0} → IsFormed → (other : ℕ) → Lacks space IsFormed other → ⊥
none_lacks formed other lacks = lacks.1 formed

-- what stands would have been read, so it is not in its form
pub stops_at : (space : ℕ) (IsFormed : Type 0) (stop : Stop) → IsOfSpace space stop → (IsFormed → IsOutside stop) →
    StopsAt (Lacks space IsFormed) stop
stops_at space IsFormed Failed of unless = tt
stops_at space IsFormed NoMemory of unless = tt
stops_at space IsFormed (BadRow other) of unless = (of, unless)
stops_at space IsFormed (TooBig other) of unless = of

-- the caller is handed what was handed
pub stops_as : (few many : ℕ → Type 0) (stop : Stop) → ((space : ℕ) → few space → many space) →
    StopsAt few stop → StopsAt many stop
stops_as few many Failed on stops = tt
stops_as few many NoMemory on stops = tt
stops_as few many (BadRow space) on stops = on space stops
stops_as few many (TooBig space) on stops = stops

-- a stop that is passed on
pub passes_on : {U : Type 0} (few many : ℕ → Type 0) {stop : Stop} (result : Result U Stop) →
    (y : Stop) × (result ≡ Err y) × (y ≡ stop) → ((space : ℕ) → few space → many space) → StopsAt few stop →
    Reads many result
passes_on few many {stop} result (y, is, same) on stops =
    subst (λ r. Reads many r) (sym (is ∙ ap (λ e. Err e) same)) (stops_as few many stop on stops)

-- a stop for the store or for want of memory
pub outside_below : {U : Type 0} (handed : ℕ → Type 0) {stop : Stop} (result : Result U Stop) →
    (y : Stop) × (result ≡ Err y) × (y ≡ stop) → IsOutside stop → ReadsBelow handed result
outside_below {U} handed {stop} result (y, is, same) outside =
    subst (λ r. ReadsBelow handed r) (sym (is ∙ ap (λ e. Err e) same)) (of stop outside)
  where
    of : (stop : Stop) → IsOutside stop → ReadsBelow {T = U} handed (Err stop)
    of Failed outside = tt
    of NoMemory outside = tt
    of others outside = absurd outside
