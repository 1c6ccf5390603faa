-- What becomes of an event that is emitted.
use Rattle.std.proofs.Common.{◌≡◌, ℕ, ◌+◌, Option, Result, Err, sym, ap, subst, ◌∙◌, arith, unwrap_or}
use Rattle.slon_base.specs.Keeper.{Store, Kept}
use Rattle.store_rows.specs.declared.stop.Stop.{Stop}
use Rattle.store_rows.specs.declared.stop.Stop.TheVariants.{Failed, NoMemory, BadRow, TooBig}
use Rattle.store_rows.specs.Steps.{IsOutside}
use Rattle.slon_model.specs.Maps.{entry_at}
use Rattle.slon_model.specs.Events.{Event}
use Rattle.event_store.specs.Streams.{Streams}
use Rattle.event_store.specs.Emitting.{EmitsNext, next_number}

-- the number after that of the last event
pub next_of : (s : Streams) (own : ℕ) (last : Option ℕ) (number : ℕ) → s.own ≡ own →
    last ≡ entry_at own s.progress → number ≡ unwrap_or last 0 → number + 1 ≡ next_number s
next_of s own last number own_is last_is is =
    let same = ap (λ o. unwrap_or o 0) (last_is ∙ ap (λ o. entry_at o s.progress) (sym own_is)) in
    omega (arith, is, same)

-- a stop for the store or for want of memory
pub emits_stop : (base : Store) (s : Streams) (event : ℕ → Event) (old new : Kept) {stop : Stop}
    (result : Result ℕ Stop) → (y : Stop) × (result ≡ Err y) × (y ≡ stop) → IsOutside stop →
    EmitsNext base s event old new result
emits_stop base s event old new {stop} result (y, is, same) outside =
    subst (EmitsNext base s event old new) (sym (is ∙ ap (λ e. Err e) same)) (of stop outside)
  where
    of : (stop : Stop) → IsOutside stop → EmitsNext base s event old new (Err stop)
    of Failed outside = tt
    of NoMemory outside = tt
    of (BadRow space) outside = outside
    of (TooBig space) outside = absurd outside
