-- No event is behind the limit of stored numbers.
use Rattle.std.proofs.Common.{◌≡◌, ◌∙◌, ◌≤◌, ◌^◌, ◌==◌, ℕ, Bool, true, false, cond, List, [], ◌∷◌, filter, refl}
use Rattle.std.proofs.Common.{ap, arith}
use Rattle.std.specs.Prelude.{◌&&◌, nat_lt}
use Rattle.std.proofs.lemmas.Bool.{le-ltb}
use Rattle.slon_model.specs.Events.{Event}
use Rattle.event_store.specs.Regular.{AreFalling}

pub none_behind : (origin number : ℕ) (events : List Event) → 2 ^ 63 ≤ number → AreFalling events →
    filter (λ e. e.origin == origin && nat_lt number e.number) events ≡ []
none_behind origin number [] most falling = refl
none_behind origin number (e ∷ es) most falling =
    let less : nat_lt number e.number ≡ false = le-ltb number e.number (omega (arith, most, falling.0.1)) in
    ap (λ b. cond (e.origin == origin && b) (e ∷ rest) rest) less ∙ by (e.origin == origin)
    ∙ none_behind origin number es most falling.2
  where
    rest : List Event
    rest = filter (λ f. f.origin == origin && nat_lt number f.number) es

    by : (b : Bool) → cond (b && false) (e ∷ rest) rest ≡ rest
    by true = refl
    by false = refl
