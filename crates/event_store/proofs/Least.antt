-- The node that is least far is no farther than any other.
use Rattle.std.proofs.Common.{◌≡◌, ℕ, ◌≤◌, true, false, cond, List, [], ◌∷◌, Option, Some, None, refl, arith}
use Rattle.std.proofs.Common.{unwrap_or}
use Rattle.std.specs.Prelude.{◌==◌, nat_lt}
use Rattle.std.proofs.lemmas.Bool.{ltb-true, ltb-false}
use Rattle.slon_base.specs.Codec.{AllAre}
use Rattle.set_config.proofs.Entries.{eq_of}
use Rattle.set_config.proofs.Ranges.{are_map}
use Rattle.event_store.specs.Hearing.{number_of, lesser, with_node, least_from, LeastIsLeast}
use Rattle.event_store.specs.Streams.{Streams}

-- something is found, and it is no farther than this
IsUpTo : ℕ → Option (ℕ × ℕ) → Type 0
IsUpTo number None = ⊥
IsUpTo number (Some p) = p.1 ≤ number

lesser_stays : (number : ℕ) (least : Option (ℕ × ℕ)) (q : ℕ × ℕ) → IsUpTo number least →
    (lesser least q).1 ≤ number
unfolding IsUpTo
lesser_stays number None q up = absurd up
lesser_stays number (Some p) q up =
    elim (nat_lt q.1 p.1) as (λ b. nat_lt q.1 p.1 ≡ b → (cond b q p).1 ≤ number) [
      | true ↦ λ is. omega (arith, up, ltb-true q.1 p.1 is)
      | false ↦ λ is. up
    ] refl

lesser_up : (least : Option (ℕ × ℕ)) (q : ℕ × ℕ) → (lesser least q).1 ≤ q.1
lesser_up None q = omega arith
lesser_up (Some p) q =
    elim (nat_lt q.1 p.1) as (λ b. nat_lt q.1 p.1 ≡ b → (cond b q p).1 ≤ q.1) [
      | true ↦ λ is. omega arith
      | false ↦ λ is. ltb-false q.1 p.1 is
    ] refl

node_stays : (s : Streams) (origin number n : ℕ) (least : Option (ℕ × ℕ)) → IsUpTo number least →
    IsUpTo number (with_node s origin least n)
unfolding IsUpTo
node_stays s origin number n least up =
    elim (n == origin) as
    (λ b. IsUpTo number (cond b least (Some (lesser least (n, number_of s (origin, n)))))) [
      | true ↦ up
      | false ↦ lesser_stays number least (n, number_of s (origin, n)) up
    ]

list_stays : (s : Streams) (origin number : ℕ) (known : List ℕ) (least : Option (ℕ × ℕ)) → IsUpTo number least →
    IsUpTo number (least_from s origin least known)
list_stays s origin number [] least up = up
list_stays s origin number (n ∷ ns) least up =
    list_stays s origin number ns (with_node s origin least n) (node_stays s origin number n least up)

node_up : (s : Streams) (origin n : ℕ) (least : Option (ℕ × ℕ)) → (n ≡ origin → ⊥) →
    IsUpTo (number_of s (origin, n)) (with_node s origin least n)
unfolding IsUpTo
node_up s origin n least differ =
    elim (n == origin) as (λ b. (n == origin) ≡ b → IsUpTo (number_of s (origin, n))
    (cond b least (Some (lesser least (n, number_of s (origin, n)))))) [
      | true ↦ λ is. absurd (differ (eq_of n origin is))
      | false ↦ λ is. lesser_up least (n, number_of s (origin, n))
    ] refl

all_up : (s : Streams) (origin : ℕ) (known : List ℕ) (least : Option (ℕ × ℕ)) →
    AllAre (λ n. (n ≡ origin → ⊥) → IsUpTo (number_of s (origin, n)) (least_from s origin least known)) known
all_up s origin [] least = tt
all_up s origin (n ∷ ns) least = (
  λ differ. list_stays s origin (number_of s (origin, n)) ns (with_node s origin least n)
      (node_up s origin n least differ),
  all_up s origin ns (with_node s origin least n),
)

found_up : (number : ℕ) (least : Option (ℕ × ℕ)) (none : ℕ × ℕ) → IsUpTo number least →
    (unwrap_or least none).1 ≤ number
unfolding IsUpTo
found_up number None none up = absurd up
found_up number (Some p) none up = up

pub least_is_least : LeastIsLeast
least_is_least s origin known =
    are_map known (λ n up differ. found_up (number_of s (origin, n)) (least_from s origin None known)
    (origin, number_of s (origin, s.own)) (up differ)) (all_up s origin known None)
