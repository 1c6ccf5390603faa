-- The meta numbers of a database, as they are read.
use Rattle.std.proofs.Common.{◌≡◌, ℕ, ◌<◌, ◌^◌, Bool, true, false, cond, List, [], ◌∷◌, Option, Some, None, refl, sym}
use Rattle.std.proofs.Common.{ap, ◌∙◌}
use Rattle.std.proofs.Common.{is_some, arith}
use Rattle.std.specs.Prelude.{◌==◌, unwrap_or}
use Rattle.std.specs.Option.{option_map}
use Rattle.std.specs.FinMap.{get}
use Rattle.std.proofs.lemmas.Bool.{false≢true, eqb-true, false_from_ne_true}
use Rattle.slon_base.specs.Keeper.{Space, Store}
use Rattle.slon_base.specs.Codec.{number_bytes}
use Rattle.slon_model.specs.Deeds.{Node}
use Rattle.slon_model.specs.Place.{Place}
use Rattle.slon_laws.specs.Spelled.{IsSpelled}
use Rattle.node_state.specs.Held.{HasMeta, log_of}
use Rattle.app_store.specs.Restored.{AreOf}
use Rattle.app_store.specs.Spelled.{Holds, HasNumbers, IsMeta, entries_at, meta, stamp_key, xid_ceiling_key}
use Rattle.app_store.specs.Spelled.{action_ceiling_key, log_status_key, IsSmall}

pub some_same : {A : Type 0} (x y : A) → Some x ≡ Some y → x ≡ y
some_same x y e = ap (λ o. unwrap_or o x) e

pub not_some : {A : Type 0} (x : A) → None ≡ Some x → ⊥
not_some x e = false≢true (ap is_some e)

-- the stamp, if there is one
abbrev pub stamp_if : ℕ → Option ℕ
stamp_if stamp = cond (stamp == 0) None (Some stamp)

pub small_if : (stamp : ℕ) → stamp < 2 ^ 63 → IsSmall (stamp_if stamp)
small_if stamp small = elim (stamp == 0) as (λ b. IsSmall (cond b None (Some stamp))) [ true ↦ tt | false ↦ small ]

pub stamp_at : (stamp xids numbers : ℕ) (space : Space) → HasNumbers stamp xids numbers space →
    get space stamp_key ≡ option_map number_bytes (stamp_if stamp)
stamp_at stamp xids numbers space is =
    is.1.lookups 1 tt ∙ elim (stamp == 0) as (λ b. option_map (λ v. v)
    (cond b None (Some (number_bytes stamp))) ≡ option_map number_bytes (cond b None (Some stamp))) [
      | true ↦ refl
      | false ↦ refl
    ]

-- a number that stands beside a stamp
beside : (stamp xids numbers : ℕ) (node : Option Node) (key : ℕ) → (stamp == 0) ≡ false →
    option_map (λ v. v) (cond (stamp == 0) None (entries_at stamp xids numbers node key)) ≡ option_map (λ v. v)
    (entries_at stamp xids numbers node key)
beside stamp xids numbers node key some =
    ap (λ b. option_map (λ v. v) (cond b None (entries_at stamp xids numbers node key))) some

pub xids_at : (stamp xids numbers : ℕ) (space : Space) → (stamp == 0) ≡ false → HasNumbers stamp xids numbers space →
    get space xid_ceiling_key ≡ Some (number_bytes xids)
xids_at stamp xids numbers space some is = is.1.lookups 2 tt ∙ beside stamp xids numbers is.0 2 some

pub actions_at : (stamp xids numbers : ℕ) (space : Space) → (stamp == 0) ≡ false → HasNumbers stamp xids numbers space →
    get space action_ceiling_key ≡ Some (number_bytes numbers)
actions_at stamp xids numbers space some is = is.1.lookups 3 tt ∙ beside stamp xids numbers is.0 3 some

-- a stamp that was found is the one, and there is one
pub found_stamp : (s stamp : ℕ) → Some s ≡ stamp_if stamp → (s ≡ stamp) × ((stamp == 0) ≡ false)
found_stamp s stamp is =
    elim (stamp == 0) as (λ b. Some s ≡ cond b None (Some stamp) → (s ≡ stamp) × (b ≡ false)) [
      | true ↦ λ e. absurd (not_some s (sym e))
      | false ↦ λ e. (some_same s stamp e, refl)
    ] is

pub no_stamp : (stamp : ℕ) → None ≡ stamp_if stamp → stamp ≡ 0
no_stamp stamp is =
    elim (stamp == 0) as (λ b. (stamp == 0) ≡ b → None ≡ cond b None (Some stamp) → stamp ≡ 0) [
      | true ↦ λ zero e. eqb-true stamp 0 zero
      | false ↦ λ some e. absurd (not_some stamp e)
    ] refl is

-- which node a database is stands among its meta entries
pub named_in : (own : Option Node) (stamp xids numbers : ℕ) (space : Space) → IsMeta stamp xids numbers own space →
    (stamp ≡ 0 → own ≡ None) → HasMeta own space
named_in None stamp xids numbers space is bare = record {
  id = is.lookups 4 tt ∙ no_entry (stamp == 0);
  cluster = is.lookups 5 tt ∙ no_entry (stamp == 0);
}
  where
    no_entry : (b : Bool) → ◌≡◌ {A = Option (List ℕ)} (option_map (λ v. v) (cond b None None)) None
    no_entry true = refl
    no_entry false = refl
named_in (Some n) stamp xids numbers space is bare = record {
  id = is.lookups 4 tt ∙ beside stamp xids numbers (Some n) 4 (founded n stamp bare);
  cluster = is.lookups 5 tt ∙ beside stamp xids numbers (Some n) 5 (founded n stamp bare);
}
  where
    founded : (n : Node) (stamp : ℕ) → (stamp ≡ 0 → Some n ≡ None) → (stamp == 0) ≡ false
    founded n stamp bare = false_from_ne_true (stamp == 0) (λ is. let bad = bare (eqb-true stamp 0 is) in absurd cc)

-- and the status of its log
pub log_at : (own : Option Node) (stamp xids numbers : ℕ) (space : Space) → (stamp == 0) ≡ false →
    IsMeta stamp xids numbers own space → get space log_status_key ≡ Some (log_of own ∷ [])
log_at own stamp xids numbers space some is = is.lookups 6 tt ∙ beside stamp xids numbers own 6 some

-- a place that is held, as its store is read
pub are_of : (p : Place) (m : Store) → IsSpelled p → Holds p m →
    AreOf p.node p.stamp p.xids.ceiling p.numbers.ceiling m
are_of p m spelled holds = record {
  stamp_small = spelled.small.stamp;
  xids_small = spelled.small.xids;
  numbers_small = spelled.small.numbers;
  numbers_are = (p.node, holds.meta_numbers);
  node_held = holds.node_held;
  node_named = named_in p.node p.stamp p.xids.ceiling p.numbers.ceiling (m meta) holds.meta_numbers holds.bare;
}

-- the status of the log of the node that a place is
pub log_of_place : {p : Place} {m : Store} (n : Node) → Holds p m → 0 < p.stamp → p.node ≡ Some n →
    get (m meta) log_status_key ≡ Some (log_of (Some n) ∷ [])
log_of_place {p} {m} n holds founded is =
    log_at p.node p.stamp p.xids.ceiling p.numbers.ceiling (m meta)
    (false_from_ne_true (p.stamp == 0) (λ zero. let none = eqb-true p.stamp 0 zero in
    absurd (omega (arith, none, founded)))) holds.meta_numbers
    ∙ ap (λ own. Some (log_of own ∷ [])) is
