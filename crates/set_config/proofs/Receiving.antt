-- The receivers of a set, taken away and put, one after the other.
use Rattle.std.proofs.Common.{◌≡◌, ℕ, Bool, true, false, cond, List, [], ◌∷◌, Option, Some, None, refl, sym, ap}
use Rattle.std.proofs.Common.{◌∙◌, is_some, unwrap_or}
use Rattle.std.specs.Prelude.{◌==◌}
use Rattle.slon_base.specs.Codec.{AllAre}
use Rattle.slon_base.specs.Keeper.{Store}
use Rattle.store_rows.specs.Rows.{IsId}
use Rattle.node_rows.specs.declared.rows.Subscription.{Subscription}
use Rattle.slon_model.specs.Maps.{Map2, entry_at, with_entry, without_entry, row_at, pair_at, without_pair}
use Rattle.slon_model.specs.Events.{Feed}
use Rattle.slon_model.specs.Config.{Config, fed}
use Rattle.set_config.specs.Holds.{Shows}
use Rattle.set_config.specs.Rows.{each, take_receiver, with_feeds, row_of}
use Rattle.set_config.proofs.Entries.{eq_of, self_eq, entry-without, row-with, twice}
use Rattle.set_config.proofs.Holding.{drops_pair, with_subscriptions, same_subscriptions}

-- the subscriptions, once that of a row is taken away
abbrev taking : {X : Type 0} → ℕ → ℕ × X → Map2 X → Map2 X
taking set e m = without_pair set e.0 m

shows_each : {base : Store} {c : Config} (set : ℕ) (rows : List (ℕ × Subscription)) (m : Store) → IsId set →
    AllAre (λ e. IsId e.0) rows → Shows base c m →
    Shows base (record c { subscriptions = each (taking set) rows c.subscriptions }) (each (take_receiver set) rows m)
shows_each set [] m id ids s = s
shows_each {c = c} set (e ∷ es) m id ids s =
    shows_each {c = record c { subscriptions = taking set e c.subscriptions }} set es (take_receiver set e m) id ids.1
    (with_subscriptions m (drops_pair (set, e.0) c.subscriptions (id, ids.0)) s)

-- ---- what stands at two ids

-- where one receiver of a set was taken away
pair-taking : {X : Type 0} (set a q : ℕ) (e : ℕ × X) (m : Map2 X) → pair_at a q (taking set e m)
    ≡ cond (a == set) (cond (q == e.0) None (pair_at a q m)) (pair_at a q m)
pair-taking set a q e m =
    ap (entry_at q) (row-with a set (without_entry e.0 (row_at set m)) m)
    ∙ elim (a == set) as (λ b. (a == set) ≡ b → entry_at q (cond b (without_entry e.0 (row_at set m)) (row_at a m))
    ≡ cond b (cond (q == e.0) None (pair_at a q m)) (pair_at a q m)) [
      | true ↦ λ is. entry-without q e.0 (row_at set m)
          ∙ ap (λ s. cond (q == e.0) None (pair_at s q m)) (sym (eq_of a set is))
      | false ↦ λ other. refl
    ] refl

-- where all of these were
pair-each : {X : Type 0} (set a q : ℕ) (rows : List (ℕ × X)) (m : Map2 X) → pair_at a q (each (taking set) rows m)
    ≡ cond (a == set) (cond (is_some (row_of (λ x y. x == y) q rows)) None (pair_at a q m)) (pair_at a q m)
pair-each {X} set a q [] m = by (a == set) (pair_at a q m)
  where
    by : (b : Bool) (o : Option X) → o ≡ cond b o o
    by true o = refl
    by false o = refl
pair-each {X} set a q (e ∷ es) m =
    pair-each set a q es (taking set e m)
    ∙ ap (λ o. cond (a == set) (cond (is_some (row_of (λ x y. x == y) q es)) None o) o) (pair-taking set a q e m)
    ∙ by (a == set) (q == e.0) (row_of (λ x y. x == y) q es) (pair_at a q m)
  where
    by : (b t : Bool) (found o : Option X) →
        cond b (cond (is_some found) None (cond b (cond t None o) o)) (cond b (cond t None o) o)
        ≡ cond b (cond (is_some (cond t (Some e.1) found)) None o) o
    by false t found o = refl
    by true true None o = refl
    by true true (Some x) o = refl
    by true false found o = refl

-- where the set has no receiver
row-cleared : {X : Type 0} (set a : ℕ) (m : Map2 X) → row_at a (without_entry set m) ≡ cond (a == set) [] (row_at a m)
row-cleared {X} set a m = ap (λ o. unwrap_or o []) (entry-without a set m) ∙ by (a == set)
  where
    by : (b : Bool) → unwrap_or (cond b None (entry_at a m)) [] ≡ cond b [] (row_at a m)
    by true = refl
    by false = refl

cleared : {X : Type 0} (set a q : ℕ) (rows : List (ℕ × X)) (m : Map2 X) →
    row_of (λ x y. x == y) q rows ≡ pair_at set q m →
    pair_at a q (each (taking set) rows m) ≡ pair_at a q (without_entry set m)
cleared {X} set a q rows m all =
    pair-each set a q rows m ∙ by (a == set) refl ∙ ap (entry_at q) (sym (row-cleared set a m))
  where
    none : (o : Option X) → cond (is_some o) None o ≡ None
    none None = refl
    none (Some x) = refl

    by : (b : Bool) → (a == set) ≡ b →
        cond b (cond (is_some (row_of (λ x y. x == y) q rows)) None (pair_at a q m)) (pair_at a q m)
        ≡ entry_at q (cond b [] (row_at a m))
    by true is =
        ap (λ o. cond (is_some o) None (pair_at a q m)) (all ∙ ap (λ s. pair_at s q m) (sym (eq_of a set is)))
        ∙ none (pair_at a q m)
    by false other = refl

-- all receivers of the set are taken away
pub shows_cleared : {base : Store} {c : Config} (set : ℕ) (rows : List (ℕ × Subscription)) (m : Store) → IsId set →
    AllAre (λ e. IsId e.0) rows →
    ((q : ℕ) → IsId q → row_of (λ a b. a == b) q rows ≡ pair_at set q c.subscriptions) → Shows base c m →
    Shows base (record c { subscriptions = without_entry set c.subscriptions }) (each (take_receiver set) rows m)
shows_cleared {c = c} set rows m id ids all s =
    same_subscriptions (without_entry set c.subscriptions)
    (λ i one. sym (cleared set i.0 i.1 rows c.subscriptions (all i.1 one.1))) (shows_each set rows m id ids s)

-- ---- feeds

-- the receivers of a set that had none are those of the feeds
row-fed : (set a : ℕ) (feeds : List Feed) (m : Map2 Subscription) → row_at set m ≡ [] →
    row_at a (with_feeds set feeds m) ≡ cond (a == set) (fed feeds) (row_at a m)
row-fed set a [] m none = by (a == set) refl
  where
    by : (b : Bool) → (a == set) ≡ b → row_at a m ≡ cond b [] (row_at a m)
    by true is = ap (λ s. row_at s m) (eq_of a set is) ∙ none
    by false other = refl
row-fed set a (f ∷ fs) m none =
    let row : Subscription = record { provider = f.1.0; forward = f.1.1; mark = 0 } in
    let later = with_feeds set fs m in
    let more : row_at set later ≡ fed fs =
    row-fed set set fs m none ∙ ap (λ b. cond b (fed fs) (row_at set m)) (self_eq set) in
    row-with a set (with_entry f.0 row (row_at set later)) later
    ∙ ap (λ r. cond (a == set) (with_entry f.0 row r) (row_at a later)) more
    ∙ ap (cond (a == set) (with_entry f.0 row (fed fs))) (row-fed set a fs m none)
    ∙ sym (twice (a == set) (with_entry f.0 row (fed fs)) (fed fs) (row_at a m))

-- the feeds are put where the receivers were taken away
pub shows_fed : {base : Store} (c : Config) {m : Store} (set : ℕ) (feeds : List Feed) →
    Shows base (record c { subscriptions = with_feeds set feeds (without_entry set c.subscriptions) }) m →
    Shows base (record c { subscriptions = with_entry set (fed feeds) c.subscriptions }) m
shows_fed c set feeds s =
    same_subscriptions (with_entry set (fed feeds) c.subscriptions) (λ i ids. ap (entry_at i.1) (same i.0)) s
  where
    none : row_at set (without_entry set c.subscriptions) ≡ []
    none = row-cleared set set c.subscriptions ∙ ap (λ b. cond b [] (row_at set c.subscriptions)) (self_eq set)

    same : (a : ℕ) → row_at a (with_entry set (fed feeds) c.subscriptions)
        ≡ row_at a (with_feeds set feeds (without_entry set c.subscriptions))
    same a =
        row-with a set (fed feeds) c.subscriptions
        ∙ twice (a == set) (fed feeds) [] (row_at a c.subscriptions)
        ∙ ap (cond (a == set) (fed feeds)) (sym (row-cleared set a c.subscriptions))
        ∙ sym (row-fed set a feeds (without_entry set c.subscriptions) none)
