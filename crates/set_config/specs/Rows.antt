-- Rows that are put and taken away, one after the other.
use Rattle.std.specs.Prelude.{ℕ, ◌==◌, if◌then◌else◌, Bool, false, List, [], ◌∷◌, Option, Some, None}
use Rattle.slon_base.specs.Codec.{number_bytes}
use Rattle.slon_base.specs.Keeper.{Store, put_at, del_at}
use Rattle.node_rows.specs.declared.rows.TableRow.{TableRow}
use Rattle.node_rows.specs.declared.rows.Subscription.{Subscription}
use Rattle.node_rows.specs.Spellings.{table_bytes}
use Rattle.slon_model.specs.Maps.{Map2, with_pair}
use Rattle.slon_model.specs.Events.{Feed}
use Rattle.set_config.specs.Holds.{pair_key}

-- a step for each of these, the first one first
abbrev pub each : {A S : Type 0} → (A → S → S) → List A → S → S
each step [] s = s
each step (a ∷ more) s = each step more (step a s)

-- the table of a row is dropped, if it is in the set
abbrev pub drop_row : ℕ → ℕ × TableRow → Store → Store
drop_row set e m =
    if e.1.set_id == set then put_at 7 (number_bytes e.0) (table_bytes (record e.1 { live = false })) m else m

-- the receiver of a row receives the set no longer
abbrev pub take_receiver : ℕ → ℕ × Subscription → Store → Store
take_receiver set e m = del_at 8 (pair_key (set, e.0)) m

-- the subscriptions with these feeds of a set, of which the first of a receiver stands
abbrev pub with_feeds : ℕ → List Feed → Map2 Subscription → Map2 Subscription
with_feeds set [] m = m
with_feeds set (f ∷ fs) m =
    with_pair set f.0 (record { provider = f.1.0; forward = f.1.1; mark = 0 }) (with_feeds set fs m)

-- the row at an id, by the test for ids that are the same
abbrev pub row_of : {J X : Type 0} → (J → J → Bool) → J → List (J × X) → Option X
row_of same j [] = None
row_of same j (r ∷ rs) = if same j r.0 then Some r.1 else row_of same j rs
