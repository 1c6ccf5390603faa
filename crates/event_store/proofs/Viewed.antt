-- What is read and kept of a set.
use Rattle.std.proofs.Common.{◌≡◌, ℕ, List, Option, Some, None, Result, Ok, Err, IfOk, IfErr, refl, ap, ◌∙◌}
use Rattle.std.specs.FinMap.{get}
use Rattle.std.specs.Option.{option_map}
use Rattle.slon_base.specs.Codec.{number_bytes}
use Rattle.slon_base.specs.Keeper.{Store}
use Rattle.store_rows.specs.declared.stop.Stop.{Stop}
use Rattle.store_rows.specs.Space.{AllOf}
use Rattle.store_rows.specs.Steps.{Gives, IsOfSpace}
use Rattle.slon_model.specs.Views.{View}
use Rattle.event_store.specs.declared.view.View as declared
use Rattle.event_store.specs.Formed.{IsRow, Lacks, Reads}
use Rattle.event_store.specs.Kept.{seen_view, HasView}
use Rattle.event_store.specs.Seen.{snapshot_as}
use Rattle.event_store.specs.Spellings.{view_bytes, CanView}
use Rattle.event_store.proofs.Formed.{none_lacks, stops_at}

-- as the program has it
pub view_as : View → declared.View
view_as v =
    record {
      era = v.era;
      origin = v.origin;
      number = v.number;
      seen = snapshot_as v.seen;
      base_era = v.base_era;
      base = snapshot_as v.base;
    }

pub seen_again : (o : Option View) → option_map seen_view (option_map view_as o) ≡ o
unfolding view_as
seen_again None = refl
seen_again (Some v) = refl

pub view_spelled : (o : Option View) →
    option_map view_bytes o ≡ option_map (λ v. view_bytes (seen_view v)) (option_map view_as o)
unfolding view_as
view_spelled None = refl
view_spelled (Some v) = refl

pub view_can : (o : Option View) → AllOf CanView o → AllOf (λ v. CanView (seen_view v)) (option_map view_as o)
unfolding view_as
view_can None can = tt
view_can (Some v) can = can

-- a row that was read is in its form
pub view_formed : (o : Option declared.View) (entry : Option (List ℕ)) → AllOf (λ v. CanView (seen_view v)) o →
    entry ≡ option_map (λ v. view_bytes (seen_view v)) o → IsRow view_bytes CanView entry
view_formed o entry can is = record { row = option_map seen_view o; can = cans o can; spelled = is ∙ spells o }
  where
    cans : (o : Option declared.View) → AllOf (λ v. CanView (seen_view v)) o → AllOf CanView (option_map seen_view o)
    cans None can = tt
    cans (Some v) can = can

    spells : (o : Option declared.View) →
        option_map (λ v. view_bytes (seen_view v)) o ≡ option_map view_bytes (option_map seen_view o)
    spells None = refl
    spells (Some v) = refl

-- what was read is what the rules know
pub view_found : (o : Option View) (result : Result (Option declared.View) Stop) →
    Gives (λ found. found ≡ option_map view_as o) result → Gives (λ found. option_map seen_view found ≡ o) result
view_found o (Ok found) is = ap (option_map seen_view) is ∙ seen_again o
view_found o (Err stop) outside = outside

-- A look at one row of this kind, which is handed what is not in its form.
pub view_read : (m : Store) (set : ℕ) (result : Result (Option declared.View) Stop) → IfErr result (IsOfSpace 9) →
    IfOk result (AllOf (λ v. CanView (seen_view v))) →
    IfOk result (λ found. get (m 9) (number_bytes set) ≡ option_map (λ v. view_bytes (seen_view v)) found) →
    ((row : IsRow view_bytes CanView (get (m 9) (number_bytes set))) →
    Gives (λ found. found ≡ option_map view_as row.row) result) → Reads (Lacks 9 (HasView set m)) result
view_read m set (Ok found) space can is gives = none_lacks (view_formed found _ can is)
view_read m set (Err stop) space can is gives = stops_at 9 (HasView set m) stop space gives
