-- The sets that a node keeps, as they are read and told.
use Rattle.std.proofs.Common.{◌≡◌, ◌∙◌, ℕ, ◌+◌, ◌<◌, List, [], ◌∷◌, ◌++◌, Some, Result, Ok, Err, refl, sym, ap}
use Rattle.std.proofs.Common.{map, drop, length, get_or, append_assoc}
use Rattle.std.proofs.lemmas.List.{drop_more}
use Rattle.std.specs.Prelude.{IfOk}
use Rattle.std.specs.FinMap.{entries}
use Rattle.slon_base.specs.Keeper.{Store, after}
use Rattle.slon_base.specs.Codec.{number_bytes, AllAre}
use Rattle.store_rows.specs.declared.stop.Stop.{Stop}
use Rattle.store_rows.specs.Rows.{IsId}
use Rattle.store_rows.specs.Scan.{spelled_rows}
use Rattle.store_rows.specs.Steps.{Gives}
use Rattle.slon_model.specs.Place.{kept_text}
use Rattle.slon_model.specs.Views.{View, Views}
use Rattle.slon_model.proofs.Names.{one_found}
use Rattle.event_store.specs.declared.view.View as declared
use Rattle.event_store.specs.Kept.{seen_view}
use Rattle.event_store.specs.Spellings.{view_bytes, CanView}
use Rattle.event_store.proofs.Viewed.{view_as, view_can, view_spelled, seen_again}
use Rattle.node_state.specs.Handed.{AreViews}
use Rattle.node_state.specs.Held.{seen_views}

-- as the program has them
abbrev pub views_as : Views → List (ℕ × declared.View)
views_as views = map (λ v. (v.0, view_as v.1)) views

again : (v : View) → seen_view (view_as v) ≡ v
again v = one_found _ _ (seen_again (Some v))

views_again : (views : Views) → seen_views (views_as views) ≡ views
views_again [] = refl
views_again (v ∷ more) =
    ap (λ w. (v.0, w) ∷ seen_views (views_as more)) (again v.1) ∙ ap (λ l. v ∷ l) (views_again more)

pub views_can : (views : Views) → AllAre (λ e. IsId e.0 × CanView e.1) views →
    AllAre (λ (e : ℕ × declared.View). IsId e.0 × CanView (seen_view e.1)) (views_as views)
views_can [] can = tt
views_can (v ∷ more) can = ((can.0.0, view_can (Some v.1) can.0.1), views_can more can.1)

pub views_spelled : (views : Views) →
    spelled_rows [] number_bytes view_bytes views
    ≡ spelled_rows [] number_bytes (λ (v : declared.View). view_bytes (seen_view v)) (views_as views)
views_spelled [] = refl
views_spelled (v ∷ more) =
    ap (λ b. (number_bytes v.0, b) ∷ spelled_rows [] number_bytes view_bytes more)
    (one_found _ _ (view_spelled (Some v.1)))
    ∙ ap (λ l. (number_bytes v.0, view_bytes (seen_view (view_as v.1))) ∷ l) (views_spelled more)

-- what was read is what the rules know
pub found_views : (views : Views) (result : Result (List (ℕ × declared.View)) Stop) →
    Gives (λ found. found ≡ views_as views) result → Gives (λ found. seen_views found ≡ views) result
found_views views (Ok found) is = ap seen_views is ∙ views_again views
found_views views (Err stop) is = is

-- one set more is listed
pub listed_on : (views : List (ℕ × declared.View)) (i : ℕ) (e : ℕ × declared.View)
    (told new : List (ℕ × ℕ × List ℕ)) → (i < length views) × (e ≡ get_or views i e) →
    new ≡ told ++ kept_text (e.0, seen_view e.1) ∷ [] →
    new ++ map kept_text (seen_views (drop (i + 1) views)) ≡ told ++ map kept_text (seen_views (drop i views))
listed_on views i e told new (below, at) is =
    let rest = map kept_text (seen_views (drop (i + 1) views)) in
    ap (λ l. l ++ rest) is ∙ append_assoc told (kept_text (e.0, seen_view e.1) ∷ []) rest
    ∙ ap (λ l. told ++ map kept_text (seen_views l))
    (sym (drop_more views i e below ∙ ap (λ x. x ∷ drop (i + 1) views) (sym at)))

-- what was read are the views
pub are_views : (m : Store) (result : Result (List (ℕ × declared.View)) Stop) →
    IfOk result (λ rows. AllAre (λ (e : ℕ × declared.View). IsId e.0 × CanView (seen_view e.1)) rows
    × (after [] (entries (m 9))
    ≡ spelled_rows [] number_bytes (λ (v : declared.View). view_bytes (seen_view v)) rows)) →
    IfOk result (λ found. AreViews m)
are_views m (Ok rows) (can, spelled) = record { found = rows; can = can; spelled = spelled }
are_views m (Err stop) read = tt
