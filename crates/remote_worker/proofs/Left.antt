-- What is left of what was fetched, which tables it fills, and what it brings.
use Rattle.std.proofs.Common.{◌≡◌, ◌∙◌, ◌++◌, ℕ, Bool, true, false, cond, List, [], ◌∷◌, map, filter, Option, Some}
use Rattle.std.proofs.Common.{None, refl, sym, ap, subst}
use Rattle.std.proofs.Common.{arith}
use Rattle.std.specs.Prelude.{◌==◌, flat_map}
use Rattle.std.proofs.lemmas.Grind.{common_steps}
use Rattle.std.proofs.lemmas.List.Concat.{flat_map-cons}
use Rattle.slon_model.specs.Names.{Named}
use Rattle.slon_model.specs.Rows.{Rows}
use Rattle.slon_model.specs.Maps.{entry_at}
use Rattle.slon_model.specs.Deeds.{Knowledge}
use Rattle.slon_model.specs.Following.{Found, SetSync, brought_of, tables_in}
use Rattle.slon_model.specs.Place.{Place}
use Rattle.slon_model.specs.Working.{is_view, stands, still}
use Rattle.change_apply.specs.Copied.{AreListed, Listed}
use Rattle.slon_model.specs.Views.{Views}
use Rattle.event_store.specs.declared.view.View.{View as CodeView}
use Rattle.event_store.specs.Kept.{seen_view}
use Rattle.node_state.specs.Held.{seen_views}
use Rattle.node_store.specs.Bringing.{HaveSyncs, IsBrought}
use Rattle.remote_worker.specs.declared.loading.Load.{Load}
use Rattle.remote_worker.specs.declared.loading.Load.TheVariants.{Copy, Syncs}
use Rattle.remote_worker.specs.declared.loading.SetFetch.{SetFetch}
use Rattle.remote_worker.specs.Loading.{HasFetch, HasFound, HaveFetches, IsStill, brought_by, names_fetched}
use Rattle.remote_worker.specs.Loading.{names_listed, names_loaded}
use Rattle.remote_worker.specs.Standing.{stands_in}

-- ---- the views that are kept

-- equal numbers pass the test
is_same : (a b : ℕ) → a ≡ b → (a == b) ≡ true
is_same a b same = grind (arith, common_steps)

is_other : (a b : ℕ) → (a ≡ b → ⊥) → (a == b) ≡ false
is_other a b apart = grind (arith, common_steps)

pub kept_here : (set : ℕ) (v : ℕ × CodeView) (vs : List (ℕ × CodeView)) (all : Views) → set ≡ v.0 →
    entry_at set (seen_views (v ∷ vs)) ≡ entry_at set all → entry_at set all ≡ Some (seen_view v.1)
kept_here set v vs all same before =
    sym before ∙ ap (λ b. cond b (Some (seen_view v.1)) (entry_at set (seen_views vs))) (is_same set v.0 same)

pub kept_beside : (set : ℕ) (v : ℕ × CodeView) (vs : List (ℕ × CodeView)) (all : Views) → (set ≡ v.0 → ⊥) →
    entry_at set (seen_views (v ∷ vs)) ≡ entry_at set all → entry_at set (seen_views vs) ≡ entry_at set all
kept_beside set v vs all apart before =
    sym (ap (λ b. cond b (Some (seen_view v.1)) (entry_at set (seen_views vs))) (is_other set v.0 apart)) ∙ before

-- ---- what is left

stands_same : (k : Knowledge) (origin : ℕ) (t : SetSync) (g : SetFetch) → HasFetch origin t g →
    stands k t ≡ stands_in k.views g
stands_same k origin t g has =
    ap (λ v. is_view v (entry_at t.set_id k.views)) has.before
    ∙ ap (λ set. is_view (seen_view g.before) (entry_at set k.views)) has.sync.set_id

left_have : (k : Knowledge) (origin : ℕ) (ts : List SetSync) (given : List SetFetch) → HaveFetches origin ts given →
    HaveFetches origin (filter (stands k) ts) (filter (stands_in k.views) given)
left_have k origin [] [] have = tt
left_have k origin [] (g ∷ given) have = absurd have
left_have k origin (t ∷ ts) [] have = absurd have
left_have k origin (t ∷ ts) (g ∷ given) have =
    let xs = filter (stands k) ts in
    let ys = filter (stands_in k.views) given in
    subst (λ b. HaveFetches origin (cond b (t ∷ xs) xs) (cond (stands_in k.views g) (g ∷ ys) ys))
    (sym (stands_same k origin t g have.0)) (by xs ys (stands_in k.views g) (left_have k origin ts given have.1))
  where
    by : (xs : List SetSync) (ys : List SetFetch) (b : Bool) → HaveFetches origin xs ys →
        HaveFetches origin (cond b (t ∷ xs) xs) (cond b (g ∷ ys) ys)
    by xs ys true more = (have.0, more)
    by xs ys false more = more

pub syncs_still : (k : Knowledge) (given left : List SetFetch) → left ≡ filter (stands_in k.views) given →
    IsStill k (Some (Syncs given)) (Some (Syncs left))
syncs_still k given left same origin f (ts, is, have) = (
  filter (stands k) ts,
  ap (still k) is,
  subst (HaveFetches origin (filter (stands k) ts)) (sym same) (left_have k origin ts given have),
)

-- ---- the tables

fetches_named : (origin : ℕ) (ts : List SetSync) (given : List SetFetch) → HaveFetches origin ts given →
    flat_map (λ (t : SetSync). map (λ u. u.1) t.tables) ts ≡ names_fetched given
fetches_named origin [] [] have = refl
fetches_named origin [] (g ∷ given) have = absurd have
fetches_named origin (t ∷ ts) [] have = absurd have
fetches_named origin (t ∷ ts) (g ∷ given) have =
    flat_map-cons (λ (t : SetSync). map (λ u. u.1) t.tables) t ts
    ∙ ap (λ us. map (λ u. u.1) us ++ flat_map (λ (t : SetSync). map (λ u. u.1) t.tables) ts) have.0.tables
    ∙ ap (λ ns. map (λ u. u.1) g.tables ++ ns) (fetches_named origin ts given have.1)
    ∙ sym (flat_map-cons (λ (f : SetFetch). map (λ t. t.1) f.tables) g given)

listed_named : (rs : Named Rows) (ts : Listed) → AreListed rs ts → map (λ r. r.0) rs ≡ names_listed ts
listed_named [] [] are = refl
listed_named [] (t ∷ ts) are = absurd are
listed_named (r ∷ rs) [] are = absurd are
listed_named (r ∷ rs) (t ∷ ts) are =
    ap (λ n. n ∷ map (λ r. r.0) rs) are.0 ∙ ap (λ ns. t.0 ∷ ns) (listed_named rs ts are.2)

pub found_named : (origin : ℕ) (f : Found) (given : Option Load) → HasFound origin f given →
    tables_in f ≡ names_loaded given
found_named origin f None is = ap tables_in is
found_named origin f (Some (Copy copy)) (rows, is, has) = ap tables_in is ∙ listed_named rows copy.tables has.listed
found_named origin f (Some (Syncs fetches)) (ts, is, have) =
    ap tables_in is ∙ fetches_named origin ts fetches have

-- ---- what is brought

syncs_have : (origin : ℕ) (ts : List SetSync) (given : List SetFetch) → HaveFetches origin ts given →
    HaveSyncs origin ts (map (λ f. f.sync) given)
syncs_have origin [] [] have = tt
syncs_have origin [] (g ∷ given) have = absurd have
syncs_have origin (t ∷ ts) [] have = absurd have
syncs_have origin (t ∷ ts) (g ∷ given) have = (have.0.sync, syncs_have origin ts given have.1)

pub found_brought : (origin : ℕ) (p : Place) (f : Found) (given : Option Load) → HasFound origin f given →
    IsBrought origin p (brought_of p f) (brought_by given)
found_brought origin p f None is = ap (brought_of p) is
found_brought origin p f (Some (Copy copy)) (rows, is, has) =
    subst (λ x. IsBrought origin p (brought_of p x) (brought_by (Some (Copy copy)))) (sym is) (record {
      views = refl;
      rows = has.listed;
      logs = refl;
      count = has.count;
    })
found_brought origin p f (Some (Syncs fetches)) (ts, is, have) =
    (ts, syncs_have origin ts fetches have, ap (brought_of p) is)
