-- A space of one store, copied into an empty space of another.
use Rattle.std.proofs.Common.{◌≡◌, ℕ, true, false, cond, T, List, [], ◌∷◌, Option, Some, None, refl, sym, ap, ◌∙◌}
use Rattle.std.specs.Option.{option_or}
use Rattle.std.specs.declared.cmp.Ordering.TheVariants.{Less}
use Rattle.std.specs.Ordering.{is_eq, is_lt}
use Rattle.std.specs.Cmp.Lexicographic.{nat_list_cmp_total}
use Rattle.std.specs.FinMap.{get, empty, insert, entries, entries_sorted, get-insert, get-entries, get-empty}
use Rattle.std.specs.FinMap.Entries.{find, is_sorted, same_entries}
use Rattle.slon_base.specs.Keeper.{Space, key_cmp, after}
use Rattle.slon_base.proofs.Order.{Entries, same_keys, equal_of, find_none, find_before, find-after, after-next}
use Rattle.slon_base.proofs.Order.{front_of, back_of}
use Rattle.store_rows.specs.Space.{IsSpace}
use Rattle.node_state.proofs.Joining.{or_none}
use Rattle.node_change.specs.Pairs.{with_pairs, pairs_of}

-- ---- what stands after pairs were put

get-pairs : (es : Entries) (space : Space) (q : List ℕ) → T (is_sorted key_cmp es) →
    get (with_pairs es space) q ≡ option_or (find key_cmp q es) (get space q)
get-pairs [] space q sorted = refl
get-pairs (e ∷ es) space q sorted =
    get-pairs es (insert space e.0 e.1) q (back_of _ _ sorted)
    ∙ ap (option_or (find key_cmp q es)) (get-insert nat_list_cmp_total space e.0 e.1 q)
    ∙ elim (is_eq (key_cmp q e.0)) as (λ b. is_eq (key_cmp q e.0) ≡ b →
    option_or (find key_cmp q es) (cond b (Some e.1) (get space q))
    ≡ option_or (cond b (Some e.1) (find key_cmp q es)) (get space q)) [
      | true ↦ λ same. ap (λ o. option_or o (Some e.1))
          (find_none q e.0 es (λ g less. ap (λ k. key_cmp k g) (same_keys q e.0 (equal_of _ same)) ∙ less)
          (front_of _ _ sorted))
      | false ↦ λ differ. refl
    ] refl

sorted_after : (at : List ℕ) (es : Entries) → T (is_sorted key_cmp es) → T (is_sorted key_cmp (after at es))
sorted_after at [] sorted = tt
sorted_after at (e ∷ es) sorted =
    elim (is_lt (key_cmp at e.0)) as (λ b. T (is_sorted key_cmp (cond b (e ∷ es) (after at es)))) [
      | true ↦ sorted
      | false ↦ sorted_after at es (back_of _ _ sorted)
    ]

-- the copy of a space, which was empty
copy_at : (from old : Space) (q : List ℕ) → old ≡ empty →
    get (with_pairs (pairs_of from) old) q ≡ find key_cmp q (pairs_of from)
copy_at from old q is =
    get-pairs (pairs_of from) old q (sorted_after [] (entries from) (entries_sorted from))
    ∙ ap (option_or (find key_cmp q (pairs_of from))) (ap (λ (s : Space). get s q) is ∙ get-empty key_cmp q)
    ∙ or_none (find key_cmp q (pairs_of from))

-- at a key with a byte the copy has what was copied
copy_has : (from old : Space) (q : List ℕ) → old ≡ empty → key_cmp [] q ≡ Less →
    get (with_pairs (pairs_of from) old) q ≡ get from q
copy_has from old q is some =
    copy_at from old q is ∙ find-after q [] (entries from) some ∙ sym (get-entries from q)

-- and at the key without a byte it has nothing
copy_none : (from old : Space) → old ≡ empty → get (with_pairs (pairs_of from) old) [] ≡ None
copy_none from old is = copy_at from old [] is ∙ by (pairs_of from) refl
  where
    by : (es : Entries) → pairs_of from ≡ es → find key_cmp [] es ≡ None
    by [] at = refl
    by (e ∷ es) at =
        let step = after-next [] (entries from) e es (entries_sorted from) at in
        find_before [] e es step.3 step.2

-- ---- rows of one kind

pub space_copied : {I X : Type 0} {key : I → List ℕ} {IsOne : I → Type 0} {value : X → List ℕ} {Can : X → Type 0}
    {entry : I → Option X} (from old : Space) → ((i : I) → key_cmp [] (key i) ≡ Less) → old ≡ empty →
    IsSpace key IsOne value Can entry from → IsSpace key IsOne value Can entry (with_pairs (pairs_of from) old)
space_copied {I} {key = key} {IsOne = IsOne} from old some is held = record {
  lookups = λ i one. copy_has from old (key i) is (some i) ∙ held.lookups i one;
  spelled = held.spelled;
  keys = keys;
}
  where
    keys : (q v : List ℕ) → get (with_pairs (pairs_of from) old) q ≡ Some v → (i : I) × IsOne i × (q ≡ key i)
    keys [] v there = let bad : None ≡ Some v = sym (copy_none from old is) ∙ there in absurd cc
    keys (x ∷ q) v there = held.keys (x ∷ q) v (sym (copy_has from old (x ∷ q) is refl) ∙ there)

-- ---- all pairs

after_twice : (at : List ℕ) (es : Entries) → after at (after at es) ≡ after at es
after_twice at [] = refl
after_twice at (e ∷ es) =
    elim (is_lt (key_cmp at e.0)) as (λ b. is_lt (key_cmp at e.0) ≡ b →
    after at (cond b (e ∷ es) (after at es)) ≡ cond b (e ∷ es) (after at es)) [
      | true ↦ λ is. ap (λ b. cond b (e ∷ es) (after at es)) is
      | false ↦ λ is. after_twice at es
    ] refl

pub pairs_copied : (from old : Space) → old ≡ empty → pairs_of (with_pairs (pairs_of from) old) ≡ pairs_of from
pairs_copied from old is =
    let copy = with_pairs (pairs_of from) old in
    let same : entries copy ≡ pairs_of from = same_entries key_cmp nat_list_cmp_total same_keys (entries copy)
    (pairs_of from) (entries_sorted copy) (sorted_after [] (entries from) (entries_sorted from))
    (λ q. sym (get-entries copy q) ∙ copy_at from old q is) in
    ap (after []) same ∙ after_twice [] (entries from)
