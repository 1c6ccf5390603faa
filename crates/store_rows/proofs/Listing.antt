-- Which list a scan reads: the one that ascends, has the prefix, and is found where the space has it.
use Rattle.std.proofs.Common.{◌≡◌, ℕ, Bool, true, false, cond, T, List, [], ◌∷◌, ◌++◌, length, drop, Some, None, refl}
use Rattle.std.proofs.Common.{sym, ap, subst, ◌∙◌}
use Rattle.std.specs.Prelude.{nat_eq, ◌&&◌}
use Rattle.std.specs.List.{starts_with}
use Rattle.std.specs.declared.cmp.Ordering.{Ordering}
use Rattle.std.specs.declared.cmp.Ordering.TheVariants.{Less, Equal, Greater}
use Rattle.std.specs.Ordering.{is_lt, is_eq}
use Rattle.std.specs.Cmp.Lexicographic.{nat_list_cmp_total}
use Rattle.std.specs.FinMap.{entries, entries_sorted, from_sorted, get-from_sorted, entries-from_sorted, same_map}
use Rattle.std.specs.FinMap.Entries.{find, is_sorted, below_all}
use Rattle.std.proofs.lemmas.Bool.{false≢true}
use Rattle.slon_base.specs.Keeper.{Space, key_cmp, after}
use Rattle.store_rows.specs.Scan.{ranged}
use Rattle.slon_base.proofs.Order.{Entries, same_keys, apart, past, past_prefix, prefixed, find_before, front_of}
use Rattle.slon_base.proofs.Order.{back_of}

less_of : (o : Ordering) → T (is_lt o) → o ≡ Less
less_of Less t = refl
less_of Equal t = absurd t
less_of Greater t = absurd t

both : (a b : Bool) → T a → T b → T (a && b)
both true b s t = t
both false b s t = absurd s

is_less : (k g : List ℕ) → key_cmp k g ≡ Less → T (is_lt (key_cmp k g))
is_less k g less = subst T (sym (ap is_lt less)) tt

below_trans : (k g : List ℕ) (es : Entries) → key_cmp k g ≡ Less → T (below_all key_cmp g es) →
    T (below_all key_cmp k es)
below_trans k g [] less all = tt
below_trans k g (e ∷ es) less all =
    both _ _ (is_less k e.0 (nat_list_cmp_total.trans k g e.0 less (less_of _ (front_of _ _ all))))
    (below_trans k g es less (back_of _ _ all))

pub after_sorted : (k : List ℕ) (es : Entries) → T (is_sorted key_cmp es) → T (is_sorted key_cmp (after k es))
after_sorted k [] sorted = tt
after_sorted k (e ∷ es) sorted = elim (is_lt (key_cmp k e.0)) as (λ b. T
    (is_sorted key_cmp (cond b (e ∷ es) (after k es)))) [
      | true ↦ sorted
      | false ↦ after_sorted k es
          (back_of _ _ sorted)
    ]

pub after_below : (k : List ℕ) (es : Entries) → T (is_sorted key_cmp es) → T (below_all key_cmp k (after k es))
after_below k [] sorted = tt
after_below k (e ∷ es) sorted =
    elim (is_lt (key_cmp k e.0)) as (λ b. is_lt (key_cmp k e.0) ≡ b →
    T (below_all key_cmp k (cond b (e ∷ es) (after k es)))) [
      | true ↦ λ is. both _ _ (subst T (sym is) tt) (below_trans k e.0 es (less_of _ (subst T (sym is) tt))
          (front_of _ _ sorted))
      | false ↦ λ is. after_below k es (back_of _ _ sorted)
    ] refl

below_ranged : (prefix k : List ℕ) (es : Entries) → T (below_all key_cmp k es) →
    T (below_all key_cmp k (ranged prefix es))
below_ranged prefix k [] all = tt
below_ranged prefix k (e ∷ es) all = elim (starts_with nat_eq e.0 prefix) as (λ b. T
    (below_all key_cmp k (cond b (e ∷ ranged prefix es) []))) [
      | true ↦ both _ _ (front_of _ _ all)
          (below_ranged prefix k es (back_of _ _ all))
      | false ↦ tt
    ]

pub sorted_ranged : (prefix : List ℕ) (es : Entries) → T (is_sorted key_cmp es) →
    T (is_sorted key_cmp (ranged prefix es))
sorted_ranged prefix [] sorted = tt
sorted_ranged prefix (e ∷ es) sorted =
    elim (starts_with nat_eq e.0 prefix) as (λ b. T
    (is_sorted key_cmp (cond b (e ∷ ranged prefix es) []))) [
      | true ↦ both _ _ (below_ranged prefix e.0 es
          (front_of _ _ sorted)) (sorted_ranged prefix es (back_of _ _ sorted))
      | false ↦ tt
    ]

-- all keys have the prefix
abbrev pub AllHave : List ℕ → Entries → Type 0
AllHave prefix [] = Unit {0}
AllHave prefix (e ∷ es) = (starts_with nat_eq e.0 prefix ≡ true) × AllHave prefix es

pub have_ranged : (prefix : List ℕ) (es : Entries) → AllHave prefix (ranged prefix es)
have_ranged prefix [] = tt
have_ranged prefix (e ∷ es) =
    elim (starts_with nat_eq e.0 prefix) as (λ b. starts_with nat_eq e.0 prefix ≡ b → AllHave prefix
    (cond b (e ∷ ranged prefix es) [])) [ true ↦ λ is. (is, have_ranged prefix es) | false ↦ λ is. tt ] refl

none_other : (prefix q : List ℕ) (es : Entries) → AllHave prefix es → starts_with nat_eq q prefix ≡ false →
    find key_cmp q es ≡ None
none_other prefix q [] all lacks = refl
none_other prefix q (e ∷ es) all lacks = past q e es
    (apart q e.0 (λ same. false≢true (sym lacks ∙ ap (λ k. starts_with nat_eq k prefix) same ∙ all.0)))
    ∙ none_other prefix q es all.1 lacks

pub find-ranged : (prefix r q : List ℕ) (es : Entries) → T (is_sorted key_cmp es) →
    T (below_all key_cmp (prefix ++ r) es) → starts_with nat_eq q prefix ≡ true → find key_cmp q
    (ranged prefix es) ≡ find key_cmp q es
find-ranged prefix r q [] sorted all has = refl
find-ranged prefix r q (e ∷ es) sorted all has =
    elim (starts_with nat_eq e.0 prefix) as (λ b. starts_with nat_eq e.0 prefix ≡ b → find key_cmp q
    (cond b (e ∷ ranged prefix es) []) ≡ find key_cmp q (e ∷ es)) [
      | true ↦ λ is. ap (cond (is_eq (key_cmp q e.0)) (Some e.1)) (find-ranged prefix r q es (back_of _ _ sorted)
          (back_of _ _ all) has)
      | false ↦ λ lacks. sym (find_before q e es (ap (λ k. key_cmp k e.0) (prefixed prefix q has) ∙ past_prefix prefix r
          (drop (length prefix) q) e.0 (less_of _ (front_of _ _ all)) lacks) sorted)
    ] refl

same_sorted : (xs ys : Entries) → T (is_sorted key_cmp xs) → T (is_sorted key_cmp ys) →
    ((q : List ℕ) → find key_cmp q xs ≡ find key_cmp q ys) → xs ≡ ys
same_sorted xs ys one two same =
    sym (entries-from_sorted key_cmp xs one)
    ∙ ap entries (same_map nat_list_cmp_total same_keys (from_sorted xs) (from_sorted ys)
    (λ q. get-from_sorted key_cmp xs q one ∙ same q ∙ sym (get-from_sorted key_cmp ys q two)))
    ∙ entries-from_sorted key_cmp ys two

pub listed : (prefix r : List ℕ) (space : Space) (rows : Entries) → T (is_sorted key_cmp rows) → AllHave prefix rows →
    ((q : List ℕ) → starts_with nat_eq q prefix ≡ true → find key_cmp q rows ≡ find key_cmp q
    (after (prefix ++ r) (entries space))) → ranged prefix (after (prefix ++ r) (entries space)) ≡ rows
listed prefix r space rows sorted have found =
    let behind = after (prefix ++ r) (entries space) in
    let rising = after_sorted (prefix ++ r) (entries space) (entries_sorted space) in
    same_sorted (ranged prefix behind) rows (sorted_ranged prefix behind rising) sorted (λ q.
    elim (starts_with nat_eq q prefix) as (λ b. starts_with nat_eq q prefix ≡ b → find key_cmp q
    (ranged prefix behind) ≡ find key_cmp q rows) [
      | true ↦ λ has. find-ranged prefix r q behind rising (after_below (prefix ++ r) (entries space)
          (entries_sorted space)) has ∙ sym (found q has)
      | false ↦ λ lacks. none_other prefix q (ranged prefix behind) (have_ranged prefix behind) lacks
          ∙ sym (none_other prefix q rows have lacks)
    ] refl)
