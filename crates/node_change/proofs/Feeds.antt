-- The rows of the receivers of a set, as a scan reads them.
use Rattle.std.proofs.Common.{◌≡◌, ◌⊎◌, ℕ, ◌<◌, ◌^◌, Bool, true, false, cond, T, List, [], ◌∷◌, ◌++◌, Option, Some}
use Rattle.std.proofs.Common.{None, refl, sym, ap, subst, ◌∙◌, inl, inr, arith, length, drop, length-append}
use Rattle.std.specs.Prelude.{◌&&◌, nat_eq}
use Rattle.std.specs.List.{AllByRecursion, starts_with}
use Rattle.std.specs.Ordering.{is_eq, is_lt}
use Rattle.std.specs.FinMap.{get, entries, entries_sorted, get-entries}
use Rattle.std.specs.FinMap.Entries.{find, is_sorted, below_all}
use Rattle.std.proofs.lemmas.List.{append-nil, take_at}
use Rattle.std.proofs.lemmas.Slice.Eq.{bytes_eq-Decides}
use Rattle.slon_base.specs.Codec.{number_bytes, AllAre}
use Rattle.slon_base.specs.Keeper.{Space, key_cmp, after}
use Rattle.slon_base.proofs.Order.{Entries, same_keys, equal_of, behind, prefixed, find-after, find_none}
use Rattle.slon_base.proofs.Spelled.{length-number_bytes}
use Rattle.store_rows.specs.Rows.{IsId}
use Rattle.store_rows.specs.Scan.{ranged, spelled_rows}
use Rattle.store_rows.specs.Space.{AllOf}
use Rattle.store_rows.proofs.Listing.{AllHave, listed, after_below}
use Rattle.slon_base.proofs.Numbers.{behind_front, numbers_ordered}
use Rattle.node_rows.specs.declared.rows.Subscription.{Subscription}
use Rattle.node_rows.specs.Spellings.{subscription_bytes, CanSubscription}
use Rattle.slon_model.specs.Maps.{Map, Map2, ids, entry_at, row_at}
use Rattle.slon_model.specs.Snapshots.{Rising}
use Rattle.set_config.specs.Holds.{pair_key}
use Rattle.set_config.proofs.Keyed.{receiver_range}
use Rattle.log_switch.proofs.Numbered.{find_number}
use Rattle.event_store.specs.Ordered.{IsOrdered}
use Rattle.event_store.proofs.Ordered.{row_ordered}
use Rattle.node_state.proofs.Listing.{AreAt, all_at}
use Rattle.node_change.proofs.ReceiverRows.{HoldsSubscriptions}

-- rows as they are spelled behind a front
abbrev rows_of : List ℕ → Map Subscription → Entries
rows_of p es = spelled_rows p number_bytes subscription_bytes es

-- ---- they ascend

both : (a b : Bool) → T a → T b → T (a && b)
both true b s t = t
both false b s t = absurd s

below_rows : (p : List ℕ) (n : ℕ) (es : Map Subscription) → AllAre (λ e. IsId e.0) es →
    AllByRecursion (λ y. n < y) (ids es) → T (below_all key_cmp (p ++ number_bytes n) (rows_of p es))
below_rows p n [] one above = tt
below_rows p n (e ∷ es) one above =
    let less = behind_front p (number_bytes n) (number_bytes e.0)
    ∙ numbers_ordered n e.0 above.0 (omega (arith, one.0.1)) in
    both _ _ (subst T (sym (ap is_lt less)) tt) (below_rows p n es one.1 above.1)

sorted_rows : (p : List ℕ) (es : Map Subscription) → AllAre (λ e. IsId e.0) es → Rising (ids es) →
    T (is_sorted key_cmp (rows_of p es))
sorted_rows p [] one rising = tt
sorted_rows p (e ∷ es) one rising = both _ _ (below_rows p e.0 es one.1 rising.0) (sorted_rows p es one.1 rising.1)

has_front : (p y : List ℕ) → starts_with nat_eq (p ++ y) p ≡ true
has_front p y = (bytes_eq-Decides p _).1 (sym (take_at p y (length p) refl))

have_front : (p : List ℕ) (es : Map Subscription) → AllHave p (rows_of p es)
have_front p [] = tt
have_front p (e ∷ es) = (has_front p (number_bytes e.0), have_front p es)

-- ---- a look for one of them

small_ids : (es : Map Subscription) → AllAre (λ e. IsId e.0) es → AllAre (λ e. e.0 < 2 ^ 63) es
small_ids [] one = tt
small_ids (e ∷ es) one = (omega (arith, one.0.1), small_ids es one.1)

-- a key that is spelled by an id behind the front
abbrev IsSpelt : List ℕ → List ℕ → Type 0
IsSpelt p q = (i : ℕ) × IsId i × (q ≡ p ++ number_bytes i)

find_any : (p q : List ℕ) (es : Map Subscription) → AllAre (λ e. IsId e.0) es →
    (find key_cmp q (rows_of p es) ≡ None) ⊎ IsSpelt p q
find_any p q [] one = inl refl
find_any p q (e ∷ es) one = step (is_eq (key_cmp q (p ++ number_bytes e.0))) refl (find_any p q es one.1)
  where
    step : (b : Bool) → is_eq (key_cmp q (p ++ number_bytes e.0)) ≡ b →
        (find key_cmp q (rows_of p es) ≡ None) ⊎ IsSpelt p q →
        (cond b (Some (subscription_bytes e.1)) (find key_cmp q (rows_of p es)) ≡ None) ⊎ IsSpelt p q
    step true is rest = inr (e.0, one.0, same_keys q (p ++ number_bytes e.0) (equal_of _ is))
    step false is rest = rest

-- a look with the front
look_alike : {subscriptions : Map2 Subscription} {space : Space} (set : ℕ) → HoldsSubscriptions subscriptions space →
    IsId set → (q : List ℕ) → starts_with nat_eq q (number_bytes set) ≡ true →
    find key_cmp q (rows_of (number_bytes set) (row_at set subscriptions)) ≡ get space q
look_alike {subscriptions} {space} set held id q has = by (find_any p q row ordered.ids_are) (get space q) refl
  where
    p : List ℕ
    p = number_bytes set

    row : Map Subscription
    row = row_at set subscriptions

    ordered : IsOrdered row
    ordered = row_ordered set subscriptions held.ordered.seconds

    at : IsSpelt p q → find key_cmp q (rows_of p row) ≡ get space q
    at (i, one, is) =
        subst (λ k. find key_cmp k (rows_of p row) ≡ get space k) (sym is)
        (find_number subscription_bytes p i row (omega (arith, one.1)) (small_ids row ordered.ids_are)
        ∙ sym (held.holds.lookups (set, i) (id, one)))

    by : (find key_cmp q (rows_of p row) ≡ None) ⊎ IsSpelt p q → (o : Option (List ℕ)) → get space q ≡ o →
        find key_cmp q (rows_of p row) ≡ get space q
    by (inr spelt) o is = at spelt
    by (inl none) None is = none ∙ sym is
    by (inl none) (Some v) is =
        let k = held.holds.keys q v is in
        let c = (receiver_range set id).covers k.0 k.1 (ap (λ r. starts_with nat_eq r p) (sym k.2) ∙ has) in
        at (c.0, c.1, k.2 ∙ ap pair_key c.2)

-- and among the pairs behind the front
look_after : {subscriptions : Map2 Subscription} {space : Space} (set : ℕ) → HoldsSubscriptions subscriptions space →
    IsId set → (tail : List ℕ) →
    find key_cmp (number_bytes set ++ tail) (rows_of (number_bytes set) (row_at set subscriptions))
    ≡ find key_cmp (number_bytes set ++ tail) (after (number_bytes set) (entries space))
look_after {subscriptions} {space} set held id [] =
    by (find_any p (p ++ []) row (row_ordered set subscriptions held.ordered.seconds).ids_are)
    ∙ sym (find_none (p ++ []) p (after p (entries space)) (λ g less. ap (λ k. key_cmp k g) (append-nil p) ∙ less)
    (after_below p (entries space) (entries_sorted space)))
  where
    p : List ℕ
    p = number_bytes set

    row : Map Subscription
    row = row_at set subscriptions

    by : (find key_cmp (p ++ []) (rows_of p row) ≡ None) ⊎ IsSpelt p (p ++ []) →
        find key_cmp (p ++ []) (rows_of p row) ≡ None
    by (inl none) = none
    by (inr (i, one, is)) = absurd (omega (arith, ap length is, length-number_bytes i, length-append {A = ℕ}))
look_after {subscriptions} {space} set held id (x ∷ xs) =
    let p = number_bytes set in
    look_alike set held id (p ++ x ∷ xs) (has_front p (x ∷ xs)) ∙ get-entries space (p ++ x ∷ xs)
    ∙ sym (find-after (p ++ x ∷ xs) p (entries space) (behind p (x ∷ xs) (omega arith)))

-- ---- the pairs of a set are the rows of its receivers

pub feeds_scanned : {subscriptions : Map2 Subscription} {space : Space} (set : ℕ) →
    HoldsSubscriptions subscriptions space → IsId set →
    ranged (number_bytes set) (after (number_bytes set) (entries space))
    ≡ spelled_rows (number_bytes set) number_bytes subscription_bytes (row_at set subscriptions)
feeds_scanned {subscriptions} {space} set held id =
    subst (λ k. ranged p (after k (entries space)) ≡ rows_of p row) (append-nil p)
    (listed p [] space (rows_of p row) (sorted_rows p row ordered.ids_are ordered.rising) (have_front p row) (λ q has.
    subst (λ k. find key_cmp k (rows_of p row) ≡ find key_cmp k (after (p ++ []) (entries space)))
    (sym (prefixed p q has))
    (subst (λ k. find key_cmp (p ++ drop (length p) q) (rows_of p row)
    ≡ find key_cmp (p ++ drop (length p) q) (after k (entries space))) (sym (append-nil p))
    (look_after set held id (drop (length p) q)))))
  where
    p : List ℕ
    p = number_bytes set

    row : Map Subscription
    row = row_at set subscriptions

    ordered : IsOrdered row
    ordered = row_ordered set subscriptions held.ordered.seconds

can_rows : (es all : Map Subscription) → AllAre (λ e. IsId e.0) es → AreAt es all →
    ((i : ℕ) → IsId i → AllOf CanSubscription (entry_at i all)) → AllAre (λ e. IsId e.0 × CanSubscription e.1) es
can_rows [] all one at can = tt
can_rows (e ∷ es) all one at can =
    ((one.0, subst (AllOf CanSubscription) at.0 (can e.0 one.0)), can_rows es all one.1 at.1 can)

-- each of them can be spelled
pub feeds_can : {subscriptions : Map2 Subscription} {space : Space} (set : ℕ) →
    HoldsSubscriptions subscriptions space → IsId set →
    AllAre (λ e. IsId e.0 × CanSubscription e.1) (row_at set subscriptions)
feeds_can {subscriptions} set held id =
    let ordered = row_ordered set subscriptions held.ordered.seconds in
    let row = row_at set subscriptions in
    can_rows row row ordered.ids_are (all_at row ordered.rising) (λ i one. held.holds.spelled (set, i) (id, one))
