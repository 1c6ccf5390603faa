-- The least receiver of a set, by the keys of the subscriptions.
use Rattle.std.proofs.Common.{◌≡◌, ℕ, ◌<◌, Bool, true, false, cond, List, [], ◌∷◌, Option, Some, None}
use Rattle.std.proofs.Common.{refl, sym, ap, subst, ◌∙◌, arith, is_some}
use Rattle.std.specs.Prelude.{◌==◌, nat_lt, find, Result}
use Rattle.std.specs.List.{AllByRecursion}
use Rattle.std.specs.Option.{option_map}
use Rattle.std.specs.declared.cmp.Ordering.TheVariants.{Less, Equal}
use Rattle.std.specs.Cmp.{tied_itself}
use Rattle.std.specs.Cmp.Lexicographic.{nat_list_cmp_total}
use Rattle.std.specs.FinMap.{entries, entries_sorted, get-entries}
use Rattle.std.specs.FinMap.Entries as sorted
use Rattle.std.proofs.lemmas.Bool.{eqb-true, ltb-true}
use Rattle.std.proofs.lemmas.List.{append-nil}
use Rattle.slon_base.specs.Codec.{number_bytes}
use Rattle.slon_base.specs.Keeper.{Space, key_cmp, after}
use Rattle.slon_base.proofs.Order.{behind, find-after, find_before, after-next}
use Rattle.slon_base.proofs.Spelled.{length-number_bytes}
use Rattle.store_rows.specs.Rows.{IsId}
use Rattle.store_rows.specs.Space.{IsSpace}
use Rattle.store_rows.specs.declared.stop.Stop.{Stop}
use Rattle.slon_base.proofs.Numbers.{less_front, numbers_ordered}
use Rattle.store_rows.proofs.Scanning.{Comes}
use Rattle.node_rows.specs.declared.rows.Subscription.{Subscription}
use Rattle.node_rows.specs.Spellings.{subscription_bytes, CanSubscription}
use Rattle.slon_model.specs.Maps.{Map, Map2, ids, entry_at, row_at, pair_at}
use Rattle.set_config.specs.Holds.{AreIds, pair_key}
use Rattle.set_config.proofs.Entries.{not_eq}
use Rattle.set_config.proofs.Ordering.{first_before, second_before}
use Rattle.event_store.specs.Formed.{Lacks, Reads}
use Rattle.event_store.specs.Ordered.{IsOrdered, AreOrdered}
use Rattle.node_state.proofs.Formed.{reads_as}
use Rattle.node_state.proofs.Listing.{self_eq}
use Rattle.node_change.specs.Receivers.{IsPairKey, receiver_of}
use Rattle.event_store.proofs.Ordered.{row_ordered, lesser, higher}

-- ---- the order of keys

-- the keys of a set come behind the key of the set alone
set_behind : (set receiver : ℕ) → key_cmp (number_bytes set) (pair_key (set, receiver)) ≡ Less
set_behind set receiver =
    behind (number_bytes set) (number_bytes receiver) (omega (arith, length-number_bytes receiver))

-- and those of lesser sets do not
no_lesser : (set : ℕ) (i : ℕ × ℕ) → IsId set → key_cmp (number_bytes set) (pair_key i) ≡ Less → i.0 < set → ⊥
no_lesser set i id after less =
    let ends = append-nil (number_bytes set) in
    let back : key_cmp (pair_key i) (number_bytes set) ≡ Less = ap (key_cmp (pair_key i)) (sym ends)
    ∙ less_front (number_bytes i.0) (number_bytes set) (number_bytes i.1) []
    (length-number_bytes i.0 ∙ sym (length-number_bytes set)) (numbers_ordered i.0 set less (omega (arith, id.1))) in
    let bad : Equal ≡ Less = sym (tied_itself nat_list_cmp_total (number_bytes set))
    ∙ nat_list_cmp_total.trans (number_bytes set) (pair_key i) (number_bytes set) after back in
    absurd cc

-- ---- the receivers of a set

-- the subscriptions, as a space holds them
pub record HoldsSubscriptions (subscriptions : Map2 Subscription) (space : Space) : Type 0 where
  pub holds : IsSpace pair_key AreIds subscription_bytes CanSubscription (λ i. pair_at i.0 i.1 subscriptions) space
  pub ordered : AreOrdered subscriptions

-- the least of these receivers
abbrev pub least_of : Map Subscription → Option ℕ
least_of row = option_map (λ e. e.0) (find (λ e. true) row)

-- a subscription to a set stands behind the key of the set
row_behind : {subscriptions : Map2 Subscription} {space : Space} (set receiver : ℕ) →
    HoldsSubscriptions subscriptions space → IsId set → IsId receiver →
    sorted.find key_cmp (pair_key (set, receiver)) (after (number_bytes set) (entries space))
    ≡ option_map subscription_bytes (entry_at receiver (row_at set subscriptions))
row_behind {space = space} set receiver held id one =
    find-after (pair_key (set, receiver)) (number_bytes set) (entries space) (set_behind set receiver)
    ∙ sym (get-entries space (pair_key (set, receiver))) ∙ held.holds.lookups (set, receiver) (id, one)

unmapped : {X Y : Type 0} (f : X → Y) (o : Option X) → option_map f o ≡ None → o ≡ None
unmapped f None is = refl
unmapped f (Some x) is = absurd cc

some_mapped : {X Y : Type 0} (f : X → Y) (y : Y) (o : Option X) → option_map f o ≡ Some y → is_some o ≡ true
some_mapped f y None is = absurd cc
some_mapped f y (Some x) is = refl

-- the first of them stands there
no_head : (e : ℕ × Subscription) (es : Map Subscription) → entry_at e.0 (e ∷ es) ≡ None → ⊥
no_head e es none =
    let bad : Some e.1 ≡ None = ap (λ b. cond b (Some e.1) (entry_at e.0 es)) (sym (self_eq e.0)) ∙ none in
    absurd cc

-- none stands before the least
none_below : (q : ℕ) (es : Map Subscription) → AllByRecursion (λ y. q < y) (ids es) → entry_at q es ≡ None
none_below q [] above = refl
none_below q (e ∷ es) above =
    ap (λ b. cond b (Some e.1) (entry_at q es))
    (not_eq q e.0 (λ same. let less = above.0 in absurd (omega (arith, less, same))))
    ∙ none_below q es above.1

-- ---- no key comes behind that of the set

pub no_receiver : {subscriptions : Map2 Subscription} {space : Space} (set : ℕ) →
    HoldsSubscriptions subscriptions space → IsId set → after (number_bytes set) (entries space) ≡ [] →
    least_of (row_at set subscriptions) ≡ None
no_receiver {subscriptions} {space} set held id none =
    by (row_at set subscriptions) (row_ordered set subscriptions held.ordered.seconds)
    (λ receiver one. unmapped subscription_bytes (entry_at receiver (row_at set subscriptions))
    (sym (row_behind set receiver held id one) ∙ ap (sorted.find key_cmp (pair_key (set, receiver))) none))
  where
    by : (row : Map Subscription) → IsOrdered row → ((receiver : ℕ) → IsId receiver → entry_at receiver row ≡ None) →
        least_of row ≡ None
    by [] ordered free = refl
    by (e ∷ es) ordered free = absurd (no_head e es (free e.0 ordered.ids_are.0))

-- ---- a key comes behind that of the set

-- the key of this pair comes first there
pub record IsNext (subscriptions : Map2 Subscription) (set : ℕ) (i : ℕ × ℕ) : Type 0 where
  pub can : AreIds i
  pub after : key_cmp (number_bytes set) (pair_key i) ≡ Less
  pub there : is_some (pair_at i.0 i.1 subscriptions) ≡ true
  pub least : (receiver : ℕ) → IsId receiver → key_cmp (pair_key (set, receiver)) (pair_key i) ≡ Less →
      entry_at receiver (row_at set subscriptions) ≡ None

pub next_is : {subscriptions : Map2 Subscription} {space : Space} {e : List ℕ × List ℕ} (set : ℕ) →
    HoldsSubscriptions subscriptions space → IsId set → Comes (entries space) (number_bytes set) e →
    (i : ℕ × ℕ) × IsNext subscriptions set i × (e.0 ≡ pair_key i)
next_is {subscriptions} {space} {e} set held id next =
    let step = after-next (number_bytes set) (entries space) e next.more (entries_sorted space) next.next in
    let found = held.holds.keys e.0 e.1 (get-entries space e.0 ∙ step.0) in
    let i = found.0 in
    let key = found.2 in (
      i,
      record {
        can = found.1;
        after = ap (key_cmp (number_bytes set)) (sym key) ∙ step.3;
        there = some_mapped subscription_bytes e.1 (pair_at i.0 i.1 subscriptions)
            (sym (held.holds.lookups i found.1) ∙ get-entries space (pair_key i)
            ∙ ap (λ k. sorted.find key_cmp k (entries space)) (sym key) ∙ step.0);
        least = λ receiver one less. unmapped subscription_bytes (entry_at receiver (row_at set subscriptions))
            (sym (row_behind set receiver held id one)
            ∙ ap (sorted.find key_cmp (pair_key (set, receiver))) next.next
            ∙ find_before (pair_key (set, receiver)) e next.more
            (ap (key_cmp (pair_key (set, receiver))) key ∙ less) step.2);
      },
      key,
    )

above : (a b : ℕ) → (a == b) ≡ false → (a < b → ⊥) → b < a
above a b differ not_less =
    elim (nat_lt a b) as (λ t. nat_lt a b ≡ t → b < a) [
      | true ↦ λ is. absurd (not_less (ltb-true a b is))
      | false ↦ λ is. higher a b is differ
    ] refl

neither : (a b : ℕ) → (a < b → ⊥) → (b < a → ⊥) → a ≡ b
neither a b not_less not_more =
    elim (a == b) as (λ t. (a == b) ≡ t → a ≡ b) [
      | true ↦ λ same. eqb-true a b same
      | false ↦ λ differ. absurd (not_more (above a b differ not_less))
    ] refl

-- it is that of the least receiver, or the set has none
pub receiver_is : {subscriptions : Map2 Subscription} (set : ℕ) (i : ℕ × ℕ) → IsId set → AreOrdered subscriptions →
    IsNext subscriptions set i → receiver_of set i ≡ least_of (row_at set subscriptions)
receiver_is {subscriptions} set i id ordered next =
    by (i.0 == set) refl (row_at set subscriptions) (row_ordered set subscriptions ordered.seconds)
    (λ same. subst (λ s. is_some (pair_at s i.1 subscriptions) ≡ true) same next.there) next.least
  where
    -- none of a row has a key before that of the pair
    Least : Map Subscription → Type 0
    Least row = (receiver : ℕ) → IsId receiver → key_cmp (pair_key (set, receiver)) (pair_key i) ≡ Less →
        entry_at receiver row ≡ None

    by : (b : Bool) → (i.0 == set) ≡ b → (row : Map Subscription) → IsOrdered row →
        (i.0 ≡ set → is_some (entry_at i.1 row) ≡ true) → Least row → cond b (Some i.1) None ≡ least_of row
    by true same [] ordered there least = absurd (let bad = there (eqb-true i.0 set same) in cc)
    by true same (f ∷ fs) ordered there least =
        let is = eqb-true i.0 set same in
        ap (λ r. Some r) (neither i.1 f.0
        (λ less. let none = none_below i.1 (f ∷ fs) (less, lesser i.1 f.0 (ids fs) less ordered.rising.0) in
        let bad : false ≡ true = ap is_some (sym none) ∙ there is in cc)
        (λ more. no_head f fs (least f.0 ordered.ids_are.0
        (subst (λ s. key_cmp (pair_key (set, f.0)) (pair_key (s, i.1)) ≡ Less) (sym is)
        (second_before set f.0 i.1 more next.can.1)))))
    by false differ [] ordered there least = refl
    by false differ (f ∷ fs) ordered there least =
        let greater = above i.0 set differ (no_lesser set i id next.after) in
        absurd (no_head f fs (least f.0 ordered.ids_are.0 (first_before (set, f.0) i greater next.can.0)))

-- ---- the form of the key

key_as : {found other : Option (List ℕ × List ℕ)} →
    option_map (λ e. e.0) other ≡ option_map (λ e. e.0) found → IsPairKey found → IsPairKey other
key_as is formed = record { ids = formed.ids; can = formed.can; spelled = is ∙ formed.spelled }

-- only the key of what was found is read
pub keys_read : {U : Type 0} (found other : Option (List ℕ × List ℕ)) (result : Result U Stop) →
    option_map (λ e. e.0) other ≡ option_map (λ e. e.0) found → Reads (Lacks 8 (IsPairKey found)) result →
    Reads (Lacks 8 (IsPairKey other)) result
keys_read found other result is =
    reads_as (Lacks 8 (IsPairKey found)) (Lacks 8 (IsPairKey other)) result
    (λ space lacks. (lacks.0, λ formed. lacks.1 (key_as (sym is) formed)))
    (λ space lacks. (lacks.0, λ formed. lacks.1 (key_as is formed)))
