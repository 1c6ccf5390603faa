-- The rows that a scan reads of a space: those whose keys have a prefix.
use Rattle.std.proofs.Common.{◌≡◌, ℕ, ◌<◌, Bool, true, false, cond, T, List, [], ◌∷◌, ◌++◌, length, Option, Some, None}
use Rattle.std.proofs.Common.{refl, sym, ap, subst, ◌∙◌, option_map}
use Rattle.std.specs.Prelude.{nat_eq}
use Rattle.std.specs.List.{starts_with}
use Rattle.std.specs.Ordering.{is_eq}
use Rattle.std.specs.declared.cmp.Ordering.TheVariants.{Less}
use Rattle.std.specs.FinMap.{get, entries, entries_sorted, get-entries}
use Rattle.std.specs.FinMap.Entries.{find, is_sorted, below_all}
use Rattle.std.proofs.lemmas.Bool.{false_from_ne_true}
use Rattle.std.proofs.lemmas.List.{append-nil, take_at}
use Rattle.std.proofs.lemmas.Slice.Eq.{bytes_eq-Decides}
use Rattle.slon_base.specs.Codec.{AllAre}
use Rattle.slon_base.specs.Keeper.{Space, key_cmp, after}
use Rattle.slon_base.proofs.Order.{Entries, same_keys, equal_of, less_of, tied, front_of, back_of, behind, find-after}
use Rattle.slon_base.proofs.Order.{find_none}
use Rattle.store_rows.specs.Scan.{ranged, spelled_rows}
use Rattle.store_rows.specs.Space.{IsSpace, AllOf}
use Rattle.store_rows.proofs.Listing.{AllHave, have_ranged, after_sorted, after_below, sorted_ranged, find-ranged}
use Rattle.set_config.specs.Rows.{row_of}

pub are_map : {X : Type 0} {P Q : X → Type 0} (xs : List X) → ((x : X) → P x → Q x) → AllAre P xs → AllAre Q xs
are_map [] on all = tt
are_map (x ∷ xs) on all = (on x all.0, are_map xs on all.1)

pub both_are : {X : Type 0} (P Q : X → Type 0) (xs : List X) → AllAre P xs → AllAre Q xs → AllAre (λ x. P x × Q x) xs
both_are P Q [] ps qs = tt
both_are P Q (x ∷ xs) ps qs = ((ps.0, qs.0), both_are P Q xs ps.1 qs.1)

-- ---- entries, and what stands at their keys

-- what is found behind an entry is found with it
found_with : (e d : List ℕ × List ℕ) (es : Entries) → T (below_all key_cmp e.0 es) →
    find key_cmp d.0 es ≡ Some d.1 → find key_cmp d.0 (e ∷ es) ≡ Some d.1
found_with e d es below found =
    elim (is_eq (key_cmp d.0 e.0)) as (λ b. is_eq (key_cmp d.0 e.0) ≡ b →
    cond b (Some e.1) (find key_cmp d.0 es) ≡ Some d.1) [
      | true ↦ λ ties.
          let none : find key_cmp d.0 es ≡ None = ap (λ k. find key_cmp k es) (same_keys d.0 e.0 (equal_of _ ties))
          ∙ find_none e.0 e.0 es (λ g less. less) below in
          absurd cc
      | false ↦ λ other. found
    ] refl

all_found : (es : Entries) → T (is_sorted key_cmp es) → AllAre (λ e. find key_cmp e.0 es ≡ Some e.1) es
all_found [] sorted = tt
all_found (e ∷ es) sorted = (
  ap (λ b. cond b (Some e.1) (find key_cmp e.0 es)) (tied e.0),
  are_map es (λ d found. found_with e d es (front_of _ _ sorted) found) (all_found es (back_of _ _ sorted)),
)

all_behind : (at : List ℕ) (es : Entries) → T (below_all key_cmp at es) → AllAre (λ e. key_cmp at e.0 ≡ Less) es
all_behind at [] below = tt
all_behind at (e ∷ es) below = (less_of _ (front_of _ _ below), all_behind at es (back_of _ _ below))

-- each entry behind a key stands at its key
all_stand : (at : List ℕ) (space : Space) → AllAre (λ e. get space e.0 ≡ Some e.1) (after at (entries space))
all_stand at space =
    let es = after at (entries space) in
    are_map es (λ e both. get-entries space e.0 ∙ sym (find-after e.0 at (entries space) both.1) ∙ both.0)
    (both_are (λ e. find key_cmp e.0 es ≡ Some e.1) (λ e. key_cmp at e.0 ≡ Less) es
    (all_found es (after_sorted at (entries space) (entries_sorted space)))
    (all_behind at es (after_below at (entries space) (entries_sorted space))))

in_range : (P : List ℕ × List ℕ → Type 0) (prefix : List ℕ) (es : Entries) → AllAre P es → AllAre P (ranged prefix es)
in_range P prefix [] all = tt
in_range P prefix (e ∷ es) all =
    elim (starts_with nat_eq e.0 prefix) as (λ b. AllAre P (cond b (e ∷ ranged prefix es) [])) [
      | true ↦ (all.0, in_range P prefix es all.1)
      | false ↦ tt
    ]

have_all : (prefix : List ℕ) (es : Entries) → AllHave prefix es → AllAre (λ e. starts_with nat_eq e.0 prefix ≡ true) es
have_all prefix [] have = tt
have_all prefix (e ∷ es) have = (have.0, have_all prefix es have.1)

-- the pairs that a scan with this prefix goes over
abbrev pub scanned : List ℕ → Space → Entries
scanned prefix space = ranged prefix (after prefix (entries space))

-- a look for a key with the prefix
has_front : (p y : List ℕ) → starts_with nat_eq (p ++ y) p ≡ true
has_front p y = (bytes_eq-Decides p _).1 (sym (take_at p y (length p) refl))

pub find_in : (p y : List ℕ) (space : Space) → 0 < length y →
    find key_cmp (p ++ y) (scanned p space) ≡ get space (p ++ y)
find_in p y space some =
    find-ranged p [] (p ++ y) (after p (entries space)) (after_sorted p (entries space) (entries_sorted space))
    (subst (λ k. T (below_all key_cmp k (after p (entries space)))) (sym (append-nil p))
    (after_below p (entries space) (entries_sorted space))) (has_front p y)
    ∙ find-after (p ++ y) p (entries space) (behind p y some)
    ∙ sym (get-entries space (p ++ y))

pub sorted_in : (p : List ℕ) (space : Space) → T (is_sorted key_cmp (scanned p space))
sorted_in p space =
    sorted_ranged p (after p (entries space)) (after_sorted p (entries space) (entries_sorted space))

-- ---- the rows of these pairs

-- The keys with a prefix are those of some ids, by what stands behind the prefix.
pub record IsRange {I J : Type 0} (key : I → List ℕ) (IsOne : I → Type 0) (prefix : List ℕ) (tail : J → List ℕ)
    (IsTail : J → Type 0) (at : J → I) : Type 0 where
  pub spelled : (j : J) → key (at j) ≡ prefix ++ tail j
  pub one : (j : J) → IsTail j → IsOne (at j)
  pub covers : (i : I) → IsOne i → starts_with nat_eq (key i) prefix ≡ true → (j : J) × IsTail j × (i ≡ at j)
  pub some : (j : J) → 0 < length (tail j)
  pub unique : (a b : J) → IsTail a → IsTail b → prefix ++ tail a ≡ prefix ++ tail b → a ≡ b

-- these pairs are rows, and each is what stands
pub record RowsOf {I J X : Type 0} (prefix : List ℕ) (tail : J → List ℕ) (IsTail : J → Type 0) (at : J → I)
    (value : X → List ℕ) (Can : X → Type 0) (entry : I → Option X) (es : Entries) : Type 0 where
  pub rows : List (J × X)
  pub can : AllAre (λ e. IsTail e.0 × Can e.1) rows
  pub spelled : es ≡ spelled_rows prefix tail value rows
  pub stand : AllAre (λ e. entry (at e.0) ≡ Some e.1) rows

-- a pair is that of an id, with what stands there
one_more : {I J X : Type 0} {prefix : List ℕ} {tail : J → List ℕ} {IsTail : J → Type 0} {at : J → I}
    {value : X → List ℕ} {Can : X → Type 0} {entry : I → Option X} {es : Entries} (e : List ℕ × List ℕ)
    (k : (j : J) × IsTail j × (e.0 ≡ prefix ++ tail j)) (o : Option X) → entry (at k.0) ≡ o → AllOf Can o →
    Some e.1 ≡ option_map value o → RowsOf prefix tail IsTail at value Can entry es →
    RowsOf prefix tail IsTail at value Can entry (e ∷ es)
one_more e k None is can found more = absurd cc
one_more {value = value} {es = es} e (j, one, key) (Some x) is can found more =
    let worth : e.1 ≡ value x = cc in
    let behind = more.spelled in
    record {
      rows = (j, x) ∷ more.rows;
      can = ((one, can), more.can);
      spelled = λ k. (key k, worth k) ∷ behind k;
      stand = (is, more.stand);
    }

rows_from : {I J X : Type 0} {key : I → List ℕ} {IsOne : I → Type 0} {prefix : List ℕ} {tail : J → List ℕ}
    {IsTail : J → Type 0} {at : J → I} {value : X → List ℕ} {Can : X → Type 0} {entry : I → Option X}
    {space : Space} (es : Entries) → IsRange key IsOne prefix tail IsTail at →
    IsSpace key IsOne value Can entry space →
    AllAre (λ e. (get space e.0 ≡ Some e.1) × (starts_with nat_eq e.0 prefix ≡ true)) es →
    RowsOf prefix tail IsTail at value Can entry es
rows_from [] range is got = record { rows = []; can = tt; spelled = refl; stand = tt }
rows_from {key = key} {prefix = prefix} {at = at} {value = value} {entry = entry} {space = space} (e ∷ es) range is
    got =
    let k = is.keys e.0 e.1 got.0.0 in
    let c = range.covers k.0 k.1 (ap (λ q. starts_with nat_eq q prefix) (sym k.2) ∙ got.0.1) in
    let here = k.2 ∙ ap key c.2 in
    let one = range.one c.0 c.1 in
    one_more e (c.0, c.1, here ∙ range.spelled c.0) (entry (at c.0)) refl (is.spelled (at c.0) one)
    (sym got.0.0 ∙ ap (get space) here ∙ is.lookups (at c.0) one) (rows_from es range is got.1)

-- the pairs that a scan goes over are rows of what stands
pub scanned_rows : {I J X : Type 0} {key : I → List ℕ} {IsOne : I → Type 0} {prefix : List ℕ} {tail : J → List ℕ}
    {IsTail : J → Type 0} {at : J → I} {value : X → List ℕ} {Can : X → Type 0} {entry : I → Option X}
    (space : Space) → IsRange key IsOne prefix tail IsTail at → IsSpace key IsOne value Can entry space →
    RowsOf prefix tail IsTail at value Can entry (scanned prefix space)
scanned_rows {prefix = prefix} space range is =
    let behind = after prefix (entries space) in
    rows_from (scanned prefix space) range is
    (both_are (λ e. get space e.0 ≡ Some e.1) (λ e. starts_with nat_eq e.0 prefix ≡ true) (scanned prefix space)
    (in_range (λ e. get space e.0 ≡ Some e.1) prefix behind (all_stand prefix space))
    (have_all prefix (scanned prefix space) (have_ranged prefix behind)))

-- ---- a look for one of them

-- a test that tells which ids are the same
pub record IsTest {J : Type 0} (same : J → J → Bool) : Type 0 where
  pub of : (a b : J) → same a b ≡ true → a ≡ b
  pub itself : (a : J) → same a a ≡ true

none_there : {X : Type 0} (value : X → List ℕ) (o : Option X) → None ≡ option_map value o → None ≡ o
none_there value None is = refl
none_there value (Some x) is = absurd cc

looked : {I J X : Type 0} {key : I → List ℕ} {IsOne : I → Type 0} {prefix : List ℕ} {tail : J → List ℕ}
    {IsTail : J → Type 0} {at : J → I} (value : X → List ℕ) (entry : I → Option X) {same : J → J → Bool} (j : J)
    (rows : List (J × X)) → IsTest same → IsRange key IsOne prefix tail IsTail at →
    AllAre (λ e. IsTail e.0 × (entry (at e.0) ≡ Some e.1)) rows → IsTail j
    × (find key_cmp (prefix ++ tail j) (spelled_rows prefix tail value rows) ≡ option_map value (entry (at j))) →
    row_of same j rows ≡ entry (at j)
looked {at = at} value entry j [] test range rows (one, found) = none_there value (entry (at j)) found
looked {prefix = prefix} {tail = tail} {at = at} value entry {same = same} j (r ∷ rs) test range rows (one, found) =
    elim (is_eq (key_cmp (prefix ++ tail j) (prefix ++ tail r.0))) as
    (λ b. is_eq (key_cmp (prefix ++ tail j) (prefix ++ tail r.0)) ≡ b →
    cond b (Some (value r.1)) (find key_cmp (prefix ++ tail j) (spelled_rows prefix tail value rs))
    ≡ option_map value (entry (at j)) → cond (same j r.0) (Some r.1) (row_of same j rs) ≡ entry (at j)) [
      | true ↦ λ ties got.
          let is = range.unique j r.0 one rows.0.0
          (same_keys (prefix ++ tail j) (prefix ++ tail r.0) (equal_of _ ties)) in
          ap (λ b. cond b (Some r.1) (row_of same j rs)) (ap (same j) (sym is) ∙ test.itself j)
          ∙ sym rows.0.1 ∙ ap (λ k. entry (at k)) (sym is)
      | false ↦ λ other got.
          ap (λ b. cond b (Some r.1) (row_of same j rs)) (false_from_ne_true _ (λ is.
          let bad : false ≡ true = sym other
          ∙ ap (λ k. is_eq (key_cmp (prefix ++ tail j) (prefix ++ tail k))) (sym (test.of j r.0 is))
          ∙ tied (prefix ++ tail j) in
          cc))
          ∙ looked value entry j rs test range rows.1 (one, got)
    ] refl found

-- what stands is found among the rows
pub row_found : {I J X : Type 0} {key : I → List ℕ} {IsOne : I → Type 0} {prefix : List ℕ} {tail : J → List ℕ}
    {IsTail : J → Type 0} {at : J → I} {value : X → List ℕ} {Can : X → Type 0} {entry : I → Option X}
    {same : J → J → Bool} (space : Space) (j : J) → IsTest same → IsRange key IsOne prefix tail IsTail at →
    IsSpace key IsOne value Can entry space →
    (r : RowsOf prefix tail IsTail at value Can entry (scanned prefix space)) → IsTail j →
    row_of same j r.rows ≡ entry (at j)
row_found {prefix = prefix} {tail = tail} {IsTail = IsTail} {at = at} {value = value} {entry = entry} space j test
    range is r one =
    looked value entry j r.rows test range
    (both_are (λ e. IsTail e.0) (λ e. entry (at e.0) ≡ Some e.1) r.rows (are_map r.rows (λ e can. can.0) r.can)
    r.stand) (
      one,
      ap (find key_cmp (prefix ++ tail j)) (sym r.spelled) ∙ find_in prefix (tail j) space (range.some j)
          ∙ ap (get space) (sym (range.spelled j)) ∙ is.lookups (at j) (range.one j one),
    )
