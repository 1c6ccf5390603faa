-- The rows of a table that stand have keys and values of the form of values.
use Rattle.std.proofs.Common.{◌≡◌, ◌∙◌, ℕ, Bool, true, false, cond, T, List, [], ◌∷◌, Some, refl}
use Rattle.std.proofs.Common.{sym, ap}
use Rattle.std.specs.Prelude.{◌&&◌}
use Rattle.std.specs.List.{AllByRecursion}
use Rattle.std.specs.Ordering.{is_eq, is_lt}
use Rattle.std.specs.declared.cmp.Ordering.{Ordering}
use Rattle.std.specs.declared.cmp.Ordering.TheVariants.{Less, Equal, Greater}
use Rattle.std.specs.FinMap.{entries, get-entries, entries_sorted}
use Rattle.std.specs.FinMap.Entries.{find, is_sorted, below_all}
use Rattle.std.proofs.lemmas.Bool.{false≢true}
use Rattle.slon_base.specs.Keeper.{key_cmp}
use Rattle.slon_base.proofs.Order.{same_keys, equal_of, tied}
use Rattle.slon_model.specs.Rows.{Row}
use Rattle.slon_model.specs.Place.{Place, standing_rows}
use Rattle.slon_laws.specs.Spelled.{IsSpelled}
use Rattle.slon_laws.proofs.Formed.{standing_formed}
use Rattle.session_text.specs.Replies.{RowHasForm}

and_left : (a b : Bool) → (a && b) ≡ true → a ≡ true
and_left true b is = refl
and_left false b is = is

and_right : (a b : Bool) → (a && b) ≡ true → b ≡ true
and_right true b is = is
and_right false b is = absurd (false≢true is)

not_less : (o : Ordering) → is_lt o ≡ true → is_eq o ≡ true → ⊥
not_less Less less equal = false≢true equal
not_less Equal less equal = false≢true less
not_less Greater less equal = false≢true less

-- a key that is found behind another one is not that one
found_behind : (k q : List ℕ) (x : Row) (es : List (List ℕ × Row)) → below_all key_cmp k es ≡ true →
    find key_cmp q es ≡ Some x → is_eq (key_cmp q k) ≡ false
found_behind k q x [] below has = absurd cc
found_behind k q x (e ∷ es) below has =
    by (λ is. found_behind k q x es (and_right _ _ below) is) (is_eq (key_cmp q e.0))
    (is_eq (key_cmp q k)) refl refl has
  where
    by : (find key_cmp q es ≡ Some x → is_eq (key_cmp q k) ≡ false) → (b c : Bool) →
        is_eq (key_cmp q e.0) ≡ b → is_eq (key_cmp q k) ≡ c →
        cond b (Some e.1) (find key_cmp q es) ≡ Some x → c ≡ false
    by later b false here other is = refl
    by later false true here other is = absurd (false≢true (sym (later is) ∙ other))
    by later true true here other is =
        let same : k ≡ e.0 = sym (same_keys q k (equal_of _ other)) ∙ same_keys q e.0 (equal_of _ here) in
        absurd (not_less (key_cmp k e.0) (and_left _ _ below)
        (ap (λ y. is_eq (key_cmp k y)) (sym same) ∙ tied k))

-- what holds of each row that is found holds of all entries
all_entries : (P : List ℕ × Row → Type 0) (es : List (List ℕ × Row)) → is_sorted key_cmp es ≡ true →
    ((q : List ℕ) (x : Row) → find key_cmp q es ≡ Some x → P (q, x)) → AllByRecursion P es
all_entries P [] sorted holds = tt
all_entries P (e ∷ es) sorted holds = (
  holds e.0 e.1 (ap (λ b. cond b (Some e.1) (find key_cmp e.0 es)) (tied e.0)),
  all_entries P es (and_right _ _ sorted) (λ q x is. holds q x (ap (λ b. cond b (Some e.1) (find key_cmp q es))
      (found_behind e.0 q x es (and_left _ _ sorted) is) ∙ is)),
)

holds_true : (b : Bool) → T b → b ≡ true
holds_true true holds = refl
holds_true false holds = absurd holds

pub rows_formed : (p : Place) (table : List ℕ) → IsSpelled p →
    AllByRecursion RowHasForm (entries (standing_rows p table))
rows_formed p table spelled =
    all_entries RowHasForm (entries (standing_rows p table))
    (holds_true _ (entries_sorted (standing_rows p table)))
    (λ q x is. (standing_formed p table spelled q x (get-entries (standing_rows p table) q ∙ is)).1)
