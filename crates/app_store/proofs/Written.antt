-- What open transactions wrote stays in its form.
use Rattle.std.proofs.Common.{◌≡◌, Bool, true, false, cond, List, ℕ, Option, Some, None, refl, sym, ap, subst, ◌∙◌}
use Rattle.std.specs.Prelude.{Result, Ok, Err, OnOk, OnErr, ◌<◌, ◌^◌, ◌&&◌, ◌++◌, [], ◌∷◌, nat_lt}
use Rattle.std.specs.List.{list_all}
use Rattle.std.proofs.lemmas.Bool.{and_parts, lt-ltb}
use Rattle.std.proofs.lemmas.List.Folds.{list_all-append}
use Rattle.std.specs.Ordering.{is_eq}
use Rattle.std.specs.Cmp.Lexicographic.{nat_list_cmp_total}
use Rattle.std.specs.FinMap.{get, insert, remove, empty, get-insert, get-remove, get-empty}
use Rattle.slon_base.specs.Codec.{list_bytes, AreTexts}
use Rattle.slon_base.specs.Keeper.{key_cmp}
use Rattle.slon_model.specs.Rows.{Row}
use Rattle.change_capture.specs.declared.action.Action.{Action}
use Rattle.change_capture.specs.declared.action.Change.{Change}
use Rattle.slon_model.specs.Forms.{is_table_name}
use Rattle.node_state.specs.Known.{is_change, is_captured, are_captured}
use Rattle.app_store.specs.declared.opens.Transaction.{Transaction}
use Rattle.app_store.specs.Closed.{Opens}
use Rattle.app_store.specs.Spelled.{Writes}
use Rattle.app_store.specs.Written.{IsWritten, AreInForm, AreWritten}

-- the values of a row
pub row_written : (value : List ℕ) (row : Row) → AreTexts row → value ≡ list_bytes row → IsWritten (Some value)
row_written value row texts is = λ unless. unless (record {
  row = Some row;
  texts = texts;
  spelled = ap (λ v. Some v) is;
})

-- a row that was taken away
pub none_written : IsWritten None
none_written = λ unless. unless (record { row = None; texts = tt; spelled = refl })

-- what one transaction wrote
abbrev pub OfOne : Transaction → Type 0
OfOne t = AreInForm t.writes × (are_captured t.xid t.actions ≡ true)

pub nothing_written : (writes : Writes) → writes ≡ empty → AreInForm writes
nothing_written writes is key written at =
    let bad : None ≡ Some written = sym (get-empty key_cmp key) ∙ ap (λ w. get w key) (sym is) ∙ at in absurd cc

pub nobody_written : (opens : Opens) → opens ≡ empty → AreWritten opens
nobody_written opens is name t at =
    let bad : None ≡ Some t = sym (get-empty key_cmp name) ∙ ap (λ o. get o name) (sym is) ∙ at in absurd cc

-- one write more
pub more_written : (t : Transaction) (key : List ℕ) (value : Option (List ℕ)) → AreInForm t.writes → IsWritten value →
    AreInForm (insert t.writes key value)
more_written t key value before written q other at =
    of (is_eq (key_cmp q key)) (sym (get-insert nat_list_cmp_total t.writes key value q) ∙ at)
  where
    of : (b : Bool) → cond b (Some value) (get t.writes q) ≡ Some other → IsWritten other
    of true is = let same : value ≡ other = cc in subst IsWritten same written
    of false is = before q other is

-- no action, and one more
pub nothing_captured : (xid : ℕ) (actions : List Action) → actions ≡ [] → xid < 2 ^ 63 →
    are_captured xid actions ≡ true
nothing_captured xid actions none small =
    ap (are_captured xid) none ∙ ap (λ b. b && true) (lt-ltb xid (2 ^ 63) small)

pub more_captured : (xid : ℕ) (actions : List Action) (a : Action) → are_captured xid actions ≡ true →
    is_captured a ≡ true → are_captured xid (actions ++ a ∷ []) ≡ true
more_captured xid actions a before one =
    let parts = and_parts (nat_lt xid (2 ^ 63)) (list_all is_captured actions) before in
    ap (λ b. nat_lt xid (2 ^ 63) && b) (list_all-append is_captured actions (a ∷ [])
    ∙ ap (λ b. b && (is_captured a && true)) parts.1 ∙ ap (λ b. b && true) one)
    ∙ ap (λ b. b && true) parts.0

pub action_captured : (table : List ℕ) (number : ℕ) (change : Change) → is_table_name table ≡ true →
    number < 2 ^ 63 → is_change change ≡ true →
    is_captured (record { number = number; table = table; change = change }) ≡ true
action_captured table number change named small formed =
    let less = lt-ltb number (2 ^ 63) small in λ i. named i && less i && formed i

-- what putting a transaction gives
pub record Puts {E : Type 0} (opens new : Opens) (name : List ℕ) (t : Transaction) (result : Result (Unit {0}) E) :
    Type 0 where
  pub ok : OnOk result (new ≡ insert opens name t)
  pub err : OnErr result (new ≡ opens)

-- a transaction more, or another in its place
pub put_written : (opens : Opens) (name : List ℕ) (t : Transaction) → AreWritten opens → OfOne t →
    AreWritten (insert opens name t)
put_written opens name t before one q other at =
    of (is_eq (key_cmp q name)) (sym (get-insert nat_list_cmp_total opens name t q) ∙ at)
  where
    of : (b : Bool) → cond b (Some t) (get opens q) ≡ Some other → OfOne other
    of true is = let same : t ≡ other = cc in subst OfOne same one
    of false is = before q other is

-- a transaction was put, or there was no memory and all stays
pub kept_put : {E : Type 0} {opens new : Opens} {name : List ℕ} {t : Transaction} (result : Result (Unit {0}) E) →
    Puts opens new name t result → AreWritten opens → OfOne t → AreWritten new
kept_put {E} {opens} {new} {name} {t} (Ok u) puts before one =
    subst AreWritten (sym puts.ok) (put_written opens name t before one)
kept_put {E} {opens} {new} {name} {t} (Err e) puts before one = subst AreWritten (sym puts.err) before

-- a transaction less
pub less_written : (opens : Opens) (name : List ℕ) → AreWritten opens → AreWritten (remove opens name)
less_written opens name before q other at =
    of (is_eq (key_cmp q name)) (sym (get-remove nat_list_cmp_total opens name q) ∙ at)
  where
    of : (b : Bool) → cond b None (get opens q) ≡ Some other → OfOne other
    of true is = absurd cc
    of false is = before q other is
