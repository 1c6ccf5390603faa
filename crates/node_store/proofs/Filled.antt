-- Tables that are filled: what they hold from then on, and what open transactions see of them.
use Rattle.std.proofs.Common.{◌≡◌, ◌∙◌, ℕ, ◌<◌, Bool, true, false, cond, List, [], ◌∷◌, Option, Some, None}
use Rattle.std.proofs.Common.{refl, sym, ap, is_some}
use Rattle.std.specs.Prelude.{◌==◌, ◌&&◌, ◌||◌, option_map, unwrap_or}
use Rattle.std.specs.List.{AllByRecursion, list_any}
use Rattle.std.specs.Str.{bytes_eq}
use Rattle.std.specs.FinMap.{get, empty}
use Rattle.std.proofs.lemmas.Bool.{eqb-true, lt-leb}
use Rattle.slon_base.specs.Codec.{list_bytes, IsText}
use Rattle.slon_model.specs.Names.{Named, find_named}
use Rattle.slon_model.specs.Rows.{Rows, Action, apply, is_on, member, touches}
use Rattle.slon_model.specs.Place.{Place, Filling, filled, filling_of, has_writer, open_xids, rows_since, seen_rows}
use Rattle.slon_model.specs.Place.{standing_rows}
use Rattle.slon_model.proofs.Names.{bytes_same}
use Rattle.slon_laws.proofs.Opens.{or_parts}
use Rattle.slon_laws.specs.Sound.{Sound}
use Rattle.app_store.specs.declared.opens.Transaction.{Transaction}
use Rattle.app_store.specs.Fits.{IsOpened, has_written}
use Rattle.app_store.specs.Spelled.{over, row_key}
use Rattle.change_apply.specs.Copied.{with_tables}
use Rattle.node_store.specs.Bringing.{CanFill}

-- ---- a filling

-- nothing is filled
pub none_fill : (p : Place) → CanFill p []
none_fill p = record { unwritten = tt; formed = tt }

and_false : (a b : Bool) → ((a && false) && b) ≡ false
and_false true b = refl
and_false false b = refl

-- all actions are before it
pub since_new : (test : Action → Bool) (table : List ℕ) (actions : List Action) (f : Filling) →
    AllByRecursion (λ a. a.number < f.first) actions → rows_since test table actions f ≡ f.rows
since_new test table [] f below = refl
since_new test table (a ∷ rest) f below =
    let later : Rows = rows_since test table rest f in
    ap (λ b. cond ((test a && b) && bytes_eq table a.table) (apply a.change later) later)
    (lt-leb f.first a.number below.0)
    ∙ ap (λ b. cond b (apply a.change later) later) (and_false (test a) (bytes_eq table a.table))
    ∙ since_new test table rest f below.1

-- the fillings of tables that no open transaction wrote
abbrev fillings_of : Place → Named Rows → Named Filling → Named Filling
fillings_of p [] fillings = fillings
fillings_of p (r ∷ rs) fillings =
    (r.0, record { first = p.numbers.next; rows = r.1 }) ∷ fillings_of p rs fillings

all_filled : (p : Place) (rs : Named Rows) (fillings : Named Filling) →
    AllByRecursion (λ r. has_writer r.0 p ≡ false) rs → filled p rs fillings ≡ fillings_of p rs fillings
all_filled p [] fillings none = refl
all_filled p (r ∷ rs) fillings none =
    ap (λ b. cond b (filled p rs fillings)
    ((r.0, record { first = p.numbers.next; rows = r.1 }) ∷ filled p rs fillings)) none.0
    ∙ ap (λ fs. (r.0, record { first = p.numbers.next; rows = r.1 }) ∷ fs) (all_filled p rs fillings none.1)

-- ---- what tables hold

-- the place with tables filled
abbrev pub with_filled : Named Rows → Place → Place
with_filled rs p = record p { fillings = filled p rs p.fillings }

filled_rows : (test : Action → Bool) (p : Place) (rs : Named Rows) (table : List ℕ) → Sound p →
    rows_since test table p.actions (filling_of table (fillings_of p rs p.fillings))
    ≡ with_tables rs (λ other. rows_since test other p.actions (filling_of other p.fillings)) table
filled_rows test p [] table sound = refl
filled_rows test p (r ∷ rs) table sound =
    elim (bytes_eq table r.0) as (λ b. bytes_eq table r.0 ≡ b → rows_since test table p.actions
    (filling_of table (fillings_of p (r ∷ rs) p.fillings))
    ≡ cond b r.1
    (with_tables rs (λ other. rows_since test other p.actions (filling_of other p.fillings)) table)) [
      | true ↦ λ here. ap (rows_since test table p.actions) (found here)
          ∙ since_new test table p.actions _ sound.numbered
      | false ↦ λ apart. ap (rows_since test table p.actions) (others apart) ∙ filled_rows test p rs table sound
    ] refl
  where
    first : Filling
    first = record { first = p.numbers.next; rows = r.1 }

    at : Bool → Filling
    at b =
        unwrap_or (cond b (Some first) (find_named table (fillings_of p rs p.fillings)))
        (record { first = 0; rows = empty })

    found : bytes_eq table r.0 ≡ true → filling_of table (fillings_of p (r ∷ rs) p.fillings) ≡ first
    found here = ap at here

    others : bytes_eq table r.0 ≡ false →
        filling_of table (fillings_of p (r ∷ rs) p.fillings) ≡ filling_of table (fillings_of p rs p.fillings)
    others apart = ap at apart

since_filled : (test : Action → Bool) (p : Place) (rs : Named Rows) (table : List ℕ) → Sound p → CanFill p rs →
    rows_since test table p.actions (filling_of table (filled p rs p.fillings))
    ≡ with_tables rs (λ other. rows_since test other p.actions (filling_of other p.fillings)) table
since_filled test p rs table sound can =
    ap (λ fs. rows_since test table p.actions (filling_of table fs)) (all_filled p rs p.fillings can.unwritten)
    ∙ filled_rows test p rs table sound

pub standing_filled : (p : Place) (rs : Named Rows) (table : List ℕ) → Sound p → CanFill p rs →
    standing_rows (with_filled rs p) table ≡ with_tables rs (standing_rows p) table
standing_filled p rs table sound can = since_filled (λ a. member a.xid p.commits) p rs table sound can

-- ---- what open transactions see

-- a transaction that is open has not written a table that none has written
unwritten_by : (x : ℕ) (table key : List ℕ) (xs : List ℕ) (actions : List Action) → member x xs ≡ true →
    list_any (λ a. member a.xid xs && bytes_eq table a.table) actions ≡ false →
    has_written x table key actions ≡ false
unwritten_by x table key xs [] is none = refl
unwritten_by x table key xs (a ∷ rest) is none =
    let parts = or_parts (member a.xid xs && bytes_eq table a.table) _ none in
    ap (λ b. b || has_written x table key rest) (one parts.0) ∙ unwritten_by x table key xs rest is parts.1
  where
    one : (member a.xid xs && bytes_eq table a.table) ≡ false → (a.xid == x && is_on table key a) ≡ false
    one none_of =
        elim (a.xid == x) as (λ b. (a.xid == x) ≡ b → (b && is_on table key a) ≡ false) [
          | true ↦ λ own. ap (λ b. b && touches key a.change)
              (sym (ap (λ b. b && bytes_eq table a.table) (ap (λ z. member z xs) (eqb-true a.xid x own) ∙ is))
              ∙ none_of)
          | false ↦ λ _. refl
        ] refl

over_none : {A : Type 0} (written : Option (Option A)) (there : Option A) → is_some written ≡ false →
    over written there ≡ there
over_none None there none = refl
over_none (Some w) there none = absurd cc

pub opened_filled : {p : Place} {x : ℕ} {t : Transaction} (rs : Named Rows) → Sound p → CanFill p rs →
    member x (open_xids p) ≡ true → IsOpened p x t → IsOpened (with_filled rs p) x t
opened_filled {p} {x} {t} rs sound can is o = record {
  xid_is = o.xid_is;
  actions = o.actions;
  sees = λ table key text. ap (λ rows. option_map list_bytes (get rows key))
      (since_filled (λ a. member a.xid (x ∷ p.commits)) p rs table sound can)
      ∙ sees rs can.unwritten table key text
      ∙ sym (ap (λ rows. over (get t.writes (row_key table key)) (option_map list_bytes (get rows key)))
      (standing_filled p rs table sound can));
  wrote = o.wrote;
  keys = o.keys;
}
  where
    sees : (rs : Named Rows) → AllByRecursion (λ r. has_writer r.0 p ≡ false) rs → (table key : List ℕ) → IsText table →
        option_map list_bytes (get (with_tables rs (seen_rows x p) table) key)
        ≡ over (get t.writes (row_key table key))
        (option_map list_bytes (get (with_tables rs (standing_rows p) table) key))
    sees [] none table key text = o.sees table key text
    sees (r ∷ rs) none table key text =
        elim (bytes_eq table r.0) as (λ b. bytes_eq table r.0 ≡ b →
        option_map list_bytes (get (cond b r.1 (with_tables rs (seen_rows x p) table)) key)
        ≡ over (get t.writes (row_key table key))
        (option_map list_bytes (get (cond b r.1 (with_tables rs (standing_rows p) table)) key))) [
          | true ↦ λ here. sym (over_none (get t.writes (row_key table key)) (option_map list_bytes (get r.1 key))
              (o.wrote table key text
              ∙ unwritten_by x table key (open_xids p) p.actions is
              (ap (λ name. has_writer name p) (bytes_same table r.0 here) ∙ none.0)))
          | false ↦ λ apart. sees rs none.1 table key text
        ] refl
