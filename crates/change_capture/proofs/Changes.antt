-- What is said of a change by the row that it is logged as.
use Rattle.std.proofs.Common.{◌≡◌, ℕ, List, [], ◌∷◌, ◌++◌, length, sym, ap, ◌∙◌}
use Rattle.std.specs.Fmt.{decimal}
use Rattle.change_capture.specs.declared.action.Change.{Change}
use Rattle.change_capture.specs.declared.action.Change.TheVariants.{Put, Set, Remove}
use Rattle.change_capture.specs.declared.action.Action.{Action}
use Rattle.change_capture.specs.declared.log_row.LogCommand.TheVariants.{Update}
use Rattle.change_capture.specs.declared.log_row.LogRow.{LogRow}
use Rattle.change_capture.specs.Capture.{paired, columns_of, command_of, log_row}
use Rattle.change_capture.specs.Reading.{HasColumns, AreColumns, IsLoggedBy, IsLogOf}
use Rattle.change_capture.proofs.Lists.{same_back}
use Rattle.change_capture.proofs.Pairs.{paired-append, paired_same, numbered_same}
use Rattle.change_capture.proofs.Parts.{table_same}

-- changed columns
pub record SetOf (count : ℕ) (texts : List (List ℕ)) : Type 0 where
  pub key : List ℕ
  pub columns : List (ℕ × List ℕ)
  pub fits : AreColumns columns
  pub counted : count ≡ length columns
  pub named : texts ≡ paired columns ++ decimal 1 ∷ key ∷ []

pub set_of : (count : ℕ) (texts : List (List ℕ)) (change : Change) → IsLoggedBy Update count texts change →
    SetOf count texts
set_of count texts (Set key columns) l = record {
  key = key;
  columns = columns;
  fits = l.can;
  counted = l.columns;
  named = l.arguments ∙ paired-append columns ((1, key) ∷ []);
}
set_of count texts others l = let kind = l.command in cc

-- changed columns in front of a number and a key
pub record SetAt (count : ℕ) (front : List (List ℕ)) (number : List ℕ) : Type 0 where
  pub columns : List (ℕ × List ℕ)
  pub fits : AreColumns columns
  pub counted : count ≡ length columns
  pub front_is : front ≡ paired columns
  pub number_is : number ≡ decimal 1

pub set_at : (count : ℕ) (texts front : List (List ℕ)) (number key : List ℕ) (change : Change) →
    texts ≡ front ++ number ∷ key ∷ [] → IsLoggedBy Update count texts change → SetAt count front number
set_at count texts front number key change is l =
    let s = set_of count texts change l in
    let back = same_back front (paired s.columns) number key (decimal 1) s.key (sym is ∙ s.named) in
    record {
      columns = s.columns;
      fits = s.fits;
      counted = s.counted;
      front_is = back.front_is;
      number_is = back.first;
    }

-- changes that are logged alike are the same
change_same : (x y : Change) → command_of x ≡ command_of y → HasColumns x → HasColumns y →
    paired (columns_of x) ≡ paired (columns_of y) → x ≡ y
change_same (Put key values) (Put other more) kind f g e =
    let k : key ≡ other = cc in
    let v = numbered_same 2 values more cc in
    λ i. Put (k i) (v i)
change_same (Set key columns) (Set other more) kind f g e =
    let back =
    same_back (paired columns) (paired more) (decimal 1) key (decimal 1) other
    (sym (paired-append columns ((1, key) ∷ [])) ∙ e ∙ paired-append more ((1, other) ∷ [])) in
    let c = paired_same columns more f g back.front_is in
    λ i. Set (back.second i) (c i)
change_same (Remove key) (Remove other) kind f g e =
    let k : key ≡ other = cc in
    λ i. Remove (k i)
change_same x others kind f g e = cc

-- one action alone is logged as a row
pub action_same : (n : ℕ) (row : LogRow) (x y : Action) → IsLogOf n row x → IsLogOf n row y → x ≡ y
action_same n row x y h k =
    let rows : log_row row.xid row.table x ≡ log_row row.xid row.table y = sym h.row ∙ k.row in
    let number = h.number ∙ sym k.number in
    let table =
    table_same x.table y.table h.can.table k.can.table (ap (λ (r : LogRow). r.names) rows) in
    let change =
    change_same x.change y.change (ap (λ (r : LogRow). r.command) rows) h.can.columns k.can.columns
    (ap (λ (r : LogRow). r.arguments) rows) in
    λ i. record { number = number i; table = table i; change = change i }
