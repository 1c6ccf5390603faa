use Rattle.std.proofs.Common.{◌≡◌, ◌∙◌, sym, ap, subst, refl, Ok, Some, None, is_some, not, Bool, cond, true}
use Rattle.std.proofs.Common.{false, Option, ℕ}
use Rattle.std.specs.FinMap.{entries, get}
use Rattle.app_store.specs.Spelled.{rows, tables}
use Rattle.app_store.specs.Scan.{IsTableOf}
use Rattle.app_store.proofs.Formed.{listed_none}
use Rattle.app_store.proofs.Pending.{looks_then, sight_after}
use Rattle.app_store.proofs.work.list_rows.Goals as goal

not_none : (b : Bool) (o : Option ℕ) → is_some o ≡ not b → b ≡ false → is_some o ≡ true
not_none b o is none = is ∙ ap not none

some_rows : {A : Type 0} (columns found : Option ℕ) (rows all : A) → columns ≡ found → is_some columns ≡ true →
    rows ≡ all → Some rows ≡ cond (is_some found) (Some all) None
some_rows columns None rows all is some same = let bad : false ≡ true = ap is_some (sym is) ∙ some in absurd cc
some_rows columns (Some n) rows all is some same = ap (λ r. Some r) same

pub returns : goal.returns
returns g c =
    looks_then (Ok (Some c.in_ok-scan_table.field-0)) refl tt c.in_ok-columns.ensures c.in_ok-scan_table.ensures.safe
    (λ m seen. record {
      says = λ found held small spelled is.
          let same = c.in_ok-scan_table.ensures.finds m (sight_after c.requires.idle c.in_ok-columns.ensures ∙ seen)
          held (subst (λ p. IsTableOf p held (m rows)) (sym (c.as_slice-2.ensures ∙ c.in_ok-name.ensures)) is) in
          let columns = (c.in_ok-columns.ensures.gives m seen).says found small
          (ap (get (m tables)) (c.as_slice.ensures ∙ c.in_ok-name.ensures) ∙ spelled) in
          some_rows c.in_ok-columns.columns found c.in_ok-scan_table.field-0 (entries held) columns
          (not_none c.is_none.result c.in_ok-columns.columns c.is_none.ensures c.if-is_none.false) same;
      form = listed_none c.args.table.now m (c.as_slice.ensures ∙ c.in_ok-name.ensures)
          (c.as_slice-2.ensures ∙ c.in_ok-name.ensures)
          (c.in_ok-columns.ensures.gives m seen).form
          (c.in_ok-scan_table.ensures.form m (sight_after c.requires.idle c.in_ok-columns.ensures ∙ seen));
    })
