use Rattle.std.proofs.Common.{◌≡◌, ◌∙◌, sym, subst}
use Rattle.change_apply.specs.Copied.{AreRowsOf}
use Rattle.change_apply.proofs.Replacing.{found_if, spelled_at, gives_as}
use Rattle.change_apply.proofs.Tables.{table_of}
use Rattle.change_apply.proofs.copying.table_rows.Goals as goal

pub returns-clause-found : goal.returns-clause-found
returns-clause-found g c m seen =
    found_if c.args.table.now c.as_slice.result.now c.as_slice-2.result.now m c.scan_rows.result
    (c.as_slice.ensures ∙ c.in_ok-prefix.ensures) (c.as_slice-2.ensures ∙ c.in_ok-prefix.ensures)
    (c.scan_rows.ensures.found m seen)

pub returns-clause-says : goal.returns-clause-says
returns-clause-says g c m tables seen held =
    let table = c.args.table.now in
    let t = table_of table tables m c.requires held in
    gives_as (λ found. found ≡ t.rows) (AreRowsOf (tables table)) c.scan_rows.result
    (λ found is. subst (AreRowsOf (tables table)) (sym is) t.are)
    (c.scan_rows.ensures.gives m t.rows seen t.found.can
    (spelled_at c.as_slice.result.now c.as_slice-2.result.now (c.as_slice.ensures ∙ c.in_ok-prefix.ensures)
    (c.as_slice-2.ensures ∙ c.in_ok-prefix.ensures) t.found))
