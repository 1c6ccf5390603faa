use Rattle.std.proofs.Common.{◌≡◌, ◌∙◌, map, refl, List, ℕ, Ok, Err, sym, subst}
use Rattle.std.proofs.lemmas.Result.{err_from_is_err_and}
use Rattle.slon_model.specs.Place.{Place, standing_rows}
use Rattle.slon_model.specs.Views.{first_view}
use Rattle.slon_model.specs.Following.{rows_in}
use Rattle.slon_model.specs.Working.{rows_at}
use Rattle.change_apply.specs.Copied.{AreListed, CanCopyAll, Listed}
use Rattle.txn_core.specs.Snapshots.{seen_as}
use Rattle.event_store.specs.declared.view.View.{View}
use Rattle.node_change.specs.declared.side.Side.TheVariants.{To}
use Rattle.event_store.specs.Kept.{seen_view}
use Rattle.event_store.specs.Seen.{seen_event}
use Rattle.app_store.specs.Base.{base_of}
use Rattle.node_store.specs.declared.bringing.SetCopy.{SetCopy}
use Rattle.node_store.specs.Bringing.{rows_listed}
use Rattle.node_store.specs.Joining.{Pair}
use Rattle.node_store.specs.Looking.{OfConfig}
use Rattle.remote_worker.specs.Fetching.{Asked}
use Rattle.remote_worker.specs.Keeping.{names_to}
use Rattle.remote_worker.proofs.Counted.{rows_read}
use Rattle.remote_worker.proofs.Finding.{copied_found, refused_copy}
use Rattle.remote_worker.proofs.Looking.{fails, found_at, looked_up, own_look, provider_look, so, then, unseen}
use Rattle.remote_worker.proofs.fetching.Worker+Taken.copy.Goals as goal

-- what is looked up of the tables of a set
abbrev NamesAt : ℕ → ℕ → Place → List (List ℕ) → Type 0
NamesAt own set = OfConfig (λ k names. names ≡ names_to own set k)

-- what is read of these tables
abbrev RowsAt : List (List ℕ) → Place → Listed → Type 0
RowsAt names p rows = AreListed (map (λ name. (name, standing_rows p name)) names) rows

pub returns-in_err-names-clause-copies : goal.returns-in_err-names-clause-copies
returns-in_err-names-clause-copies g c =
    let set = c.args.copying.set in
    fails c.from_residual.result (err_from_is_err_and c.from_residual.result c.from_residual.ensures.1)
    (own_look (NamesAt c.args.self.node set) (base_of g.K.Keeper.kept c.args.provider.now) c.tables_of.result
    (Err c.in_err-names.field-0.0) c.in_err-names.ensures
    (looked_up (NamesAt c.args.self.node set) c.tables_of.result c.tables_of.ensures.acts c.tables_of.ensures.looks
    c.tables_of.ensures.same))

pub returns-in-Some-clause-copies : goal.returns-in-Some-clause-copies
returns-in-Some-clause-copies g c =
    let set = c.args.copying.set in
    let a : Asked = record {
      copying = c.args.copying;
      own = c.args.self.node;
      event = seen_event c.args.event.now;
    } in
    so (λ p q both. refused_copy (seen_as c.args.seen) a p q c.as_slice.result.now c.in-Some.refusal
    (λ n is. c.as_slice.ensures.value ∙ both.0 n is) (both.1 ∙ c.in-Some.is))
    (then (Ok c.in_ok-refusal.field-0)
    (own_look (NamesAt c.args.self.node set) (base_of g.K.Keeper.kept c.args.provider.now) c.tables_of.result
    (Ok c.in_ok-names.names) c.in_ok-names.ensures
    (looked_up (NamesAt c.args.self.node set) c.tables_of.result c.tables_of.ensures.acts c.tables_of.ensures.looks
    c.tables_of.ensures.same))
    c.in_ok-refusal.ensures.looks)

pub returns-in_err-tables-clause-copies : goal.returns-in_err-tables-clause-copies
returns-in_err-tables-clause-copies g c =
    let set = c.args.copying.set in
    let names = c.as_slice-2.result.now in
    let moved = c.from_residual-in_err-tables in
    fails moved.result (err_from_is_err_and moved.result moved.ensures.1)
    (then (Err c.in_err-tables.field-0.0)
    (then (Ok c.in_ok-refusal.field-0)
    (own_look (NamesAt c.args.self.node set) (base_of g.K.Keeper.kept c.args.provider.now) c.tables_of.result
    (Ok c.in_ok-names.names) c.in_ok-names.ensures
    (looked_up (NamesAt c.args.self.node set) c.tables_of.result c.tables_of.ensures.acts c.tables_of.ensures.looks
    c.tables_of.ensures.same))
    c.in_ok-refusal.ensures.looks)
    (provider_look (RowsAt names) (base_of g.K.Keeper.kept c.check_tables.new.own) c.read_tables.result
    (Err c.in_err-tables.field-0.0) c.in_err-tables.ensures
    (looked_up (RowsAt names) c.read_tables.result c.read_tables.ensures.acts c.read_tables.ensures.looks
    c.read_tables.ensures.same)))

pub returns-clause-copies : goal.returns-clause-copies
returns-clause-copies g c =
    let kept = g.K.Keeper.kept in
    let copying = c.args.copying in
    let e = seen_event c.args.event.now in
    let a : Asked = record { copying = copying; own = c.args.self.node; event = e } in
    let seen = seen_as c.args.seen in
    let names = c.as_slice.result.now in
    let later = c.as_slice-2.result.now in
    let view = c.in_ok-view.view in
    let tables = c.in_ok-tables.tables in
    let given : SetCopy = record { set = copying.set; view = view; tables = tables } in
    let mid : Pair = record {
      from = base_of kept c.check_tables.new.own;
      to = base_of kept c.check_tables.new.provider;
    } in
    so (λ p q all.
    let rows = subst (λ ns. RowsAt ns q tables) (c.as_slice-2.ensures.value ∙ sym c.as_slice.ensures.value) all.1 in
    copied_found a seen p q given c.with.result (record {
      names = names;
      names_are = λ n is. c.as_slice.ensures.value ∙ all.0.0.0 n is;
      passed = all.0.0.1 ∙ c.in_default.is;
      set_is = refl;
      view_is = all.0.1.0;
      rows = rows;
      counted = all.0.1.1 names tables
          (found_at CanCopyAll To c.read_tables.result tables c.in_ok-tables.ensures c.read_tables.ensures.can)
          rows;
    }) c.with.ensures.load_is)
    (then (Ok tables)
    (then (Ok view)
    (then (Ok c.in_ok-refusal.field-0)
    (own_look (NamesAt c.args.self.node copying.set) (base_of kept c.args.provider.now) c.tables_of.result
    (Ok c.in_ok-names.names) c.in_ok-names.ensures
    (looked_up (NamesAt c.args.self.node copying.set) c.tables_of.result c.tables_of.ensures.acts
    c.tables_of.ensures.looks
    c.tables_of.ensures.same))
    c.in_ok-refusal.ensures.looks)
    (unseen (λ p q (v : View). (seen_view v ≡ first_view copying.era e.origin e.number seen)
    × ((ns : List (List ℕ)) (ts : Listed) → CanCopyAll ts → AreListed (rows_at q ns) ts →
    rows_in (rows_at q ns) ≡ rows_listed ts))
    mid view
    (λ p q here there. (
      c.in_ok-view.ensures.first,
      λ ns ts can are. rows_read q ns ts there.spelled can are,
    ))))
    (provider_look (RowsAt later) (base_of kept c.check_tables.new.own) c.read_tables.result
    (Ok c.in_ok-tables.tables) c.in_ok-tables.ensures
    (looked_up (RowsAt later) c.read_tables.result c.read_tables.ensures.acts c.read_tables.ensures.looks
    c.read_tables.ensures.same)))
