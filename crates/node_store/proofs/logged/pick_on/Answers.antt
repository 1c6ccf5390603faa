use Rattle.std.proofs.Common.{◌≡◌, ◌∙◌, List, map, rules, subst, sym}
use Rattle.std.specs.List.{AllByRecursion}
use Rattle.std.specs.Vec.Iter.{into_iter_items}
use Rattle.std.proofs.lemmas.List.{nil_from_length}
use Rattle.std.proofs.lemmas.Result.{err_from_is_err_and}
use Rattle.slon_model.specs.Deeds.{Logged}
use Rattle.slon_model.specs.Following.{is_on_one}
use Rattle.slon_laws.specs.Spelled.{AreWritten}
use Rattle.log_switch.specs.Between.{CanBeLogged}
use Rattle.set_config.proofs.Holding.{gives_stop}
use Rattle.node_change.specs.Done.{row_of}
use Rattle.node_store.specs.declared.logged.LoggedRows.{LoggedRows}
use Rattle.node_store.proofs.Sifting.{IsSifted, all_sifted, none_can, none_sifted, one_sifted, sifting_stops}
use Rattle.node_store.proofs.logged.pick_on.Goals as goal

pub loop-number-init : goal.loop-number-init
loop-number-init c =
    let items = c.into_iter-number-iterator.ensures.into_iter_gives.0 ∙ c.into_vec-number-items.ensures in
    let left = subst (AllByRecursion CanBeLogged) (sym items) c.requires.can in
    let rows = c.in_ok-with_capacity in
    let actions = c.in_ok-with_capacity-2 in
    let none : LoggedRows = record { rows = rows.field-0; actions = actions.field-0 } in
    let can = none_can rows.ensures actions.ensures in
    let says : (logs : List Logged) → AreWritten logs → c.args.rows ≡ map row_of logs →
    IsSifted (is_on_one c.args.tables.now) logs none (into_iter_items c.into_iter-number-iterator.result) =
    λ logs written are. none_sifted (is_on_one c.args.tables.now) logs none rows.ensures actions.ensures written
    (items ∙ are) in
    search (rules, left, can, says)

pub add_on-requires : goal.add_on-requires
add_on-requires c = record {
  can = (subst (AllByRecursion CanBeLogged) c.in-Some.ensures.steps.0 c.loop-number.invariant.left).0;
}

pub returns-in_err-add_on-clause-says : goal.returns-in_err-add_on-clause-says
returns-in_err-add_on-clause-says c logs written are =
    let left = subst (IsSifted (is_on_one c.args.tables.now) logs c.loop-number.found) c.in-Some.ensures.steps.0
    (c.loop-number.invariant.says logs written are) in
    let handed = c.from_residual-in_err-add_on in
    gives_stop _ handed.result (err_from_is_err_and handed.result handed.ensures.1)
    (sifting_stops left (λ l written is. c.in_err-add_on.ensures.says l written is))

pub loop-number-preserved : goal.loop-number-preserved
loop-number-preserved c =
    let step = c.in-Some.ensures.steps.0 in
    let left = (subst (AllByRecursion CanBeLogged) step c.loop-number.invariant.left).1 in
    let can = c.in_ok-add_on.ensures.can c.loop-number.invariant.can in
    let says : (logs : List Logged) → AreWritten logs → c.args.rows ≡ map row_of logs →
    IsSifted (is_on_one c.args.tables.now) logs c.add_on.new.found (into_iter_items c.next.new.self) =
    λ logs written are. one_sifted c.add_on.new.found
    (subst (IsSifted (is_on_one c.args.tables.now) logs c.loop-number.found) step
    (c.loop-number.invariant.says logs written are)) c.in_ok-add_on.ensures.says in
    search (rules, left, can, says)

pub returns-clause-says : goal.returns-clause-says
returns-clause-says c logs written are =
    let end = nil_from_length (into_iter_items c.loop-number.number-iterator)
    (sym c.loop-number.invariant.counted ∙ c.in-None.ensures.steps.0) in
    all_sifted (subst (IsSifted (is_on_one c.args.tables.now) logs c.loop-number.found) end
    (c.loop-number.invariant.says logs written are))
