use Rattle.std.proofs.Common.{◌∙◌, ℕ, ◌++◌, true, List, [], ◌∷◌, Option, Some, None}
use Rattle.std.specs.Prelude.{is_none, option_map, IfOk}
use Rattle.slon_model.specs.declared.reply.Refusal.{Refusal}
use Rattle.slon_model.specs.declared.reply.Refusal.TheVariants as refused
use Rattle.slon_model.specs.Names.{find_named}
use Rattle.slon_model.specs.Reaching.{origin_checks, receiver_with}
use Rattle.slon_model.specs.Sessions.{Seat, when}
use Rattle.node_state.proofs.Formed.{if_ok}
use Rattle.app_store.specs.Base.{base_of}
use Rattle.slonik_exec.specs.Answering.{Checks, AtSeat}
use Rattle.slonik_exec.specs.Statements.{set_checks}
use Rattle.slonik_exec.proofs.Works.{Checked, checked_as, checked_at, checked_if, none_left, ended, chained}
use Rattle.slonik_exec.proofs.sets.check_set.Goals as goal

abbrev Origin : ℕ → Seat → List (Option Refusal)
Origin set s = origin_checks s set

abbrev Receivers : ℕ → Seat → List (Option Refusal)
Receivers set s = option_map refused.HasReceivers (receiver_with (λ e. true) set s.known.config) ∷ []

abbrev Table : List ℕ → Seat → List (Option Refusal)
Table name s = when (is_none (find_named name s.place.tables)) (refused.NoTable name) ∷ []

pub returns-in-Some-clause-refuses : goal.returns-in-Some-clause-refuses
returns-in-Some-clause-refuses g c =
    let set = c.args.table.set_id in
    let first : Checked c.args.seat.now.name (Origin set) (base_of g.K.Keeper.kept c.args.seat.now.database)
    (Some c.in-Some.reply) _
    = checked_as c.in-Some.is (record {
      checks = c.in_ok-reply.ensures.checks;
      refuses = c.in_ok-reply.ensures.refuses;
    }) in
    (ended (λ s. Receivers set s ++ Table c.args.table.name.now s) first).refuses

pub returns-in-Some-2-clause-refuses : goal.returns-in-Some-2-clause-refuses
returns-in-Some-2-clause-refuses g c =
    let set = c.args.table.set_id in
    let name = c.args.seat.now.name in
    let first : Checked name (Origin set) (base_of g.K.Keeper.kept c.args.seat.now.database) None _
    = checked_as (none_left c.in_ok-reply.field-0 c.in_default.not-Some) (record {
      checks = c.in_ok-reply.ensures.checks;
      refuses = c.in_ok-reply.ensures.refuses;
    }) in
    let second : Checked name (Receivers set) _ (Some c.in-Some-2.reply) _
    = checked_at c.in_ok-reply.ensures.name (checked_as c.in-Some-2.is (record {
      checks = c.in_ok-reply-2.ensures.checks;
      refuses = c.in_ok-reply-2.ensures.refuses;
    })) in
    (ended (Table c.args.table.name.now) (chained (Some c.in-Some-2.reply) first second)).refuses

pub returns : goal.returns
returns g c =
    let set = c.args.table.set_id in
    let table = c.args.table.name.now in
    let name = c.args.seat.now.name in
    let old = base_of g.K.Keeper.kept c.args.seat.now.database in
    let new = base_of g.K.Keeper.kept c.check_table.new.seat.database in
    let first : Checked name (Origin set) old None _
    = checked_as (none_left c.in_ok-reply.field-0 c.in_default.not-Some) (record {
      checks = c.in_ok-reply.ensures.checks;
      refuses = c.in_ok-reply.ensures.refuses;
    }) in
    let second : Checked name (Receivers set) _ None _
    = checked_at c.in_ok-reply.ensures.name
    (checked_as (none_left c.in_ok-reply-2.field-0 c.in_default-2.not-Some) (record {
      checks = c.in_ok-reply-2.ensures.checks;
      refuses = c.in_ok-reply-2.ensures.refuses;
    })) in
    let same = c.in_ok-reply-2.ensures.name ∙ c.in_ok-reply.ensures.name in
    let third = checked_if _ (Table table) _ new c.check_table.result c.check_table.ensures.checks
    c.check_table.ensures.refuses in
    let all : IfOk c.check_table.result (λ found. Checked name (set_checks set table) old found new)
    = if_ok (λ found. Checked _ (Table table) _ found new)
    (λ found. Checked name (set_checks set table) old found new) c.check_table.result
    (λ found last. chained found (chained None first second) (checked_at same last)) third in
    record {
      checks = if_ok (λ found. Checked name (set_checks set table) old found new)
          (λ found. Checks name old found new) c.check_table.result (λ found done. done.checks) all;
      refuses = if_ok (λ found. Checked name (set_checks set table) old found new)
          (λ found. AtSeat name (set_checks set table) old found new) c.check_table.result
          (λ found done. done.refuses) all;
      name = c.check_table.ensures.name ∙ same;
    }
