use Rattle.std.proofs.Common.{◌∙◌, ℕ, List, [], ◌∷◌, Option, Some, None}
use Rattle.std.specs.Prelude.{IfOk, not}
use Rattle.std.specs.Option.{option_map}
use Rattle.slon_model.specs.declared.reply.Refusal.{Refusal}
use Rattle.slon_model.specs.declared.reply.Refusal.TheVariants as refused
use Rattle.slon_model.specs.Sessions.{Seat, when}
use Rattle.slon_model.specs.Config.{is_live}
use Rattle.slon_model.specs.Membership.{set_used_by}
use Rattle.node_state.proofs.Formed.{if_ok}
use Rattle.app_store.specs.Base.{base_of}
use Rattle.slonik_exec.specs.Answering.{Checks, AtSeat}
use Rattle.slonik_exec.specs.Statements.{leaver_checks}
use Rattle.slonik_exec.proofs.Works.{Checked, checked_as, checked_at, checked_if, ended, chained}
use Rattle.slonik_exec.proofs.leaving.check_leaver.Goals as goal

abbrev There : ℕ → Seat → List (Option Refusal)
There node s = when (not (is_live node s.known.config)) (refused.NoNode node) ∷ []

abbrev Uses : ℕ → Seat → List (Option Refusal)
Uses node s = option_map refused.StillUsed (set_used_by node s.known.config) ∷ []

pub returns-in-Some-clause-refuses : goal.returns-in-Some-clause-refuses
returns-in-Some-clause-refuses g c =
    let node = c.args.node in
    let first : Checked c.args.seat.now.name (There node) (base_of g.K.Keeper.kept c.args.seat.now.database)
    (Some c.in-Some.reply) _
    = checked_as c.in-Some.is (record {
      checks = c.in_ok-reply.ensures.checks;
      refuses = c.in_ok-reply.ensures.refuses;
    }) in
    (ended (Uses node) first).refuses

pub returns : goal.returns
returns g c =
    let node = c.args.node in
    let due = leaver_checks node in
    let name = c.args.seat.now.name in
    let old = base_of g.K.Keeper.kept c.args.seat.now.database in
    let mid = base_of g.K.Keeper.kept c.check_there.new.seat.database in
    let new = base_of g.K.Keeper.kept c.check_unused.new.seat.database in
    let first : Checked name (There node) old None mid
    = checked_as c.in_default.is (record {
      checks = c.in_ok-reply.ensures.checks;
      refuses = c.in_ok-reply.ensures.refuses;
    }) in
    let same = c.in_ok-reply.ensures.name in
    let last = checked_if c.check_there.new.seat.name (Uses node) mid new c.check_unused.result
    c.check_unused.ensures.checks c.check_unused.ensures.refuses in
    let all : IfOk c.check_unused.result (λ found. Checked name due old found new)
    = if_ok (λ found. Checked c.check_there.new.seat.name (Uses node) mid found new)
    (λ found. Checked name due old found new) c.check_unused.result
    (λ found done. chained found first (checked_at same done)) last in
    record {
      checks = if_ok (λ found. Checked name due old found new)
          (λ found. Checks name old found new) c.check_unused.result (λ found done. done.checks) all;
      refuses = if_ok (λ found. Checked name due old found new)
          (λ found. AtSeat name due old found new) c.check_unused.result
          (λ found done. done.refuses) all;
      name = c.check_unused.ensures.name ∙ same;
    }
