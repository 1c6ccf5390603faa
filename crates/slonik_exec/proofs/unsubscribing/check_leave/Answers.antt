use Rattle.std.proofs.Common.{◌∙◌, ℕ, List, [], ◌∷◌, Option, Some, None}
use Rattle.std.specs.Prelude.{IfOk}
use Rattle.slon_model.specs.declared.reply.Refusal.{Refusal}
use Rattle.slon_model.specs.declared.reply.Refusal.TheVariants as refused
use Rattle.slon_model.specs.Sessions.{Seat, when}
use Rattle.slon_model.specs.Subscribing.{is_unfed, leave_checks, provides}
use Rattle.node_state.proofs.Formed.{if_ok}
use Rattle.app_store.specs.Base.{base_of}
use Rattle.slonik_exec.specs.Answering.{Checks, AtSeat}
use Rattle.slonik_exec.proofs.Works.{Checked, checked_as, checked_at, checked_if, ended, chained}
use Rattle.slonik_exec.proofs.unsubscribing.check_leave.Goals as goal

abbrev Unfed : ℕ → ℕ → Seat → List (Option Refusal)
Unfed set receiver s = when (is_unfed set receiver s.known.config) (refused.NotActive receiver) ∷ []

abbrev Provides : ℕ → ℕ → Seat → List (Option Refusal)
Provides set receiver s = when (provides receiver set s.known.config) (refused.HasReceivers receiver) ∷ []

pub returns-in-Some-clause-refuses : goal.returns-in-Some-clause-refuses
returns-in-Some-clause-refuses g c =
    let set = c.args.set in
    let receiver = c.args.receiver in
    let first : Checked c.args.seat.now.name (Unfed set receiver) (base_of g.K.Keeper.kept c.args.seat.now.database)
    (Some c.in-Some.reply) _
    = checked_as c.in-Some.is (record {
      checks = c.in_ok-reply.ensures.checks;
      refuses = c.in_ok-reply.ensures.refuses;
    }) in
    (ended (Provides set receiver) first).refuses

pub returns : goal.returns
returns g c =
    let set = c.args.set in
    let receiver = c.args.receiver in
    let due : Seat → List (Option Refusal) = λ s. leave_checks set receiver s.known.config in
    let name = c.args.seat.now.name in
    let old = base_of g.K.Keeper.kept c.args.seat.now.database in
    let mid = base_of g.K.Keeper.kept c.check_fed.new.seat.database in
    let new = base_of g.K.Keeper.kept c.check_feeds_none.new.seat.database in
    let first : Checked name (Unfed set receiver) old None mid
    = checked_as c.in_default.is (record {
      checks = c.in_ok-reply.ensures.checks;
      refuses = c.in_ok-reply.ensures.refuses;
    }) in
    let same = c.in_ok-reply.ensures.name in
    let last = checked_if c.check_fed.new.seat.name (Provides set receiver) mid new c.check_feeds_none.result
    c.check_feeds_none.ensures.checks c.check_feeds_none.ensures.refuses in
    let all : IfOk c.check_feeds_none.result (λ found. Checked name due old found new)
    = if_ok (λ found. Checked c.check_fed.new.seat.name (Provides set receiver) mid found new)
    (λ found. Checked name due old found new) c.check_feeds_none.result
    (λ found done. chained found first (checked_at same done)) last in
    record {
      checks = if_ok (λ found. Checked name due old found new)
          (λ found. Checks name old found new) c.check_feeds_none.result (λ found done. done.checks) all;
      refuses = if_ok (λ found. Checked name due old found new)
          (λ found. AtSeat name due old found new) c.check_feeds_none.result
          (λ found done. done.refuses) all;
      name = c.check_feeds_none.ensures.name ∙ same;
    }
