use Rattle.std.proofs.Common.{◌∙◌, ◌++◌, ◌==◌, ◌||◌, ℕ, not, List, [], ◌∷◌, Option, Some, None}
use Rattle.std.specs.Prelude.{IfOk}
use Rattle.slon_model.specs.declared.reply.Refusal.{Refusal}
use Rattle.slon_model.specs.declared.reply.Refusal.TheVariants as refused
use Rattle.slon_model.specs.Config.{is_known}
use Rattle.slon_model.specs.Sessions.{Seat, when}
use Rattle.slon_model.specs.Subscribing.{NewFeed, feed_checks}
use Rattle.node_state.proofs.Formed.{if_ok}
use Rattle.app_store.specs.Base.{base_of}
use Rattle.slonik_exec.specs.Answering.{Checks, AtSeat}
use Rattle.slonik_exec.specs.Statements.{feed_as, source_checks}
use Rattle.slonik_exec.proofs.Works.{Checked, checked_as, checked_at, checked_if, ended, chained}
use Rattle.slonik_exec.proofs.subscribing.check_feed.Goals as goal

abbrev Live : ℕ → Seat → List (Option Refusal)
Live node s = when (not (is_known node s.known.config)) (refused.NoNode node) ∷ []

abbrev Apart : NewFeed → Seat → List (Option Refusal)
Apart f s = when (f.receiver == s.node.id || f.receiver == f.provider) (refused.SameNode f.receiver) ∷ []

abbrev Source : NewFeed → Seat → List (Option Refusal)
Source f s = source_checks s f

pub returns-in-Some-clause-refuses : goal.returns-in-Some-clause-refuses
returns-in-Some-clause-refuses g c =
    let f = feed_as c.args.feed in
    let first : Checked c.args.seat.now.name (Live f.receiver) (base_of g.K.Keeper.kept c.args.seat.now.database)
    (Some c.in-Some.reply) _
    = checked_as c.in-Some.is (record {
      checks = c.in_ok-reply.ensures.checks;
      refuses = c.in_ok-reply.ensures.refuses;
    }) in
    (ended (λ s. Live f.provider s ++ Apart f s ++ Source f s) first).refuses

pub returns-in-Some-2-clause-refuses : goal.returns-in-Some-2-clause-refuses
returns-in-Some-2-clause-refuses g c =
    let f = feed_as c.args.feed in
    let name = c.args.seat.now.name in
    let first : Checked name (Live f.receiver) (base_of g.K.Keeper.kept c.args.seat.now.database) None _
    = checked_as c.in_default.is (record {
      checks = c.in_ok-reply.ensures.checks;
      refuses = c.in_ok-reply.ensures.refuses;
    }) in
    let second : Checked name (Live f.provider) _ (Some c.in-Some-2.reply) _
    = checked_at c.in_ok-reply.ensures.name (checked_as c.in-Some-2.is (record {
      checks = c.in_ok-reply-2.ensures.checks;
      refuses = c.in_ok-reply-2.ensures.refuses;
    })) in
    (ended (λ s. Apart f s ++ Source f s) (chained (Some c.in-Some-2.reply) first second)).refuses

pub returns-in-Some-check_apart-clause-refuses : goal.returns-in-Some-check_apart-clause-refuses
returns-in-Some-check_apart-clause-refuses g c =
    let f = feed_as c.args.feed in
    let name = c.args.seat.now.name in
    let first : Checked name (Live f.receiver) (base_of g.K.Keeper.kept c.args.seat.now.database) None _
    = checked_as c.in_default.is (record {
      checks = c.in_ok-reply.ensures.checks;
      refuses = c.in_ok-reply.ensures.refuses;
    }) in
    let second : Checked name (Live f.provider) _ None _
    = checked_at c.in_ok-reply.ensures.name (checked_as c.in_default-2.is (record {
      checks = c.in_ok-reply-2.ensures.checks;
      refuses = c.in_ok-reply-2.ensures.refuses;
    })) in
    let third : Checked name (Apart f) _ (Some c.in-Some-check_apart.reply) _
    = checked_at (c.in_ok-reply-2.ensures.name ∙ c.in_ok-reply.ensures.name)
    (record { checks = c.in-Some-check_apart.ensures.checks; refuses = c.in-Some-check_apart.ensures.refuses }) in
    (ended (Source f) (chained (Some c.in-Some-check_apart.reply) (chained None first second) third)).refuses

pub returns : goal.returns
returns g c =
    let f = feed_as c.args.feed in
    let name = c.args.seat.now.name in
    let old = base_of g.K.Keeper.kept c.args.seat.now.database in
    let mid = base_of g.K.Keeper.kept c.check_live-2.new.seat.database in
    let new = base_of g.K.Keeper.kept c.check_source.new.seat.database in
    let first : Checked name (Live f.receiver) old None _
    = checked_as c.in_default.is (record {
      checks = c.in_ok-reply.ensures.checks;
      refuses = c.in_ok-reply.ensures.refuses;
    }) in
    let second : Checked name (Live f.provider) _ None mid
    = checked_at c.in_ok-reply.ensures.name (checked_as c.in_default-2.is (record {
      checks = c.in_ok-reply-2.ensures.checks;
      refuses = c.in_ok-reply-2.ensures.refuses;
    })) in
    let same = c.in_ok-reply-2.ensures.name ∙ c.in_ok-reply.ensures.name in
    let third : Checked name (Apart f) mid None mid
    = checked_at same (checked_as c.in_default-check_apart.is (record {
      checks = c.check_apart.ensures.checks;
      refuses = c.check_apart.ensures.refuses;
    })) in
    let last = checked_if c.check_live-2.new.seat.name (Source f) mid new c.check_source.result
    c.check_source.ensures.checks c.check_source.ensures.refuses in
    let all : IfOk c.check_source.result (λ found. Checked name (λ s. feed_checks s f) old found new)
    = if_ok (λ found. Checked c.check_live-2.new.seat.name (Source f) mid found new)
    (λ found. Checked name (λ s. feed_checks s f) old found new) c.check_source.result
    (λ found done. chained found (chained None (chained None first second) third) (checked_at same done)) last in
    record {
      checks = if_ok (λ found. Checked name (λ s. feed_checks s f) old found new)
          (λ found. Checks name old found new) c.check_source.result (λ found done. done.checks) all;
      refuses = if_ok (λ found. Checked name (λ s. feed_checks s f) old found new)
          (λ found. AtSeat name (λ s. feed_checks s f) old found new) c.check_source.result
          (λ found done. done.refuses) all;
      name = c.check_source.ensures.name ∙ same;
    }
