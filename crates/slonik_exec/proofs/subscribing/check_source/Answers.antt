use Rattle.std.proofs.Common.{◌∙◌, ◌++◌, ◌&&◌, not, List, [], ◌∷◌, Option, Some, None}
use Rattle.slon_model.specs.declared.reply.Refusal.{Refusal}
use Rattle.slon_model.specs.declared.reply.Refusal.TheVariants as refused
use Rattle.slon_model.specs.Config.{forwards}
use Rattle.slon_model.specs.Sessions.{Seat, when}
use Rattle.slon_model.specs.Subscribing.{NewFeed, is_active, is_relayed}
use Rattle.app_store.specs.Base.{base_of}
use Rattle.slonik_exec.specs.Statements.{feed_as, row_checks}
use Rattle.slonik_exec.proofs.Works.{Checked, checked_as, checked_at, checked_thrice, ended, chained}
use Rattle.slonik_exec.proofs.subscribing.check_source.Goals as goal

abbrev Active : NewFeed → Seat → List (Option Refusal)
Active f s = when (is_relayed s f && not (is_active s f.set_id f.provider)) (refused.NotActive f.provider) ∷ []

abbrev Forwarding : NewFeed → Seat → List (Option Refusal)
Forwarding f s =
    when (is_relayed s f && not (forwards f.set_id f.provider s.known.config)) (refused.NotForwarding f.provider) ∷ []

abbrev Row : NewFeed → Seat → List (Option Refusal)
Row f s = row_checks s f

pub returns-in-Some-clause-refuses : goal.returns-in-Some-clause-refuses
returns-in-Some-clause-refuses g c =
    let f = feed_as c.args.feed in
    let first : Checked c.args.seat.now.name (Active f) (base_of g.K.Keeper.kept c.args.seat.now.database)
    (Some c.in-Some.reply) _
    = checked_as c.in-Some.is (record
    { checks = c.in_ok-reply.ensures.checks; refuses = c.in_ok-reply.ensures.refuses }) in
    (ended (λ s. Forwarding f s ++ Row f s) first).refuses

pub returns-in-Some-2-clause-refuses : goal.returns-in-Some-2-clause-refuses
returns-in-Some-2-clause-refuses g c =
    let f = feed_as c.args.feed in
    let name = c.args.seat.now.name in
    let first : Checked name (Active f) (base_of g.K.Keeper.kept c.args.seat.now.database) None _
    = checked_as c.in_default.is (record
    { checks = c.in_ok-reply.ensures.checks; refuses = c.in_ok-reply.ensures.refuses }) in
    let second : Checked name (Forwarding f) _ (Some c.in-Some-2.reply) _
    = checked_at c.in_ok-reply.ensures.name (checked_as c.in-Some-2.is (record
    { checks = c.in_ok-reply-2.ensures.checks; refuses = c.in_ok-reply-2.ensures.refuses })) in
    (ended (Row f) (chained (Some c.in-Some-2.reply) first second)).refuses

pub returns : goal.returns
returns g c =
    let f = feed_as c.args.feed in
    let name = c.args.seat.now.name in
    let first : Checked name (Active f) (base_of g.K.Keeper.kept c.args.seat.now.database) None _
    = checked_as c.in_default.is (record
    { checks = c.in_ok-reply.ensures.checks; refuses = c.in_ok-reply.ensures.refuses }) in
    let second : Checked name (Forwarding f) _ None (base_of g.K.Keeper.kept c.check_forwarding.new.seat.database)
    = checked_at c.in_ok-reply.ensures.name (checked_as c.in_default-2.is (record
    { checks = c.in_ok-reply-2.ensures.checks; refuses = c.in_ok-reply-2.ensures.refuses })) in
    let same = c.in_ok-reply-2.ensures.name ∙ c.in_ok-reply.ensures.name in
    let all = checked_thrice (Row f) c.check_row.result first second same
    (c.check_row.ensures.checks, c.check_row.ensures.refuses) in
    record { checks = all.checks; refuses = all.refuses; name = c.check_row.ensures.name ∙ same }
