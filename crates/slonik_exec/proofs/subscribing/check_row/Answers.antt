use Rattle.std.proofs.Common.{◌∙◌, ◌++◌, List, [], ◌∷◌, Option, Some, None}
use Rattle.slon_model.specs.declared.reply.Refusal.{Refusal}
use Rattle.slon_model.specs.declared.reply.Refusal.TheVariants as refused
use Rattle.slon_model.specs.Sessions.{Seat, when}
use Rattle.slon_model.specs.Subscribing.{NewFeed, is_below, is_provider, is_waiting}
use Rattle.app_store.specs.Base.{base_of}
use Rattle.slonik_exec.specs.Statements.{feed_as}
use Rattle.slonik_exec.proofs.Works.{Checked, checked_as, checked_at, checked_thrice, ended, chained}
use Rattle.slonik_exec.proofs.subscribing.check_row.Goals as goal

abbrev Waiting : NewFeed → Seat → List (Option Refusal)
Waiting f s = when (is_waiting s f) (refused.NotActive f.receiver) ∷ []

abbrev Provides : NewFeed → Seat → List (Option Refusal)
Provides f s = when (is_provider s f) (refused.HasReceivers f.receiver) ∷ []

abbrev Below : NewFeed → Seat → List (Option Refusal)
Below f s = when (is_below s f) (refused.Loop f.set_id) ∷ []

pub returns-in-Some-clause-refuses : goal.returns-in-Some-clause-refuses
returns-in-Some-clause-refuses g c =
    let f = feed_as c.args.feed in
    let first : Checked c.args.seat.now.name (Waiting f) (base_of g.K.Keeper.kept c.args.seat.now.database)
    (Some c.in-Some.reply) _
    = checked_as c.in-Some.is (record
    { checks = c.in_ok-reply.ensures.checks; refuses = c.in_ok-reply.ensures.refuses }) in
    (ended (λ s. Provides f s ++ Below f s) first).refuses

pub returns-in-Some-2-clause-refuses : goal.returns-in-Some-2-clause-refuses
returns-in-Some-2-clause-refuses g c =
    let f = feed_as c.args.feed in
    let name = c.args.seat.now.name in
    let first : Checked name (Waiting f) (base_of g.K.Keeper.kept c.args.seat.now.database) None _
    = checked_as c.in_default.is (record
    { checks = c.in_ok-reply.ensures.checks; refuses = c.in_ok-reply.ensures.refuses }) in
    let second : Checked name (Provides f) _ (Some c.in-Some-2.reply) _
    = checked_at c.in_ok-reply.ensures.name (checked_as c.in-Some-2.is (record
    { checks = c.in_ok-reply-2.ensures.checks; refuses = c.in_ok-reply-2.ensures.refuses })) in
    (ended (Below f) (chained (Some c.in-Some-2.reply) first second)).refuses

pub returns : goal.returns
returns g c =
    let f = feed_as c.args.feed in
    let name = c.args.seat.now.name in
    let first : Checked name (Waiting f) (base_of g.K.Keeper.kept c.args.seat.now.database) None _
    = checked_as c.in_default.is (record
    { checks = c.in_ok-reply.ensures.checks; refuses = c.in_ok-reply.ensures.refuses }) in
    let second : Checked name (Provides f) _ None (base_of g.K.Keeper.kept c.check_provides.new.seat.database)
    = checked_at c.in_ok-reply.ensures.name (checked_as c.in_default-2.is (record
    { checks = c.in_ok-reply-2.ensures.checks; refuses = c.in_ok-reply-2.ensures.refuses })) in
    let same = c.in_ok-reply-2.ensures.name ∙ c.in_ok-reply.ensures.name in
    let all = checked_thrice (Below f) c.check_below.result first second same
    (c.check_below.ensures.checks, c.check_below.ensures.refuses) in
    record { checks = all.checks; refuses = all.refuses; name = c.check_below.ensures.name ∙ same }
