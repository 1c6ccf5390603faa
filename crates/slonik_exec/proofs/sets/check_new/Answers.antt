use Rattle.std.proofs.Common.{◌∙◌, true, false, [], ◌∷◌, None, refl, sym, ap}
use Rattle.slon_model.specs.declared.reply.Refusal.TheVariants as refused
use Rattle.slon_model.specs.declared.reply.Reply.TheVariants.{Refused}
use Rattle.slon_model.specs.Reaching.{known_somewhere}
use Rattle.slon_model.specs.Sessions.{when, first_refusal}
use Rattle.slonik_exec.specs.declared.knowing.Heard.TheVariants.{Known, Stopped}
use Rattle.slonik_exec.specs.declared.knowing.Question.TheVariants.{Table, Name}
use Rattle.slonik_exec.specs.Databases.{bases_of}
use Rattle.slonik_exec.specs.Executing.{RefusedIn}
use Rattle.slonik_exec.specs.Heard.{test_of}
use Rattle.slonik_exec.proofs.Hearing.{distinct_same}
use Rattle.slonik_exec.proofs.Seating.{ready_mids}
use Rattle.slonik_exec.proofs.Sitting.{Asked, asked_as, same_then, runs_refused}
use Rattle.slonik_exec.proofs.Trying.{runs_then, tries_on}
use Rattle.slonik_exec.proofs.sets.check_new.Goals as goal

pub returns-in-Known-true-clause-refuses : goal.returns-in-Known-true-clause-refuses
returns-in-Known-true-clause-refuses g c w ready awake =
    let id = c.args.table.id in
    let name = c.args.table.name in
    let olds = bases_of g.K.Keeper.kept c.args.databases.now in
    let first : Asked (Table id) olds (Known true) (bases_of g.K.Keeper.kept c.known_somewhere.new.databases)
    = asked_as (c.in-Known-true.is ∙ ap (λ b. Known b) c.in-Known-true.field-0-test)
    (record { runs = c.in_ok-reply.ensures.runs; hears = c.in_ok-reply.ensures.hears }) in
    let heard = first.hears w ready awake in
    RefusedIn (refused.IdUsed id) (ap (λ b. first_refusal (when b (refused.IdUsed id)
    ∷ when (known_somewhere (test_of (Name name)) w) (refused.TableUsed name.now) ∷ [])) (sym heard.0)) refl heard.1

pub known_somewhere-requires-2-clause-distinct : goal.known_somewhere-requires-2-clause-distinct
known_somewhere-requires-2-clause-distinct g c =
    let olds = bases_of g.K.Keeper.kept c.args.databases.now in
    let mids = bases_of g.K.Keeper.kept c.known_somewhere.new.databases in
    let first : Asked (Table c.args.table.id) olds (Known false) mids
    = asked_as (c.in-Known-false.is ∙ ap (λ b. Known b) c.in-Known-false.field-0-test)
    (record { runs = c.in_ok-reply.ensures.runs; hears = c.in_ok-reply.ensures.hears }) in
    distinct_same olds mids first.runs.1 c.requires.distinct

pub returns-in-Stopped-2-clause-runs : goal.returns-in-Stopped-2-clause-runs
returns-in-Stopped-2-clause-runs g c =
    let olds = bases_of g.K.Keeper.kept c.args.databases.now in
    let mids = bases_of g.K.Keeper.kept c.known_somewhere.new.databases in
    let news = bases_of g.K.Keeper.kept c.known_somewhere-2.new.databases in
    let reply = c.in-Stopped-2.reply in
    let first : Asked (Table c.args.table.id) olds (Known false) mids
    = asked_as (c.in-Known-false.is ∙ ap (λ b. Known b) c.in-Known-false.field-0-test)
    (record { runs = c.in_ok-reply.ensures.runs; hears = c.in_ok-reply.ensures.hears }) in
    let second : Asked (Name c.args.table.name) mids (Stopped reply) news = asked_as c.in-Stopped-2.is
    (record { runs = c.in_ok-reply-2.ensures.runs; hears = c.in_ok-reply-2.ensures.hears }) in
    runs_then reply olds mids news first.runs.0 second.runs

pub returns-in_ok-table-in-Known-true-2 : goal.returns-in_ok-table-in-Known-true-2
returns-in_ok-table-in-Known-true-2 g c =
    let id = c.args.table.id in
    let name = c.args.table.name in
    let olds = bases_of g.K.Keeper.kept c.args.databases.now in
    let mids = bases_of g.K.Keeper.kept c.known_somewhere.new.databases in
    let news = bases_of g.K.Keeper.kept c.known_somewhere-2.new.databases in
    let first : Asked (Table id) olds (Known false) mids
    = asked_as (c.in-Known-false.is ∙ ap (λ b. Known b) c.in-Known-false.field-0-test)
    (record { runs = c.in_ok-reply.ensures.runs; hears = c.in_ok-reply.ensures.hears }) in
    let second : Asked (Name name) mids (Known true) news
    = asked_as (c.in-Known-true-2.is ∙ ap (λ b. Known b) c.in-Known-true-2.field-0-test)
    (record { runs = c.in_ok-reply-2.ensures.runs; hears = c.in_ok-reply-2.ensures.hears }) in
    let told = c.in_ok-table-in-Known-true-2.ensures in
    record {
      runs = runs_refused (refused.TableUsed c.in_ok-table-in-Known-true-2.table) olds news refl
          (tries_on true None olds mids news first.runs.0 second.runs.0);
      refuses = λ w ready awake.
          let one = first.hears w ready awake in
          let two = second.hears w (ready_mids ready one.1) awake in
          RefusedIn (refused.TableUsed name.now) (ap (λ b. first_refusal (when b (refused.IdUsed id)
          ∷ when (known_somewhere (test_of (Name name)) w) (refused.TableUsed name.now) ∷ [])) (sym one.0)
          ∙ ap (λ b. first_refusal (when b (refused.TableUsed name.now) ∷ [])) (sym two.0))
          (ap (λ t. Refused (refused.TableUsed t)) told) two.1;
    }

pub returns-in-Known-false-2-clause-runs : goal.returns-in-Known-false-2-clause-runs
returns-in-Known-false-2-clause-runs g c =
    let olds = bases_of g.K.Keeper.kept c.args.databases.now in
    let mids = bases_of g.K.Keeper.kept c.known_somewhere.new.databases in
    let news = bases_of g.K.Keeper.kept c.known_somewhere-2.new.databases in
    let first : Asked (Table c.args.table.id) olds (Known false) mids
    = asked_as (c.in-Known-false.is ∙ ap (λ b. Known b) c.in-Known-false.field-0-test)
    (record { runs = c.in_ok-reply.ensures.runs; hears = c.in_ok-reply.ensures.hears }) in
    let second : Asked (Name c.args.table.name) mids (Known false) news
    = asked_as (c.in-Known-false-2.is ∙ ap (λ b. Known b) c.in-Known-false-2.field-0-test)
    (record { runs = c.in_ok-reply-2.ensures.runs; hears = c.in_ok-reply-2.ensures.hears }) in (
      tries_on true None olds mids news first.runs.0 second.runs.0,
      same_then olds mids news first.runs.1 second.runs.1,
    )
