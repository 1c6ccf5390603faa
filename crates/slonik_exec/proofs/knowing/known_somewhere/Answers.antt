use Rattle.std.proofs.Common.{◌∙◌, Bool, true, false, get_or, map, Ok, Err, refl, ap, arith}
use Rattle.std.proofs.lemmas.List.{length-map}
use Rattle.app_store.specs.Base.{base_of}
use Rattle.slonik_exec.specs.Databases.{named_base, bases_of}
use Rattle.slonik_exec.specs.Heard.{test_of}
use Rattle.slonik_exec.proofs.Telling.{not_short}
use Rattle.slonik_exec.proofs.Hearing.{none_asked, all_asked}
use Rattle.slonik_exec.proofs.Still.{all_still}
use Rattle.slonik_exec.proofs.Asking.{Round, round_at}
use Rattle.slonik_exec.proofs.Questions.{answers_as, gone_no, gone_yes, gone_stop}
use Rattle.slonik_exec.proofs.knowing.known_somewhere.Goals as goal

pub loop-named-init : goal.loop-named-init
loop-named-init g c = none_asked (test_of c.args.question.now) (bases_of g.K.Keeper.kept c.args.databases.now)

pub loop-named-preserved : goal.loop-named-preserved
loop-named-preserved g c =
    let f = named_base g.K.Keeper.kept in
    let items = c.loop-named.databases in
    let d = c.named-item.result in
    let old = get_or items c.loop-named.named-index d in
    let behind = base_of g.K.Keeper.kept c.ask.new.database in
    let r : Round Bool
    = round_at f items c.loop-named.named-index d (map f c.args.databases.now) behind
    (Ok false) in
    gone_no f d (record { name = old.name; database = c.ask.new.database }) items r (record {
      listed = record {
        inside = omega arith;
        distinct = c.requires.distinct;
        tries = c.loop-named.invariant.tries;
        same = c.loop-named.invariant.same;
        news = refl;
        held = refl;
      };
      asked = c.loop-named.invariant;
      answers = answers_as r c.ask.result (Ok false)
          (c.in-Ok-false.is ∙ ap (λ b. Ok b) c.in-Ok-false.field-0-test)
          (record {
            left = record { acts = c.ask.ensures.acts; same = c.ask.ensures.same; up = c.ask.ensures.up };
            knows = c.ask.ensures.knows;
          });
      stands = refl;
    })

pub returns-in-Ok-true : goal.returns-in-Ok-true
returns-in-Ok-true g c =
    let f = named_base g.K.Keeper.kept in
    let items = c.loop-named.databases in
    let d = c.named-item.result in
    let old = get_or items c.loop-named.named-index d in
    let behind = base_of g.K.Keeper.kept c.ask.new.database in
    let r : Round Bool
    = round_at f items c.loop-named.named-index d (map f c.args.databases.now) behind
    (Ok true) in
    let all = gone_yes f d (record { name = old.name; database = c.ask.new.database }) items r (record {
      listed = record {
        inside = omega arith;
        distinct = c.requires.distinct;
        tries = c.loop-named.invariant.tries;
        same = c.loop-named.invariant.same;
        news = refl;
        held = refl;
      };
      asked = c.loop-named.invariant;
      answers = answers_as r c.ask.result (Ok true)
          (c.in-Ok-true.is ∙ ap (λ b. Ok b) c.in-Ok-true.field-0-test)
          (record {
            left = record { acts = c.ask.ensures.acts; same = c.ask.ensures.same; up = c.ask.ensures.up };
            knows = c.ask.ensures.knows;
          });
      stands = refl;
    }) in
    record {
      runs = all.runs;
      keeps = all_still g.K.Keeper.kept c.args.databases.now _ all.runs.1;
      hears = all.hears;
    }

pub returns-in-Err : goal.returns-in-Err
returns-in-Err g c =
    let f = named_base g.K.Keeper.kept in
    let items = c.loop-named.databases in
    let d = c.named-item.result in
    let old = get_or items c.loop-named.named-index d in
    let fault = c.in-Err.fault in
    let reply = c.in_ok-told-in-Err.field-0 in
    let behind = base_of g.K.Keeper.kept c.ask.new.database in
    let r : Round Bool
    = round_at f items c.loop-named.named-index d (map f c.args.databases.now) behind
    (Err fault) in
    let all = gone_stop f d (record { name = old.name; database = c.ask.new.database }) items r fault reply (
      record {
        listed = record {
          inside = omega arith;
          distinct = c.requires.distinct;
          tries = c.loop-named.invariant.tries;
          same = c.loop-named.invariant.same;
          news = refl;
          held = refl;
        };
        asked = c.loop-named.invariant;
        answers = answers_as r c.ask.result (Err fault) c.in-Err.is
            (record {
              left = record { acts = c.ask.ensures.acts; same = c.ask.ensures.same; up = c.ask.ensures.up };
              knows = c.ask.ensures.knows;
            });
        stands = refl;
      },
      record {
        is = c.in_ok-told-in-Err.ensures.reply;
        memory = not_short c.told.result reply fault c.in_ok-told-in-Err.was c.told.ensures.memory;
      },
    ) in
    record { runs = all.runs; keeps = tt; hears = all.hears }

pub returns-clause-keeps : goal.returns-clause-keeps
returns-clause-keeps g c =
    all_still g.K.Keeper.kept c.args.databases.now c.loop-named.databases c.loop-named.invariant.same

pub returns-clause-hears : goal.returns-clause-hears
returns-clause-hears g c =
    let items = c.loop-named.databases in
    let same = length-map items (named_base g.K.Keeper.kept) in
    all_asked (test_of c.args.question.now) (bases_of g.K.Keeper.kept c.args.databases.now)
    (bases_of g.K.Keeper.kept items) c.loop-named.named-index (c.loop-named.invariant, omega (arith, same))
