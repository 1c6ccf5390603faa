use Rattle.std.proofs.Common.{◌≡◌, ◌∙◌, true, Some, Err, sym, refl, ap, subst, arith, rules}
use Rattle.std.specs.Option.{option_map}
use Rattle.slon_base.specs.Counts.{Rose}
use Rattle.slon_base.specs.Outside.{Entered, top}
use Rattle.slon_main.specs.declared.status.Status.TheVariants.{ReadFault}
use Rattle.slon_main.specs.declared.run.Stop.TheVariants.{Read}
use Rattle.cluster_engine.specs.Clustered.{cluster_of}
use Rattle.slon_main.specs.Ending.{EndsRun, EndsAt, Told, told_of, Holds, is_lost, session_word, unread}
use Rattle.slon_main.proofs.Ends.{Outcome, ends_unentered, ends_short, at_stopped, hands_stopped, closed_by}
use Rattle.slon_main.proofs.Ends.{ends_whole, entered_top, fault_since, read_faults, read_no_usage, read_no_missing}
use Rattle.slon_main.proofs.session.slon_main.Given.{Over}
use Rattle.slon_main.proofs.session.slon_main.Goals as goal

-- the session that the words name was entered
entered_here : (g : Over) (c : goal.After-run_entered g) (told : Told) →
    (holds : Holds c.args.words.now told (g.F.Files.filed c.args.files.now)) →
    top (g.F.Files.filed c.enter.new.self).stack ≡ Some holds.bytes
entered_here g c told holds =
    let word : session_word c.args.words.now ≡ Some c.in-Some.name.now = sym c.session_word.ensures
    ∙ ap (option_map (λ w. w.now)) c.in-Some.is in
    let there = subst (λ b. Entered c.as_slice.result.now (g.F.Files.filed c.args.files.now)
    (g.F.Files.filed c.enter.new.self).stack b) c.in-Ok-true.field-0-test c.in-Ok-true.ensures.entered in
    let entered = subst (λ n. Entered n (g.F.Files.filed c.args.files.now)
    (g.F.Files.filed c.enter.new.self).stack true) c.as_slice.ensures.value there in
    entered_top c.args.words.now told _ _ _ holds word entered

-- where its run ends
ends_here : (g : Over) (c : goal.After-run_entered g) (told : Told) →
    Holds c.args.words.now told (g.F.Files.filed c.args.files.now) → EndsAt c.run_entered.result.status told.said
ends_here g c told holds =
    subst (EndsAt c.run_entered.result.status) (sym holds.says)
    (c.run_entered.ensures.place told.names holds.bytes (c.in-Ok-true.ensures.names ∙ holds.names)
    (entered_here g c told holds))

pub returns-in-Ok-true-clause-complete : goal.returns-in-Ok-true-clause-complete
returns-in-Ok-true-clause-complete g c told holds whole none =
    let since = fault_since c.run_entered.result.status (record {
      files = (g.F.Files.filed c.args.files.now).faults;
      shelf = (g.S.Shelf.shelved c.args.shelf.now).faults;
      out = (g.O.Sink.poured c.args.out.now).faults;
    }) (record {
      files = (g.F.Files.filed c.enter.new.self).faults;
      shelf = (g.S.Shelf.shelved c.args.shelf.now).faults;
      out = (g.O.Sink.poured c.args.out.now).faults;
    }) (record {
      files = (g.F.Files.filed c.run_entered.new.files).faults;
      shelf = (g.S.Shelf.shelved c.run_entered.new.shelf).faults;
      out = (g.O.Sink.poured c.run_entered.new.out).faults;
    }) c.enter.ensures.cause.later (omega arith) (omega arith) c.run_entered.ensures.faults in
    ends_whole told.said c.run_entered.result.status _ _ (c.run_entered.ensures.run, since)
    (ends_here g c told holds) whole none

pub returns-in-Ok-true-clause-place : goal.returns-in-Ok-true-clause-place
returns-in-Ok-true-clause-place g c told holds = ends_here g c told holds

pub returns-in-Ok-true-clause-ends : goal.returns-in-Ok-true-clause-ends
returns-in-Ok-true-clause-ends g c told holds tells empty =
    subst (λ t. EndsRun (g.S.Shelf.shelved c.args.shelf.now) c.run_entered.result.status t
    (g.O.Sink.poured c.run_entered.new.out).pieces
    (unread (g.F.Files.filed c.args.files.now) (g.F.Files.filed c.run_entered.new.files))
    (option_map (cluster_of g.S.Store.Keeper.kept) c.run_entered.result.cluster))
    (ap (λ said. record { names = told.names; said = said }) (sym holds.says))
    (subst (λ was. EndsRun (g.S.Shelf.shelved c.args.shelf.now) c.run_entered.result.status
    (told_of told.names holds.bytes) (g.O.Sink.poured c.run_entered.new.out).pieces
    (record { was = was; now = (g.F.Files.filed c.run_entered.new.files).unread })
    (option_map (cluster_of g.S.Store.Keeper.kept) c.run_entered.result.cluster)) c.in-Ok-true.ensures.unread
    (c.run_entered.ensures.ends told.names holds.bytes (c.in-Ok-true.ensures.names ∙ holds.names)
    (entered_here g c told holds) tells empty))

pub returns-in-Failed : goal.returns-in-Failed
returns-in-Failed g c =
    let word : session_word c.args.words.now ≡ Some c.in-Some.name.now = sym c.session_word.ensures
    ∙ ap (option_map (λ w. w.now)) c.in-Some.is in
    let rose : Rose (g.F.Files.filed c.args.files.now).faults
    (g.F.Files.filed c.enter.new.self).faults = c.in-Err.ensures.cause.failed (ap Err c.in-Failed.is) in
    let o : Outcome _ = (record {
      old = g.O.Sink.poured c.args.out.now;
      new = g.O.Sink.poured c.stopped.new.out;
      is = c.stopped.result.status;
      has = c.stopped.result.cluster;
    }) in
    record {
      ends = λ told holds tells empty.
          ends_unentered (record {
            shelf = g.S.Shelf.shelved c.args.shelf.now;
            told = told;
            unread = unread (g.F.Files.filed c.args.files.now) (g.F.Files.filed c.enter.new.self);
          }) (cluster_of g.S.Store.Keeper.kept) _ o c.in-Err.ensures.unread
          (record { agrees = c.new-cluster.ensures.agrees; given = c.new-cluster.ensures.given }, empty)
          c.stopped.ensures;
      asked = search rules;
      names = search rules;
      left = search rules;
      untouched = λ none. absurd cc;
      cluster = hands_stopped Read _ o c.stopped.ensures;
      faults = read_faults _ _ _ _ _ o (rose, c.stopped.ensures);
      complete = λ told holds whole none. absurd (none.files rose);
      place = λ told holds. at_stopped told.said Read _ o c.stopped.ensures tt;
      usage = λ is. absurd (read_no_usage _ _ o c.stopped.ensures is);
      refused = λ none. absurd cc;
      missing = λ is. absurd (read_no_missing _ _ o c.stopped.ensures is);
      lost = λ lacks. closed_by (λ s h. is_lost s ≡ true) _ ReadFault _ o
          (record { here = λ written. refl; failed = λ part failed. refl; short = λ same. refl }) c.stopped.ensures;
    }

pub returns-in-NoMemory-clause-ends : goal.returns-in-NoMemory-clause-ends
returns-in-NoMemory-clause-ends g c told holds tells empty =
    ends_short (g.S.Shelf.shelved c.args.shelf.now) told
    (unread (g.F.Files.filed c.args.files.now) (g.F.Files.filed c.enter.new.self))
    (g.O.Sink.poured c.args.out.now).pieces c.short-in-NoMemory.result.status
    (option_map (cluster_of g.S.Store.Keeper.kept) c.short-in-NoMemory.result.cluster)
    c.short-in-NoMemory.ensures.status empty
