use Rattle.std.proofs.Common.{◌∙◌, refl, arith, rules, Bool, Err}
use Rattle.std.proofs.lemmas.Result.{err_from_is_err_and}
use Rattle.slon_base.specs.Outside.{top}
use Rattle.session_text.proofs.Moving.{stays_on}
use Rattle.session_reader.specs.Sessions.{session_of}
use Rattle.cluster_engine.specs.Clustered.{cluster_of}
use Rattle.slon_main.specs.Running.{StopsAt, RunsSession, AsksOn, begun}
use Rattle.slon_main.proofs.Asks.{asked_so}
use Rattle.slon_main.proofs.Causes.{stops_as, stops_since, handed_on}
use Rattle.slon_main.proofs.Runs.{came_first, begins, ran_nothing}
use Rattle.slon_main.proofs.run.run_session.Goals as goal

pub loop-reader-init : goal.loop-reader-init
loop-reader-init g c = record {
  files = search rules;
  shelf = search rules;
  later = omega arith;
  asked = λ is. is;
  distinct = c.requires.distinct;
  limit = omega (arith, c.in-Ok.ensures.front.1);
  came = λ names bytes told is. came_first names bytes c.in-Ok.reader (g.F.Files.filed c.args.files.now)
      (record { bytes_are = is; unread = c.in-Ok.ensures.front.0; says = c.in-Ok.ensures.says names bytes });
  runs = λ names bytes limit told is tells empty starts.
      begins (begun (g.S.Shelf.shelved c.args.shelf.now) limit names bytes) bytes _ (record {
        said = refl;
        front = record {
          bytes_are = is;
          unread = c.in-Ok.ensures.front.0;
          says = c.in-Ok.ensures.says names bytes;
        };
        empty = empty;
        starts = starts;
      });
}

pub returns-in_default-clause-runs : goal.returns-in_default-clause-runs
returns-in_default-clause-runs g c names bytes limit told is tells empty starts = (
  cluster_of g.S.Store.Keeper.kept c.args.cluster.now,
  ran_nothing (g.S.Shelf.shelved c.args.shelf.now) limit
      (session_of names bytes).commands (g.O.Sink.poured c.args.out.now).pieces _ empty starts,
)

pub returns-in_default-clause-asked : goal.returns-in_default-clause-asked
returns-in_default-clause-asked g c = asked_so _ _

pub loop-reader-preserved : goal.loop-reader-preserved
loop-reader-preserved g c = record {
  files = stays_on _ _ _ c.loop-reader.invariant.files c.run_next.ensures.files;
  shelf = record {
    promise = c.run_next.ensures.shelf.promise ∙ c.loop-reader.invariant.shelf.promise;
    later = omega (arith, c.loop-reader.invariant.shelf.later, c.run_next.ensures.shelf.later);
  };
  later = omega (arith, c.loop-reader.invariant.later, c.run_next.ensures.later);
  asked = λ is. c.in_ok-run_next.ensures.asked (c.loop-reader.invariant.asked is);
  distinct = c.in_ok-run_next.ensures.distinct;
  limit = c.run_next.ensures.within;
  came = λ names bytes told is. rw c.if-branch.true at c.in_ok-run_next.ensures.comes names (session_of names bytes)
      (c.loop-reader.invariant.files.names ∙ told) (c.loop-reader.invariant.came names bytes told is);
  runs = λ names bytes limit told is tells empty starts.
      let b = begun (g.S.Shelf.shelved c.args.shelf.now) limit names bytes in
      rw c.if-branch.true at c.in_ok-run_next.ensures.runs b (c.loop-reader.invariant.files.names ∙ told)
      c.loop-reader.invariant.shelf.promise tells
      (c.loop-reader.invariant.runs names bytes limit told is tells empty starts);
}

pub returns-in_err-run_next-clause-cause : goal.returns-in_err-run_next-clause-cause
returns-in_err-run_next-clause-cause g c =
    stops_as Bool (Unit {0}) _ _ c.in_err-run_next.field-0.0 c.from_residual.result
    (err_from_is_err_and c.from_residual.result c.from_residual.ensures.1)
    (stops_since {T = Bool} (Err c.in_err-run_next.field-0.0) _
    (record {
      files = (g.F.Files.filed c.loop-reader.files).faults;
      shelf = (g.S.Shelf.shelved c.loop-reader.shelf).faults;
      out = (g.O.Sink.poured c.loop-reader.out).faults;
    }) _ (record {
      files = c.loop-reader.invariant.files.faults;
      shelf = c.loop-reader.invariant.shelf.later;
      out = c.loop-reader.invariant.later;
    }) c.in_err-run_next.ensures.cause)

pub returns-in_err-run_next-clause-place : goal.returns-in_err-run_next-clause-place
returns-in_err-run_next-clause-place g c names bytes told is =
    handed_on (StopsAt (session_of names bytes)) c.from_residual.result
    (err_from_is_err_and c.from_residual.result c.from_residual.ensures.1)
    (c.in_err-run_next.ensures.comes names (session_of names bytes) (c.loop-reader.invariant.files.names ∙ told)
    (c.loop-reader.invariant.came names bytes told is))

pub returns-in_err-run_next-clause-runs : goal.returns-in_err-run_next-clause-runs
returns-in_err-run_next-clause-runs g c names bytes limit told is tells empty starts =
    let b = begun (g.S.Shelf.shelved c.args.shelf.now) limit names bytes in
    handed_on (RunsSession b (g.O.Sink.poured c.run_next.new.out).pieces
    (cluster_of g.S.Store.Keeper.kept c.run_next.new.cluster) (top (g.F.Files.filed c.run_next.new.files).stack))
    c.from_residual.result (err_from_is_err_and c.from_residual.result c.from_residual.ensures.1)
    (c.in_err-run_next.ensures.runs b (c.loop-reader.invariant.files.names ∙ told)
    c.loop-reader.invariant.shelf.promise tells
    (c.loop-reader.invariant.runs names bytes limit told is tells empty starts))

pub returns-in_err-run_next-clause-asked : goal.returns-in_err-run_next-clause-asked
returns-in_err-run_next-clause-asked g c =
    handed_on (AsksOn (g.S.Shelf.shelved c.args.shelf.now).asked (cluster_of g.S.Store.Keeper.kept c.args.cluster.now)
    (g.S.Shelf.shelved c.run_next.new.shelf).asked (cluster_of g.S.Store.Keeper.kept c.run_next.new.cluster))
    c.from_residual.result (err_from_is_err_and c.from_residual.result c.from_residual.ensures.1)
    (λ is. c.in_err-run_next.ensures.asked (c.loop-reader.invariant.asked is))

pub returns-clause-place : goal.returns-clause-place
returns-clause-place g c names bytes told is =
    rw c.if-branch.false at c.in_ok-run_next.ensures.comes names (session_of names bytes)
    (c.loop-reader.invariant.files.names ∙ told) (c.loop-reader.invariant.came names bytes told is)

pub returns-clause-runs : goal.returns-clause-runs
returns-clause-runs g c names bytes limit told is tells empty starts =
    rw c.if-branch.false at c.in_ok-run_next.ensures.runs (begun (g.S.Shelf.shelved c.args.shelf.now) limit names bytes)
    (c.loop-reader.invariant.files.names ∙ told) c.loop-reader.invariant.shelf.promise tells
    (c.loop-reader.invariant.runs names bytes limit told is tells empty starts)

pub returns-clause-asked : goal.returns-clause-asked
returns-clause-asked g c = λ is. c.in_ok-run_next.ensures.asked (c.loop-reader.invariant.asked is)
