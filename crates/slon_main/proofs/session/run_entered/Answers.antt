use Rattle.cluster_engine.specs.Clustered.{cluster_of}
use Rattle.session_reader.specs.Sessions.{session_of}
use Rattle.slon_main.specs.Ending.{told_of, unread}
use Rattle.slon_main.specs.Running.{begun}
use Rattle.slon_main.proofs.Asks.{asks_all}
use Rattle.slon_main.proofs.Ends.{ends_stopped, at_stopped, hands_stopped, left_unread}
use Rattle.slon_main.proofs.session.run_entered.Goals as goal

pub returns-in-Ok-clause-ends : goal.returns-in-Ok-clause-ends
returns-in-Ok-clause-ends g c names bytes told is tells empty = c.in-Ok.ensures.runs names bytes 16 told is tells empty
    (record { agrees = c.new-cluster.ensures.agrees; given = c.new-cluster.ensures.given })

pub returns-in-Err-clause-place : goal.returns-in-Err-clause-place
returns-in-Err-clause-place g c names bytes told is =
    at_stopped (session_of names bytes) c.in-Err.stop _ (record {
      old = g.O.Sink.poured c.run_session-ran.new.out;
      new = g.O.Sink.poured c.stopped.new.out;
      is = c.stopped.result.status;
      has = c.stopped.result.cluster;
    }) c.stopped.ensures (c.in-Err.ensures.place names bytes told is)

pub returns-in-Err-clause-ends : goal.returns-in-Err-clause-ends
returns-in-Err-clause-ends g c names bytes told is tells empty =
    ends_stopped (record {
      shelf = g.S.Shelf.shelved c.args.shelf.now;
      told = told_of names bytes;
      unread = unread (g.F.Files.filed c.args.files.now) (g.F.Files.filed c.leave.new.self);
    }) (cluster_of g.S.Store.Keeper.kept) c.in-Err.stop _ (record {
      old = g.O.Sink.poured c.run_session-ran.new.out;
      new = g.O.Sink.poured c.stopped.new.out;
      is = c.stopped.result.status;
      has = c.stopped.result.cluster;
    }) (
      c.stopped.ensures,
      left_unread (begun (g.S.Shelf.shelved c.args.shelf.now) 16 names bytes)
          (g.O.Sink.poured c.run_session-ran.new.out).pieces
          (cluster_of g.S.Store.Keeper.kept c.run_session-ran.new.cluster) _ _ c.in-Err.stop c.leave.ensures.unread
          (c.in-Err.ensures.runs names bytes 16 told is tells empty
          (record { agrees = c.new-cluster.ensures.agrees; given = c.new-cluster.ensures.given })),
    )

pub returns-in-Err-clause-cluster : goal.returns-in-Err-clause-cluster
returns-in-Err-clause-cluster g c = hands_stopped c.in-Err.stop _ (record {
  old = g.O.Sink.poured c.run_session-ran.new.out;
  new = g.O.Sink.poured c.stopped.new.out;
  is = c.stopped.result.status;
  has = c.stopped.result.cluster;
}) c.stopped.ensures

pub returns-in-Ok-clause-asked : goal.returns-in-Ok-clause-asked
returns-in-Ok-clause-asked g c = asks_all _ _ (cluster_of g.S.Store.Keeper.kept c.new-cluster.result)
    (cluster_of g.S.Store.Keeper.kept c.run_session-ran.new.cluster) c.run_session-ran.result
    (c.run_session-ran.ensures.asked, c.new-cluster.ensures.given)

pub returns-in-Err-clause-asked : goal.returns-in-Err-clause-asked
returns-in-Err-clause-asked g c = asks_all _ _ (cluster_of g.S.Store.Keeper.kept c.new-cluster.result)
    (cluster_of g.S.Store.Keeper.kept c.run_session-ran.new.cluster) c.run_session-ran.result
    (c.run_session-ran.ensures.asked, c.new-cluster.ensures.given)
