use Rattle.std.proofs.Common.{◌≡◌, ◌-◌, ◌≤◌, ℕ, List, [], Option, Some}
use Rattle.slon_base.specs.Outside.{top}
use Rattle.session_text.specs.Reading.{session_limit}
use Rattle.session_text.specs.Handing.{Stays}
use Rattle.session_reader.specs.Sessions.{session_of}
use Rattle.slonik_exec.specs.Heard.{AreDistinct}
use Rattle.cluster_engine.specs.Clustered.{cluster_of}
use Rattle.slon_main.specs.Running.{Tells, Shelves, Starts, IsAsked, begun}
use Rattle.slon_main.specs.Going.{Came, Running}
use Rattle.slon_main.proofs.run.run_session.Given as goal

abbrev pub invariant-loop-reader : goal.invariant-loop-reader
invariant-loop-reader g l = record {
  files : Stays (g.F.Files.filed l.fn.files) (g.F.Files.filed l.files);
  shelf : Shelves (g.S.Shelf.shelved l.fn.shelf) (g.S.Shelf.shelved l.shelf);
  later : (g.O.Sink.poured l.fn.out).faults ≤ (g.O.Sink.poured l.out).faults;
  asked : IsAsked (g.S.Shelf.shelved l.fn.shelf).asked (cluster_of g.S.Store.Keeper.kept l.fn.cluster).given →
      IsAsked (g.S.Shelf.shelved l.shelf).asked (cluster_of g.S.Store.Keeper.kept l.cluster).given;
  distinct : AreDistinct (cluster_of g.S.Store.Keeper.kept l.cluster).bases;
  limit : l.reader.lines.taken ≤ session_limit;
  came : (names : List ℕ → Option (List ℕ)) (bytes : List ℕ) →
      (g.F.Files.filed l.fn.files).names ≡ Some names → top (g.F.Files.filed l.fn.files).stack ≡ Some bytes →
      Came names (session_of names bytes) l.reader (g.F.Files.filed l.files);
  runs : (names : List ℕ → Option (List ℕ)) (bytes : List ℕ) (limit : ℕ) →
      (g.F.Files.filed l.fn.files).names ≡ Some names → top (g.F.Files.filed l.fn.files).stack ≡ Some bytes →
      Tells (g.S.Shelf.shelved l.fn.shelf) →
      (g.O.Sink.poured l.fn.out).pieces ≡ Some [] →
      Starts limit (cluster_of g.S.Store.Keeper.kept l.fn.cluster) →
      Running (begun (g.S.Shelf.shelved l.fn.shelf) limit names bytes) (record {
        reader = l.reader;
        files = g.F.Files.filed l.files;
        output = (g.O.Sink.poured l.out).pieces;
        cluster = cluster_of g.S.Store.Keeper.kept l.cluster;
      });
}

abbrev pub decreases-loop-reader : goal.decreases-loop-reader
decreases-loop-reader g l = session_limit - l.reader.lines.taken
