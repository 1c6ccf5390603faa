use Rattle.std.proofs.Common.{ℕ, ◌-◌, ◌≤◌, List, Option}
use Rattle.session_text.specs.Reading.{session_limit}
use Rattle.session_text.specs.Handing.{Stays, Comes}
use Rattle.session_reader.specs.Sessions.{Between}
use Rattle.session_reader.specs.Fetching.{to_come}
use Rattle.session_reader.proofs.Heard.{Reached, under}
use Rattle.session_reader.proofs.reader.SessionReader.next_command.Given as goal

abbrev pub invariant-loop-number : goal.invariant-loop-number
invariant-loop-number g l = record {
  files : Stays (g.F.Files.filed l.fn.files) (g.F.Files.filed l.files);
  moves : l.fn.self.lines.taken ≤ l.self.lines.taken;
  reads : (names : List ℕ → Option (List ℕ)) (bytes : List ℕ) →
      Comes l.fn.self.lines (g.F.Files.filed l.fn.files) bytes →
      Reached (to_come names Between l.fn.self bytes) (under names Between) l.self (g.F.Files.filed l.files);
}

abbrev pub decreases-loop-number : goal.decreases-loop-number
decreases-loop-number g l = session_limit - l.self.lines.taken
