use Rattle.std.proofs.Common.{ℕ, ◌-◌, ◌≤◌, [], List, Option}
use Rattle.session_text.specs.Reading.{session_limit}
use Rattle.session_text.specs.Handing.{Stays, Comes}
use Rattle.session_reader.specs.Sessions.{Within}
use Rattle.session_reader.specs.Fetching.{to_come}
use Rattle.session_reader.proofs.Heard.{Reached, under}
use Rattle.session_reader.proofs.reader.SessionReader.read_text.Given as goal

abbrev pub invariant-loop-text : goal.invariant-loop-text
invariant-loop-text g l = record {
  files : Stays (g.F.Files.filed l.fn.files) (g.F.Files.filed l.files);
  moves : l.fn.self.lines.taken ≤ l.self.lines.taken;
  reads : (names : List ℕ → Option (List ℕ)) (name bytes : List ℕ) →
      Comes l.fn.self.lines (g.F.Files.filed l.fn.files) bytes →
      Reached (to_come names (Within name l.opened []) l.fn.self bytes)
      (under names (Within name l.opened l.text.items)) l.self (g.F.Files.filed l.files);
}

abbrev pub decreases-loop-text : goal.decreases-loop-text
decreases-loop-text g l = session_limit - l.self.lines.taken
