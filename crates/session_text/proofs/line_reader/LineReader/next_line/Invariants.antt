use Rattle.std.proofs.Common.{◌-◌, ◌+◌, ◌≤◌, ℕ, List, length}
use Rattle.session_text.specs.Reading.{session_limit}
use Rattle.session_text.specs.Handing.{Stays, Comes}
use Rattle.session_text.proofs.Moving.{Moved, call}
use Rattle.session_text.proofs.line_reader.LineReader.next_line.Given as goal

abbrev pub invariant-loop-self : goal.invariant-loop-self
invariant-loop-self g l = record {
  files : Stays (g.F.Files.filed l.fn.files) (g.F.Files.filed l.files);
  room : length l.line.items ≤ 8194;
  moves : length l.line.items + l.fn.self.taken ≤ l.self.taken;
  moved : (bytes : List ℕ) → Comes l.fn.self (g.F.Files.filed l.fn.files) bytes →
      Moved (call bytes l.fn.self) l.line.items l.self (g.F.Files.filed l.files);
}

abbrev pub decreases-loop-self : goal.decreases-loop-self
decreases-loop-self g l = session_limit - l.self.taken
