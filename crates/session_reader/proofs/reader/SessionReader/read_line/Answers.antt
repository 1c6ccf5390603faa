use Rattle.std.proofs.Common.{ℕ, List, Ok, Err, Some, None, ap, subst, arith}
use Rattle.std.proofs.lemmas.Result.{err_from_is_err_and}
use Rattle.std.specs.Str.Lines.{lines}
use Rattle.session_text.specs.Handing.{Comes}
use Rattle.session_reader.specs.Fetching.{ReadsLine, stop_of}
use Rattle.session_reader.specs.declared.fault.ReadFault.TheVariants.{BadLine}
use Rattle.session_reader.proofs.Heard.{under, seen, line_heard, long_heard, none_heard, stops_heard}
use Rattle.session_reader.proofs.reader.SessionReader.read_line.Goals as goal

pub returns-in_err-next_line-clause-reads : goal.returns-in_err-next_line-clause-reads
returns-in_err-next_line-clause-reads g c =
    let p = err_from_is_err_and c.from_residual.result c.from_residual.ensures.1 in
    let old = seen c.self.inside.lines c.self.inside.line.items c.self.inside.number in
    let stop = c.in_err-next_line.field-0.0 in
    rw (p.1, p.2)
    (subst (λ o. (bytes : List ℕ) → Comes o.lines (g.F.Files.filed c.args.files.now) bytes →
    ReadsLine bytes o old (g.F.Files.filed c.args.files.now) (Err (stop_of stop))) c.self.view_is
    (λ bytes comes names mode. stops_heard (under names mode) old bytes stop c.self.invariant
    (λ e. c.in_err-next_line.ensures.past bytes comes (ap Err e))))

pub returns-in-End-clause-reads : goal.returns-in-End-clause-reads
returns-in-End-clause-reads g c =
    let old = seen c.self.inside.lines c.self.inside.line.items c.self.inside.number in
    subst (λ o. (bytes : List ℕ) → Comes o.lines (g.F.Files.filed c.args.files.now) bytes →
    ReadsLine bytes o old (g.F.Files.filed c.args.files.now) (Ok None)) c.self.view_is
    (λ bytes comes names mode. none_heard (under names mode) old bytes
    (rw c.in-End.is at (c.in_ok-next_line.ensures.hands bytes comes).takes))

pub returns-in-TooLong-clause-reads : goal.returns-in-TooLong-clause-reads
returns-in-TooLong-clause-reads g c =
    let old = seen c.self.inside.lines c.self.inside.line.items c.self.inside.number in
    subst (λ o. (bytes : List ℕ) → Comes o.lines (g.F.Files.filed c.args.files.now) bytes →
    ReadsLine bytes o old (g.F.Files.filed c.args.files.now) (Err (BadLine c.self.inside.number))) c.self.view_is
    (λ bytes comes names mode.
    let hands = c.in_ok-next_line.ensures.hands bytes comes in
    let takes = rw c.in-TooLong.is at hands.takes in
    long_heard (under names mode) old bytes takes.0 (lines hands.rest) takes.2 takes.1
    (omega (arith, hands.size, c.in_ok-next_line.ensures.limit)))

pub returns-in-Some-clause-reads : goal.returns-in-Some-clause-reads
returns-in-Some-clause-reads g c =
    let old = seen c.self.inside.lines c.self.inside.line.items c.self.inside.number in
    let new = seen c.next_line.new.self c.next_line.new.line.items c.in-Some.following in
    subst (λ o. (bytes : List ℕ) → Comes o.lines (g.F.Files.filed c.args.files.now) bytes →
    ReadsLine bytes o new (g.F.Files.filed c.next_line.new.files) (Ok (Some c.self.inside.number))) c.self.view_is
    (λ bytes comes.
    let hands = rw c.in-Line.is at c.in_ok-next_line.ensures.hands bytes comes in (
      hands.rest,
      hands.comes,
      λ names mode. line_heard bytes (g.F.Files.filed c.next_line.new.files) (record {
        old = old;
        new = new;
        hands = hands;
        within = c.in_ok-next_line.ensures.limit;
        number = c.in-Some.ensures.1;
      }) (under names mode),
    ))
