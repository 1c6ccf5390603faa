use Rattle.std.proofs.Common.{◌∙◌, None, Err, ap, sym, subst, refl, rules, arith}
use Rattle.std.proofs.lemmas.Result.{err_from_is_err_and}
use Rattle.slon_model.specs.Lines.{Silent, Says, meaning}
use Rattle.slon_model.proofs.Spoken.{says_spoken}
use Rattle.session_text.proofs.Moving.{stays_on}
use Rattle.session_reader.specs.Sessions.{Between, opening}
use Rattle.session_reader.specs.Fetching.{Broken, to_come, Stops, IsSaid}
use Rattle.session_reader.proofs.Heard.{under}
use Rattle.session_reader.proofs.Going.{stops_on, breaks_on, spot, line_on, here, opens_here, stops_here, opening_named}
use Rattle.session_reader.proofs.reader.SessionReader.next_command.Goals as goal

pub loop-number-init : goal.loop-number-init
loop-number-init g c = record {
  files = search rules;
  moves = omega arith;
  reads = λ names bytes comes. record { rest = bytes; comes = comes; same = refl };
}

pub returns-in_err-number-clause-fetches : goal.returns-in_err-number-clause-fetches
returns-in_err-number-clause-fetches g c names told bytes comes =
    let r = c.loop-number.invariant.reads names bytes comes in
    let p = err_from_is_err_and c.from_residual.result c.from_residual.ensures.1 in
    rw (p.1, p.2)
    (stops_on _ _ _ _ r c.in_err-number.field-0.0 (c.in_err-number.ensures.reads r.rest r.comes names Between))

pub returns-in_err-line_says-clause-fetches : goal.returns-in_err-line_says-clause-fetches
returns-in_err-line_says-clause-fetches g c names told bytes comes =
    let new = c.read_line.new.self in
    let fault = c.in_err-line_says.field-0.0 in
    let r = c.loop-number.invariant.reads names bytes comes in
    let p = err_from_is_err_and c.from_residual-in_err-line_says.result c.from_residual-in_err-line_says.ensures.1 in
    let s = spot (to_come names Between c.args.self.now bytes) new (g.F.Files.filed c.read_line.new.files)
    c.in-Some.number in
    let line = line_on (under names Between) s _ _ r
    (rw c.in-Some.is at c.in_ok-number.ensures.reads r.rest r.comes) in
    let same = c.deref.ensures.value ∙ ap (λ r. r.line) c.self.view_is in
    let is = subst (λ l. IsSaid c.in-Some.number (opening l) (meaning l) (Err fault)) same c.in_err-line_says.ensures in
    rw (p.1, p.2) (stops_here names s line fault is)

pub loop-number-preserved : goal.loop-number-preserved
loop-number-preserved g c = record {
  files = stays_on _ _ _ c.loop-number.invariant.files c.in_ok-number.ensures.files;
  moves = omega (arith, c.loop-number.invariant.moves, rw c.in-Some.is at c.in_ok-number.ensures.moves);
  reads = λ names bytes comes.
      let new = c.read_line.new.self in
      let r = c.loop-number.invariant.reads names bytes comes in
      let s = spot (to_come names Between c.args.self.now bytes) new (g.F.Files.filed c.read_line.new.files)
      c.in-Some.number in
      let line = line_on (under names Between) s _ _ r
      (rw c.in-Some.is at c.in_ok-number.ensures.reads r.rest r.comes) in
      let same = c.deref.ensures.value ∙ ap (λ r. r.line) c.self.view_is in
      let is = rw c.in-Nothing.is at c.in_ok-line_says.ensures in
      record {
        rest = line.rest;
        comes = line.comes;
        same = here names s line None Silent (ap opening (sym same) ∙ is.0) (ap meaning (sym same) ∙ is.1);
      };
}

pub returns-in-Command-clause-spoken : goal.returns-in-Command-clause-spoken
returns-in-Command-clause-spoken g c =
    let is = rw c.in-Command.is at c.in_ok-line_says.ensures in
    says_spoken c.deref.result.now c.in-Command.command is.1

pub returns-in-Command-clause-fetches : goal.returns-in-Command-clause-fetches
returns-in-Command-clause-fetches g c names told bytes comes =
    let new = c.read_line.new.self in
    let r = c.loop-number.invariant.reads names bytes comes in
    let s = spot (to_come names Between c.args.self.now bytes) new (g.F.Files.filed c.read_line.new.files)
    c.in-Some.number in
    let line = line_on (under names Between) s _ _ r
    (rw c.in-Some.is at c.in_ok-number.ensures.reads r.rest r.comes) in
    let same = c.deref.ensures.value ∙ ap (λ r. r.line) c.self.view_is in
    let is = rw c.in-Command.is at c.in_ok-line_says.ensures in (
      line.rest,
      line.comes,
      here names s line None (Says c.in-Command.command) (ap opening (sym same) ∙ is.0) (ap meaning (sym same) ∙ is.1),
    )

pub read_block-requires-clause-named : goal.read_block-requires-clause-named
read_block-requires-clause-named g c =
    opening_named c.deref.result.now c.in-Opening.name (rw c.in-Opening.is at c.in_ok-line_says.ensures)

pub returns-in_err-read_block-in-Opening-clause-fetches : goal.returns-in_err-read_block-in-Opening-clause-fetches
returns-in_err-read_block-in-Opening-clause-fetches g c names told bytes comes =
    let new = c.read_line.new.self in
    let fault = c.in_err-read_block-in-Opening.field-0.0 in
    let r = c.loop-number.invariant.reads names bytes comes in
    let p = err_from_is_err_and c.from_residual-in_err-read_block-in-Opening.result
    c.from_residual-in_err-read_block-in-Opening.ensures.1 in
    let s = spot (to_come names Between c.args.self.now bytes) new (g.F.Files.filed c.read_line.new.files)
    c.in-Some.number in
    let line = line_on (under names Between) s _ _ r
    (rw c.in-Some.is at c.in_ok-number.ensures.reads r.rest r.comes) in
    let same = c.deref.ensures.value ∙ ap (λ r. r.line) c.self.view_is in
    let opens = opens_here names s line c.in-Opening.name
    (ap opening (sym same) ∙ (rw c.in-Opening.is at c.in_ok-line_says.ensures)) in
    let known = c.in_ok-number.ensures.files.names ∙ c.loop-number.invariant.files.names ∙ told in
    rw (p.1, p.2)
    (subst (λ b. Stops b fault) (sym opens)
    (c.in_err-read_block-in-Opening.ensures.reads names known line.rest line.comes))

pub returns-in-Opening-clause-fetches : goal.returns-in-Opening-clause-fetches
returns-in-Opening-clause-fetches g c names told bytes comes =
    let new = c.read_line.new.self in
    let r = c.loop-number.invariant.reads names bytes comes in
    let s = spot (to_come names Between c.args.self.now bytes) new (g.F.Files.filed c.read_line.new.files)
    c.in-Some.number in
    let line = line_on (under names Between) s _ _ r
    (rw c.in-Some.is at c.in_ok-number.ensures.reads r.rest r.comes) in
    let same = c.deref.ensures.value ∙ ap (λ r. r.line) c.self.view_is in
    let opens = opens_here names s line c.in-Opening.name
    (ap opening (sym same) ∙ (rw c.in-Opening.is at c.in_ok-line_says.ensures)) in
    let known = c.in_ok-number.ensures.files.names ∙ c.loop-number.invariant.files.names ∙ told in
    let one = c.in_ok-read_block-in-Opening.ensures.reads names known line.rest line.comes in
    (one.0, one.1, opens ∙ one.2)

pub returns-clause-fetches : goal.returns-clause-fetches
returns-clause-fetches g c names told bytes comes =
    let r = c.loop-number.invariant.reads names bytes comes in
    r.same ∙ (rw c.in_default.is at c.in_ok-number.ensures.reads r.rest r.comes) names Between

pub returns-in_err-number-clause-breaks : goal.returns-in_err-number-clause-breaks
returns-in_err-number-clause-breaks g c names told bytes comes failed =
    let r = c.loop-number.invariant.reads names bytes comes in
    let p = err_from_is_err_and c.from_residual.result c.from_residual.ensures.1 in
    breaks_on _ (under names Between) _ _ r c.read_line.new.self (g.F.Files.filed c.read_line.new.files)
    (c.in_err-number.ensures.breaks r.rest r.comes (cc (p.1, p.2, failed)))

pub returns-in_err-read_block-in-Opening-clause-breaks : goal.returns-in_err-read_block-in-Opening-clause-breaks
returns-in_err-read_block-in-Opening-clause-breaks g c names told bytes comes failed =
    let new = c.read_line.new.self in
    let r = c.loop-number.invariant.reads names bytes comes in
    let p = err_from_is_err_and c.from_residual-in_err-read_block-in-Opening.result
    c.from_residual-in_err-read_block-in-Opening.ensures.1 in
    let s = spot (to_come names Between c.args.self.now bytes) new (g.F.Files.filed c.read_line.new.files)
    c.in-Some.number in
    let line = line_on (under names Between) s _ _ r
    (rw c.in-Some.is at c.in_ok-number.ensures.reads r.rest r.comes) in
    let same = c.deref.ensures.value ∙ ap (λ r. r.line) c.self.view_is in
    let opens = opens_here names s line c.in-Opening.name
    (ap opening (sym same) ∙ (rw c.in-Opening.is at c.in_ok-line_says.ensures)) in
    let known = c.in_ok-number.ensures.files.names ∙ c.loop-number.invariant.files.names ∙ told in
    subst (λ b. Broken names b c.read_block.new.self (g.F.Files.filed c.read_block.new.files)) (sym opens)
    (c.in_err-read_block-in-Opening.ensures.breaks names known line.rest line.comes (cc (p.1, p.2, failed)))
