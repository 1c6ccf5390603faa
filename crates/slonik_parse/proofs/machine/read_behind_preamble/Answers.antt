use Rattle.std.proofs.Common.{◌+◌, length, rules, arith}
use Rattle.slonik_parse.specs.Machine.{run, behind_preamble}
use Rattle.slonik_parse.proofs.Reading.{next_of, goes, fails, reads_whole, ends}
use Rattle.slonik_parse.proofs.machine.read_behind_preamble.Goals as goal

pub loop-token-init : goal.loop-token-init
loop-token-init c = record { runs = search rules; numbered = omega arith }

pub loop-token-preserved : goal.loop-token-preserved
loop-token-preserved c = record {
  runs =
      goes (run c.args.tokens.now behind_preamble)
      (next_of c.loop-token.rest.now c.in-Some.behind.now c.in-Some.token.now c.in-Some.ensures.cases.0)
      c.loop-token.state c.in-Ok.next c.loop-token.invariant.runs c.in-Ok.ensures;
  numbered = omega (arith, c.in-Some.ensures.cases.1, c.loop-token.invariant.numbered);
}

pub returns-in-Err : goal.returns-in-Err
returns-in-Err c =
    reads_whole (length c.args.tokens.now + 2) (run c.loop-token.rest.now c.loop-token.state)
    (run c.args.tokens.now behind_preamble) c.fault_at.result c.loop-token.invariant.runs
    (fails (next_of c.loop-token.rest.now c.in-Some.behind.now c.in-Some.token.now c.in-Some.ensures.cases.0)
    c.loop-token.state (record {
      misparse = c.in-Err.misparse;
      fault = c.fault_at.result;
      place = c.loop-token.place;
      reads = c.fault_at.ensures.refused;
      memory = c.fault_at.ensures.memory;
    }) (length c.args.tokens.now + 2) (omega arith) c.in-Err.ensures)

pub returns : goal.returns
returns c =
    ends (record {
      rest = c.loop-token.rest.now;
      place = c.loop-token.place;
      total = length c.args.tokens.now + 2;
      numbered = omega arith;
    }) (run c.args.tokens.now behind_preamble) c.loop-token.state c.state_end.result c.loop-token.invariant.runs
    c.in_default.ensures.cases c.state_end.ensures
