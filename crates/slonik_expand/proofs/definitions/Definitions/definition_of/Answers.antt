use Rattle.std.proofs.Common.{[], refl}
use Rattle.std.proofs.lemmas.Result.{err_from_is_err_and}
use Rattle.slonik_expand.proofs.Keeping.{stands_one, adds_halted}
use Rattle.slonik_expand.proofs.SharedDefinitions.{means_nothing}
use Rattle.slonik_expand.proofs.definitions.Definitions.definition_of.Goals as goal

pub loop-token-init : goal.loop-token-init
loop-token-init c = record {
  whole = [];
  done = refl;
  means = means_nothing c.args.self.now.made.items c.new-definition.result c.new-definition.ensures.parts
      c.new-definition.ensures.len;
}

pub returns-in_err-add : goal.returns-in_err-add
returns-in_err-add c =
    let p = err_from_is_err_and c.from_residual.result c.from_residual.ensures.1 in
    rw (p.1, p.2) (adds_halted c.args.self.now _ c.loop-token.definition c.add.new.definition
    (record { at = _; token = c.token-item.result; within = c.loop-token-test.true; is = c.token-item.is }) _
    c.loop-token.invariant c.in_err-add.ensures)

pub loop-token-preserved : goal.loop-token-preserved
loop-token-preserved c =
    stands_one c.args.self.now _ c.loop-token.definition c.add.new.definition
    (record { at = _; token = c.token-item.result; within = c.loop-token-test.true; is = c.token-item.is })
    c.loop-token.invariant c.in_ok-add.ensures
