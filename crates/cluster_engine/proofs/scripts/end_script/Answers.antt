use Rattle.std.proofs.Common.{◌∙◌, sym}
use Rattle.cluster_engine.proofs.Walking.{ended_keeps, none_ended}
use Rattle.cluster_engine.proofs.scripts.end_script.Goals as goal

pub returns-in_default-clause-keeps : goal.returns-in_default-clause-keeps
returns-in_default-clause-keeps c =
    none_ended c.args.name.now c.as_slice.result.now c.in_ok-name.name c.args.scripts.now c.remove.new.self
    c.in_ok-name.ensures (record {
      same = c.as_slice.ensures.value;
      value = sym c.in_default.is ∙ c.remove.ensures.value;
      map = c.remove.ensures.map;
    })

pub returns-clause-keeps : goal.returns-clause-keeps
returns-clause-keeps c =
    ended_keeps c.args.name.now c.as_slice.result.now c.in-Some._ended c.args.scripts.now c.remove.new.self (record {
      same = c.as_slice.ensures.value;
      value = sym c.in-Some.is ∙ c.remove.ensures.value;
      map = c.remove.ensures.map;
    })
