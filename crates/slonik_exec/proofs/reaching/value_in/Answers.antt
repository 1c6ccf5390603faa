use Rattle.std.proofs.Common.{rules, tests, ap, ◌∙◌}
use Rattle.std.proofs.lemmas.Iterator.Consumers.{YieldsList-end}
use Rattle.std.proofs.lemmas.Iterator.Splits.{YieldsList-from_slice_split}
use Rattle.slon_model.specs.Reaching.{is_blank, last_behind}
use Rattle.slonik_exec.proofs.Texts.{stripped, reads_more}
use Rattle.slonik_exec.proofs.reaching.value_in.Goals as goal

pub loop-word-preserved : goal.loop-word-preserved
loop-word-preserved c =
    reads_more c.args.prefix.now
    (record {
      words = c.loop-word.yielded;
      word = c.in-Some.word;
      value = c.loop-word.value;
      found = c.strip_prefix.result;
      next = c.or-value.result;
    }) c.or-value.ensures
    (stripped c.args.prefix.now c.in-Some.word.now c.strip_prefix.result c.strip_prefix.ensures.cases)
    c.loop-word.invariant

pub returns : goal.returns
returns c =
    let all = YieldsList-end
    (YieldsList-from_slice_split _ is_blank c.args.conninfo.now (cc) (cc) (cc) (λ x r q k. search (rules, tests)))
    c.loop-word.yielded _ c.loop-word.yielded_by _ _ c.in-None.is c.next.ensures.steps in
    c.loop-word.invariant ∙ ap (last_behind c.args.prefix.now) all.0
