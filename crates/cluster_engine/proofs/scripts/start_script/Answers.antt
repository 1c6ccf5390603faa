use Rattle.std.proofs.Common.{◌∙◌, sym, ap, subst}
use Rattle.std.specs.FinMap.{contains_key, insert}
use Rattle.slon_model.specs.declared.reply.Refusal.TheVariants as refused
use Rattle.slon_model.specs.declared.reply.Reply.TheVariants.{Refused}
use Rattle.slon_model.specs.Tasks.{ToRead}
use Rattle.cluster_engine.specs.Walking.{Keeps}
use Rattle.cluster_engine.proofs.Walking.{keeps_used, began_keeps}
use Rattle.cluster_engine.proofs.scripts.start_script.Goals as goal

pub returns-then-contains_key-clause-keeps : goal.returns-then-contains_key-clause-keeps
returns-then-contains_key-clause-keeps c =
    subst (λ n. Keeps (ToRead c.args.name.now c.args.reading) c.args.scripts.now (Refused (refused.ScriptUsed n))
    c.args.scripts.now) (sym c.in_ok-name.ensures)
    (keeps_used c.args.name.now c.args.reading c.args.scripts.now
    (ap (contains_key c.args.scripts.now) (sym c.as_slice.ensures.value)
    ∙ sym c.contains_key.ensures ∙ c.if-contains_key.true))

pub returns-in_ok-insert-in-Read-clause-keeps : goal.returns-in_ok-insert-in-Read-clause-keeps
returns-in_ok-insert-in-Read-clause-keeps c =
    began_keeps c.args.name.now c.args.reading c.len-count.result c.args.scripts.now c.insert.new.self (record {
      script = c.in-Read.script;
      is = c.in-Read.is;
      lacks = ap (contains_key c.args.scripts.now) (sym c.as_slice.ensures.value)
          ∙ sym c.contains_key.ensures ∙ c.if-contains_key.false;
      counted = c.len-count.ensures;
      begun = c.in_ok-insert-in-Read.ensures.ok
          ∙ ap (λ k. insert c.args.scripts.now k (record { script = c.in-Read.script; done = 0 }))
          c.in_ok-key_of-in-Read.ensures;
    })
