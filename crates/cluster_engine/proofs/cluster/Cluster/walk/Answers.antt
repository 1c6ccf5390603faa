use Rattle.std.proofs.Common.{◌∙◌, IfOk, refl, sym, ap, subst}
use Rattle.std.proofs.lemmas.List.{with_items_is}
use Rattle.node_state.proofs.Formed.{if_ok}
use Rattle.slonik_exec.specs.Databases.{bases_of}
use Rattle.slon_turns.proofs.Handed.{at_ok}
use Rattle.slon_model.specs.Tasks.{ToStep}
use Rattle.cluster_engine.specs.Calls.{IsActed}
use Rattle.cluster_engine.specs.Clustered.{cluster_of}
use Rattle.cluster_engine.proofs.Walking.{with_scripts, none_stepped, put_acted}
use Rattle.cluster_engine.proofs.cluster.Cluster.walk.Goals as goal

pub returns-in_default : goal.returns-in_default
returns-in_default g c =
    none_stepped c.args.name.now c.as_slice.result.now c.in_ok-name.name
    (cluster_of g.K.Keeper.kept c.args.self.now) c.remove.new.self c.in_ok-name.ensures (record {
      same = c.as_slice.ensures.value;
      value = sym c.in_default.is ∙ c.remove.ensures.value;
      map = c.remove.ensures.map;
    })

pub returns : goal.returns
returns g c =
    let old = cluster_of g.K.Keeper.kept c.args.self.now in
    let items =
    with_items_is c.args.self.now.databases c.run_next-walked.new.databases
    (c.run_next-walked.auto.databases ∙ c.deref_mut.ensures.len) in
    let news = bases_of g.K.Keeper.kept c.run_next-walked.new.databases in
    subst (λ xs. IfOk c.put_back.result (λ reply. IsActed (ToStep c.args.name.now) old reply
    (record (with_scripts c.put_back.new.scripts old) { bases = bases_of {g = g.K.Keeper} g.K.Keeper.kept xs })))
    (sym items)
    (if_ok _ (λ reply. IsActed (ToStep c.args.name.now) old reply
    (record (with_scripts c.put_back.new.scripts old) { bases = news })) c.put_back.result (λ reply put.
    put_acted old news (record { walked = c.run_next-walked.result; reply = reply; is = put }) (λ went at. record {
      stepped = record {
        started = c.in-Some.started;
        key = c.as_slice.result.now;
        took = record {
          same = c.as_slice.ensures.value;
          value = sym c.in-Some.is ∙ c.remove.ensures.value;
          map = c.remove.ensures.map;
        };
        bases = bases_of g.K.Keeper.kept c.deref_mut.result.now;
        same = ap (bases_of g.K.Keeper.kept) c.deref_mut.ensures.value;
        runs = at_ok _ c.run_next-walked.result went at c.run_next-walked.ensures.runs;
        walks = at_ok _ c.run_next-walked.result went at c.run_next-walked.ensures.walks;
      };
      same = refl;
    })) c.put_back.ensures)
