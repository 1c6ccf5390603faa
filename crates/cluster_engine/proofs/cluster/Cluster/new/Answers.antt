use Rattle.std.proofs.Common.{ℕ, List, refl, sym, ap, subst, ◌∙◌, []}
use Rattle.slon_model.specs.Turns.{Switches}
use Rattle.slon_model.specs.World.{start}
use Rattle.slonik_exec.specs.Databases.{FitsAll, bases_of}
use Rattle.cluster_engine.proofs.Knowing.{none_known}
use Rattle.cluster_engine.proofs.Walking.{none_fit, none_kept, none_wait}
use Rattle.cluster_engine.proofs.cluster.Cluster.new.Goals as goal

abbrev switched_by : List ℕ → List (ℕ × ℕ) → Switches
switched_by started cuts = record { started = started; cuts = cuts }

pub returns-clause-agrees : goal.returns-clause-agrees
returns-clause-agrees g c = record {
  limit = refl;
  fits = subst (λ xs. FitsAll [] (bases_of {g = g.K.Keeper} g.K.Keeper.kept xs)) (sym c.new.ensures.items) tt;
  memory = record {
    scripts = none_fit c.new-2.result c.new-2.ensures;
    switches = ap (λ l. switched_by l []) (sym c.new-3.ensures.items)
        ∙ ap (switched_by c.new-3.result.items) (sym c.new-4.ensures.items);
    waits = none_wait c.new-5.result c.new-5.ensures;
  };
  keeps = λ name up. none_kept c.new-5.result c.new-5.ensures name;
  known = λ name. none_known (start c.args.limit) c.new-5.result c.new-5.ensures name;
}
