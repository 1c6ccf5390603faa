-- A database becomes a node: the first of a cluster, or a new one by what another node knows and holds.
use Rattle.std.proofs.Common.{◌≡◌, ℕ, true, cond, List, [], Option, Some, None, refl, sym, ap, ◌∙◌, arith}
use Rattle.std.proofs.Common.{is_some, unwrap_or, eq-eqb}
use Rattle.std.proofs.Common.{not, false}
use Rattle.std.proofs.lemmas.Bool.{false≢true}
use Rattle.std.specs.Prelude.{◌==◌, ◌||◌}
use Rattle.std.specs.List.{AllByRecursion}
use Rattle.node_rows.specs.declared.rows.NodeRow.{NodeRow}
use Rattle.slon_model.specs.Maps.{Map, entry_at, number_at}
use Rattle.slon_model.specs.Config.{Config}
use Rattle.slon_model.specs.Deeds.{Node, first_config, knowledge, held, told_to, told_progress}
use Rattle.slon_model.specs.Sessions.{Running}
use Rattle.slon_model.specs.Membership.{first_of_cluster, joining}
use Rattle.stream_laws.specs.Nodes.{Nodes, HasConfirmed}
use Rattle.stream_laws.specs.Making.{Mark, OfSet, OfTable, OfName, OfEnd, has_mark, HasEmitted}
use Rattle.stream_laws.specs.Applied.{HasApplied}
use Rattle.stream_laws.specs.Facts.{Facts, AreRegular, RowConfirmed}
use Rattle.stream_laws.proofs.Lists.{all_filtered, all_mapped, all_entry}
use Rattle.stream_laws.proofs.Growing.{GoOn, Grow, placed, stream_in, placing, marked_grown, told_grown}
use Rattle.stream_laws.proofs.Growing.{events_grown}
use Rattle.stream_laws.proofs.Hears.{held_events, own_confirmed}

-- no node has this id
abbrev pub IsFree : ℕ → Nodes → Type 0
IsFree id nodes = (name : List ℕ) (n : Node) → nodes name ≡ Some n → n.id ≡ id → ⊥

-- ---- a new node of a cluster

-- A database that is no node is to be one, of an id that no node has, by one that knows that id.
pub record Joining (nodes : Nodes) : Type 0 where
  pub name : List ℕ
  pub none : nodes name ≡ None
  pub id : ℕ
  pub free : IsFree id nodes
  pub run : Running
  pub giver_name : List ℕ
  pub giver : Node
  pub is : nodes giver_name ≡ Some giver
  pub knows : is_some (entry_at id (knowledge giver).config.nodes) ≡ true

abbrev pub newcomer : {nodes : Nodes} → Joining nodes → Node
newcomer j = joining j.id j.giver j.run

-- no node has met an event of it
pub none_emitted : (id : ℕ) (nodes : Nodes) (c : Config) (reached : Map ℕ) → IsFree id nodes →
    AllByRecursion (HasEmitted nodes c) reached → number_at id reached ≡ 0
none_emitted id nodes c reached free all = by (entry_at id reached) refl
  where
    by : (o : Option ℕ) → entry_at id reached ≡ o → unwrap_or o 0 ≡ 0
    by None is = refl
    by (Some number) is =
        let one = all_entry (HasEmitted nodes c) id number reached all is in
        absurd (free one.name one.node one.is one.own)

-- nor has a new node applied one
none_applied : (id : ℕ) (given : Map ℕ) → HasApplied id given given []
none_applied id given =
    record { none = refl; each = λ origin other. tt; all = λ origin other. omega arith }

row_given : (nodes : Nodes) (new : ℕ) (row : ℕ × Map ℕ) → RowConfirmed nodes row → RowConfirmed nodes (told_to new row)
row_given nodes new row all =
    all_filtered (λ c. HasConfirmed nodes (row.0, c.0, c.1)) (λ c. not (c.0 == new || c.0 == row.0)) row.1 all

joined_facts : {old : Nodes} (j : Joining old) → Facts old j.giver → (new : Nodes) → Grow old new →
    Facts new (newcomer j)
joined_facts {old} j f new grow = record {
  knows = j.knows;
  emitted = tt;
  whole = none_emitted j.id old (knowledge j.giver).config (knowledge j.giver).progress j.free f.marked.emitted;
  low = f.low;
  first = f.first;
  marked = marked_grown grow (knowledge j.giver).config (knowledge j.giver).progress f.marked;
  applied = none_applied j.id (knowledge j.giver).progress;
  told =
      all_mapped (RowConfirmed new) (RowConfirmed new) (told_to j.id) (row_given new j.id)
      (told_progress j.giver.id (knowledge j.giver).progress (knowledge j.giver).told)
      (told_grown grow _ (own_confirmed old j.giver_name j.giver j.is f));
  met = events_grown grow (held j.giver) (held_events old j.giver f);
}

pub joined_on : (old : Nodes) (j : Joining old) → AreRegular old → GoOn old (placed j.name (Some (newcomer j)) old)
joined_on old j regular =
    placing j.name (newcomer j) old regular (record {
      fresh = None;
      emits = ap stream_in (sym j.none);
      unmade = λ mark is made. absurd (false≢true is);
      extends = λ n is. let none = j.none in absurd cc;
      alone = λ k n is one. absurd (j.free k n is one);
      facts = λ new grow is. joined_facts j (regular.each j.giver_name j.giver j.is) new grow;
    })

-- ---- the first node

-- it knows of no sets and tables
first_unmarked : (id : ℕ) (comment : List ℕ) (mark : Mark) → has_mark mark (first_config id comment) ≡ false
first_unmarked id comment (OfSet set) = refl
first_unmarked id comment (OfTable table) = refl
first_unmarked id comment (OfName name) = refl
first_unmarked id comment (OfEnd set) = refl

first_facts : (id : ℕ) (comment : List ℕ) (run : Running) (new : Nodes) → Facts new (first_of_cluster id comment run)
first_facts id comment run new = record {
  knows =
      let row : NodeRow = record { live = true; comment = comment } in
      ap (λ b. is_some (cond b (Some row) None)) (eq-eqb id id refl);
  emitted = tt;
  whole = refl;
  low = λ origin. omega arith;
  first = tt;
  marked = record {
    emitted = tt;
    met = λ mark has. absurd (false≢true (sym (first_unmarked id comment mark) ∙ has));
    origins = λ set row found. absurd cc;
  };
  applied = none_applied id [];
  told = tt;
  met = tt;
}

pub first_on : (old : Nodes) (name : List ℕ) (id : ℕ) (comment : List ℕ) (run : Running) →
    ((k : List ℕ) → old k ≡ None) → AreRegular old →
    GoOn old (placed name (Some (first_of_cluster id comment run)) old)
first_on old name id comment run none regular =
    placing name (first_of_cluster id comment run) old regular (record {
      fresh = None;
      emits = ap stream_in (sym (none name));
      unmade = λ mark is made. absurd (false≢true is);
      extends = λ n is. let never = none name in absurd cc;
      alone = λ k n is one. let never = none k in absurd cc;
      facts = λ new grow is. first_facts id comment run new;
    })
