-- The stretch of a table, and the entries of a log with one action.
use Rattle.std.proofs.Common.{◌≡◌, ℕ, List, Some, ap, sym, ◌∙◌}
use Rattle.std.specs.Prelude.{◌==◌, ◌&&◌}
use Rattle.std.specs.Str.{bytes_eq}
use Rattle.std.proofs.lemmas.Bool.{and_parts, eqb-true}
use Rattle.slon_model.specs.Rows.{Action}
use Rattle.slon_model.specs.Deeds.{Logged, Node}
use Rattle.slon_model.specs.Logs.{logged}
use Rattle.slon_model.specs.Eras.{Stretch, is_stretch, stretch_of, stretches}
use Rattle.slon_model.proofs.Names.{bytes_same}
use Rattle.image_laws.proofs.Found.{find_has}
use Rattle.stream_laws.specs.Nodes.{IsAmong, node_in}
use Rattle.stream_laws.proofs.Lists.{all_among, all_each}
use Rattle.view_laws.specs.Known.{IsLoggedAs}
use Rattle.view_laws.specs.Past.{Past, WasBefore}
use Rattle.view_laws.proofs.Moments.{NodeAt}
use Rattle.view_laws.proofs.Tables.{Table, logged_table, one_table, told_now}

-- the stretch of a table is of that table, in that set
pub stretch_is : (set era : ℕ) (table : List ℕ) (n : Node) (s : Stretch) → stretch_of set era table n ≡ Some s →
    (s.set_id ≡ set) × (s.table ≡ table)
stretch_is set era table n s found =
    let passes = (find_has (λ t. Unit {0}) (is_stretch set era table) s (stretches n)
    (all_each (λ t. Unit {0}) (λ t. tt) (stretches n)) found).1 in
    let first = and_parts (s.set_id == set) (s.era == era && bytes_eq table s.table) passes in (
      eqb-true s.set_id set first.0,
      sym (bytes_same table s.table (and_parts (s.era == era) (bytes_eq table s.table) first.1).1),
    )

-- what is known of an entry of a log
abbrev entry_logged : (t : Past) (n : NodeAt t) (l : Logged) → IsAmong l (logged n.node) →
    IsLoggedAs (WasBefore t) n.node l
entry_logged t n l among =
    all_among (IsLoggedAs (WasBefore t) n.node) l (logged n.node)
    (told_now t n.name n.node (ap node_in n.found ∙ n.at)).logs among

-- the table of an entry, as the log says
abbrev pub entry_table : (t : Past) (n : NodeAt t) (l : Logged) → IsAmong l (logged n.node) → Table t
entry_table t n l among = logged_table t n.name n.node (ap node_in n.found ∙ n.at) l (entry_logged t n l among)

-- a log has no two entries of one origin with one action
pub one_entry : (t : Past) (n : NodeAt t) (k l : Logged) → IsAmong k (logged n.node) × IsAmong l (logged n.node) →
    l.action ≡ k.action → k.origin ≡ l.origin → k ≡ l
one_entry t n k l among same origin = λ i. record {
  set_id = table.0 i;
  table_id = table.1 i;
  era = ((entry_logged t n k among.0).first ∙ sym (entry_logged t n l among.1).first) i;
  origin = origin i;
  action = sym same i;
}
  where
    table : (k.set_id ≡ l.set_id) × (k.table_id ≡ l.table_id)
        × ((entry_table t n k among.0).comment ≡ (entry_table t n l among.1).comment)
    table =
        one_table t (entry_table t n k among.0) (entry_table t n l among.1)
        (ap (λ (a : Action). a.table) (sym same))
