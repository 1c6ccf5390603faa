-- With what the tables were filled that a node keeps.
use Rattle.std.specs.Prelude.{◌≡◌, ℕ, ◌<◌, true, List, Some}
use Rattle.std.specs.List.{AllByRecursion}
use Rattle.std.specs.Str.{bytes_eq}
use Rattle.node_rows.specs.declared.rows.TableRow.{TableRow}
use Rattle.slon_model.specs.Deeds.{Node, knowledge, view_of}
use Rattle.slon_model.specs.Place.{Place, filling_of, standing_rows}
use Rattle.slon_model.specs.Sessions.{World}
use Rattle.slon_model.specs.Views.{View}
use Rattle.stream_laws.specs.Nodes.{IsAmong}
use Rattle.view_laws.specs.Known.{IsSeen}

-- The table was filled with what it held at the origin of the set as the snapshot of the view was taken there, and no
-- action has come on it since.
pub record IsFilled (Was : World → Type 0) (p : Place) (n : Node) (set : ℕ) (v : View) (table : List ℕ) : Type 0 where
  pub seen : IsSeen Was n set v
  pub rows : (filling_of table p.fillings).rows ≡ standing_rows seen.moment.place table
  pub before : AllByRecursion
      (λ a. bytes_eq table a.table ≡ true → a.number < (filling_of table p.fillings).first) p.actions

-- so it is with each table of each set that the node keeps
abbrev pub AreFilled : (World → Type 0) → Place → Type 0
AreFilled Was p =
    (n : Node) → p.node ≡ Some n → (e : ℕ × TableRow) → IsAmong e (knowledge n).config.tables → (v : View) →
    view_of e.1.set_id (knowledge n) ≡ Some v → IsFilled Was p n e.1.set_id v e.1.name
