-- SET ADD TABLE behind the checks at the origin of the set: its database, and all databases as that check left them.
use Rattle.std.proofs.Common.{◌≡◌, ℕ, true, List, None, Some, Option, get_or, set, subst}
use Rattle.slon_base.specs.Keeper.{Kept}
use Rattle.slon_base.specs.declared.keeper.Keeper.{Ghosts}
use Rattle.slon_model.specs.declared.reply.Reply.{Reply}
use Rattle.slon_model.specs.Maps.{Map}
use Rattle.slon_model.specs.Names.{Named, find_named}
use Rattle.slon_model.specs.Reaching.{reach}
use Rattle.slon_model.specs.Sessions.{World, Running, bind, seat}
use Rattle.slon_model.specs.Sets as rules
use Rattle.app_store.specs.Base.{Base, base_of}
use Rattle.slonik_exec.specs.declared.databases.Named.{Named as NamedDatabase}
use Rattle.slonik_exec.specs.declared.reaching.Reached.{Reached}
use Rattle.slonik_exec.specs.declared.reaching.Reached.TheVariants.{At}
use Rattle.slonik_exec.specs.declared.sets.NewTable.{NewTable}
use Rattle.slonik_exec.specs.Databases.{TriesAll, bases_of, named_base}
use Rattle.slonik_exec.specs.Executing.{Comes, Executes}
use Rattle.slonik_exec.specs.Heard.{AreSame}
use Rattle.slonik_exec.specs.Reached.{Addresses, IsNodeAt, IsNodeHere, Reaches, name_on}
use Rattle.slonik_exec.specs.Statements.{set_checks}
use Rattle.slonik_exec.proofs.Lifting.{Worked, own_at, put_worked}
use Rattle.slonik_exec.proofs.Lists.{find_position}
use Rattle.slonik_exec.proofs.Making.{Passed, TableDoes, table_as, table_due}
use Rattle.slonik_exec.proofs.Seating.{Called, executes_as, executes_called, worked_at}
use Rattle.slonik_exec.proofs.Sitting.{same_checked, same_then, tries_checked}
use Rattle.slonik_exec.proofs.Still.{node_still}
use Rattle.slonik_exec.proofs.Works.{Checked, checked_as, checked_at}

-- What a statement is made with: the lines of its script, the origin that it names, and the table.
pub record Adding : Type 0 where
  pub addresses : Addresses
  pub origin : ℕ
  pub table : rules.NewTable

abbrev pub adding : Map (List ℕ) → List ℕ → ℕ → NewTable → Adding
adding lines cluster origin table =
    record { addresses = record { lines = lines; cluster = cluster }; origin = origin; table = table_as table }

abbrev pub name_in : Adding → List ℕ
name_in s = name_on s.origin s.addresses.lines

-- The database of the origin was reached, and what was checked there found this.
pub record AtOrigin {K : Type 0} {g : Ghosts K} (kept : K → Kept) (s : Adding) (olds : List (NamedDatabase K g))
    (i : ℕ) (x y : NamedDatabase K g) (found : Option Reply) : Type 0 where
  pub here : IsNodeAt (name_in s) olds i
  pub reaches : Reaches s.addresses s.origin (bases_of kept olds) (At i)
  pub at : Worked (named_base kept) (name_in s) olds i x y
  pub own : Checked x.name (set_checks s.table.set_id s.table.name) (base_of kept x.database) found
      (base_of kept y.database)

pub at_origin : {K : Type 0} {g : Ghosts K} {kept : K → Kept} {s : Adding} {olds : List (NamedDatabase K g)} {i : ℕ}
    {y : NamedDatabase K g} {reached : Reached} {was found : Option Reply} (d : NamedDatabase K g) → reached ≡ At i →
    IsNodeHere (name_in s) olds reached × Reaches s.addresses s.origin (bases_of kept olds) reached →
    y.name ≡ (get_or olds i d).name → was ≡ found →
    Checked (get_or olds i d).name (set_checks s.table.set_id s.table.name) (base_of kept (get_or olds i d).database)
    was (base_of kept y.database) → AtOrigin kept s olds i (get_or olds i d) y found
at_origin {kept = kept} {s} {olds} {i} {y} d is (node, reaches) name found checked =
    let here = subst (IsNodeHere (name_in s) olds) is node in
    record {
      here = here;
      reaches = subst (Reaches s.addresses s.origin (bases_of kept olds)) is reaches;
      at = worked_at (named_base kept) (name_in s) olds i d y here.here.at name;
      own = checked_as found checked;
    }

-- the check, under the name of the origin
pub origin_checked : {K : Type 0} {g : Ghosts K} {kept : K → Kept} {s : Adding} {olds : List (NamedDatabase K g)}
    {i : ℕ} {x y : NamedDatabase K g} {found : Option Reply} → AtOrigin kept s olds i x y found →
    Checked (name_in s) (set_checks s.table.set_id s.table.name) (base_of kept x.database) found
    (base_of kept y.database)
origin_checked o = checked_at (own_at o.at.is) o.own

pub origin_found : {K : Type 0} {g : Ghosts K} {kept : K → Kept} {s : Adding} {olds : List (NamedDatabase K g)}
    {i : ℕ} {x y : NamedDatabase K g} {found : Option Reply} → AtOrigin kept s olds i x y found →
    find_named (name_in s) (bases_of kept olds) ≡ Some (base_of kept x.database)
origin_found {kept = kept} {s} {olds} {i} {x} o = find_position (named_base kept) (name_in s) olds i x o.at.is

-- what the statement comes to there is what it comes to
pub adds_executed : {K : Type 0} {g : Ghosts K} {kept : K → Kept} {s : Adding} {olds : List (NamedDatabase K g)}
    {i : ℕ} {x y : NamedDatabase K g} {found : Option Reply} {news : Named Base} (reply : Reply) →
    AtOrigin kept s olds i x y found →
    ((w : World) (run : Running) (call : Called (name_in s) s.origin run w (bases_of kept olds)) →
    Comes w (TableDoes s.table run w (seat (name_in s) call.sits.place call.sits.node)) reply news) →
    Executes s.addresses (rules.set_add_table s.origin s.table) (bases_of kept olds) reply news
adds_executed {s = s} {i = i} reply o comes =
    executes_as {a = s.addresses} (λ run w. bind (reach run s.origin w) (TableDoes s.table run w))
    (rules.set_add_table s.origin s.table) (table_due s.origin s.table)
    (executes_called {a = s.addresses} {id = s.origin} i (TableDoes s.table) reply o.reaches comes)

-- ---- the check found nothing

pub origin_passed : {K : Type 0} {g : Ghosts K} {kept : K → Kept} {s : Adding} {olds : List (NamedDatabase K g)}
    {i : ℕ} {x y : NamedDatabase K g} → AtOrigin kept s olds i x y None →
    Passed (name_in s) s.table (bases_of kept olds) (bases_of kept (set olds i y))
origin_passed {kept = kept} {x = x} {y} o = record {
  base = base_of kept x.database;
  new = base_of kept y.database;
  found = origin_found o;
  first = origin_checked o;
  put = put_worked o.at;
}

pub origin_tries : {K : Type 0} {g : Ghosts K} {kept : K → Kept} {s : Adding} {olds : List (NamedDatabase K g)}
    {i : ℕ} {x y : NamedDatabase K g} → AtOrigin kept s olds i x y None →
    TriesAll true None (bases_of kept olds) (bases_of kept (set olds i y))
origin_tries {kept = kept} {s} {olds} o =
    subst (TriesAll true None (bases_of kept olds)) (put_worked o.at)
    (tries_checked (name_in s) (bases_of kept olds) (origin_found o) (origin_checked o).checks)

pub origin_same : {K : Type 0} {g : Ghosts K} {kept : K → Kept} {s : Adding} {olds : List (NamedDatabase K g)}
    {i : ℕ} {x y : NamedDatabase K g} → AtOrigin kept s olds i x y None →
    AreSame (bases_of kept olds) (bases_of kept (set olds i y))
origin_same {kept = kept} {s} {olds} {y = y} o =
    subst (AreSame (bases_of kept olds)) (put_worked o.at)
    (same_checked (base_of kept y.database) (name_in s) (bases_of kept olds) (origin_found o)
    (origin_checked o).checks.1)

-- it is up still, and a node, behind what all nodes were asked
pub origin_still : {K : Type 0} {g : Ghosts K} {kept : K → Kept} {s : Adding} {olds : List (NamedDatabase K g)}
    {i : ℕ} {x y : NamedDatabase K g} (news : List (NamedDatabase K g)) → AtOrigin kept s olds i x y None →
    AreSame (bases_of kept (set olds i y)) (bases_of kept news) → IsNodeAt (name_in s) news i
origin_still {kept = kept} {s} {olds} {i} {y = y} news o same =
    node_still kept (name_in s) olds news i
    (same_then (bases_of kept olds) (bases_of kept (set olds i y)) (bases_of kept news) (origin_same o) same) o.here
