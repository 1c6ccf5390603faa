-- What is known of a move that a database decides on.
use Rattle.std.specs.Prelude.{◌≡◌, ℕ, ◌<◌, ◌≤◌, true, false, List, Option, Some, None}
use Rattle.slon_model.specs.declared.reply.Answer.{Answer}
use Rattle.slon_model.specs.declared.reply.Answer.TheVariants.{Opened, Acted}
use Rattle.slon_model.specs.Names.{find_named}
use Rattle.slon_model.specs.Rows.{Change, change_key}
use Rattle.slon_model.specs.Spoken.{IsTask, IsTableName, IsChange, most_columns}
use Rattle.slon_model.specs.Tasks.{Task}
use Rattle.slon_model.specs.Place.{Place, holder}
use Rattle.slon_model.specs.Moves.{Move, Tables, Begins, Writes, Commits, is_beyond}
use Rattle.slon_model.specs.Deciding.{fits}

-- no other transaction holds the row
abbrev pub IsFree : ℕ → Option ℕ → Type 0
IsFree xid None = Unit {0}
IsFree xid (Some other) = other ≡ xid

-- A write of an open transaction that fits its table, on a row that no other transaction holds.
pub record MayWrite (task : Task) (p : Place) (xid : ℕ) (table : List ℕ) (change : Change) : Type 0 where
  pub name : List ℕ
  pub opened : find_named name p.opens ≡ Some xid
  pub width : ℕ
  pub found : find_named table p.tables ≡ Some width
  pub fit : fits change width ≡ true
  pub free : IsFree xid (holder table (change_key change) p)
  pub formed : IsTask task → IsTableName table × IsChange change

abbrev pub Allows : Task → Place → Move → Type 0
Allows task p (Tables table columns) = IsTask task → IsTableName table × (columns ≤ most_columns)
Allows task p (Begins name) = find_named name p.opens ≡ None
Allows task p (Writes xid table change) = MayWrite task p xid table change
Allows task p (Commits name xid) = find_named name p.opens ≡ Some xid
Allows task p others = Unit {0}

-- a move that a task leads to, which stores no number above the limit
pub record MayMove (task : Task) (p : Place) (move : Move) : Type 0 where
  pub allows : Allows task p move
  pub within : is_beyond move p ≡ false

-- what is answered is below the next numbers
abbrev pub IsNext : Place → Answer → Type 0
IsNext q (Opened xid) = xid < q.xids.next
IsNext q (Acted number) = number < q.numbers.next
IsNext q others = Unit {0}
