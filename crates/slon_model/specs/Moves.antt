-- The few ways in which a command changes what the rules know of a database.
use Rattle.std.specs.Prelude.{ℕ, ◌+◌, ◌^◌, ◌==◌, ◌&&◌, ◌||◌, nat_le, if◌then◌else◌, not, Bool, true, false, List, []}
use Rattle.std.specs.Prelude.{◌∷◌, ◌++◌, None, option_map}
use Rattle.slon_model.specs.declared.numbering.Numbering.{Numbering}
use Rattle.slon_model.specs.declared.numbering.Numbering.TheVariants.{Xids, Actions}
use Rattle.slon_model.specs.Names.{without}
use Rattle.slon_model.specs.Rows.{Change}
use Rattle.slon_model.specs.Deeds.{Node, Deed, Commits as CommitsRows, knowledge, with_deeds}
use Rattle.slon_model.specs.Logs.{own_logs}
use Rattle.slon_model.specs.Place.{Place, IsRunning, IsFallen, block, counter, drawn, resumed, stamped, raised, founded}
use Rattle.slon_model.specs.Place.{own_actions, own_count, deed}

pub data Move : Type 0 where
  Stays : Move
  Founds : Move
  Tables : (table : List ℕ) (columns : ℕ) → Move
  Begins : (name : List ℕ) → Move
  Writes : (xid : ℕ) (table : List ℕ) (change : Change) → Move
  Commits : (name : List ℕ) (xid : ℕ) → Move
  Aborts : (name : List ℕ) → Move
  Falls : Move
  Rises : Move

-- with its first rows, where it had none
abbrev pub first_rows : Place → Place
first_rows p = if p.stamp == 0 then founded p else p

-- What comes before a move, in a transaction of the store of its own: a draw at a ceiling lifts it, and a database that
-- comes up gets its first rows where it has none.
abbrev pub prepared : Move → Place → Place
prepared (Begins name) p = raised Xids p
prepared (Writes xid table change) p = raised Actions p
prepared Rises p = first_rows p
prepared others p = p

-- ---- the moves themselves

abbrev pub tabled : List ℕ → ℕ → Place → Place
tabled table columns p = record (stamped p) { tables = (table, columns) ∷ p.tables }

abbrev pub begun : List ℕ → Place → Place
begun name p = record p { opens = p.opens ++ (name, p.xids.next) ∷ []; xids = drawn p.xids }

abbrev pub written : ℕ → List ℕ → Change → Place → Place
written xid table change p =
    record p {
      actions = record { number = p.numbers.next; xid = xid; table = table; change = change } ∷ p.actions;
      numbers = drawn p.numbers;
    }

-- what the node of a database does as a transaction commits: it logs the actions on the tables of its sets
abbrev pub commit_deed : ℕ → Place → Node → Deed
commit_deed xid p n = deed p [] (own_logs n.id (knowledge n) (own_actions xid p)) (CommitsRows xid)

abbrev pub with_commit : ℕ → Place → Node → Node
with_commit xid p n = with_deeds (commit_deed xid p n ∷ []) n

-- without actions there is no transaction of the store, and no deed
abbrev pub committed : List ℕ → ℕ → Place → Place
committed name xid p =
    record p {
      commits = xid ∷ p.commits;
      opens = without name p.opens;
      stamp = if own_count xid p == 0 then p.stamp else p.stamp + 1;
      node = if own_count xid p == 0 then p.node else option_map (with_commit xid p) p.node;
    }

abbrev pub aborted : List ℕ → Place → Place
aborted name p = record p { opens = without name p.opens }

abbrev pub crashed : Place → Place
crashed p = record p { standing = IsFallen; opens = [] }

abbrev pub risen : Place → Place
risen p =
    record p {
      standing = IsRunning;
      opens = [];
      xids = resumed p.xids;
      numbers = resumed p.numbers;
      promised = None;
    }

abbrev pub moved : Move → Place → Place
moved Stays p = p
moved Founds p = record (first_rows p) { standing = IsRunning }
moved (Tables table columns) p = tabled table columns p
moved (Begins name) p = begun name p
moved (Writes xid table change) p = written xid table change p
moved (Commits name xid) p = committed name xid p
moved (Aborts name) p = aborted name p
moved Falls p = crashed p
moved Rises p = risen p

-- what comes before it, and the move
abbrev pub done : Move → Place → Place
done move p = moved move (prepared move p)

-- it commits its effect in the store
abbrev pub commits_at : Move → Place → Bool
commits_at Founds p = true
commits_at (Tables table columns) p = true
commits_at (Commits name xid) p = not (own_count xid p == 0)
commits_at others p = false

-- ---- the limit of stored numbers

abbrev pub stored_limit : ℕ
stored_limit = 2 ^ 63

-- one more transaction of the store would have a stamp that is too big
abbrev pub is_last_stamp : Place → Bool
is_last_stamp p = nat_le stored_limit (p.stamp + 1)

-- a draw lifts a ceiling, and this or the stamp would be too big
abbrev pub is_last : Numbering → Place → Bool
is_last kind p =
    (counter kind p).next == (counter kind p).ceiling
    && (is_last_stamp p || nat_le stored_limit ((counter kind p).ceiling + block))

abbrev pub is_beyond : Move → Place → Bool
is_beyond (Tables table columns) p = is_last_stamp p
is_beyond (Begins name) p = is_last Xids p
is_beyond (Writes xid table change) p = is_last Actions p
is_beyond (Commits name xid) p = not (own_count xid p == 0) && is_last_stamp p
is_beyond others p = false
