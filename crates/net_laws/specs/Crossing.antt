-- How nodes go from one era to the next.
use Rattle.std.specs.Prelude.{◌≡◌, ℕ, ◌<◌, ◌≤◌, max, false, length, Some, None}
use Rattle.net_laws.specs.Subscriptions.{Subscription, MoveSet}
use Rattle.net_laws.specs.Net.{Net, Node, configured, MayEmit, emitted, Leads, IsBegun}
use Rattle.net_laws.specs.Laws.{IsSettled, moved_rows}

-- ---- by a move

-- A MOVE_SET to y is emitted at w, and so the next era begins at c.
pub record Moves (w : Net) (y : ℕ) (c : Net) : Type 0 where
  pub may : MayEmit w MoveSet
  pub settled : IsSettled w
  pub rows : (n : ℕ) → c.start.rows n ≡ moved_rows w y n
  pub begun : IsBegun c

-- The old era leads from its beginning to w, where the set moves to y, and on to x. The new one leads from its
-- beginning c to z.
pub record IsMoved (w x : Net) (y : ℕ) (c z : Net) : Type 0 where
  pub first : Net
  pub begun : IsBegun first
  pub before : Leads first w
  pub moves : Moves w y c
  pub after : Leads (emitted MoveSet w) x
  pub later : Leads c z

-- Node n is neither the old origin nor the new one. It has passed the MOVE_SET, and of the new origin's stream not yet
-- more than that with which the new era begins. It has not given the set up.
pub record IsBetween (w x : Net) (y : ℕ) (c z : Net) (n : ℕ) : Type 0 where
  pub not_new : n ≡ y → ⊥
  pub not_old : n ≡ w.origin → ⊥
  pub past : length w.stream < (x.nodes n).progress
  pub before : (z.nodes n).progress ≤ length c.stream
  pub keeps_old : (x.nodes n).gave_up ≡ false
  pub keeps_new : (z.nodes n).gave_up ≡ false

-- If the node keeps a view in the old era, that sees the whole of it, and the node has the view in the new era with
-- which this begins. If it keeps none, it has none in the new era.
pub record IsHandedOn (full : ℕ) (old new : Node) : Type 0 where
  pub whole : (v : ℕ) → old.view ≡ Some v → full ≤ v
  pub first : (v : ℕ) → old.view ≡ Some v → new.view ≡ Some 0
  pub none : old.view ≡ None → new.view ≡ None

abbrev pub CrossesByMove : Type 0
CrossesByMove =
    (w x c z : Net) (y n : ℕ) → IsMoved w x y c z → IsBetween w x y c z n →
    IsHandedOn x.full (x.nodes n) (z.nodes n)

-- ---- by a failover

-- who takes over, which receiver, by which row, and the moment of the backup's view
pub record Takeover : Type 0 where
  pub backup : ℕ
  pub receiver : ℕ
  pub row : Subscription
  pub top : ℕ

-- the receiver is one that the backup keeps
pub record IsKept (w : Net) (t : Takeover) : Type 0 where
  pub has : configured w t.backup t.receiver ≡ Some t.row
  pub mark : t.row.mark ≤ (w.nodes t.receiver).progress
  pub backup : (w.nodes t.backup).view ≡ Some t.top
  pub view : ℕ
  pub keeps : (w.nodes t.receiver).view ≡ Some view
  pub base : (w.nodes t.backup).base ≤ view
  pub below : view ≤ t.top

-- From w to x the backup goes no further, and the receiver at most as far as the backup or as it was. Neither has given
-- the set up.
pub record IsCatchingUp (w x : Net) (t : Takeover) : Type 0 where
  pub stands : (x.nodes t.backup).progress ≡ (w.nodes t.backup).progress
  pub most : (x.nodes t.receiver).progress ≤ max (w.nodes t.backup).progress (w.nodes t.receiver).progress
  pub receiver : (x.nodes t.receiver).gave_up ≡ false
  pub backup : (x.nodes t.backup).gave_up ≡ false

-- So from the FAILOVER at w on, a receiver that is kept stays one that is kept, and where it has come as far as the
-- backup, it has the backup's view.
abbrev pub CrossesByFailover : Net → Type 0
CrossesByFailover w =
    (x : Net) → Leads w x → (t : Takeover) → IsKept w t → IsCatchingUp w x t →
    IsKept x t ×
    ((w.nodes t.backup).progress ≤ (x.nodes t.receiver).progress → (x.nodes t.receiver).view ≡ Some t.top)
