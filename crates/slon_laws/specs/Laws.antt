-- The laws of every database that a legal history leads to.
use Rattle.std.specs.Prelude.{◌≡◌, ℕ, ◌<◌, ◌≤◌, ◌==◌, true, List, ◌∷◌, Some}
use Rattle.std.specs.List.{AllByRecursion}
use Rattle.slon_model.specs.declared.reply.Answer.{Answer}
use Rattle.slon_model.specs.declared.reply.Answer.TheVariants.{Opened, Acted}
use Rattle.slon_model.specs.declared.reply.Reply.{Reply}
use Rattle.slon_model.specs.declared.reply.Reply.TheVariants.{Accepted}
use Rattle.slon_model.specs.Names.{find_named}
use Rattle.slon_model.specs.Tasks.{Subject, OnNew, OnOne, subject_of}
use Rattle.slon_model.specs.Rows.{Action, member, play_rows}
use Rattle.slon_model.specs.Place.{Place, open_xids, standing_rows, taken}
use Rattle.slon_model.specs.Moves.{committed}
use Rattle.slon_model.specs.Snapshots.{Covers}
use Rattle.slon_model.specs.World.{World, start, Happening, Leads}
use Rattle.slon_laws.specs.Lists.{IsAmong}
use Rattle.slon_laws.specs.Sound.{conflicts, before, Pairs}

-- P holds of each database of each session that a legal history leads to
abbrev pub HoldsOfEach : (Place → Type 0) → Type 0
HoldsOfEach P =
    (limit : ℕ) (history : List Happening) (w : World) → Leads (start limit) history w →
    (name : List ℕ) (p : Place) → find_named name w.places ≡ Some p → P p

-- Of two committed actions on one row by two transactions, that of the lower number committed first.
abbrev pub LocksOrder : Place → Type 0
LocksOrder p =
    (a b : Action) → IsAmong a p.actions → IsAmong b p.actions → conflicts a b ≡ true → (a.xid ≡ b.xid → ⊥) →
    member a.xid p.commits ≡ true → member b.xid p.commits ≡ true →
    a.number < b.number → before a.xid b.xid p.commits ≡ true

abbrev pub LocksOrderActions : Type 0
LocksOrderActions = HoldsOfEach LocksOrder

-- The accepted writes stand in the order of their numbers, the newest first, so that a fold over them is one in that
-- order.
abbrev pub AreNumbered : Place → Type 0
AreNumbered p = Pairs (λ a b. a.number < b.number) p.actions

abbrev pub NumbersRise : Type 0
NumbersRise = HoldsOfEach AreNumbered

-- What a table holds is a fold over the committed actions. A commit leaves the same if it applies the actions of its
-- own transaction to what the table held.
abbrev pub OwnActionsApply : Place → Type 0
OwnActionsApply p =
    (name : List ℕ) (xid : ℕ) → find_named name p.opens ≡ Some xid →
    (table : List ℕ) →
    standing_rows (committed name xid p) table ≡ play_rows (λ a. a.xid == xid) table p.actions
    (standing_rows p table)

abbrev pub CommitApplies : Type 0
CommitApplies = HoldsOfEach OwnActionsApply

-- The durable ceilings are above all numbers and ids that were drawn, and no snapshot ends above them.
pub record IsBounded (p : Place) : Type 0 where
  pub numbers : AllByRecursion (λ a. a.number < p.numbers.ceiling) p.actions
  pub xids : AllByRecursion (λ a. a.xid < p.xids.ceiling) p.actions
  pub commits : AllByRecursion (λ x. x < p.xids.ceiling) p.commits
  pub opens : AllByRecursion (λ x. x < p.xids.ceiling) (open_xids p)
  pub snapshot : (taken p).xmax ≤ p.xids.ceiling

abbrev pub CeilingsBound : Type 0
CeilingsBound = HoldsOfEach IsBounded

-- an id or a number that is given is below the ceilings
abbrev pub IsAnswerBelow : Place → Answer → Type 0
IsAnswerBelow p (Opened xid) = xid < p.xids.ceiling
IsAnswerBelow p (Acted number) = number < p.numbers.ceiling
IsAnswerBelow p others = Unit {0}

abbrev pub IsReplyBelow : Place → Reply → Type 0
IsReplyBelow p (Accepted answer) = IsAnswerBelow p answer
IsReplyBelow p others = Unit {0}

-- the command is about the database of this name
abbrev pub IsAbout : List ℕ → Subject → Type 0
IsAbout name (OnNew other) = name ≡ other
IsAbout name (OnOne database task) = name ≡ database
IsAbout name others = ⊥

-- Every id and every number that a database gave in a reply is below its ceilings ever after.
abbrev pub RepliesStayBelow : Type 0
RepliesStayBelow =
    (limit : ℕ) (history later : List Happening) (h : Happening) (w v : World) → Leads (start limit) (h ∷ history) w →
    Leads w later v →
    (name : List ℕ) (p : Place) → IsAbout name (subject_of h.command) → find_named name v.places ≡ Some p →
    IsReplyBelow p h.reply

-- Every snapshot ends at most at the ceilings ever after.
abbrev pub SnapshotsStayBelow : Type 0
SnapshotsStayBelow =
    (limit : ℕ) (history later : List Happening) (w v : World) → Leads (start limit) history w → Leads w later v →
    (name : List ℕ) (p q : Place) → find_named name w.places ≡ Some p → find_named name v.places ≡ Some q →
    (taken p).xmax ≤ q.xids.ceiling

-- Of two snapshots that are taken in one database, one after the other, the later one sees all that the earlier one
-- sees.
abbrev pub SnapshotsCover : Type 0
SnapshotsCover =
    (limit : ℕ) (history later : List Happening) (w v : World) → Leads (start limit) history w → Leads w later v →
    (name : List ℕ) (p q : Place) → find_named name w.places ≡ Some p → find_named name v.places ≡ Some q →
    Covers (taken q) (taken p)
