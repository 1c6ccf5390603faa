-- A commit applies the actions of its own transaction to what stood.
use Rattle.std.proofs.Common.{◌≡◌, ℕ, ◌≤◌, Bool, true, false, List, refl, sym, ap, subst, ◌∙◌}
use Rattle.std.specs.Prelude.{◌==◌, ◌&&◌, ◌||◌, nat_le}
use Rattle.std.specs.List.{AllByRecursion}
use Rattle.std.specs.Str.{bytes_eq}
use Rattle.std.proofs.lemmas.Bool.{false_from_ne_true, eqb-true, and_parts, le-leb}
use Rattle.slon_model.specs.Rows.{Action, member, play_rows}
use Rattle.slon_model.specs.Place.{Place, filling_of, open_xids, standing_rows, seen_rows}
use Rattle.slon_model.proofs.Names.{all_map, bytes_same}
use Rattle.slon_laws.specs.Sound.{Sound, Pairs, IsLocked}
use Rattle.slon_laws.specs.Laws.{OwnActionsApply}
use Rattle.slon_laws.proofs.Opens.{found_member}
use Rattle.slon_laws.proofs.Locks.{pairs_each}
use Rattle.slon_laws.proofs.Played.{Apart, NoneBetween, play_agrees_on, split_played}

-- the actions of an open transaction, and those that stand
abbrev pub own_and_stood : (xid : ℕ) (p : Place) → member xid (open_xids p) ≡ true → Sound p → Apart
own_and_stood xid p is_open s = record {
  own = λ a. a.xid == xid;
  stood = λ a. member a.xid p.commits;
  apart = λ a is_own.
      ap (λ y. member y p.commits) (eqb-true a.xid xid is_own) ∙ false_from_ne_true _ (s.apart xid is_open);
}

-- as its rows are locked, no committed action follows one of its own
pub none_between : (xid : ℕ) (p : Place) → member xid (open_xids p) ≡ true → Sound p →
    Pairs (NoneBetween (λ a. a.xid == xid) (λ a. member a.xid p.commits)) p.actions
none_between xid p is_open s =
    pairs_each (IsLocked (open_xids p)) (NoneBetween (λ a. a.xid == xid) (λ a. member a.xid p.commits)) between
    p.actions s.locked
  where
    between : (a b : Action) → IsLocked (open_xids p) a b →
        NoneBetween (λ a. a.xid == xid) (λ a. member a.xid p.commits) a b
    between a b locked conflict is_own =
        let is : a.xid ≡ xid = eqb-true a.xid xid is_own in
        let one : a.xid ≡ b.xid = locked conflict (ap (λ y. member y (open_xids p)) is ∙ is_open) in
        ap (λ y. member y p.commits) (sym one ∙ is) ∙ false_from_ne_true _ (s.apart xid is_open)

-- the number of an action is behind this one
abbrev from : ℕ → (Action → Bool) → Action → Bool
from first test a = test a && nat_le first a.number

-- the same of those behind a filling
abbrev behind_apart : ℕ → Apart → Apart
behind_apart first t = record {
  own = from first t.own;
  stood = from first t.stood;
  apart = λ a own. ap (λ b. b && nat_le first a.number) (t.apart a (and_parts (t.own a) (nat_le first a.number) own).0);
}

spread : (a b c : Bool) → ((a || b) && c) ≡ ((a && c) || (b && c))
spread true b true = refl
spread true true false = refl
spread true false false = refl
spread false b c = refl

-- an open transaction has no action on the table before it was last filled
own_behind : (xid : ℕ) (p : Place) → member xid (open_xids p) ≡ true → Sound p → (table : List ℕ) →
    AllByRecursion (λ a. bytes_eq table a.table ≡ true →
    from (filling_of table p.fillings).first (λ a. a.xid == xid) a ≡ (a.xid == xid)) p.actions
own_behind xid p is_open s table = all_map _ _ same p.actions s.behind
  where
    first : ℕ
    first = (filling_of table p.fillings).first

    by : (a : Action) (b : Bool) → (a.xid == xid) ≡ b → bytes_eq table a.table ≡ true →
        (member a.xid (open_xids p) ≡ true → (filling_of a.table p.fillings).first ≤ a.number) →
        (b && nat_le first a.number) ≡ b
    by a false other on behind = refl
    by a true same on behind =
        let here = behind (ap (λ y. member y (open_xids p)) (eqb-true a.xid xid same) ∙ is_open) in
        le-leb first a.number
        (subst (λ t. (filling_of t p.fillings).first ≤ a.number) (sym (bytes_same table a.table on)) here)

    same : (a : Action) → (member a.xid (open_xids p) ≡ true → (filling_of a.table p.fillings).first ≤ a.number) →
        bytes_eq table a.table ≡ true → from first (λ a. a.xid == xid) a ≡ (a.xid == xid)
    same a behind on = by a (a.xid == xid) refl on behind

-- what a transaction sees is what its commit leaves: its own actions over what stands
pub own_apply : (xid : ℕ) (p : Place) → member xid (open_xids p) ≡ true → Sound p → (table : List ℕ) →
    seen_rows xid p table ≡ play_rows (λ a. a.xid == xid) table p.actions (standing_rows p table)
own_apply xid p is_open s table =
    let f = filling_of table p.fillings in
    let t = own_and_stood xid p is_open s in
    ap (λ test. play_rows test table p.actions f.rows)
    (λ i a. spread (t.own a) (t.stood a) (nat_le f.first a.number) i)
    ∙ split_played (behind_apart f.first t) table p.actions f.rows
    (pairs_each (NoneBetween t.own t.stood) (NoneBetween (from f.first t.own) (from f.first t.stood))
    (λ a b none conflict own. ap (λ c. c && nat_le f.first b.number)
    (none conflict (and_parts (t.own a) (nat_le f.first a.number) own).0)) p.actions (none_between xid p is_open s))
    ∙ play_agrees_on (from f.first t.own) t.own table p.actions (standing_rows p table)
    (own_behind xid p is_open s table)

pub own_actions_apply : (p : Place) → Sound p → OwnActionsApply p
own_actions_apply p s name xid found table = own_apply xid p (found_member name xid p.opens found) s table
