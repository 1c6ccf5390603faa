-- A stretch makes the committed rows of its table, whatever transactions do.
use Rattle.std.proofs.Common.{◌≡◌, ℕ, ◌≤◌, Bool, true, false, cond, List, [], ◌∷◌, Some, unwrap_or, refl}
use Rattle.std.proofs.Common.{sym, ap, subst, ◌∙◌}
use Rattle.std.specs.Prelude.{◌==◌, ◌&&◌, ◌||◌, nat_le}
use Rattle.std.specs.Str.{bytes_eq}
use Rattle.std.specs.List.{AllByRecursion}
use Rattle.std.specs.FinMap.{empty, same_map}
use Rattle.std.specs.Cmp.Lexicographic.{nat_list_cmp_total}
use Rattle.std.proofs.lemmas.Bool.{eqb-true, false_from_ne_true, le-leb, and_parts, true≢false}
use Rattle.slon_model.specs.Rows.{Rows, Action, apply, is_on, touches, member, play_rows}
use Rattle.slon_model.specs.Names.{Named, find_named}
use Rattle.slon_model.specs.Config.{Config, is_origin, era_of}
use Rattle.slon_model.specs.Deeds.{Deed, brought_in}
use Rattle.slon_model.specs.Place.{Filling, Place, filled, filled_by, filling_of, has_writer, open_xids, rows_since}
use Rattle.slon_model.specs.Eras.{Stretch}
use Rattle.slon_model.proofs.Names.{all_map, bytes_itself, bytes_same}
use Rattle.stream_laws.proofs.Lists.{all_among}
use Rattle.slon_laws.specs.Sound.{Sound, Pairs}
use Rattle.slon_laws.proofs.Committing.{own_apply, own_and_stood, none_between}
use Rattle.slon_laws.proofs.Keys.{played_at}
use Rattle.slon_laws.proofs.Locks.{pairs_each}
use Rattle.slon_laws.proofs.Played.{Apart, NoneBetween, split_played}
use Rattle.slon_lemmas.proofs.Keys.{same_keys}
use Rattle.image_laws.specs.Fits.{IsOfOther, AreOfOthers, BringOthers, is_owner}
use Rattle.image_laws.proofs.Stretching.{leads_owns}
use Rattle.image_laws.specs.Facts.{Fills, FillsAt, Lasts}

-- ---- fewer open transactions

-- of the actions none is of a transaction that was not open before
pub fills_left : (p q : Place) (s : Stretch) →
    (q.actions ≡ p.actions) × (q.commits ≡ p.commits) × (q.fillings ≡ p.fillings) →
    AllByRecursion (λ a. member a.xid (open_xids q) ≡ true → member a.xid (open_xids p) ≡ true) p.actions →
    FillsAt p s → FillsAt q s
fills_left p q s same fewer f =
    subst (λ actions. Fills actions q.commits (open_xids q) (filling_of s.table q.fillings) s) (sym same.0)
    (subst (λ commits. Fills p.actions commits (open_xids q) (filling_of s.table q.fillings) s) (sym same.1)
    (subst (λ fillings. Fills p.actions p.commits (open_xids q) (filling_of s.table fillings) s) (sym same.2) (record {
      rows = f.rows;
      inside = both p.actions fewer f.inside;
    })))
  where
    both : (actions : List Action) →
        AllByRecursion (λ a. member a.xid (open_xids q) ≡ true → member a.xid (open_xids p) ≡ true) actions →
        AllByRecursion (λ a. bytes_eq s.table a.table ≡ true → member a.xid (open_xids p) ≡ true →
        nat_le s.first a.number ≡ true) actions →
        AllByRecursion (λ a. bytes_eq s.table a.table ≡ true → member a.xid (open_xids q) ≡ true →
        nat_le s.first a.number ≡ true) actions
    both [] less all = tt
    both (a ∷ rest) less all = ((λ on is_open. all.0 on (less.0 is_open)), both rest less.1 all.1)

-- ---- tables that are filled

-- what another table is filled with
rows_beside : (p : Place) (table : List ℕ) (rs : Named Rows) (fillings : Named Filling) →
    AllByRecursion (λ r. bytes_eq table r.0 ≡ false) rs →
    filling_of table (filled p rs fillings) ≡ filling_of table fillings
rows_beside p table [] fillings other = refl
rows_beside p table (r ∷ rs) fillings other =
    elim (has_writer r.0 p) as (λ b. filling_of table (cond b rest (first ∷ rest)) ≡ filling_of table fillings) [
      | true ↦ rows_beside p table rs fillings other.1
      | false ↦ ap (λ b. unwrap_or (cond b (Some first.1) (find_named table rest)) (record { first = 0; rows = empty }))
          other.0 ∙ rows_beside p table rs fillings other.1
    ]
  where
    rest : Named Filling
    rest = filled p rs fillings

    first : List ℕ × Filling
    first = (r.0, record { first = p.numbers.next; rows = r.1 })

deeds_beside : (p : Place) (table : List ℕ) (ds : List Deed) →
    AllByRecursion (λ d. AllByRecursion (λ r. bytes_eq table r.0 ≡ false) (brought_in d.doing).rows) ds →
    filling_of table (filled_by p ds p.fillings) ≡ filling_of table p.fillings
deeds_beside p table [] other = refl
deeds_beside p table (d ∷ ds) other =
    rows_beside p table (brought_in d.doing).rows (filled_by p ds p.fillings) other.0
    ∙ deeds_beside p table ds other.1

-- a table of a set that the node leads is none that is filled
pub not_filled : (p : Place) (own : ℕ) (c : Config) (s : Stretch) → Lasts p own c s → (table : List ℕ) →
    IsOfOther own c table → bytes_eq s.table table ≡ false
not_filled p own c s lasts table o =
    false_from_ne_true _ (λ same.
    let on = bytes_same s.table table same ∙ sym o.named in
    let here : o.entry.1.set_id ≡ s.set_id =
    all_among (λ e. bytes_eq s.table e.1.name ≡ true → e.1.set_id ≡ s.set_id) o.entry c.tables lasts.only o.among
    (subst (λ name. bytes_eq s.table name ≡ true) on (bytes_itself s.table)) in
    true≢false (sym (leads_owns own s.set_id c
    (and_parts (is_origin own s.set_id c) (s.era == era_of s.set_id c) lasts.stands).0)
    ∙ ap (λ set. is_owner own set c) (sym here) ∙ o.other))

-- the database with what the deeds fill
pub fills_beside : (p : Place) (own : ℕ) (c : Config) (ds : List Deed) (s : Stretch) → BringOthers own c ds →
    Lasts p own c s → Fills p.actions p.commits (open_xids p) (filling_of s.table (filled_by p ds p.fillings)) s
fills_beside p own c ds s others lasts =
    subst (λ filling. Fills p.actions p.commits (open_xids p) filling s)
    (sym (deeds_beside p s.table ds (all_map (λ d. AreOfOthers own c (brought_in d.doing).rows) _
    (λ d are. all_map (λ r. IsOfOther own c r.0) (λ r. bytes_eq s.table r.0 ≡ false)
    (λ r. not_filled p own c s lasts r.0) (brought_in d.doing).rows are) ds others))) lasts.fills

-- ---- a write

-- an action that does not stand changes no rows
skipped : (b c : Bool) (change : Rows → Rows) (rows : Rows) → b ≡ false → cond (b && c) (change rows) rows ≡ rows
skipped b c change rows is = ap (λ d. cond (d && c) (change rows) rows) is

-- a write of an open transaction, with a number behind the beginning of the stretch
pub fills_written : (p : Place) (a : Action) (s : Stretch) → member a.xid p.commits ≡ false → s.first ≤ a.number →
    FillsAt p s → Fills (a ∷ p.actions) p.commits (open_xids p) (filling_of s.table p.fillings) s
fills_written p a s apart behind f = record {
  rows =
      skipped (member a.xid commits && nat_le filling.first a.number) (bytes_eq s.table a.table) (apply a.change)
      (rows_since (λ a. member a.xid commits) s.table actions filling)
      (ap (λ b. b && nat_le filling.first a.number) apart)
      ∙ f.rows
      ∙ sym (skipped (member a.xid commits && nat_le s.first a.number) (bytes_eq s.table a.table) (apply a.change)
      (play_rows (λ a. member a.xid commits && nat_le s.first a.number) s.table actions s.before)
      (ap (λ b. b && nat_le s.first a.number) apart));
  inside = ((λ on is_open. le-leb s.first a.number behind), f.inside);
}
  where
    actions : List Action
    actions = p.actions

    commits : List ℕ
    commits = p.commits

    filling : Filling
    filling = filling_of s.table p.fillings

-- ---- a commit

either_within : (own stood within : Bool) → ((own || stood) && within) ≡ ((own && within) || (stood && within))
either_within true stood true = refl
either_within true true false = refl
either_within true false false = refl
either_within false stood within = refl

-- of what is on a row of the table, the transaction's own is all within the stretch
own_within : (p : Place) (xid : ℕ) (s : Stretch) (k : List ℕ) → member xid (open_xids p) ≡ true →
    (actions : List Action) →
    AllByRecursion (λ a. bytes_eq s.table a.table ≡ true → member a.xid (open_xids p) ≡ true →
    nat_le s.first a.number ≡ true) actions →
    AllByRecursion (λ a. is_on s.table k a ≡ true →
    (a.xid == xid) ≡ ((a.xid == xid) && nat_le s.first a.number)) actions
own_within p xid s k is_open [] all = tt
own_within p xid s k is_open (a ∷ rest) all = (
  λ on. by (a.xid == xid) refl (and_parts (bytes_eq s.table a.table) (touches k a.change) on).0,
  own_within p xid s k is_open rest all.1,
)
  where
    by : (b : Bool) → (a.xid == xid) ≡ b → bytes_eq s.table a.table ≡ true → b ≡ (b && nat_le s.first a.number)
    by true same on =
        sym (all.0 on (ap (λ x. member x (open_xids p)) (eqb-true a.xid xid same) ∙ is_open))
    by false other on = refl

-- the transaction that commits
pub fills_committed : (p : Place) (xid : ℕ) (s : Stretch) (fewer : List ℕ) → member xid (open_xids p) ≡ true → Sound p →
    ((x : ℕ) → member x fewer ≡ true → member x (open_xids p) ≡ true) → FillsAt p s →
    Fills p.actions (xid ∷ p.commits) fewer (filling_of s.table p.fillings) s
fills_committed p xid s fewer is_open sound less f = record {
  rows =
      own_apply xid p is_open sound s.table
      ∙ ap (play_rows own s.table p.actions) f.rows
      ∙ same_map nat_list_cmp_total same_keys (play_rows own s.table p.actions since)
      (play_rows t.own s.table p.actions since)
      (λ k. played_at own t.own s.table k p.actions since since
      (own_within p xid s k is_open p.actions f.inside, refl))
      ∙ sym (split_played t s.table p.actions s.before none)
      ∙ ap (λ test. play_rows test s.table p.actions s.before)
      (λ i a. sym (either_within (own a) (member a.xid p.commits) (nat_le s.first a.number)) i);
  inside =
      all_map (λ a. bytes_eq s.table a.table ≡ true → member a.xid (open_xids p) ≡ true →
      nat_le s.first a.number ≡ true) (λ a. bytes_eq s.table a.table ≡ true → member a.xid fewer ≡ true →
      nat_le s.first a.number ≡ true) (λ a inside on is_open. inside on (less a.xid is_open)) p.actions f.inside;
}
  where
    own : Action → Bool
    own a = a.xid == xid

    t : Apart
    t = record {
      own = λ a. (a.xid == xid) && nat_le s.first a.number;
      stood = λ a. member a.xid p.commits && nat_le s.first a.number;
      apart = λ a is.
          ap (λ b. b && nat_le s.first a.number) ((own_and_stood xid p is_open sound).apart a
          (and_parts (a.xid == xid) (nat_le s.first a.number) is).0);
    }

    since : Rows
    since = play_rows t.stood s.table p.actions s.before

    none : Pairs (NoneBetween t.own t.stood) p.actions
    none =
        pairs_each (NoneBetween own (λ a. member a.xid p.commits)) (NoneBetween t.own t.stood)
        (λ a b between conflict is. ap (λ c. c && nat_le s.first b.number)
        (between conflict (and_parts (a.xid == xid) (nat_le s.first a.number) is).0))
        p.actions (none_between xid p is_open sound)
