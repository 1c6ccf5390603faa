-- Open transactions in the code and by the rules, after each change of a place.
use Rattle.std.proofs.Common.{◌≡◌, ℕ, Bool, true, false, cond, List, [], ◌∷◌, ◌++◌, length, Option}
use Rattle.std.proofs.Common.{Some, None, refl, sym, ap, subst, ◌∙◌, arith, is_some}
use Rattle.std.specs.Prelude.{◌==◌, ◌&&◌, ◌||◌, nat_le, filter}
use Rattle.std.specs.List.{AllByRecursion}
use Rattle.std.specs.Option.{option_map}
use Rattle.std.specs.Str.{bytes_eq}
use Rattle.std.specs.Ordering.{is_eq}
use Rattle.std.specs.Cmp.Lexicographic.{nat_list_cmp_total}
use Rattle.std.specs.FinMap.{get, insert, empty, get-insert, get-empty}
use Rattle.std.proofs.lemmas.Bool.{false≢true, eq-eqb, and_parts}
use Rattle.std.proofs.lemmas.Slice.Eq.{bytes_eq-Decides}
use Rattle.slon_base.specs.Keeper.{key_cmp}
use Rattle.slon_base.specs.Codec.{list_bytes, IsText}
use Rattle.slon_base.proofs.Spelled.{text_front, text_bytes-same}
use Rattle.slon_model.specs.Rows.{Rows, Action, Change, change_key, touches, is_on, member, apply}
use Rattle.slon_model.specs.Place.{Place, Filling, filling_of, open_xids, rows_since, seen_rows, standing_rows}
use Rattle.slon_model.specs.Place.{own_actions}
use Rattle.slon_model.specs.Moves.{written, committed}
use Rattle.slon_model.proofs.Names.{bytes_same}
use Rattle.slon_laws.specs.Sound.{Sound}
use Rattle.slon_laws.specs.Keys.{change_at}
use Rattle.slon_laws.proofs.Keys.{agree_at, get-played}
use Rattle.change_capture.specs.declared.action.Action.{Action as CapturedAction}
use Rattle.node_state.specs.Held.{action_as, captured_all}
use Rattle.app_store.specs.declared.opens.Transaction.{Transaction}
use Rattle.app_store.specs.Fits.{IsOpened, has_written}
use Rattle.app_store.specs.Spelled.{IsRowKey, row_key, over}
use Rattle.app_store.specs.Targets.{Spot}
use Rattle.app_store.specs.Written.{with_write}
use Rattle.slon_base.proofs.Order.{same_keys, equal_of, apart, tied}
use Rattle.app_store.proofs.Places.{NoneOf, none_written, none_counted, none_later, unwritten}
use Rattle.app_store.proofs.Places.{is_behind, seen_unwritten, TwoOpen, written_by_one}

-- ---- keys of rows

row_key-same : (t u k l : List ℕ) → IsText t → IsText u → row_key t k ≡ row_key u l → (t ≡ u) × (k ≡ l)
row_key-same t u k l a b same =
    let parts =
    text_front t u (Rattle.slon_base.specs.Codec.text_bytes k)
    (Rattle.slon_base.specs.Codec.text_bytes l) a.short b.short same in
    (parts.0, text_bytes-same k l parts.1)

pub row_key-test : (t u k l : List ℕ) → IsText t → IsText u →
    is_eq (key_cmp (row_key t k) (row_key u l)) ≡ (bytes_eq t u && bytes_eq k l)
row_key-test t u k l a b =
    elim (bytes_eq t u && bytes_eq k l) as (λ same. (bytes_eq t u && bytes_eq k l) ≡ same →
    is_eq (key_cmp (row_key t k) (row_key u l)) ≡ same) [
      | true ↦ λ is. let parts = and_parts (bytes_eq t u) (bytes_eq k l) is in
          ap (λ x. is_eq (key_cmp (row_key t k) x))
          (sym (ap (λ x. row_key x k) (bytes_same t u parts.0) ∙ ap (row_key u) (bytes_same k l parts.1)))
          ∙ tied (row_key t k)
      | false ↦ λ is. apart _ _ (λ same. let parts = row_key-same t u k l a b same in
          false≢true (sym is ∙ ap (λ x. x && bytes_eq k l) ((bytes_eq-Decides t u).1 parts.0)
          ∙ (bytes_eq-Decides k l).1 parts.1))
    ] refl

-- ---- a transaction that begins

-- nothing of an open transaction changes where actions, commits and fillings stay
pub opened_same : (p q : Place) (x : ℕ) (t : Transaction) →
    (q.actions ≡ p.actions) × (q.commits ≡ p.commits) × (q.fillings ≡ p.fillings) → IsOpened p x t → IsOpened q x t
opened_same p q x t (actions, commits, fillings) o =
    subst (λ c. IsOpened (record q { commits = c }) x t) (sym commits)
    (subst (λ a. IsOpened (record q { commits = p.commits; actions = a }) x t) (sym actions)
    (subst (λ f. IsOpened (record q { commits = p.commits; actions = p.actions; fillings = f }) x t) (sym fillings)
    (record { xid_is = o.xid_is; actions = o.actions; sees = o.sees; wrote = o.wrote; keys = o.keys })))

nothing : (actions : List Action) → length actions ≡ 0 → actions ≡ []
nothing [] none = refl
nothing (a ∷ rest) none = absurd (omega (arith, none))

-- the transaction that takes the next id
pub opened_new : (p q : Place) (y : ℕ) → Sound p →
    (q.actions ≡ p.actions) × (q.commits ≡ p.commits) × (q.fillings ≡ p.fillings) → y ≡ p.xids.next →
    IsOpened q p.xids.next (record { xid = y; actions = []; writes = empty })
opened_new p q y sound same is =
    let x = p.xids.next in
    let none : NoneOf x p.actions = none_later x x p.actions sound.known (omega arith) in
    opened_same p q x _ same (record {
      xid_is = is;
      actions = sym (ap captured_all (nothing (own_actions x p) (none_counted x p.actions none)));
      sees =
          λ table key text. ap (option_map list_bytes)
          (seen_unwritten x p.commits table key p.actions (filling_of table p.fillings)
          (unwritten x table key p.actions (none_written x table key p.actions none)))
          ∙ ap (λ o. over o (option_map list_bytes (get (standing_rows p table) key)))
          (sym (get-empty key_cmp (row_key table key)));
      wrote =
          λ table key text. ap is_some (get-empty key_cmp (row_key table key))
          ∙ sym (none_written x table key p.actions none);
      keys = λ q has. absurd (false≢true (sym (ap is_some (get-empty key_cmp q)) ∙ has));
    })

-- ---- a write

-- an action that a test does not pass
skipped : (test : Bool) (table : List ℕ) (a : Action) (key : List ℕ) (rows : Rows) → test ≡ false →
    option_map list_bytes (get (cond (test && bytes_eq table a.table) (apply a.change rows) rows) key)
    ≡ option_map list_bytes (get rows key)
skipped test table a key rows is =
    ap (λ b. option_map list_bytes (get (cond (b && bytes_eq table a.table) (apply a.change rows) rows) key)) is

-- of another transaction
pub opened_other : {p : Place} {y : ℕ} {t : Transaction} (x : ℕ) (table : List ℕ) (change : Change) →
    (x == y) ≡ false → member x p.commits ≡ false → IsOpened p y t → IsOpened (written x table change p) y t
opened_other {p} {y} {t} x table change differ open_still o =
    let a : Action = record { number = p.numbers.next; xid = x; table = table; change = change } in
    let behind : List ℕ → Bool = λ other. nat_le (filling_of other p.fillings).first p.numbers.next in
    record {
      xid_is = o.xid_is;
      actions =
          o.actions
          ∙ ap (λ b. captured_all (cond b (a ∷ filter (λ a. a.xid == y) p.actions)
          (filter (λ a. a.xid == y) p.actions))) (sym differ);
      sees =
          λ other key text. skipped (((x == y) || member x p.commits) && behind other) other a key
          (seen_rows y p other)
          (ap (λ b. (b || member x p.commits) && behind other) differ ∙ ap (λ b. b && behind other) open_still)
          ∙ o.sees other key text
          ∙ ap (over (get t.writes (row_key other key)))
          (sym (skipped (member x p.commits && behind other) other a key (standing_rows p other)
          (ap (λ b. b && behind other) open_still)));
      wrote =
          λ other key text. o.wrote other key text
          ∙ ap (λ b. (b && is_on other key a) || has_written y other key p.actions) (sym differ);
      keys = o.keys;
    }

-- where the key is the one of the change, it is what the change makes of it
at_change : (b : Bool) (s w : Option (List ℕ)) (old there : Option (Option (List ℕ))) (z : Option (List ℕ)) →
    (b ≡ true → s ≡ w) → (b ≡ false → s ≡ over old z) → s ≡ over (cond b (Some w) old) z
at_change true s w old there z one other = one refl
at_change false s w old there z one other = other refl

-- A write of a transaction that is not committed, with what it makes of the row that the transaction sees.
pub record IsWrite (s : Spot) (change : Change) (value : Option (List ℕ)) (p : Place) : Type 0 where
  pub open_still : member s.xid p.commits ≡ false
  pub table_text : IsText s.table
  pub key_text : IsText s.key
  pub is_key : change_key change ≡ s.key
  pub value_is : value ≡ option_map list_bytes (change_at change (get (seen_rows s.xid p s.table) s.key))
  -- tables were filled before it
  pub behind : (table : List ℕ) → nat_le (filling_of table p.fillings).first p.numbers.next ≡ true

-- the action of a write, as it is captured
abbrev pub action_of : Spot → Change → Place → CapturedAction
action_of s change p = action_as (record { number = p.numbers.next; xid = s.xid; table = s.table; change = change })

pub opened_own : {s : Spot} {change : Change} {value : Option (List ℕ)} {p : Place} (t : Transaction) →
    IsWrite s change value p → IsOpened p s.xid t →
    IsOpened (written s.xid s.table change p) s.xid
    (with_write (row_key s.table s.key) value (action_of s change p) t)
opened_own {s} {change} {value} {p} t is o =
    let x = s.xid in
    let table = s.table in
    let key = s.key in
    let open_still = is.open_still in
    let text = is.table_text in
    let a : Action = record { number = p.numbers.next; xid = x; table = table; change = change } in
    let own : (x == x) ≡ true = eq-eqb x x refl in
    let on : (other k : List ℕ) → (bytes_eq other table && bytes_eq k key) ≡ is_on other k a =
    λ other k. ap (λ b. bytes_eq other table && b) (ap (bytes_eq k) (sym is.is_key)) in
    record {
      xid_is = o.xid_is;
      actions = ap (λ l. l ++ action_as a ∷ []) o.actions
          ∙ ap (λ b. captured_all (cond b (a ∷ filter (λ a. a.xid == x) p.actions)
          (filter (λ a. a.xid == x) p.actions))) (sym own);
      sees = λ other k text_other.
          let rows = seen_rows x p other in
          let standing_same : option_map list_bytes (get (standing_rows (written x table change p) other) k)
          ≡ option_map list_bytes (get (standing_rows p other) k) =
          skipped (member x p.commits && nat_le (filling_of other p.fillings).first a.number) other a k
          (standing_rows p other) (ap (λ b. b && nat_le (filling_of other p.fillings).first a.number) open_still) in
          let f = filling_of other p.fillings in
          let step = get-played (is_behind f (x ∷ p.commits)) other k a p.actions f.rows in
          let first : (is_behind f (x ∷ p.commits) a && bytes_eq other table) ≡ bytes_eq other table =
          λ i. ((own i || member x p.commits) && is.behind other i) && bytes_eq other table in
          let seen : option_map list_bytes (get (seen_rows x (written x table change p) other) k)
          ≡ option_map list_bytes (cond (bytes_eq other table && touches k change) (change_at change (get rows k))
          (get rows k)) =
          ap (option_map list_bytes)
          (step ∙ ap (λ b. cond (b && touches k change) (change_at change (get rows k)) (get rows k)) first) in
          let test = on other k in
          seen ∙ ap (λ b. option_map list_bytes (cond b (change_at change (get rows k)) (get rows k))) (sym test)
          ∙ at_change (bytes_eq other table && bytes_eq k key) _ value (get t.writes (row_key other k)) None
          (option_map list_bytes (get (standing_rows p other) k))
          (λ both. let parts = and_parts (bytes_eq other table) (bytes_eq k key) both in
          ap (λ b. option_map list_bytes (cond b (change_at change (get rows k)) (get rows k))) both
          ∙ ap (λ u. option_map list_bytes (change_at change (get (seen_rows x p u) k)))
          (bytes_same other table parts.0)
          ∙ ap (λ u. option_map list_bytes (change_at change (get (seen_rows x p table) u)))
          (bytes_same k key parts.1) ∙ sym is.value_is)
          (λ none. ap (λ b. option_map list_bytes (cond b (change_at change (get rows k)) (get rows k))) none
          ∙ o.sees other k text_other)
          ∙ ap (λ w. over w (option_map list_bytes (get (standing_rows p other) k)))
          (sym (get-insert nat_list_cmp_total t.writes (row_key table key) value (row_key other k)
          ∙ ap (λ b. cond b (Some value) (get t.writes (row_key other k)))
          (row_key-test other table k key text_other text)))
          ∙ ap (over (get (insert t.writes (row_key table key) value) (row_key other k))) (sym standing_same);
      wrote = λ other k text_other.
          ap is_some (get-insert nat_list_cmp_total t.writes (row_key table key) value (row_key other k)
          ∙ ap (λ b. cond b (Some value) (get t.writes (row_key other k)))
          (row_key-test other table k key text_other text ∙ on other k))
          ∙ either (is_on other k a) value (get t.writes (row_key other k)) (has_written x other k p.actions)
          (o.wrote other k text_other)
          ∙ ap (λ b. (b && is_on other k a) || has_written x other k p.actions) (sym own);
      keys =
          λ q has. key_of q (is_eq (key_cmp q (row_key table key))) refl
          (sym (ap is_some (get-insert nat_list_cmp_total t.writes (row_key table key) value q)) ∙ has);
    }
  where
    either : (b : Bool) (v : Option (List ℕ)) (w : Option (Option (List ℕ))) (h : Bool) → is_some w ≡ h →
        is_some (cond b (Some v) w) ≡ (b || h)
    either true v w h same = refl
    either false v w h same = same

    key_of : (q : List ℕ) (b : Bool) → is_eq (key_cmp q (row_key s.table s.key)) ≡ b →
        is_some (cond b (Some value) (get t.writes q)) ≡ true → IsRowKey q
    key_of q true same has =
        (s.table, s.key, same_keys q (row_key s.table s.key) (equal_of _ same), is.table_text, is.key_text)
    key_of q false differ has = o.keys q has

-- ---- a commit of another transaction

pub opened_committed : (p : Place) (name : List ℕ) (two : TwoOpen (open_xids p)) (t : Transaction) → Sound p →
    IsOpened p two.other t → IsOpened (committed name two.one p) two.other t
opened_committed p name two t sound o = record {
  xid_is = o.xid_is;
  actions = o.actions;
  sees = λ table key text. by_row table key text (has_written two.other table key p.actions) refl;
  wrote = o.wrote;
  keys = o.keys;
}
  where
    x : ℕ
    x = two.one

    y : ℕ
    y = two.other

    some_over : (w : Option (Option (List ℕ))) (one other : Option (List ℕ)) → is_some w ≡ true →
        over w one ≡ over w other
    some_over None one other has = absurd (false≢true has)
    some_over (Some v) one other has = refl

    none_over : (w : Option (Option (List ℕ))) (one : Option (List ℕ)) → is_some w ≡ false → one ≡ over w one
    none_over None one has = refl
    none_over (Some v) one has = absurd (false≢true (sym has))

    swap : (f : Filling) (as_is : List Action) (table key : List ℕ) →
        AllByRecursion (λ a. is_on table key a ≡ true → (a.xid == x) ≡ false) as_is →
        AllByRecursion (λ a. is_on table key a ≡ true →
        is_behind f (y ∷ x ∷ p.commits) a ≡ is_behind f (y ∷ p.commits) a) as_is
    swap f [] table key all = tt
    swap f (a ∷ rest) table key all = (
      (λ on. ap (λ b. ((a.xid == y) || (b || member a.xid p.commits)) && nat_le f.first a.number) (all.0 on)),
      swap f rest table key all.1,
    )

    -- what the actions of these transactions make of a table
    rows_of : List ℕ → List ℕ → Rows
    rows_of xs table = rows_since (λ a. member a.xid xs) table p.actions (filling_of table p.fillings)

    by_row : (table key : List ℕ) → IsText table → (b : Bool) → has_written y table key p.actions ≡ b →
        option_map list_bytes (get (rows_of (y ∷ x ∷ p.commits) table) key)
        ≡ over (get t.writes (row_key table key)) (option_map list_bytes (get (rows_of (x ∷ p.commits) table) key))
    by_row table key text true wrote =
        let others = written_by_one two table key p.actions sound.locked wrote in
        let f = filling_of table p.fillings in
        ap (option_map list_bytes)
        (agree_at (is_behind f (y ∷ x ∷ p.commits)) (is_behind f (y ∷ p.commits)) table key p.actions f.rows
        (swap f p.actions table key others))
        ∙ o.sees table key text ∙ some_over (get t.writes (row_key table key)) _ _ (o.wrote table key text ∙ wrote)
    by_row table key text false wrote =
        ap (option_map list_bytes)
        (seen_unwritten y (x ∷ p.commits) table key p.actions (filling_of table p.fillings)
        (unwritten y table key p.actions wrote))
        ∙ none_over (get t.writes (row_key table key)) _ (o.wrote table key text ∙ wrote)
