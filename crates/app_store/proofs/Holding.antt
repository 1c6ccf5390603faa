-- What a store holds after each transaction.
use Rattle.std.proofs.Common.{◌≡◌, ℕ, ◌+◌, ◌<◌, ◌≤◌, Bool, true, false, cond, T, List, [], ◌∷◌, ◌++◌, Option, Some}
use Rattle.std.proofs.Common.{None}
use Rattle.std.proofs.Common.{refl, sym, ap, subst, ◌∙◌, ◌^◌, arith}
use Rattle.std.specs.Prelude.{◌==◌}
use Rattle.std.specs.Option.{option_map}
use Rattle.std.specs.Str.{bytes_eq}
use Rattle.std.specs.Ordering.{is_eq}
use Rattle.std.specs.List.{AllByRecursion}
use Rattle.std.specs.Cmp.Lexicographic.{nat_list_cmp_total}
use Rattle.std.specs.FinMap.{get, insert, remove, entries, entries_sorted, get-insert, get-remove, get-entries}
use Rattle.std.specs.FinMap.Entries.{find, is_sorted}
use Rattle.std.proofs.lemmas.Bool.{false≢true, eqb-true, eq-eqb}
use Rattle.std.proofs.lemmas.Slice.Eq.{bytes_eq-Decides}
use Rattle.slon_base.specs.Keeper.{Space, Store, key_cmp, put_at}
use Rattle.slon_base.specs.Codec.{number_bytes, text_bytes}
use Rattle.slon_base.proofs.Spelled.{text_bytes-same}
use Rattle.store_rows.specs.Space.{IsSpace, Any, Alters}
use Rattle.store_rows.proofs.Spaces.{Turns, altered, same_space}
use Rattle.slon_base.proofs.Order.{same_keys, equal_of, find_none, front_of, back_of}
use Rattle.slon_model.specs.Names.{Named, find_named}
use Rattle.slon_model.specs.Rows.{Rows}
use Rattle.slon_model.specs.declared.numbering.Numbering.{Numbering}
use Rattle.slon_model.specs.declared.numbering.Numbering.TheVariants.{Xids, Actions}
use Rattle.slon_model.specs.Place.{Place, counter, with_counter, lifted, stamped, standing_rows, own_actions}
use Rattle.slon_model.specs.Deeds.{Node, knowledge}
use Rattle.slon_model.specs.Logs.{own_logs, logged}
use Rattle.slon_model.specs.Moves.{tabled, with_commit}
use Rattle.change_capture.specs.declared.log_row.LogRow.{LogRow}
use Rattle.change_capture.specs.Spellings.{log_row_bytes, CanLogRow}
use Rattle.log_switch.specs.Holds.{put_logs, logged_more, log_key}
use Rattle.log_switch.proofs.Logging.{others_stay}
use Rattle.node_state.specs.declared.memory.Identity.{Identity}
use Rattle.node_state.specs.Held.{HoldsNode, is_own, log_of, items_of}
use Rattle.node_state.specs.Known.{identity_of}
use Rattle.node_state.proofs.Staying.{AreSame, node_stays}
use Rattle.node_state.proofs.Growing.{node_grows}
use Rattle.app_store.specs.Spelled.{Holds, AreRows, AreTables, IsMeta, IsSmall, Writes, over, meta, tables, rows}
use Rattle.app_store.specs.Spelled.{meta_key, stamp_key, xid_ceiling_key, action_ceiling_key, log_status_key}
use Rattle.app_store.specs.Spelled.{entries_at, identity_at, meta_at, write_at, write_all, first_rows, new_table}
use Rattle.app_store.specs.Spelled.{new_ceiling, new_rows, with_logs, Batch}

-- a test that fails, and one that is passed by
refuted : (b : Bool) → (b ≡ true → ⊥) → b ≡ false
refuted true unless = absurd (unless refl)
refuted false unless = refl

other_number : (a b : ℕ) → (a ≡ b → ⊥) → (a == b) ≡ false
other_number a b differ = refuted (a == b) (λ is. differ (eqb-true a b is))

past_test : {A : Type 0} (b : Bool) (x y z : A) → b ≡ false → cond b x z ≡ cond b y z
past_test true x y z is = absurd (false≢true (sym is))
past_test false x y z is = refl

-- ---- tables

pub columns_small : (name : List ℕ) (ts : List (List ℕ × ℕ)) → AllByRecursion (λ t. t.1 ≤ 16) ts →
    IsSmall (find_named name ts)
columns_small name [] narrow = tt
columns_small name (t ∷ ts) narrow =
    elim (bytes_eq name t.0) as (λ b. IsSmall (cond b (Some t.1) (find_named name ts))) [
      | true ↦ omega (arith, narrow.0)
      | false ↦ columns_small name ts narrow.1
    ]

pub columns_of : (p : Place) (m : Store) (name : List ℕ) → Holds p m → get (m tables)
    (text_bytes name) ≡ option_map number_bytes (find_named name p.tables)
columns_of p m name holds = holds.table_rows.lookups name tt

table_put : (name : List ℕ) (columns : ℕ) (ts : List (List ℕ × ℕ)) (space : Space) → AreTables ts space →
    AreTables ((name, columns) ∷ ts) (insert space (text_bytes name) (number_bytes columns))
table_put name columns ts space is =
    altered {key = text_bytes} {value = number_bytes} {space = space} {i = name} {now = Some columns} turned is
  where
    turned : Turns text_bytes Any Any (λ q. find_named q ts) (λ q. find_named q ((name, columns) ∷ ts)) name
        (Some columns)
    turned = record {
      unique = λ a b one two same. text_bytes-same a b same;
      one = tt;
      can = tt;
      alters = record {
        here = ap (λ b. cond b (Some columns) (find_named name ts)) ((bytes_eq-Decides name name).1 refl);
        there = λ j one differ. ap (λ b. cond b (Some columns) (find_named j ts))
            (refuted (bytes_eq j name) (λ same. differ ((bytes_eq-Decides j name).0 same)));
      };
    }

-- ---- the meta numbers

not_zero : (n : ℕ) → 0 < n → (n == 0) ≡ false
not_zero n some = other_number n 0 (λ is. omega (arith, is, some))

-- the space of meta numbers that are told by a function
abbrev Numbered : (ℕ → Option (List ℕ)) → Space → Type 0
Numbered entry = IsSpace meta_key Any (λ value. value) Any entry

numbered : (key : ℕ) (value : List ℕ) (old new : ℕ → Option (List ℕ)) (space : Space) → Alters Any key
    (Some value) old new → Numbered old space → Numbered new (insert space (meta_key key) value)
numbered key value old new space alters is =
    altered {key = meta_key} {value = λ v. v} {space = space} {i = key} {now = Some value} turned is
  where
    turned : Turns meta_key Any Any old new key (Some value)
    turned = record { unique = λ a b one two same. cc; one = tt; can = tt; alters = alters }

-- one more number
added : (key : ℕ) (value : List ℕ) (old : ℕ → Option (List ℕ)) (space : Space) → Numbered old space →
    Numbered (λ k. cond (k == key) (Some value) (old k)) (insert space (meta_key key) value)
added key value old space = numbered key value old (λ k. cond (k == key) (Some value) (old k)) space (record {
  here = ap (λ b. cond b (Some value) (old key)) (eq-eqb key key refl);
  there = λ j one differ. ap (λ b. cond b (Some value) (old j)) (other_number j key differ);
})

-- What is stored of a place.
pub record Stored : Type 0 where
  pub stamp : ℕ
  pub xid_ceiling : ℕ
  pub number_ceiling : ℕ
  pub tables : Named ℕ
  pub standing : List ℕ → Rows
  pub node : Option Node

abbrev pub stored_of : Place → Stored
stored_of p = record {
  stamp = p.stamp;
  xid_ceiling = p.xids.ceiling;
  number_ceiling = p.numbers.ceiling;
  tables = p.tables;
  standing = standing_rows p;
  node = p.node;
}

-- the meta entries among it, by the numbers of their keys
abbrev meta_in : Stored → ℕ → Option (List ℕ)
meta_in s = meta_at s.stamp s.xid_ceiling s.number_ceiling s.node

abbrev entries_in : Stored → ℕ → Option (List ℕ)
entries_in s = entries_at s.stamp s.xid_ceiling s.number_ceiling s.node

-- another number at a key, where there is a stamp
renumbered : (key : ℕ) (value : List ℕ) (old new : Stored) → 0 < old.stamp → 0 < new.stamp →
    entries_in new key ≡ Some value → ((j : ℕ) → (j ≡ key → ⊥) → entries_in new j ≡ entries_in old j) → Alters Any key
    (Some value) (meta_in old) (meta_in new)
renumbered key value old new was some here there = record {
  here = ap (λ b. cond b None (entries_in new key)) (not_zero new.stamp some) ∙ here;
  there = λ j one differ. ap (λ b. cond b None (entries_in new j)) (not_zero new.stamp some) ∙ there j differ
      ∙ sym (ap (λ b. cond b None (entries_in old j)) (not_zero old.stamp was));
}

pub restamped : (old : Stored) (stamp : ℕ) (space : Space) → 0 < old.stamp → 0 < stamp → Numbered (meta_in old) space →
    Numbered (meta_in (record old { stamp = stamp })) (insert space stamp_key (number_bytes stamp))
restamped old stamp space was some =
    let new : Stored = record old { stamp = stamp } in
    numbered 1 (number_bytes stamp) (meta_in old) (meta_in new) space
    (renumbered 1 (number_bytes stamp) old new was some refl (λ j differ. past_test (j == 1) _ _ _
    (other_number j 1 differ)))

raised_xids : (old : Stored) (xids : ℕ) (space : Space) → 0 < old.stamp → Numbered (meta_in old) space →
    Numbered (meta_in (record old { xid_ceiling = xids })) (insert space xid_ceiling_key (number_bytes xids))
raised_xids old xids space was =
    let new : Stored = record old { xid_ceiling = xids } in
    numbered 2 (number_bytes xids) (meta_in old) (meta_in new) space
    (renumbered 2 (number_bytes xids) old new was was refl (λ j differ.
    ap (cond (j == 1) (Some (number_bytes old.stamp))) (past_test (j == 2) _ _ _ (other_number j 2 differ))))

raised_numbers : (old : Stored) (numbers : ℕ) (space : Space) → 0 < old.stamp → Numbered (meta_in old) space →
    Numbered (meta_in (record old { number_ceiling = numbers }))
    (insert space action_ceiling_key (number_bytes numbers))
raised_numbers old numbers space was =
    let new : Stored = record old { number_ceiling = numbers } in
    numbered 3 (number_bytes numbers) (meta_in old) (meta_in new) space
    (renumbered 3 (number_bytes numbers) old new was was refl (λ j differ.
    ap (cond (j == 1) (Some (number_bytes old.stamp))) (ap (cond (j == 2) (Some (number_bytes old.xid_ceiling)))
    (past_test (j == 3) _ _ _ (other_number j 3 differ)))))

-- the first numbers, over none
founded_meta : (xids numbers : ℕ) (space : Space) → IsMeta 0 xids numbers None space →
    IsMeta 1 65 65 None
    (insert (insert (insert (insert space log_status_key (0 ∷ [])) action_ceiling_key
    (number_bytes 65)) xid_ceiling_key (number_bytes 65)) stamp_key (number_bytes 1))
founded_meta xids numbers space is =
    added 1 (number_bytes 1) _ _ (added 2 (number_bytes 65) _ _ (added 3 (number_bytes 65) _ _
    (added 6 (0 ∷ []) (λ k. None) space is)))

-- ---- the spaces of a node

-- a space of the database's own is none of the node's
own_other : (space used : ℕ) → is_own used ≡ true → is_own space ≡ false → (space == used) ≡ false
own_other space used own other =
    other_number space used (λ is. false≢true (sym other ∙ ap is_own is ∙ own))

pub put_other : (used : ℕ) (key value : List ℕ) (m : Store) (space : ℕ) → is_own used ≡ true → is_own space ≡ false →
    put_at used key value m space ≡ m space
put_other used key value m space own other = ap (λ b. cond b (insert (m used) key value) (m space))
    (own_other space used own other)

-- ---- each transaction

-- a store holds a place where it holds another one of which the same is stored
pub holds_same : (p q : Place) (m : Store) → stored_of q ≡ stored_of p → Holds p m → Holds q m
holds_same p q m same holds = record {
  meta_numbers = same_space holds.meta_numbers (λ key one. ap (λ s. meta_in s key) same);
  table_rows = same_space holds.table_rows (λ name one. ap (λ s. find_named name s.tables) same);
  rows_held = same_space holds.rows_held (λ i one. ap (λ s. get (s.standing i.0) i.1) same);
  node_held = subst (λ n. HoldsNode n m) (sym (ap (λ s. s.node) same)) holds.node_held;
  bare = λ none. ap (λ s. s.node) same ∙ holds.bare (sym (ap (λ s. s.stamp) same) ∙ none);
}

-- a place has its first rows
pub never_bare : (stamp : ℕ) {A : Type 0} → 0 < stamp → stamp ≡ 0 → A
never_bare stamp some none = absurd (omega (arith, some, none))

pub holds_table : (p : Place) (m : Store) (name : List ℕ) (columns : ℕ) → 0 < p.stamp → Holds p m →
    Holds (tabled name columns p) (new_table (text_bytes name) (number_bytes columns)
    (number_bytes (p.stamp + 1)) m)
holds_table p m name columns some holds = record {
  meta_numbers = restamped (stored_of p) (p.stamp + 1) (m meta) some (omega arith) holds.meta_numbers;
  table_rows = table_put name columns p.tables (m tables) holds.table_rows;
  rows_held = holds.rows_held;
  node_held = node_stays p.node m _
      (λ space other. put_other meta stamp_key (number_bytes (p.stamp + 1)) (put_at tables (text_bytes name)
      (number_bytes columns) m) space refl other ∙ put_other tables (text_bytes name)
      (number_bytes columns) m space refl other) holds.node_held;
  bare = never_bare (p.stamp + 1) (omega arith);
}

-- a ceiling that rises, with the stamp of its transaction
ceiling_others : (key value stamp : List ℕ) (m : Store) → AreSame m (new_ceiling key value stamp m)
ceiling_others key value stamp m space other = put_other meta stamp_key stamp
    (put_at meta key value m) space refl other ∙ put_other meta key value m space refl other

pub holds_xids : (p : Place) (m : Store) → 0 < p.stamp → Holds p m →
    Holds (stamped (with_counter Xids (lifted p.xids) p)) (new_ceiling xid_ceiling_key
    (number_bytes (p.xids.ceiling + 64)) (number_bytes (p.stamp + 1)) m)
holds_xids p m some holds = record {
  meta_numbers = restamped (record (stored_of p) { xid_ceiling = p.xids.ceiling + 64 }) (p.stamp + 1) _ some
      (omega arith) (raised_xids (stored_of p) (p.xids.ceiling + 64) (m meta) some holds.meta_numbers);
  table_rows = holds.table_rows;
  rows_held = holds.rows_held;
  node_held = node_stays p.node m _ (ceiling_others xid_ceiling_key _ _ m) holds.node_held;
  bare = never_bare (p.stamp + 1) (omega arith);
}

pub holds_numbers : (p : Place) (m : Store) → 0 < p.stamp → Holds p m →
    Holds (stamped (with_counter Actions (lifted p.numbers) p)) (new_ceiling action_ceiling_key
    (number_bytes (p.numbers.ceiling + 64)) (number_bytes (p.stamp + 1)) m)
holds_numbers p m some holds = record {
  meta_numbers = restamped (record (stored_of p) { number_ceiling = p.numbers.ceiling + 64 }) (p.stamp + 1) _ some
      (omega arith) (raised_numbers (stored_of p) (p.numbers.ceiling + 64) (m meta) some holds.meta_numbers);
  table_rows = holds.table_rows;
  rows_held = holds.rows_held;
  node_held = node_stays p.node m _ (ceiling_others action_ceiling_key _ _ m) holds.node_held;
  bare = never_bare (p.stamp + 1) (omega arith);
}

-- the key of a ceiling
abbrev pub ceiling_key : Numbering → List ℕ
ceiling_key Xids = xid_ceiling_key
ceiling_key Actions = action_ceiling_key

pub holds_lifted : (kind : Numbering) (p : Place) (m : Store) → 0 < p.stamp → Holds p m →
    Holds (stamped (with_counter kind (lifted (counter kind p)) p))
    (new_ceiling (ceiling_key kind) (number_bytes ((counter kind p).ceiling + 64)) (number_bytes (p.stamp + 1)) m)
holds_lifted Xids p m some holds = holds_xids p m some holds
holds_lifted Actions p m some holds = holds_numbers p m some holds

-- the first rows are written where there was none
pub holds_first : (p q : Place) (m : Store) → p.stamp ≡ 0 →
    stored_of q ≡ record (stored_of p) { stamp = 1; xid_ceiling = 65; number_ceiling = 65 } → Holds p m →
    Holds q (first_rows (number_bytes 1) (number_bytes 65) m)
holds_first p q m none same holds = record {
  meta_numbers = same_space (founded_meta p.xids.ceiling p.numbers.ceiling (m meta)
      (subst (λ s. IsMeta s p.xids.ceiling p.numbers.ceiling None (m meta)) none
      (subst (λ n. IsMeta p.stamp p.xids.ceiling p.numbers.ceiling n (m meta)) (holds.bare none) holds.meta_numbers)))
      (λ key one. ap (λ s. meta_in s key) same ∙ ap (λ n. meta_at 1 65 65 n key) (holds.bare none));
  table_rows = same_space holds.table_rows (λ name one. ap (λ s. find_named name s.tables) same);
  rows_held = same_space holds.rows_held (λ i one. ap (λ s. get (s.standing i.0) i.1) same);
  node_held = subst (λ n. HoldsNode n (first_rows (number_bytes 1) (number_bytes 65) m)) (sym (ap (λ s. s.node) same))
      (node_stays p.node m _ first_others holds.node_held);
  bare = λ bare. never_bare q.stamp (omega (arith, ap (λ s. s.stamp) same)) bare;
}
  where
    first_others : AreSame m (first_rows (number_bytes 1) (number_bytes 65) m)
    first_others space other =
        put_other meta stamp_key (number_bytes 1) (put_at meta xid_ceiling_key (number_bytes 65)
        (put_at meta action_ceiling_key (number_bytes 65) (put_at meta log_status_key (0 ∷ []) m))) space refl other
        ∙ put_other meta xid_ceiling_key (number_bytes 65) (put_at meta action_ceiling_key (number_bytes 65)
        (put_at meta log_status_key (0 ∷ []) m)) space refl other
        ∙ put_other meta action_ceiling_key (number_bytes 65) (put_at meta log_status_key (0 ∷ []) m) space refl other
        ∙ put_other meta log_status_key (0 ∷ []) m space refl other

-- ---- the writes of a transaction

found_entry : (e : List ℕ × Option (List ℕ)) (m : Store) (q : List ℕ) → get (write_at e.0 e.1 m rows) q ≡ cond
    (is_eq (key_cmp q e.0)) e.1 (get (m rows) q)
found_entry (k, None) m q = get-remove nat_list_cmp_total (m rows) k q
found_entry (k, Some v) m q = get-insert nat_list_cmp_total (m rows) k v q

get-write_all : (es : List (List ℕ × Option (List ℕ))) (m : Store) (q : List ℕ) → T (is_sorted key_cmp es) →
    get (write_all es m rows) q ≡ over (find key_cmp q es) (get (m rows) q)
get-write_all [] m q sorted = refl
get-write_all (e ∷ es) m q sorted =
    get-write_all es (write_at e.0 e.1 m) q (back_of _ _ sorted)
    ∙ ap (over (find key_cmp q es)) (found_entry e m q)
    ∙ elim (is_eq (key_cmp q e.0)) as (λ b. is_eq (key_cmp q e.0) ≡ b → over (find key_cmp q es)
    (cond b e.1 (get (m rows) q)) ≡ over (cond b (Some e.1) (find key_cmp q es)) (get (m rows) q)) [
      | true ↦ λ same. ap (λ o. over o e.1)
          (find_none q e.0 es (λ g less. ap (λ k. key_cmp k g) (same_keys q e.0 (equal_of _ same)) ∙ less)
          (front_of _ _ sorted))
      | false ↦ λ differ. refl
    ] refl

write_other : (k : List ℕ) (v : Option (List ℕ)) (m : Store) (space : ℕ) → (space == rows) ≡ false →
    write_at k v m space ≡ m space
write_other k None m space other = ap (λ b. cond b (remove (m rows) k) (m space)) other
write_other k (Some v) m space other = ap (λ b. cond b (insert (m rows) k v) (m space)) other

write_all-other : (es : List (List ℕ × Option (List ℕ))) (m : Store) (space : ℕ) → (space == rows) ≡ false →
    write_all es m space ≡ m space
write_all-other [] m space other = refl
write_all-other (e ∷ es) m space other = write_all-other es (write_at e.0 e.1 m) space other
    ∙ write_other e.0 e.1 m space other

-- ---- what a transaction logs

logs_other : (identity : Option Identity) (logs : List (ℕ × LogRow)) (m : Store) (space : ℕ) → (space == 15) ≡ false →
    with_logs identity logs m space ≡ m space
logs_other None logs m space other = refl
logs_other (Some identity) logs m space other = others_stay identity.id logs m space other

-- the log depends on what was in its space before
logs_over : (origin : ℕ) (logs : List (ℕ × LogRow)) (m new : Store) (space : ℕ) → new 15 ≡ m 15 →
    new space ≡ m space → put_logs origin logs new space ≡ put_logs origin logs m space
logs_over origin [] m new space log same = same
logs_over origin (r ∷ rs) m new space log same =
    let key = log_key (origin, r.0) in
    let value = log_row_bytes r.1 in
    logs_over origin rs (put_at 15 key value m) (put_at 15 key value new) space (ap (λ l. insert l key value) log)
    (λ i. cond (space == 15) (insert (log i) key value) (same i))

-- the rows that were there before are put behind those of the transaction
pub rows_put : (b : Batch) (m : Store) (space : ℕ) → (space == 15) ≡ false →
    with_logs b.identity b.logs (write_all (entries b.writes) m) space ≡ write_all (entries b.writes) m space
rows_put b m space other = logs_other b.identity b.logs (write_all (entries b.writes) m) space other

-- the same is stored of the node in the meta entries after a commit
commit_entries : (x : ℕ) (p : Place) (node : Option Node) (key : ℕ) →
    (log_of (option_map (with_commit x p) node) ≡ log_of node)
    × (identity_at (option_map (with_commit x p) node) key ≡ identity_at node key)
commit_entries x p None key = (refl, refl)
commit_entries x p (Some n) key = (refl, refl)

-- What a commit of a place stores: its rows, and what its node logs.
pub record Commits (p q : Place) (x : ℕ) (b : Batch) (m : Store) : Type 0 where
  pub founded : 0 < p.stamp
  pub stored : stored_of q ≡ record (stored_of p) {
    stamp = p.stamp + 1;
    standing = standing_rows q;
    node = option_map (with_commit x p) p.node;
  }
  pub rows_are : AreRows (standing_rows q) (write_all (entries b.writes) m rows)
  pub known : b.identity ≡ identity_of p.node
  pub logs : (n : Node) → p.node ≡ Some n → logged_more n.id b.logs (items_of (logged n))
      ≡ items_of (own_logs n.id (knowledge n) (own_actions x p)) ++ items_of (logged n)
  pub can : AllByRecursion (λ r. (r.0 < 2 ^ 63) × CanLogRow r.1) b.logs

-- what the store then holds of the node
node_committed : {p q : Place} {x : ℕ} {b : Batch} {m : Store} (node : Option Node) → Commits p q x b m →
    p.node ≡ node → HoldsNode node m →
    HoldsNode (option_map (with_commit x p) node) (new_rows b (number_bytes (p.stamp + 1)) m)
node_committed {p} {q} {x} {b} {m} None c is held = λ space other.
    put_other meta stamp_key (number_bytes (p.stamp + 1))
    (with_logs b.identity b.logs (write_all (entries b.writes) m)) space refl other
    ∙ ap (λ i. with_logs i b.logs (write_all (entries b.writes) m) space) (c.known ∙ ap identity_of is)
    ∙ write_all-other (entries b.writes) m space (own_other space rows refl other) ∙ held space other
node_committed {p} {q} {x} {b} {m} (Some n) c is held =
    node_grows {n = n} {xid = x} {p = p} (record {
      rows = b.logs;
      can = c.can;
      logs = c.logs n is;
      same = same;
    }) held
  where
    same : AreSame (put_logs n.id b.logs m) (new_rows b (number_bytes (p.stamp + 1)) m)
    same space other =
        put_other meta stamp_key (number_bytes (p.stamp + 1))
        (with_logs b.identity b.logs (write_all (entries b.writes) m)) space refl other
        ∙ ap (λ i. with_logs i b.logs (write_all (entries b.writes) m) space) (c.known ∙ ap identity_of is)
        ∙ logs_over n.id b.logs m _ space (write_all-other (entries b.writes) m 15 refl)
        (write_all-other (entries b.writes) m space (own_other space rows refl other))

-- the rows of a transaction are put over those that stood
pub holds_rows : {p q : Place} {x : ℕ} {b : Batch} {m : Store} → Commits p q x b m → Holds p m →
    Holds q (new_rows b (number_bytes (p.stamp + 1)) m)
holds_rows {p} {q} {x} {b} {m} c holds = record {
  meta_numbers = same_space (restamped (stored_of p) (p.stamp + 1) _ c.founded (omega arith)
      (subst (IsMeta p.stamp p.xids.ceiling p.numbers.ceiling p.node)
      (sym (rows_put b m meta refl ∙ write_all-other (entries b.writes) m meta refl)) holds.meta_numbers))
      (λ key one. ap (λ s. meta_in s key) c.stored ∙ entry key);
  table_rows = subst (AreTables q.tables)
      (sym (rows_put b m tables refl ∙ write_all-other (entries b.writes) m tables refl))
      (same_space holds.table_rows (λ name one. ap (λ s. find_named name s.tables) c.stored));
  rows_held = subst (AreRows (standing_rows q)) (sym (rows_put b m rows refl)) c.rows_are;
  node_held = subst (λ n. HoldsNode n (new_rows b (number_bytes (p.stamp + 1)) m)) (sym (ap (λ s. s.node) c.stored))
      (node_committed p.node c refl holds.node_held);
  bare = λ none. never_bare q.stamp (omega (arith, ap (λ s. s.stamp) c.stored)) none;
}
  where
    entry : (key : ℕ) → meta_at (p.stamp + 1) p.xids.ceiling p.numbers.ceiling (option_map (with_commit x p) p.node) key
        ≡ meta_at (p.stamp + 1) p.xids.ceiling p.numbers.ceiling p.node key
    entry key =
        let e = commit_entries x p p.node key in
        λ i. cond ((p.stamp + 1) == 0) None (cond (key == 1) (Some (number_bytes (p.stamp + 1)))
        (cond (key == 2) (Some (number_bytes p.xids.ceiling)) (cond (key == 3) (Some (number_bytes p.numbers.ceiling))
        (cond (key == 6) (Some (e.0 i ∷ [])) (e.1 i)))))

pub get-written : (writes : Writes) (m : Store) (q : List ℕ) → get (write_all (entries writes) m rows) q ≡ over
    (get writes q) (get (m rows) q)
get-written writes m q = get-write_all (entries writes) m q (entries_sorted writes) ∙ ap (λ o. over o (get (m rows) q))
    (sym (get-entries writes q))
