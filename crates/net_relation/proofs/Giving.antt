-- What is taken of a log for a SYNC: who has all that is new in the log of the origin gives the same rows as that.
use Rattle.std.proofs.Common.{◌≡◌, inl, inr, ℕ, ◌<◌, Bool, true, false, cond, List, [], ◌∷◌, Some, refl}
use Rattle.std.proofs.Common.{sym, ap, subst, ◌∙◌, arith, not}
use Rattle.std.specs.Prelude.{◌==◌, ◌&&◌, map}
use Rattle.std.specs.Str.{bytes_eq}
use Rattle.std.proofs.lemmas.Bool.{and_parts, false≢true}
use Rattle.node_rows.specs.declared.rows.TableRow.{TableRow}
use Rattle.slon_model.specs.Names.{find_named}
use Rattle.slon_model.specs.Maps.{Map, entry_at}
use Rattle.slon_model.specs.Snapshots.{Snapshot, sees}
use Rattle.slon_model.specs.Config.{Config, is_origin, names_of, tables_of}
use Rattle.slon_model.specs.Deeds.{Logged, Node, knowledge}
use Rattle.slon_model.specs.Following.{delta, is_new, is_on_one, numbered, tables_taken, set_sync}
use Rattle.slon_model.specs.Logs.{logged}
use Rattle.slon_model.specs.Place.{Place}
use Rattle.slon_model.proofs.Names.{bytes_same}
use Rattle.stream_laws.specs.Nodes.{IsAmong, nodes_in}
use Rattle.stream_laws.proofs.Lists.{all_among, any_among}
use Rattle.stream_laws.proofs.Streams.{one_node}
use Rattle.image_laws.proofs.Logging.{among_filtered, filtered_among}
use Rattle.view_laws.specs.Past.{Past}
use Rattle.view_laws.proofs.Agreeing.{table_known}
use Rattle.view_laws.proofs.Tables.{one_table, table_of}
use Rattle.view_laws.proofs.Moments.{NodeAt, regular_now, sound_now}
use Rattle.view_laws.proofs.Numbered.{AreSorted, IsNumbered, among_map, are_numbered, mapped_among, numbered_all}
use Rattle.view_laws.proofs.Numbered.{numbered_sorted, same_action, sorted_filter}
use Rattle.view_laws.proofs.Owned.{owned_now}
use Rattle.view_laws.proofs.Rising.{found_stands}
use Rattle.net_relation.proofs.Origins.{logs_have_origins}
use Rattle.net_relation.proofs.Stretches.{entry_table, one_entry}
use Rattle.net_relation.specs.Laws.{IsAhead, Keeper}
use Rattle.net_relation.proofs.Providing.{place_of}
use Rattle.slon_model.specs.Events.{Event}

-- ---- lists in order

-- two lists that rise and have the same entries are one
same_sorted : (ks ls : List Logged) → AreSorted ks × AreSorted ls → ((m : Logged) → IsAmong m ks → IsAmong m ls) →
    ((m : Logged) → IsAmong m ls → IsAmong m ks) → ks ≡ ls
same_sorted [] [] sorted one two = refl
same_sorted [] (l ∷ ls) sorted one two = absurd (two l (inl refl))
same_sorted (k ∷ ks) [] sorted one two = absurd (one k (inl refl))
same_sorted (k ∷ ks) (l ∷ ls) sorted one two =
    ap (λ m. m ∷ ks) first
    ∙ ap (λ ms. l ∷ ms) (same_sorted ks ls (sorted.0.1, sorted.1.1) tail_one tail_two)
  where
    above_k : (m : Logged) → IsAmong m ks → k.action.number < m.action.number
    above_k m among = all_among (λ m. k.action.number < m.action.number) m ks sorted.0.0 among

    above_l : (m : Logged) → IsAmong m ls → l.action.number < m.action.number
    above_l m among = all_among (λ m. l.action.number < m.action.number) m ls sorted.1.0 among

    by : IsAmong k (l ∷ ls) → IsAmong l (k ∷ ks) → k ≡ l
    by (inl is) there = is
    by (inr later) (inl is) = sym is
    by (inr later) (inr there) =
        let less = above_l k later in let more = above_k l there in absurd (omega (arith, less, more))

    first : k ≡ l
    first = by (one k (inl refl)) (two l (inl refl))

    number : k.action.number ≡ l.action.number
    number = ap (λ (m : Logged). m.action.number) first

    never : (m : Logged) (a : ℕ) → a < m.action.number → m.action.number ≡ a → ⊥
    never m a less same = omega (arith, less, same)

    tail_one : (m : Logged) → IsAmong m ks → IsAmong m ls
    tail_one m among = at (one m (inr among))
      where
        at : IsAmong m (l ∷ ls) → IsAmong m ls
        at (inl is) =
            absurd (never m k.action.number (above_k m among) (ap (λ (j : Logged). j.action.number) is ∙ sym number))
        at (inr later) = later

    tail_two : (m : Logged) → IsAmong m ls → IsAmong m ks
    tail_two m among = at (two m (inr among))
      where
        at : IsAmong m (k ∷ ks) → IsAmong m ks
        at (inl is) =
            absurd (never m l.action.number (above_l m among) (ap (λ (j : Logged). j.action.number) is ∙ number))
        at (inr later) = later

-- ---- what is taken of a log

-- Of an origin, what is on these tables and new.
record Taking : Type 0 where
  origin : ℕ
  tables : Map (List ℕ)
  old : Snapshot
  new : Snapshot

abbrev taken_of : Taking → List Logged → List Logged
taken_of k logs = delta k.origin k.tables k.old k.new logs

abbrev passes : Taking → Logged → Bool
passes k l = is_on_one k.tables l && is_new k.old k.new l

-- The entry is in the log, of this origin, and passes.
record IsIn (k : Taking) (logs : List Logged) (l : Logged) : Type 0 where
  among : IsAmong l logs
  own : l.origin ≡ k.origin
  is : passes k l ≡ true

taken_in : (k : Taking) (logs : List Logged) (l : Logged) → IsAmong l (taken_of k logs) → IsIn k logs l
taken_in k logs l there =
    let passed = filtered_among (passes k) l (map (λ e. e.1) (numbered k.origin logs)) there in
    let entry = mapped_among (λ (e : ℕ × Logged). e.1) l (numbered k.origin logs) passed.0 in
    let is = all_among (IsNumbered k.origin logs) entry.0 (numbered k.origin logs) (are_numbered k.origin logs)
    entry.1 in
    record {
      among = subst (λ m. IsAmong m logs) (sym entry.2) is.among;
      own = ap (λ (m : Logged). m.origin) entry.2 ∙ is.own;
      is = passed.1;
    }

-- where no other entry has its number, it is taken
in_taken : (k : Taking) (logs : List Logged) (l : Logged) → IsIn k logs l →
    ((m : Logged) → IsAmong m logs → m.origin ≡ k.origin → m.action.number ≡ l.action.number → m ≡ l) →
    IsAmong l (taken_of k logs)
in_taken k logs l is one =
    among_filtered (passes k) l (map (λ e. e.1) (numbered k.origin logs))
    (subst (λ m. IsAmong m (map (λ e. e.1) (numbered k.origin logs)))
    (one found.0 of.among of.own (sym of.number))
    (among_map (λ (e : ℕ × Logged). e.1) (l.action.number, found.0) (numbered k.origin logs) stands)) is.is
  where
    found : (m : Logged) × (entry_at l.action.number (numbered k.origin logs) ≡ Some m)
    found = numbered_all k.origin logs l is.among is.own

    stands : IsAmong (l.action.number, found.0) (numbered k.origin logs)
    stands = found_stands l.action.number found.0 (numbered k.origin logs) found.1

    of : IsNumbered k.origin logs (l.action.number, found.0)
    of = all_among (IsNumbered k.origin logs) (l.action.number, found.0) (numbered k.origin logs)
        (are_numbered k.origin logs) stands

-- ---- a table to which rows are taken

taken_named : (own set : ℕ) (c : Config) (l : Logged) → is_on_one (tables_taken own set c) l ≡ true →
    IsAmong l.action.table (names_of set c)
taken_named own set c l on = by (is_origin own set c) on
  where
    entry : ℕ × TableRow → ℕ × List ℕ
    entry e = (e.0, e.1.name)

    by : (b : Bool) → is_on_one (cond b [] (map entry (tables_of set c))) l ≡ true →
        IsAmong l.action.table (names_of set c)
    by true never = absurd (false≢true never)
    by false on =
        let there = any_among (λ t. t.0 == l.table_id && bytes_eq l.action.table t.1) (map entry (tables_of set c))
        on in
        let made = mapped_among entry there.0 (tables_of set c) there.1 in
        subst (λ name. IsAmong name (names_of set c))
        (ap (λ (t : ℕ × List ℕ). t.1) (sym made.2)
        ∙ sym (bytes_same l.action.table there.0.1
        (and_parts (there.0.0 == l.table_id) (bytes_eq l.action.table there.0.1) there.2).1))
        (among_map (λ (e : ℕ × TableRow). e.1.name) made.0 (tables_of set c) made.1)

-- ---- the rows of a SYNC

-- A node that keeps a set, an event of the origin of that, and another node, which has in its log all that the origin
-- logged on the set between the snapshot of the view and that of the event.
pub record Given (set : ℕ) (t : Past) : Type 0 where
  pub name : List ℕ
  pub leader : Node
  pub at : nodes_in t.world.places name ≡ Some leader
  pub keeper : Keeper t.world set leader
  pub event : Event
  pub own : event.origin ≡ leader.id
  pub giver_name : List ℕ
  pub giver : Node
  pub there : nodes_in t.world.places giver_name ≡ Some giver
  pub serves : (l : Logged) → IsAhead set leader keeper.view.seen event.taken l → IsAmong l (logged giver)

-- what is taken of such a log
abbrev pub rows_by : {set : ℕ} {t : Past} → Given set t → List Logged → List Logged
rows_by {set} g logs =
    (set_sync g.keeper.node.id (knowledge g.keeper.node) g.event logs (set, g.keeper.view)).rows

pub gives_the_same : (set : ℕ) (t : Past) (g : Given set t) → rows_by g (logged g.giver) ≡ rows_by g (logged g.leader)
gives_the_same set t g =
    same_sorted (taken_of how (logged g.giver)) (taken_of how (logged x))
    (sorted (logged g.giver), sorted (logged x)) there back
  where
    x : Node
    x = g.leader

    e : Event
    e = g.event

    k : Keeper t.world set x
    k = g.keeper

    how : Taking
    how = record {
      origin = e.origin;
      tables = tables_taken k.node.id set (knowledge k.node).config;
      old = k.view.seen;
      new = e.taken;
    }

    sorted : (logs : List Logged) → AreSorted (taken_of how logs)
    sorted logs = sorted_filter (passes how) (map (λ e. e.1) (numbered e.origin logs)) (numbered_sorted e.origin logs)

    p : (p : Place) × (find_named g.name t.world.places ≡ Some p) × (p.node ≡ Some x)
    p = place_of t g.name x g.at

    leader : NodeAt t
    leader = record { name = g.name; place = p.0; found = p.1; node = x; at = p.2 }

    -- an entry of the origin that passes is of the set
    of_set : (l : Logged) → IsAmong l (logged x) → passes how l ≡ true → l.set_id ≡ set
    of_set l among is =
        let there = table_known set (knowledge k.node).config l.action.table
        (taken_named k.node.id set (knowledge k.node).config l
        (and_parts (is_on_one how.tables l) (is_new how.old how.new l) is).0) in
        (one_table t (entry_table t leader l among) (table_of t (record {
          name = k.name;
          node = k.node;
          is = k.is;
          entry = there.0;
          among = there.1;
        })) there.3).0 ∙ there.2

    -- an entry of it that the other one has
    of : (l : Logged) → IsAmong l (logged g.giver) → l.origin ≡ e.origin → IsAmong l (logged x)
    of l among of_x =
        let o = logs_have_origins t.limit t.history t.world t.leads g.giver_name g.giver g.there l among in
        subst (λ (n : Node). IsAmong l (logged n))
        (one_node (nodes_in t.world.places) (regular_now t).nodes o.name g.name o.node x o.is
        (g.at, o.own ∙ of_x ∙ g.own)) o.among

    -- two entries of one number are one
    one : (m l : Logged) → IsAmong m (logged x) → IsIn how (logged x) l → m.origin ≡ e.origin →
        m.action.number ≡ l.action.number → m ≡ l
    one m l among is of_x number =
        one_entry t leader m l (among, is.among)
        (same_action p.0.actions l.action m.action (sound_now t g.name p.0 p.1).rising (owned l is.among is.own)
        (owned m among of_x) (sym number)) (of_x ∙ sym is.own)
      where
        owned : (j : Logged) → IsAmong j (logged x) → j.origin ≡ e.origin → IsAmong j.action p.0.actions
        owned j among of_x =
            all_among (λ j. j.origin ≡ x.id → IsAmong j.action p.0.actions) j (logged x)
            (owned_now t g.name p.0 x p.1 p.2) among (of_x ∙ g.own)

    there : (l : Logged) → IsAmong l (taken_of how (logged g.giver)) → IsAmong l (taken_of how (logged x))
    there l among =
        let is = taken_in how (logged g.giver) l among in
        let there : IsIn how (logged x) l = record { among = of l is.among is.own; own = is.own; is = is.is } in
        in_taken how (logged x) l there (λ m among of_x number. one m l among there of_x number)

    back : (l : Logged) → IsAmong l (taken_of how (logged x)) → IsAmong l (taken_of how (logged g.giver))
    back l among =
        let is = taken_in how (logged x) l among in
        let new = and_parts (is_on_one how.tables l) (is_new how.old how.new l) is.is in
        let seen = and_parts (sees e.taken l.action.xid) (not (sees k.view.seen l.action.xid)) new.1 in
        in_taken how (logged g.giver) l (record {
          among = g.serves l (record {
            among = is.among;
            of = of_set l is.among is.is;
            own = is.own ∙ g.own;
            seen = seen.0;
            unseen = not-true (sees k.view.seen l.action.xid) seen.1;
          });
          own = is.own;
          is = is.is;
        }) (λ m there of_x number. one m l (of m there of_x) is of_x number)
      where
        not-true : (b : Bool) → not b ≡ true → b ≡ false
        not-true true is = sym is
        not-true false is = refl
