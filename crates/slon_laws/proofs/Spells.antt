-- Each change of a database keeps what it holds spelled.
use Rattle.std.proofs.Common.{◌≡◌, ℕ, ◌+◌, ◌<◌, ◌≤◌, true, false, cond, List, [], ◌∷◌, length, refl}
use Rattle.std.proofs.Common.{arith, Option, Some, None, inr, subst, sym}
use Rattle.std.specs.Prelude.{◌==◌, ◌&&◌, ◌||◌, not, nat_le, map, option_map}
use Rattle.std.specs.Option.{option_or}
use Rattle.std.specs.List.{list_all, AllByRecursion}
use Rattle.std.proofs.lemmas.Bool.{eqb-true, and_parts, leb-false}
use Rattle.slon_base.specs.Codec.{AllTexts}
use Rattle.slon_model.specs.declared.numbering.Numbering.{Numbering}
use Rattle.slon_model.specs.declared.numbering.Numbering.TheVariants.{Xids, Actions}
use Rattle.slon_model.specs.Forms.{is_value}
use Rattle.slon_model.specs.Names.{Named}
use Rattle.slon_model.specs.Rows.{Action, Rows, Change, Put, Set, Remove}
use Rattle.node_rows.specs.declared.rows.TableRow.{TableRow}
use Rattle.slon_model.specs.Config.{is_origin, era_of, member_of}
use Rattle.slon_model.specs.Deeds.{Deed, Knowledge, Logged, Node, brought_in, knowledge, with_deeds}
use Rattle.slon_model.specs.Logs.{logged, logged_on, own_logs}
use Rattle.slon_model.specs.Sessions.{Commit, committing}
use Rattle.slon_model.specs.Spoken.{IsTask, IsTableName, IsChange, most_columns}
use Rattle.slon_model.specs.Tasks.{Task}
use Rattle.slon_model.specs.Place.{Place, bare_place, block, counter, with_counter, lifted, stamped, raised, founded}
use Rattle.slon_model.specs.Place.{Filling, filled, filled_by, has_writer, own_actions, own_count}
use Rattle.slon_model.specs.Moves.{Move, Stays, Founds, Tables, Begins, Writes, Commits, Aborts, Falls, Rises}
use Rattle.slon_model.specs.Moves.{first_rows, prepared, done, stored_limit, is_last_stamp, is_last, is_beyond}
use Rattle.slon_model.specs.Moves.{commit_deed, with_commit}
use Rattle.slon_model.specs.Deciding.{fits}
use Rattle.slon_model.proofs.Names.{all_found, all_map}
use Rattle.slon_model.proofs.Spoken.{value_text, value_texts, table_name_text}
use Rattle.slon_laws.specs.Lists.{IsAmong}
use Rattle.slon_laws.specs.Sound.{Sound}
use Rattle.slon_laws.specs.Spelled.{IsSmall, IsSpelled, IsWritten, CanSpell, AreFormed, AreWritten, IsFormedDeed}
use Rattle.slon_laws.specs.Spelled.{AreForeign, AreOwn, IsFormedCommit, logs_in}
use Rattle.slon_laws.specs.Allowed.{MayWrite, MayMove}
use Rattle.slon_laws.specs.Keeps.{Keeps}
use Rattle.slon_laws.specs.Turning.{IsFormed}
use Rattle.slon_laws.proofs.Lists.{all_appended, all_filtered, all_given, among_all}
use Rattle.slon_laws.proofs.Owners.{OnSome}
use Rattle.slon_laws.proofs.Opens.{or_parts}
use Rattle.slon_laws.proofs.Sounds.{sound_prepared, keeps_sound}

pub spelled_bare : IsSpelled bare_place
spelled_bare = record {
  small = record { stamp = omega arith; xids = omega arith; numbers = omega arith };
  written = tt;
  filled = tt;
  logged = tt;
  owned = tt;
  narrow = tt;
  few = omega arith;
  bare = λ none. (refl, refl);
}

-- a transaction of the store stands
spelled_stamped : (p q : Place) → q.actions ≡ p.actions → q.tables ≡ p.tables → q.numbers.next ≡ p.numbers.next →
    AllByRecursion (λ f. AreFormed f.1.rows) q.fillings × AreWritten (logs_in q.node) × AreOwn p.actions q.node
    × (0 < q.stamp) → IsSmall q → IsSpelled p → IsSpelled q
spelled_stamped p q actions tables next (filled, logged, owned, some) small s = record {
  small = small;
  written = rw actions s.written;
  filled = filled;
  logged = logged;
  owned = rw actions owned;
  narrow = rw tables s.narrow;
  few = rw (actions, next) s.few;
  bare = λ none. absurd (omega (arith, none, some));
}

below_limit : (n : ℕ) → nat_le stored_limit n ≡ false → n < stored_limit
below_limit n not = omega (arith, leb-false stored_limit n not)

-- a ceiling that is lifted within the limit
pub lifted_small : (kind : Numbering) (p : Place) →
    (is_last_stamp p || nat_le stored_limit ((counter kind p).ceiling + block)) ≡ false → IsSmall p →
    IsSmall (stamped (with_counter kind (lifted (counter kind p)) p))
lifted_small Xids p not s =
    let parts = or_parts (is_last_stamp p) (nat_le stored_limit (p.xids.ceiling + block)) not in
    record {
      stamp = below_limit (p.stamp + 1) parts.0;
      xids = below_limit (p.xids.ceiling + block) parts.1;
      numbers = s.numbers;
    }
lifted_small Actions p not s =
    let parts = or_parts (is_last_stamp p) (nat_le stored_limit (p.numbers.ceiling + block)) not in
    record {
      stamp = below_limit (p.stamp + 1) parts.0;
      xids = s.xids;
      numbers = below_limit (p.numbers.ceiling + block) parts.1;
    }

spelled_lifted : (kind : Numbering) (p : Place) →
    (is_last_stamp p || nat_le stored_limit ((counter kind p).ceiling + block)) ≡ false → IsSpelled p →
    IsSpelled (stamped (with_counter kind (lifted (counter kind p)) p))
spelled_lifted Xids p not s =
    spelled_stamped p _ refl refl refl (s.filled, s.logged, s.owned, omega arith) (lifted_small Xids p not s.small) s
spelled_lifted Actions p not s =
    spelled_stamped p _ refl refl refl (s.filled, s.logged, s.owned, omega arith) (lifted_small Actions p not s.small) s

spelled_raised : (kind : Numbering) (p : Place) → is_last kind p ≡ false → IsSpelled p → IsSpelled (raised kind p)
spelled_raised kind p not s =
    elim ((counter kind p).next == (counter kind p).ceiling)
    as (λ b. (b && (is_last_stamp p || nat_le stored_limit ((counter kind p).ceiling + block))) ≡ false →
    IsSpelled (cond b (stamped (with_counter kind (lifted (counter kind p)) p)) p)) [
      | true ↦ λ within. spelled_lifted kind p within s
      | false ↦ λ within. s
    ] not

spelled_founded : (p : Place) → p.stamp ≡ 0 → IsSpelled p → IsSpelled (founded p)
spelled_founded p none s =
    let bare = s.bare none in
    let xids = bare.0 in
    let numbers = bare.1 in
    spelled_stamped p (founded p) refl refl refl (s.filled, s.logged, s.owned, omega arith)
    (record { stamp = omega arith; xids = omega (arith, xids); numbers = omega (arith, numbers) }) s

spelled_first : (p : Place) → IsSpelled p → IsSpelled (first_rows p)
spelled_first p s =
    elim (p.stamp == 0) as (λ b. (p.stamp == 0) ≡ b → IsSpelled (cond b (founded p) p)) [
      | true ↦ λ none. spelled_founded p (eqb-true p.stamp 0 none) s
      | false ↦ λ some. s
    ] refl

-- what stays as it was, but for transactions and the standing
abbrev StaysAs : Place → Place → Type 0
StaysAs p q =
    (q.actions ≡ p.actions) × (q.tables ≡ p.tables) × (p.numbers.next ≤ q.numbers.next) × (q.stamp ≡ p.stamp)
    × (q.xids.ceiling ≡ p.xids.ceiling) × (q.numbers.ceiling ≡ p.numbers.ceiling) × (q.fillings ≡ p.fillings)
    × (q.node ≡ p.node)

spelled_same : (p q : Place) → StaysAs p q → IsSpelled p → IsSpelled q
spelled_same p q (actions, tables, next, stamps, xids, numbers, fillings, nodes) s = record {
  small = record { stamp = rw stamps s.small.stamp; xids = rw xids s.small.xids; numbers = rw numbers s.small.numbers };
  written = rw actions s.written;
  filled = rw fillings s.filled;
  logged = rw nodes s.logged;
  owned = rw (actions, nodes) s.owned;
  narrow = rw tables s.narrow;
  few = let few = s.few in rw actions (omega (arith, few, next));
  bare = rw (stamps, xids, numbers) s.bare;
}

-- ---- a row is written

pub column_texts : (columns : List (ℕ × List ℕ)) → list_all (λ c. is_value c.1) columns ≡ true →
    AllTexts (map (λ c. c.1) columns)
column_texts [] all = tt
column_texts (c ∷ cs) all =
    let parts = and_parts (is_value c.1) (list_all (λ c. is_value c.1) cs) all in
    (value_text c.1 parts.0, column_texts cs parts.1)

change_spelled : (change : Change) (width : ℕ) → fits change width ≡ true → width ≤ most_columns → IsChange change →
    CanSpell change
change_spelled (Put key row) width fit narrow formed =
    let same : length (key ∷ row) ≡ width = eqb-true (length (key ∷ row)) width fit in
    (value_text key formed.0, record { few = omega (arith, same, narrow); each = value_texts row formed.1 })
change_spelled (Set key columns) width fit narrow formed = (value_text key formed.0, column_texts columns formed.1)
change_spelled (Remove key) width fit narrow formed = value_text key formed

-- with one more action
own_before : (a : Action) (actions : List Action) (o : Option Node) → AreOwn actions o → AreOwn (a ∷ actions) o
own_before a actions None owned = tt
own_before a actions (Some n) owned =
    all_map (λ l. l.origin ≡ n.id → IsAmong l.action actions) (λ l. l.origin ≡ n.id → IsAmong l.action (a ∷ actions))
    (λ l is own. inr (is own)) (logged n) owned

spelled_written : (task : Task) (xid : ℕ) (table : List ℕ) (change : Change) (p : Place) →
    IsTask task × MayWrite task p xid table change →
    (is_last Actions p ≡ false) × Sound (done (Writes xid table change) p) → IsSpelled p →
    IsSpelled (done (Writes xid table change) p)
spelled_written task xid table change p (formed, may) (within, sound) s = record {
  small =
      record {
        stamp = raised_spelled.small.stamp;
        xids = raised_spelled.small.xids;
        numbers = raised_spelled.small.numbers;
      };
  written = (
    record {
      number = omega (arith, sound.numbers_below, raised_spelled.small.numbers);
      table = table_name_text table parts.0;
      change =
          change_spelled change may.width may.fit
          (all_found (λ width. width ≤ most_columns) table may.width p.tables s.narrow may.found) parts.1;
      named = parts.0;
      formed = parts.1;
    },
    raised_spelled.written,
  );
  filled = raised_spelled.filled;
  logged = raised_spelled.logged;
  owned = own_before _ (raised Actions p).actions (raised Actions p).node raised_spelled.owned;
  narrow = raised_spelled.narrow;
  few = omega (arith, raised_spelled.few);
  bare = raised_spelled.bare;
}
  where
    parts : IsTableName table × IsChange change
    parts = may.formed formed

    raised_spelled : IsSpelled (raised Actions p)
    raised_spelled = spelled_raised Actions p within s

-- ---- tables are filled

rows_formed : (p : Place) (rs : Named Rows) (fillings : Named Filling) → AllByRecursion (λ r. AreFormed r.1) rs →
    AllByRecursion (λ f. AreFormed f.1.rows) fillings → AllByRecursion (λ f. AreFormed f.1.rows) (filled p rs fillings)
rows_formed p [] fillings new old = old
rows_formed p (r ∷ rs) fillings new old =
    elim (has_writer r.0 p) as (λ b. AllByRecursion (λ f. AreFormed f.1.rows)
    (cond b (filled p rs fillings) ((r.0, record { first = p.numbers.next; rows = r.1 }) ∷ filled p rs fillings))) [
      | true ↦ rows_formed p rs fillings new.1 old
      | false ↦ (new.0, rows_formed p rs fillings new.1 old)
    ]

formed_by : (p : Place) (ds : List Deed) → AllByRecursion IsFormedDeed ds →
    AllByRecursion (λ f. AreFormed f.1.rows) p.fillings →
    AllByRecursion (λ f. AreFormed f.1.rows) (filled_by p ds p.fillings)
formed_by p [] new old = old
formed_by p (d ∷ ds) new old =
    rows_formed p (brought_in d.doing).rows (filled_by p ds p.fillings) new.0.0 (formed_by p ds new.1 old)

-- ---- actions are logged

-- P of what these deeds of a node log, and of what those before them did
with_logs : (P : Logged → Type 0) (ds : List Deed) (n : Node) → AllByRecursion (λ d. AllByRecursion P d.logs) ds →
    AllByRecursion P (logged n) → AllByRecursion P (logged (with_deeds ds n))
with_logs P [] n new old = old
with_logs P (d ∷ ds) n new old =
    all_appended P d.logs (logged (with_deeds ds n)) new.0 (with_logs P ds n new.1 old)

-- after a commit, where R holds of a node that has logged nothing, and the deeds keep it
logs_by : (R : Option Node → Type 0) (c : Commit) (old : Option Node) → R old →
    ((n : Node) → logged n ≡ [] → R (Some n)) →
    ((o : Option Node) → option_or c.becomes old ≡ o → R o → R (option_map (with_deeds c.deeds) o)) →
    logs_in c.becomes ≡ [] → R (option_map (with_deeds c.deeds) (option_or c.becomes old))
logs_by R c old before fresh goes none = goes (option_or c.becomes old) refl (by c.becomes none)
  where
    by : (new : Option Node) → logs_in new ≡ [] → R (option_or new old)
    by None none = before
    by (Some n) none = fresh n none

written_by : (c : Commit) (p : Place) → IsFormedCommit c p → AreWritten (logs_in p.node) →
    AreWritten (logs_in (committing c p).node)
written_by c p formed old =
    logs_by (λ o. AreWritten (logs_in o)) c p.node old (λ n none. subst AreWritten (sym none) tt) by formed.fresh
  where
    by : (o : Option Node) → option_or c.becomes p.node ≡ o → AreWritten (logs_in o) →
        AreWritten (logs_in (option_map (with_deeds c.deeds) o))
    by None is written = tt
    by (Some n) is written =
        with_logs (λ l. IsWritten l.action) c.deeds n
        (all_map IsFormedDeed (λ d. AreWritten d.logs) (λ d is. is.1) c.deeds formed.deeds) written

owned_by : (c : Commit) (p : Place) → IsFormedCommit c p → AreOwn p.actions p.node →
    AreOwn p.actions (committing c p).node
owned_by c p formed old =
    logs_by (AreOwn p.actions) c p.node old
    (λ n none. subst (AllByRecursion (λ (l : Logged). l.origin ≡ n.id → IsAmong l.action p.actions)) (sym none) tt)
    by formed.fresh
  where
    by : (o : Option Node) → option_or c.becomes p.node ≡ o → AreOwn p.actions o →
        AreOwn p.actions (option_map (with_deeds c.deeds) o)
    by None is owned = tt
    by (Some n) is owned =
        with_logs (λ l. l.origin ≡ n.id → IsAmong l.action p.actions) c.deeds n
        (all_map (λ d. AllByRecursion (λ l. l.origin ≡ n.id → ⊥) d.logs)
        (λ d. AllByRecursion (λ l. l.origin ≡ n.id → IsAmong l.action p.actions) d.logs)
        (λ d foreign. all_map (λ l. l.origin ≡ n.id → ⊥) (λ l. l.origin ≡ n.id → IsAmong l.action p.actions)
        (λ l other own. absurd (other own)) d.logs foreign) c.deeds
        (subst (AreForeign c.deeds) is formed.foreign)) owned

-- P of the actions of a transaction, of which it logs some
pub own_logs_have : (P : Action → Type 0) (own : ℕ) (k : Knowledge) (actions : List Action) →
    AllByRecursion P actions → AllByRecursion (λ l. P l.action) (own_logs own k actions)
own_logs_have P own k actions all =
    all_given P (λ l. P l.action) (λ a. logged_on own k a (member_of a.table k.config))
    (λ a is. by a is (member_of a.table k.config)) actions all
  where
    by : (a : Action) → P a → (o : Option (ℕ × TableRow)) → OnSome (λ l. P l.action) (logged_on own k a o)
    by a is None = tt
    by a is (Some e) =
        elim (is_origin own e.1.set_id k.config) as (λ b. OnSome (λ (l : Logged). P l.action)
        (cond b (Some (record {
          set_id = e.1.set_id;
          table_id = e.0;
          era = era_of e.1.set_id k.config;
          origin = own;
          action = a;
        })) None)) [ true ↦ is | false ↦ tt ]

logs_with_commit : (xid : ℕ) (p : Place) → AllByRecursion IsWritten p.actions → (o : Option Node) →
    AreWritten (logs_in o) → AreWritten (logs_in (option_map (with_commit xid p) o))
logs_with_commit xid p written None old = tt
logs_with_commit xid p written (Some n) old =
    with_logs (λ l. IsWritten l.action) (commit_deed xid p n ∷ []) n
    (own_logs_have IsWritten n.id (knowledge n) (own_actions xid p) (all_filtered IsWritten _ p.actions written), tt)
    old

-- the transaction's own actions are among those of the database
own_with_commit : (xid : ℕ) (p : Place) (o : Option Node) → AreOwn p.actions o →
    AreOwn p.actions (option_map (with_commit xid p) o)
own_with_commit xid p None old = tt
own_with_commit xid p (Some n) old =
    with_logs (λ l. l.origin ≡ n.id → IsAmong l.action p.actions) (commit_deed xid p n ∷ []) n (
      all_map (λ l. IsAmong l.action p.actions) (λ l. l.origin ≡ n.id → IsAmong l.action p.actions)
          (λ l among own. among) (own_logs n.id (knowledge n) (own_actions xid p))
          (own_logs_have (λ a. IsAmong a p.actions) n.id (knowledge n) (own_actions xid p)
          (all_filtered (λ a. IsAmong a p.actions) _ p.actions
          (among_all (λ a. IsAmong a p.actions) p.actions (λ a among. among)))),
      tt,
    ) old

-- ---- each move

spelled_prepared : (move : Move) (p : Place) → is_beyond move p ≡ false → IsSpelled p → IsSpelled (prepared move p)
spelled_prepared (Begins name) p within s = spelled_raised Xids p within s
spelled_prepared (Writes xid table change) p within s = spelled_raised Actions p within s
spelled_prepared Rises p within s = spelled_first p s
spelled_prepared others p within s = s

spelled_committed : (name : List ℕ) (xid : ℕ) (p : Place) → is_beyond (Commits name xid) p ≡ false → IsSpelled p →
    IsSpelled (done (Commits name xid) p)
spelled_committed name xid p within s =
    elim (own_count xid p == 0)
    as (λ b. (not b && is_last_stamp p) ≡ false →
    IsSpelled (record (done (Commits name xid) p) {
      stamp = cond b p.stamp (p.stamp + 1);
      node = cond b p.node (option_map (with_commit xid p) p.node);
    })) [
      | true ↦ λ any. spelled_same p _ (refl, refl, omega arith, refl, refl, refl, refl, refl) s
      | false ↦
          λ less. spelled_stamped p _ refl refl refl (
            s.filled,
            logs_with_commit xid p s.written p.node s.logged,
            own_with_commit xid p p.node s.owned,
            omega arith,
          )
          (record { stamp = below_limit (p.stamp + 1) less; xids = s.small.xids; numbers = s.small.numbers }) s
    ] within

spelled_done : (task : Task) (move : Move) (p : Place) → IsTask task → MayMove task p move → Sound p → IsSpelled p →
    IsSpelled (done move p)
spelled_done task Stays p formed may sound s = s
spelled_done task Founds p formed may sound s =
    spelled_same (first_rows p) (done Founds p) (refl, refl, omega arith, refl, refl, refl, refl, refl)
    (spelled_first p s)
spelled_done task (Tables table columns) p formed may sound s = record {
  small = record { stamp = below_limit (p.stamp + 1) may.within; xids = s.small.xids; numbers = s.small.numbers };
  written = s.written;
  filled = s.filled;
  logged = s.logged;
  owned = s.owned;
  narrow = ((may.allows formed).1, s.narrow);
  few = s.few;
  bare = λ none. absurd (omega (arith, none));
}
spelled_done task (Begins name) p formed may sound s =
    spelled_same (raised Xids p) (done (Begins name) p) (refl, refl, omega arith, refl, refl, refl, refl, refl)
    (spelled_raised Xids p may.within s)
spelled_done task (Writes xid table change) p formed may sound s =
    spelled_written task xid table change p (formed, may.allows)
    (may.within, keeps_sound.tasks.moves task (Writes xid table change) p tt may sound) s
spelled_done task (Commits name xid) p formed may sound s = spelled_committed name xid p may.within s
spelled_done task (Aborts name) p formed may sound s =
    spelled_same p (done (Aborts name) p) (refl, refl, omega arith, refl, refl, refl, refl, refl) s
spelled_done task Falls p formed may sound s =
    spelled_same p (done Falls p) (refl, refl, omega arith, refl, refl, refl, refl, refl) s
spelled_done task Rises p formed may sound s =
    spelled_same (prepared Rises p) (done Rises p)
    (refl, refl, (sound_prepared Rises p sound).numbers_below, refl, refl, refl, refl, refl)
    (spelled_prepared Rises p may.within s)

-- a sound database stays spelled
pub keeps_spelled : Keeps IsFormed IsTask (λ p. Sound p × IsSpelled p) (λ p. Sound p × IsSpelled p)
keeps_spelled = record {
  tasks = record {
    stays = λ p s. s;
    prepares = λ task move p may s. (sound_prepared move p s.0, spelled_prepared move p may.within s.1);
    moves =
        λ task move p formed may s. (
          keeps_sound.tasks.moves task move p tt may s.0,
          spelled_done task move p formed may s.0 s.1,
        );
    falls =
        λ count p s. (
          keeps_sound.tasks.falls count p s.0,
          spelled_same p _ (refl, refl, omega arith, refl, refl, refl, refl, refl) s.1,
        );
    wavers =
        λ stands p s. (
          keeps_sound.tasks.wavers stands p s.0,
          spelled_same p _ (refl, refl, omega arith, refl, refl, refl, refl, refl) s.1,
        );
  };
  commits = λ c p formed s. (
    keeps_sound.commits c p formed.0 s.0,
    spelled_stamped p _ refl refl refl (
      formed_by p c.deeds formed.1.deeds s.1.filled,
      written_by c p formed.1 s.1.logged,
      owned_by c p formed.1 s.1.owned,
      omega arith,
    )
        (record {
          stamp = below_limit (p.stamp + 1) formed.0;
          xids = s.1.small.xids;
          numbers = s.1.small.numbers;
        }) s.1,
  );
  promises =
      λ node p s. (
        keeps_sound.promises node p s.0,
        spelled_same p _ (refl, refl, omega arith, refl, refl, refl, refl, refl) s.1,
      );
}
