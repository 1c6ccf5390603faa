-- Each table that a node keeps holds what the snapshot that the node keeps sees of it at the origin.
use Rattle.std.proofs.Common.{is_some}
use Rattle.std.proofs.Common.{false}
use Rattle.std.proofs.Common.{◌≡◌, ◌≢◌, ◌⊎◌, inl, inr, ℕ, true, List, [], ◌∷◌, Option, Some, None, refl, sym, ap}
use Rattle.std.proofs.Common.{subst, ◌∙◌}
use Rattle.std.specs.Prelude.{◌+◌, option_map}
use Rattle.std.specs.Option.{option_or}
use Rattle.std.specs.List.{AllByRecursion}
use Rattle.std.proofs.lemmas.Bool.{true≢false}
use Rattle.node_rows.specs.declared.rows.TableRow.{TableRow}
use Rattle.slon_model.specs.Maps.{Map, entry_at}
use Rattle.slon_model.specs.Events.{Event}
use Rattle.slon_model.specs.Config.{is_origin, set_row}
use Rattle.slon_model.specs.Deciding.{closed_at, decide, move_of}
use Rattle.slon_model.specs.Deeds.{Node, Brought, Emits, Hears as HearsOf, Knowledge, brought_in, knowledge}
use Rattle.slon_model.specs.Deeds.{nothing_brought, view_of, with_deeds}
use Rattle.slon_model.specs.Eras.{image_in}
use Rattle.slon_model.specs.Following.{SetSync, content}
use Rattle.slon_model.specs.Moves.{Move, done, prepared, with_commit}
use Rattle.slon_model.specs.Place.{Place, deed, doubted, fallen, filled_by, filling_of, standing_rows, taken}
use Rattle.slon_model.specs.Tasks.{Task}
use Rattle.slon_model.specs.Sessions.{World, Commit, Emission, Seat, committing, emissions, next_event}
use Rattle.slon_model.specs.Views.{View, based, view_after, views_told}
use Rattle.slon_model.specs.Working.{receives_from}
use Rattle.slon_model.proofs.Names.{all_found, all_map, one_found}
use Rattle.slon_laws.proofs.Later.{HoldsOf}
use Rattle.stream_laws.specs.Nodes.{IsAmong, nodes_in, node_in}
use Rattle.stream_laws.specs.Applied.{applied_events}
use Rattle.stream_laws.proofs.Lists.{all_among, all_appended}
use Rattle.stream_laws.proofs.Seats.{seat_node}
use Rattle.stream_laws.proofs.Steps.{Logs, done_logs, prepared_node}
use Rattle.image_laws.specs.Facts.{IsHeldBy}
use Rattle.image_laws.proofs.Since.{prepared_fillings, prepared_same}
use Rattle.follow_laws.specs.Filled.{AreFilled, IsFilled}
use Rattle.follow_laws.specs.Laws.{HoldsAsSeen, TablesFollow}
use Rattle.view_laws.specs.Known.{leaves}
use Rattle.view_laws.specs.Laws.{IsEnding}
use Rattle.view_laws.proofs.Copied.{live_or_over}
use Rattle.view_laws.proofs.Ended.{ending_at}
use Rattle.view_laws.specs.Past.{Past, past, WasBefore, WasUpTo, PastUpTo}
use Rattle.view_laws.proofs.Doing.{Becomes, Does, DoesBecome, DoesHear, DoesTake, DoesTell, Hears, Takes, Tells}
use Rattle.view_laws.proofs.Doing.{taking}
use Rattle.follow_laws.proofs.Contents.{AreBefore, filled_stands, none_filled}
use Rattle.follow_laws.proofs.Filled.{Taking, copy_beside, copy_body, copy_filled, node_then, place_then}
use Rattle.follow_laws.proofs.Filled.{still_filled, kept_then, reading, sync_content, sync_filled}
use Rattle.view_laws.proofs.Brought.{IsBrought, IsKept, Nothing, Copies, Brings, copied_view}
use Rattle.view_laws.proofs.Viewed.{rising_now, seen_now}
use Rattle.view_laws.proofs.Living.{does_node, event_of}
use Rattle.image_laws.proofs.Staying.{IsOver, Stays}
use Rattle.follow_laws.proofs.Kept.{IsAhead, done_before, done_fillings, filled_later, kept_closed, other_leads}
use Rattle.follow_laws.proofs.Kept.{same_filled, takes_known, tells_ahead}
use Rattle.view_laws.proofs.Moments.{NodeAt, now_stays}
use Rattle.follow_laws.proofs.Opened.{open_move}
use Rattle.view_laws.proofs.Rising.{found_in, stands_found}
use Rattle.view_laws.proofs.Seen.{based_seen, seen_same, syncs_seen}
use Rattle.view_laws.proofs.Turned.{IsBased, IsSame, IsToldAs, found_stays, found_told}
use Rattle.view_laws.proofs.Tables.{KnownTable, Today, held_today, held_then, moment_today}
use Rattle.follow_laws.proofs.Synced.{image_then, synced_nothing}
use Rattle.view_laws.proofs.Agreeing.{table_known}
use Rattle.view_laws.proofs.Unmoved.{none_kept}
use Rattle.view_laws.proofs.Walking.{IsHere, LivesOn, lives_in}
use Rattle.slon_laws.specs.Worlds.{AllPlaces}

-- ---- an event

-- the table was known, where the set was kept and is kept still
known_before : (t : Past) (k : Taking t) (e : ℕ × TableRow) (v : View) →
    (view_of e.1.set_id (knowledge k.carried.seat.node) ≡ Some v)
    × (leaves e.1.set_id k.carried.seat.node.id k.carried.event.body ≡ false) →
    IsAmong e (knowledge (node_then k)).config.tables → IsAmong e (knowledge k.carried.seat.node).config.tables
known_before t k e v found among = takes_known t k.carried k.origin k.is e v found among

takes_filled : (t : Past) (k : Taking t) (e : ℕ × TableRow) → IsAmong e (knowledge (node_then k)).config.tables →
    (v : View) → view_of e.1.set_id (knowledge (node_then k)) ≡ Some v →
    IsFilled (WasUpTo t) (place_then k) (node_then k) e.1.set_id v e.1.name
takes_filled t k e among v found =
    by k.is.brings (found_in e.1.set_id v k.carried.brought.views told found)
  where
    n : Node
    n = k.carried.seat.node

    event : Event
    event = k.carried.event

    told : Map View
    told = views_told n.id event.body (knowledge n).config (knowledge n).views

    Kept : Type 0
    Kept = (entry_at e.1.set_id told ≡ Some v) × AllByRecursion (λ u. u.0 ≢ e.1.set_id) k.carried.brought.views

    Filled : View → Type 0
    Filled u = IsFilled (WasUpTo t) (place_then k) (node_then k) e.1.set_id u e.1.name

    -- a view with another base
    based_filled : (u : View) → Filled u → Filled (based u)
    based_filled u f = record {
      seen = based_seen (WasUpTo t) (node_then k) e.1.set_id u f.seen;
      rows = f.rows;
      before = f.before;
    }

    as_told : (u : View) → IsToldAs n.id e.1.set_id event.body (knowledge n).config u v → Filled u → Filled v
    as_told u (IsSame same) f = subst Filled (sym same) f
    as_told u (IsBased same turns) f = subst Filled (sym same) (based_filled u f)

    -- where the content of the table is as before
    still : Kept → content k.carried.seat.place k.carried.brought.rows e.1.name
        ≡ standing_rows k.carried.seat.place e.1.name → Filled v
    still old same =
        let of = found_told n.id e.1.set_id event.body (knowledge n).config (knowledge n).views v old.0 in
        let stays = found_stays n.id e.1.set_id event.body (knowledge n).config (knowledge n).views v old.0 in
        as_told of.0 of.2 (still_filled t k e (known_before t k e of.0 (of.1, stays) among) of.0 of.1 (same, stays))

    by : IsBrought t k.carried.seat event k.carried.brought →
        IsAmong (e.1.set_id, v) k.carried.brought.views ⊎ Kept →
        IsFilled (WasUpTo t) (place_then k) (node_then k) e.1.set_id v e.1.name
    by (Nothing s) (inl new) =
        absurd (subst (λ (b : Brought). IsAmong (e.1.set_id, v) b.views) s.none new)
    by (Nothing s) (inr old) =
        still old (ap (λ (b : Brought). content k.carried.seat.place b.rows e.1.name) s.none)
    by (Copies c) (inl new) = copied (subst (λ (b : Brought). IsAmong (e.1.set_id, v) b.views) c.is new)
      where
        first : ℕ × View
        first = (
          c.copy.copying.set_id,
          copied_view c.copy,
        )

        there : IsAmong e (knowledge n).config.tables
        there =
            subst (IsAmong e) (copy_body c.at.seat.node.id (receives_from event.origin c.at.seat.known) event.origin
            event.body c.copy.copying c.copy.asked (knowledge n).config event.number) among

        copied : IsAmong (e.1.set_id, v) (first ∷ []) →
            IsFilled (WasUpTo t) (place_then k) (node_then k) e.1.set_id v e.1.name
        copied (inl is) =
            subst (λ (u : ℕ × View). IsFilled (WasUpTo t) (place_then k) (node_then k) u.0 u.1 e.1.name) (sym is)
            (copy_filled t k c e there (ap (λ (u : ℕ × View). u.0) is))
        copied (inr never) = absurd never
    by (Copies c) (inr old) =
        let of = found_told n.id e.1.set_id event.body (knowledge n).config (knowledge n).views v old.0 in
        let apart = subst (λ (b : Brought). AllByRecursion (λ u. u.0 ≢ e.1.set_id) b.views) c.is old.1 in
        still old
        (copy_beside t k c e (known_before t k e of.0 (of.1, stays) among) (λ same. apart.0 (sym same)))
      where
        stays : leaves e.1.set_id n.id event.body ≡ false
        stays = found_stays n.id e.1.set_id event.body (knowledge n).config (knowledge n).views v old.0
    by (Brings y) (inl new) =
        let of = all_among P (e.1.set_id, v) k.carried.brought.views views new in
        let here = stands_found e.1.set_id of.0 (knowledge n).views (rising_now t k.carried.seat.name n own) of.1 in
        subst (λ u. IsFilled (WasUpTo t) (place_then k) (node_then k) e.1.set_id u e.1.name) (sym of.3)
        (sync_filled t k y e (known_before t k e of.0
        (here, ap (leaves e.1.set_id n.id) y.follows.body) among) of.0 here of.2)
      where
        own : nodes_in t.world.places k.carried.seat.name ≡ Some n
        own = seat_node t.world.places k.carried.seat k.is.work.seat

        P : ℕ × View → Type 0
        P u = (x : View) × IsAmong (u.0, x) (knowledge n).views × (x.origin ≡ event.origin) × (u.1 ≡ view_after event x)

        views : AllByRecursion P k.carried.brought.views
        views =
            subst (λ (b : Brought). AllByRecursion P b.views) (sym y.is)
            (syncs_seen P k.carried.seat.place y.syncs nothing_brought
            (all_map (IsKept k.carried.seat.known event) (λ (s : SetSync). P (s.set_id, s.view))
            (λ s is. (
              s.before,
              subst (λ (j : Knowledge). IsAmong (s.set_id, s.before) j.views) k.is.work.seat.known is.among,
              is.origin,
              is.view,
            )) y.syncs y.kept) tt)
    by (Brings y) (inr old) =
        let of = found_told n.id e.1.set_id event.body (knowledge n).config (knowledge n).views v old.0 in
        let there = known_before t k e of.0
        (of.1, ap (leaves e.1.set_id n.id) y.follows.body) among in
        still old (sync_content t k y e.1.name
        ∙ synced_nothing t (reading t k y e there) (kept_then t k y) none (standing_rows k.carried.seat.place e.1.name))
      where
        none : AllByRecursion (λ u. u.0 ≢ e.1.set_id) (kept_then t k y)
        none = none_kept t k.origin k.carried k.is y e.1.set_id old.1

-- ---- a task of the database

done_filled : (t : Past) (task : Task) (p : Place) → IsHere t p → AreFilled (WasBefore t) p →
    AreFilled (WasUpTo t) (done (move_of (decide task p)) p)
done_filled t task p here was m at e among v found = by (done_logs move p)
  where
    move : Move
    move = move_of (decide task p)

    -- the node of before
    from : (n : Node) → p.node ≡ Some n → (o : Node) → (o.id ≡ n.id) × ((knowledge o ≡ knowledge n)
        × (applied_events o ≡ applied_events n)) → m ≡ o →
        IsFilled (WasUpTo t) (done move p) m e.1.set_id v e.1.name
    from n is o same one =
        let there = subst (λ (j : Knowledge). IsAmong e j.config.tables) (ap knowledge one ∙ same.1.0) among in
        let view = ap (view_of e.1.set_id) (sym (ap knowledge one ∙ same.1.0)) ∙ found in
        let f = filled_later t p n e.1.set_id v e.1.name (was n is e there v view) in
        let name = here n is in
        record {
          seen = seen_same (WasUpTo t) n m (ap (λ (x : Node). x.id) one ∙ same.0) (ap applied_events one ∙ same.1.1)
              e.1.set_id v f.seen;
          rows = ap (λ fillings. (filling_of e.1.name fillings).rows) (done_fillings move p) ∙ f.rows;
          before =
              subst (λ fillings. AreBefore e.1.name (filling_of e.1.name fillings).first (done move p).actions)
              (sym (done_fillings move p))
              (done_before move p e.1.name (filling_of e.1.name p.fillings).first (open_move task p)
              (λ k named none. kept_closed t (record {
                name = name.0;
                node = n;
                is = name.1;
                entry = e;
                among = there;
              }) v view k named (ap (closed_at k) (sym is) ∙ none)) f.before);
        }

    made : (xid : ℕ) (o : Option Node) → p.node ≡ o → option_map (with_commit xid p) o ≡ Some m →
        IsFilled (WasUpTo t) (done move p) m e.1.set_id v e.1.name
    made xid None is none = absurd cc
    made xid (Some n) is some =
        from n is (with_commit xid p n) (refl, (refl, refl)) (sym (one_found (with_commit xid p n) m some))

    by : Logs p (done move p).node → IsFilled (WasUpTo t) (done move p) m e.1.set_id v e.1.name
    by (inl same) = from m (sym same ∙ at) m (refl, (refl, refl)) refl
    by (inr (xid, log)) = made xid p.node refl (sym log ∙ at)

-- ---- a commit

pub emissions_bring : (s : Seat) (number : ℕ) (ms : List Emission) →
    AllByRecursion (λ d. (brought_in d.doing).rows ≡ []) (emissions s number ms)
emissions_bring s number [] = tt
emissions_bring s number (m ∷ ms) =
    all_appended (λ d. (brought_in d.doing).rows ≡ []) (emissions s (number + 1) ms)
    (deed s.place m.rows [] (Emits (event_of s number m.body)) ∷ []) (emissions_bring s (number + 1) ms) (refl, tt)

tells_filled : (t : Past) (c : Commit) (p : Place) → Tells t.world c p → AreFilled (WasBefore t) p →
    AreFilled (WasUpTo t) (committing c p)
tells_filled t c p d was m at e among v found = by (a.tables e there)
  where
    n : Node
    n = d.seat.node

    own : nodes_in t.world.places d.seat.name ≡ Some n
    own = seat_node t.world.places d.seat d.is

    here : p.node ≡ Some n
    here = ap (λ (q : Place). q.node) (sym d.at) ∙ d.is.node

    behind : Node
    behind = with_deeds (emissions d.seat (next_event d.seat) d.emits) n

    one : m ≡ behind
    one =
        one_found m behind (sym at ∙ does_node c p n (ap (λ (k : Commit). k.becomes) d.commit) here
        ∙ ap (λ (k : Commit). Some (with_deeds k.deeds n)) d.commit)

    a : IsAhead d.seat behind
    a = tells_ahead d.seat d.emits d.may

    there : IsAmong e (knowledge behind).config.tables
    there = subst (λ x. IsAmong e (knowledge x).config.tables) one among

    view : view_of e.1.set_id (knowledge n) ≡ Some v
    view = ap (entry_at e.1.set_id) (sym (ap (λ x. (knowledge x).views) one ∙ a.views)) ∙ found

    kept : IsAmong e (knowledge n).config.tables → IsFilled (WasUpTo t) (committing c p) m e.1.set_id v e.1.name
    kept known =
        same_filled (WasUpTo t) (record {
          before = p;
          behind = committing c p;
          node = n;
          later = m;
          fillings =
              ap (λ (k : Commit). filled_by p k.deeds p.fillings) d.commit
              ∙ none_filled p (emissions d.seat (next_event d.seat) d.emits) p.fillings
              (emissions_bring d.seat (next_event d.seat) d.emits);
          actions = refl;
          id = ap (λ (x : Node). x.id) one ∙ a.id;
          applied = ap applied_events one ∙ a.applied;
        }) e.1.set_id v e.1.name (filled_later t p n e.1.set_id v e.1.name (was n here e known v view))

    by : IsAmong e (knowledge n).config.tables ⊎ (is_origin n.id e.1.set_id (knowledge n).config ≡ true) →
        IsFilled (WasUpTo t) (committing c p) m e.1.set_id v e.1.name
    by (inl known) = kept known
    by (inr leads) =
        absurd (true≢false (sym leads ∙ other_leads t d.seat.name n own e.1.set_id v
        (seen_now t d.seat.name n own e.1.set_id v view)))

-- all databases of this session and of those before were filled
abbrev KnewFilled : Past → Type 0
KnewFilled t = (s : Past) → PastUpTo t s → AllPlaces (AreFilled (WasBefore s)) s.world

takes_all : (t : Past) → KnewFilled t → (c : Commit) (p : Place) → Takes t c p → AreFilled (WasBefore t) p →
    AreFilled (WasUpTo t) (committing c p)
takes_all t knew c p d was =
    subst (λ c. AreFilled (WasUpTo t) (committing c p)) (sym d.commit)
    (subst (λ p. AreFilled (WasUpTo t) (committing (taking d.carried) p)) d.at here)
  where
    k : Taking t
    k = record {
      carried = d.carried;
      origin = d.origin;
      is = d.is;
      filled = subst (AreFilled (WasBefore t)) (sym d.at) was;
      knew = knew;
    }

    here : AreFilled (WasUpTo t) (place_then k)
    here m at e among v found =
        let one : node_then k ≡ m =
        one_found (node_then k) m (sym (does_node (taking d.carried) d.carried.seat.place d.carried.seat.node refl
        d.is.work.seat.node) ∙ at) in
        subst (λ x. IsFilled (WasUpTo t) (place_then k) x e.1.set_id v e.1.name) one
        (takes_filled t k e (subst (λ x. IsAmong e (knowledge x).config.tables) (sym one) among) v
        (ap (λ x. view_of e.1.set_id (knowledge x)) one ∙ found))

hears_filled : (t : Past) (c : Commit) (p : Place) → Hears t.world c p → AreFilled (WasBefore t) p →
    AreFilled (WasUpTo t) (committing c p)
hears_filled t c p d was m at e among v found =
    same_filled (WasUpTo t) (record {
      before = p;
      behind = committing c p;
      node = n;
      later = m;
      fillings = ap (λ (k : Commit). filled_by p k.deeds p.fillings) d.commit;
      actions = refl;
      id = ap (λ (x : Node). x.id) one;
      applied = ap applied_events one;
    }) e.1.set_id v e.1.name (filled_later t p n e.1.set_id v e.1.name (was n here e
    (subst (λ x. IsAmong e (knowledge x).config.tables) one among) v
    (ap (λ x. view_of e.1.set_id (knowledge x)) (sym one) ∙ found)))
  where
    n : Node
    n = d.seat.node

    here : p.node ≡ Some n
    here = ap (λ (q : Place). q.node) (sym d.at) ∙ d.is.node

    one : m ≡ with_deeds (deed d.seat.place [] [] (HearsOf d.confirms) ∷ []) n
    one =
        one_found m _ (sym at ∙ does_node c p n (ap (λ (k : Commit). k.becomes) d.commit) here
        ∙ ap (λ (k : Commit). Some (with_deeds k.deeds n)) d.commit)

becomes_filled : (t : Past) (c : Commit) (p : Place) → Becomes t.world c p → AreFilled (WasUpTo t) (committing c p)
becomes_filled t c p d m at e among v found = never is
  where
    one : m ≡ d.node
    one = one_found m d.node (sym at
        ∙ ap (λ (k : Commit). option_map (with_deeds k.deeds) (option_or k.becomes p.node)) d.commit)

    is : None ≡ Some v
    is =
        ap (entry_at e.1.set_id) (sym d.views)
        ∙ ap (λ ds. view_of e.1.set_id (knowledge (record d.node { deeds = ds }))) (sym d.deeds)
        ∙ ap (λ x. view_of e.1.set_id (knowledge x)) (sym one) ∙ found

    never : None ≡ Some v → IsFilled (WasUpTo t) (committing c p) m e.1.set_id v e.1.name
    never same = absurd cc

commits_filled : (t : Past) → KnewFilled t → (c : Commit) (p : Place) → Does t c p → AreFilled (WasBefore t) p →
    AreFilled (WasUpTo t) (committing c p)
commits_filled t knew c p (DoesTell d) was = tells_filled t c p d was
commits_filled t knew c p (DoesTake d) was = takes_all t knew c p d was
commits_filled t knew c p (DoesHear d) was = hears_filled t c p d was
commits_filled t knew c p (DoesBecome d) was = becomes_filled t c p d

-- ---- every session

-- the database with the same node, fillings and actions
alike_filled : (Was : World → Type 0) (p q : Place) → (q.node ≡ p.node) × ((q.fillings ≡ p.fillings)
    × (q.actions ≡ p.actions)) → AreFilled Was p → AreFilled Was q
alike_filled Was p q same was n is e among v found =
    same_filled Was (record {
      before = p;
      behind = q;
      node = n;
      later = n;
      fillings = same.1.0;
      actions = same.1.1;
      id = refl;
      applied = refl;
    }) e.1.set_id v e.1.name
    (was n (sym same.0 ∙ is) e among v found)

tables_filled : LivesOn AreFilled
tables_filled = record {
  bare = λ t n is. absurd cc;
  stays = λ t p was n is e among v found. filled_later t p n e.1.set_id v e.1.name (was n is e among v found);
  passes = λ t all. record {
    stays = λ p was n is e among v found. filled_later t p n e.1.set_id v e.1.name (was.1 n is e among v found);
    prepares = λ move p was.
        alike_filled (WasUpTo t) p (prepared move p)
        (prepared_node move p, (prepared_fillings move p, (prepared_same move p).actions))
        (λ n is e among v found. filled_later t p n e.1.set_id v e.1.name (was.1 n is e among v found));
    moves = λ task p may was. done_filled t task p was.0 was.1;
    falls = λ count p was. alike_filled (WasUpTo t) p (fallen count p) (refl, (refl, refl)) was;
    wavers = λ stands p was. alike_filled (WasUpTo t) p (doubted stands p) (refl, (refl, refl)) was;
    promises = λ node p was. alike_filled (WasUpTo t) p (record p { promised = node }) (refl, (refl, refl)) was;
    commits = λ c p step was. commits_filled t all c p step.does was.1;
  };
}

-- a table that a node of the session keeps
pub filled_now : (t : Past) (x : NodeAt t) (e : ℕ × TableRow) → IsAmong e (knowledge x.node).config.tables →
    (v : View) → view_of e.1.set_id (knowledge x.node) ≡ Some v →
    IsFilled (WasUpTo t) x.place x.node e.1.set_id v e.1.name
filled_now t x e among v view =
    filled_later t x.place x.node e.1.set_id v e.1.name
    (all_found (AreFilled (WasBefore t)) x.name x.place t.world.places (lives_in tables_filled t) x.found x.node x.at e
    among v view)

-- ---- the law

holds_as_seen : (t : Past) (x : NodeAt t) (e : ℕ × TableRow) → IsAmong e (knowledge x.node).config.tables →
    (v : View) → view_of e.1.set_id (knowledge x.node) ≡ Some v →
    HoldsAsSeen t.world x.place x.node e.1.set_id v e.1.name
holds_as_seen t x e among v view = record {
  name = f.seen.moment.name;
  place = now.0;
  found = now.1;
  origin = now.2.node;
  at = now.2.is;
  own = now.2.id ∙ f.seen.own;
  apart = f.seen.apart;
  held = today_held (live_or_over e.1.set_id (knowledge now.2.node).config);
  rows =
      filled_stands x.place e.1.name f.before ∙ f.rows
      ∙ sym (image_then t f.seen.moment today e.1.set_id e.1.name held)
      ∙ ap (λ era. image_in now.0 now.2.node e.1.set_id era e.1.name (taken f.seen.moment.place)) (sym f.seen.era)
      ∙ ap (image_in now.0 now.2.node e.1.set_id v.era e.1.name) (sym f.seen.seen);
}
  where
    f : IsFilled (WasUpTo t) x.place x.node e.1.set_id v e.1.name
    f = filled_now t x e among v view

    now : HoldsOf (Stays f.seen.moment.node) f.seen.moment.name t.world.places
    now = now_stays t f.seen.moment.session f.seen.moment.was f.seen.moment.name f.seen.moment.place
        f.seen.moment.node f.seen.moment.found f.seen.moment.at

    today : Today t f.seen.moment
    today = moment_today t f.seen.moment

    known : KnownTable t
    known = record { name = x.name; node = x.node; is = ap node_in x.found ∙ x.at; entry = e; among = among }

    held : IsHeldBy f.seen.moment.node.id (knowledge f.seen.moment.node).config e.1.set_id e.1.name
    held = held_then t known v f.seen

    today_held : (is_some (set_row e.1.set_id (knowledge now.2.node).config) ≡ true)
        ⊎ IsOver e.1.set_id (knowledge now.2.node).config →
        IsHeldBy now.2.node.id (knowledge now.2.node).config e.1.set_id e.1.name
        ⊎ IsEnding e.1.set_id x.node now.2.node
    today_held (inl live) = inl (held_today t f.seen.moment today e.1.set_id e.1.name held live).0
    today_held (inr over) =
        inr (ending_at t (record {
          name = x.name;
          node = x.node;
          is = known.is;
          set_id = e.1.set_id;
          view = v;
          seen = f.seen;
        }) f.seen.moment.name now.2.node (ap node_in now.1 ∙ now.2.is) (now.2.id ∙ f.seen.own) over)

pub tables_follow : TablesFollow
tables_follow limit history w leads name p found n is set v view table among =
    let e = table_known set (knowledge n).config table among in
    subst (λ name. HoldsAsSeen w p n set v name) (sym e.3)
    (subst (λ k. HoldsAsSeen w p n k v e.0.1.name) e.2
    (holds_as_seen (past limit history w leads)
    (record { name = name; place = p; found = found; node = n; at = is }) e.0 e.1 v
    (ap (λ k. view_of k (knowledge n)) e.2 ∙ view)))
