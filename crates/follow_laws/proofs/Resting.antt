-- Nothing but the events that a node applies changes a table that it keeps.
use Rattle.std.proofs.Common.{true}
use Rattle.std.proofs.Common.{is_some}
use Rattle.std.proofs.Common.{◌≡◌, ◌⊎◌, inl, inr, ℕ, ◌<◌, ◌≤◌, List, Some, None, refl, sym, ap, subst}
use Rattle.std.proofs.Common.{◌∙◌, ◌++◌, arith, length, suc}
use Rattle.std.specs.Prelude.{option_map}
use Rattle.node_rows.specs.declared.rows.TableRow.{TableRow}
use Rattle.slon_model.specs.Config.{Config, set_row}
use Rattle.slon_model.specs.Maps.{entry_at}
use Rattle.slon_model.specs.Deciding.{decide, move_of}
use Rattle.slon_model.specs.Deeds.{Node, knowledge, view_of, with_deeds}
use Rattle.slon_model.specs.Moves.{Move, done, prepared, with_commit}
use Rattle.slon_model.specs.Place.{Filling, Place, doubted, fallen, filled_by, filling_of, standing_rows}
use Rattle.slon_model.specs.Sessions.{Commit, committing, emissions, next_event}
use Rattle.slon_model.proofs.Names.{one_found}
use Rattle.slon_laws.proofs.Later.{HoldsOf}
use Rattle.stream_laws.specs.Nodes.{IsAmong, node_in, nodes_in}
use Rattle.stream_laws.specs.Applied.{applied_events}
use Rattle.stream_laws.proofs.Steps.{Logs, done_logs, prepared_node}
use Rattle.image_laws.proofs.Images.{joined}
use Rattle.image_laws.proofs.Since.{prepared_fillings}
use Rattle.follow_laws.specs.Filled.{IsFilled}
use Rattle.view_laws.specs.Laws.{GoesOn}
use Rattle.follow_laws.specs.Laws.{TablesStay}
use Rattle.view_laws.specs.Past.{Past, past, WasUpTo}
use Rattle.view_laws.proofs.Doing.{Does, DoesBecome, DoesHear, DoesTake, DoesTell}
use Rattle.view_laws.proofs.Agreeing.{table_known}
use Rattle.follow_laws.proofs.Contents.{filled_stands, none_filled}
use Rattle.view_laws.proofs.Going.{views_go_on}
use Rattle.follow_laws.proofs.Holding.{emissions_bring, filled_now}
use Rattle.follow_laws.proofs.Kept.{done_fillings, tells_ahead}
use Rattle.view_laws.proofs.Living.{does_node}
use Rattle.image_laws.proofs.Staying.{IsTableOf, Stays, node_stays, stays_itself}
use Rattle.view_laws.proofs.Tables.{set_known}
use Rattle.view_laws.proofs.Ended.{view_live}
use Rattle.view_laws.proofs.Viewed.{seen_now}
use Rattle.follow_laws.proofs.Tabled.{IsLike, live_table, still_like}
use Rattle.view_laws.proofs.Walking.{Passes, passing_later, stays_later}

-- A table, with how many events were applied at some time, and what it was filled with then.
pub record Filled : Type 0 where
  pub table : List ℕ
  pub count : ℕ
  pub filling : Filling

-- More events were applied since, or the table is filled as it was then.
pub record Rests (f : Filled) (q : Place) : Type 0 where
  pub node : Node
  pub is : q.node ≡ Some node
  pub since : (f.count < length (applied_events node))
      ⊎ ((f.count ≤ length (applied_events node)) × (filling_of f.table q.fillings ≡ f.filling))

-- the same fillings, and a node that applied as much
same_rests : (f : Filled) (q r : Place) → r.fillings ≡ q.fillings → (m : Node) →
    r.node ≡ Some m → (s : Rests f q) → applied_events m ≡ applied_events s.node → Rests f r
same_rests f q r fillings m is s same = record { node = m; is = is; since = by s.since }
  where
    by : (f.count < length (applied_events s.node))
        ⊎ ((f.count ≤ length (applied_events s.node)) × (filling_of f.table q.fillings ≡ f.filling)) →
        (f.count < length (applied_events m))
        ⊎ ((f.count ≤ length (applied_events m)) × (filling_of f.table r.fillings ≡ f.filling))
    by (inl less) = inl (subst (λ es. f.count < length es) (sym same) less)
    by (inr (within, rests)) =
        inr (subst (λ es. f.count ≤ length es) (sym same) within, ap (filling_of f.table) fillings ∙ rests)

done_rests : (f : Filled) (move : Move) (q : Place) → Rests f q →
    Rests f (done move q)
done_rests f move q s = by (done_logs move q)
  where
    by : Logs q (done move q).node → Rests f (done move q)
    by (inl same) =
        same_rests f q (done move q) (done_fillings move q) s.node (same ∙ s.is) s refl
    by (inr (xid, log)) =
        same_rests f q (done move q) (done_fillings move q) (with_commit xid q s.node)
        (log ∙ ap (option_map (with_commit xid q)) s.is) s refl

commits_rests : (t : Past) (f : Filled) (c : Commit) (q : Place) → Does t c q →
    Rests f q → Rests f (committing c q)
commits_rests t f c q (DoesTell d) s =
    same_rests f q (committing c q)
    (ap (λ (k : Commit). filled_by q k.deeds q.fillings) d.commit
    ∙ none_filled q (emissions d.seat (next_event d.seat) d.emits) q.fillings
    (emissions_bring d.seat (next_event d.seat) d.emits))
    (with_deeds (emissions d.seat (next_event d.seat) d.emits) d.seat.node)
    (does_node c q d.seat.node (ap (λ (k : Commit). k.becomes) d.commit) here
    ∙ ap (λ (k : Commit). Some (with_deeds k.deeds d.seat.node)) d.commit) s
    ((tells_ahead d.seat d.emits d.may).applied ∙ ap applied_events (one_found d.seat.node s.node (sym here ∙ s.is)))
  where
    here : q.node ≡ Some d.seat.node
    here = ap (λ (r : Place). r.node) (sym d.at) ∙ d.is.node
commits_rests t f c q (DoesTake d) s = record {
  node = with_deeds c.deeds d.carried.seat.node;
  is = does_node c q d.carried.seat.node (ap (λ (k : Commit). k.becomes) d.commit) here;
  since =
      inl (subst (λ (k : Commit). f.count < length (applied_events (with_deeds k.deeds d.carried.seat.node)))
      (sym d.commit) (by s.since));
}
  where
    here : q.node ≡ Some d.carried.seat.node
    here = ap (λ (r : Place). r.node) (sym d.at) ∙ d.is.work.seat.node

    one : length (applied_events s.node) ≡ length (applied_events d.carried.seat.node)
    one = ap (λ n. length (applied_events n)) (one_found s.node d.carried.seat.node (sym s.is ∙ here))

    by : (f.count < length (applied_events s.node))
        ⊎ ((f.count ≤ length (applied_events s.node)) × (filling_of f.table q.fillings ≡ f.filling)) →
        f.count < suc (length (applied_events d.carried.seat.node))
    by (inl less) = omega (arith, less, one)
    by (inr (within, rests)) = omega (arith, within, one)
commits_rests t f c q (DoesHear d) s =
    same_rests f q (committing c q) (ap (λ (k : Commit). filled_by q k.deeds q.fillings) d.commit)
    (with_deeds c.deeds d.seat.node) (does_node c q d.seat.node (ap (λ (k : Commit). k.becomes) d.commit) here) s
    (ap (λ (k : Commit). applied_events (with_deeds k.deeds d.seat.node)) d.commit
    ∙ ap applied_events (one_found d.seat.node s.node (sym here ∙ s.is)))
  where
    here : q.node ≡ Some d.seat.node
    here = ap (λ (r : Place). r.node) (sym d.at) ∙ d.is.node
commits_rests t f c q (DoesBecome d) s =
    let never : None ≡ Some s.node = sym d.none ∙ s.is in absurd cc

rests_on : (f : Filled) (t : Past) →
    Passes t (Rests f) (Rests f)
rests_on f t = record {
  stays = λ q s. s;
  prepares = λ move q s.
      same_rests f q (prepared move q) (prepared_fillings move q) s.node (prepared_node move q ∙ s.is) s refl;
  moves = λ task q may s. done_rests f (move_of (decide task q)) q s;
  falls = λ n q s. same_rests f q (fallen n q) refl s.node s.is s refl;
  wavers = λ stands q s. same_rests f q (doubted stands q) refl s.node s.is s refl;
  promises = λ node q s. same_rests f q (record q { promised = node }) refl s.node s.is s refl;
  commits = λ c q step s. commits_rests t f c q step.does s;
}

pub tables_stay : TablesStay
tables_stay limit history later w v leads leads_on name p q found found_later n m is_n is_m same set view kept table
    among =
    rows ∙ ap (λ (f : Filling). f.rows) (filling there.2.since)
    ∙ sym (subst (λ text. standing_rows p text ≡ (filling_of text p.fillings).rows) (sym e.3)
    (filled_stands p e.0.1.name before.before))
  where
    t : Past
    t = past limit history w leads

    later_past : Past
    later_past = past limit (later ++ history) v (joined limit history later w v leads leads_on)

    e : (e : ℕ × TableRow) × IsAmong e (knowledge n).config.tables × (e.1.set_id ≡ set) × (table ≡ e.1.name)
    e = table_known set (knowledge n).config table among

    before : IsFilled (WasUpTo t) p n e.0.1.set_id view e.0.1.name
    before =
        filled_now t (record { name = name; place = p; found = found; node = n; at = is_n }) e.0 e.1 view
        (ap (λ k. view_of k (knowledge n)) e.2 ∙ kept)

    stays : HoldsOf (Stays n) name v.places
    stays = stays_later (node_stays n) t later v leads_on name (p, found, stays_itself n p is_n)

    one : stays.2.node ≡ m
    one = one_found stays.2.node m (sym stays.2.is ∙ ap (λ (r : Place). r.node) (one_found stays.0 q
        (sym stays.1 ∙ found_later)) ∙ is_m)

    goes : GoesOn set view m
    goes = elim (views_go_on limit history later w v leads leads_on name p q found found_later n m is_n is_m set view
        kept) [
          | inl on ↦ on
          | inr left ↦ absurd (left.new (subst (IsAmong left.event) same left.applied))
        ]

    c : Config
    c = (knowledge m).config

    -- the node knows the table still
    stays_known : IsTableOf e.0 c
    stays_known = subst (λ (x : Node). IsTableOf e.0 (knowledge x).config) one (stays.2.tables e.0 e.1)

    like : IsLike c e.0
    like = still_like e.0 c stays_known

    at_m : nodes_in v.places name ≡ Some m
    at_m = ap node_in found_later ∙ is_m

    live : is_some (set_row set c) ≡ true
    live =
        view_live later_past (record {
          name = name;
          node = m;
          is = at_m;
          set_id = set;
          view = goes.view;
          seen = seen_now later_past name m at_m set goes.view goes.found;
        }) (ap (λ i. is_some (entry_at i c.sets)) (sym (like.set_id ∙ e.2)) ∙ set_known later_past (record {
          name = name;
          node = m;
          is = at_m;
          entry = like.entry;
          among = like.among;
        }))

    e_later : IsAmong e.0 c.tables
    e_later = live_table e.0 c (ap (λ i. is_some (set_row i c)) e.2 ∙ live) stays_known

    rows : standing_rows q table ≡ (filling_of table q.fillings).rows
    rows =
        subst (λ text. standing_rows q text ≡ (filling_of text q.fillings).rows) (sym e.3)
        (filled_stands q e.0.1.name (filled_now later_past
        (record { name = name; place = q; found = found_later; node = m; at = is_m }) e.0 e_later goes.view
        (ap (λ k. view_of k (knowledge m)) e.2 ∙ goes.found)).before)

    then : Filled
    then = record { table = table; count = length (applied_events n); filling = filling_of table p.fillings }

    there : HoldsOf (Rests then) name v.places
    there =
        passing_later (rests_on then) t later v leads_on name
        (p, found, record { node = n; is = is_n; since = inr (omega arith, refl) })

    place : there.0 ≡ q
    place = one_found there.0 q (sym there.1 ∙ found_later)

    node : there.2.node ≡ m
    node = one_found there.2.node m (sym there.2.is ∙ ap (λ (r : Place). r.node) place ∙ is_m)

    filling : (length (applied_events n) < length (applied_events there.2.node))
        ⊎ ((length (applied_events n) ≤ length (applied_events there.2.node))
        × (filling_of table there.0.fillings ≡ filling_of table p.fillings)) →
        filling_of table q.fillings ≡ filling_of table p.fillings
    filling (inl less) =
        let many = ap (λ x. length (applied_events x)) node in
        let equal = ap length same in
        absurd (omega (arith, less, many, equal))
    filling (inr (within, rests)) = ap (λ (r : Place). filling_of table r.fillings) (sym place) ∙ rests
