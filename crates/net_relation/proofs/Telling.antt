-- A node applies an event of the stream of a net that may be of its own subscription: the node of the net does too.
use Rattle.std.proofs.Common.{◌≡◌, inl, ℕ, Bool, true, false, cond, not}
use Rattle.std.proofs.Common.{length, Option, Some, None, refl, sym, ap, subst, ◌∙◌, unwrap_or}
use Rattle.std.specs.Prelude.{◌==◌, option_map, ◌&&◌, ◌||◌}
use Rattle.std.proofs.lemmas.Bool.{and_from, eq-eqb, false≢true}
use Rattle.node_rows.specs.declared.rows.Subscription.{Subscription}
use Rattle.node_rows.specs.declared.body.Body.{Body}
use Rattle.node_rows.specs.declared.body.Body.TheVariants.{Sync, SubscribeSet, UnsubscribeSet}
use Rattle.node_rows.specs.declared.body.Body.TheVariants.{DropSet as EndsSet}
use Rattle.net_laws.specs.Net.{Ends}
use Rattle.net_laws.specs.Subscriptions.{DropSet}
use Rattle.net_relation.proofs.Beside.{copy_stays}
use Rattle.std.proofs.lemmas.Bool.{eqb-true}
use Rattle.net_laws.specs.Subscriptions.{Subscribe, Unsubscribe, Unrelated}
use Rattle.net_laws.specs.Subscriptions.{Subscription as Row}
use Rattle.net_laws.specs.Net.{IsQuiet}
use Rattle.net_laws.specs.Net.{Leaves, left}
use Rattle.net_laws.specs.Net.{Passes, configured, passed}
use Rattle.net_laws.specs.Net.{Turns as TurnsTurn, turned_by}
use Rattle.net_laws.proofs.Laws.{view_has_row}
use Rattle.slon_model.specs.Maps.{entry_at}
use Rattle.slon_model.specs.Config.{forwards}
use Rattle.slon_model.specs.Deeds.{Brought, Node, knowledge, view_of}
use Rattle.slon_model.specs.Deeds.{nothing_brought}
use Rattle.slon_model.specs.Logs.{logged}
use Rattle.slon_model.specs.Views.{View, based, views_told, with_views}
use Rattle.slon_model.proofs.Names.{one_found}
use Rattle.image_laws.specs.Moments.{count_of}
use Rattle.image_laws.proofs.Logging.{among_right}
use Rattle.image_laws.proofs.Orders.{order_in}
use Rattle.view_laws.specs.Past.{Past}
use Rattle.view_laws.specs.Known.{enables as enables_of, feeds, leaves}
use Rattle.view_laws.proofs.Brought.{Brings, Copies, IsBrought, Nothing}
use Rattle.view_laws.proofs.Copied.{copy_asks}
use Rattle.view_laws.proofs.Turned.{Turns, gone_told, own_told}
use Rattle.view_laws.proofs.Unmoved.{fed_from}
use Rattle.net_relation.specs.Reading.{moment_of, said, said_by}
use Rattle.net_relation.specs.Matching.{IsKept}
use Rattle.net_relation.proofs.Beside.{Before, worker, worker_before}
use Rattle.view_laws.proofs.Lasting.{both_same}
use Rattle.net_relation.proofs.Coming.{Coming, configured_is, event_of}
use Rattle.net_relation.proofs.Coming.{node_of}
use Rattle.net_relation.proofs.Relating.{NodeLater, netted_sound}
use Rattle.net_relation.proofs.Views.{Copied, Followed, Keeps, Left as LeftView, Turned as TurnedView, ViewTaken}
use Rattle.net_relation.proofs.Views.{behind, view_taken}
use Rattle.net_relation.proofs.Applying.{Concerns, IsOfOthers, TellsDrop, TellsEnd, TellsHow, TellsOthers, Turned}
use Rattle.net_relation.proofs.Applying.{concerned}
use Rattle.net_relation.proofs.Applying.{copy_turned, moment_own, pass_turned, sync_turned, turned_later}

-- ---- the node's own subscription

-- The event says how the node receives the set.
record Telling (set : ℕ) (t : Past) (c : Coming set t) : Type 0 where
  provider : ℕ
  forward : Bool
  body : (event_of c).body ≡ SubscribeSet set provider (worker c.work).id forward

-- nothing comes with it
telling_none : (set : ℕ) (t : Past) (c : Coming set t) → Telling set t c →
    c.work.carried.brought ≡ nothing_brought
telling_none set t c k = by c.work.is.brings
  where
    own : Body
    own = SubscribeSet set k.provider (worker c.work).id k.forward

    by : IsBrought t c.work.carried.seat (event_of c) c.work.carried.brought →
        c.work.carried.brought ≡ nothing_brought
    by (Nothing n) = n.none
    by (Copies y) =
        let enables = copy_asks y.at.to.world y.at.seat (event_of c) y.found y.copy in
        absurd (false≢true (ap (enables_of y.copy.copying.set_id y.at.seat.node.id) (sym k.body) ∙ enables))
    by (Brings y) =
        let never : own ≡ Sync = sym k.body ∙ y.follows.body in absurd cc

-- begins to forward, by what it is told and what it knew
abbrev begins : (set : ℕ) (t : Past) (c : Coming set t) → Telling set t c → Bool
begins set t c k = k.forward && not (forwards set (worker c.work).id (knowledge (worker c.work)).config)

-- its view behind the event
telling_view : (set : ℕ) (t : Past) (c : Coming set t) (k : Telling set t c) →
    view_of set (knowledge (behind c.work.carried))
    ≡ option_map (λ v. cond (begins set t c k) (based v) v) (view_of set (knowledge (worker c.work)))
telling_view set t c k =
    ap (λ (b : Brought). entry_at set (with_views b.views
    (views_told o.id (event_of c).body (knowledge o).config (knowledge o).views))) (telling_none set t c k)
    ∙ ap (λ body. entry_at set (views_told o.id body (knowledge o).config (knowledge o).views)) k.body
    ∙ own_told o.id set k.provider k.forward (knowledge o).config (knowledge o).views
  where
    o : Node
    o = worker c.work

telling_says : (set : ℕ) (t : Past) (c : Coming set t) (k : Telling set t c) →
    said set (event_of c) ≡ Subscribe (worker c.work).id k.provider k.forward
telling_says set t c k =
    ap (said_by set (event_of c).taken) k.body
    ∙ ap (λ b. cond b (Subscribe (worker c.work).id k.provider k.forward) Unrelated) (eq-eqb set set refl)

-- it keeps no view of the set
telling_quiet : (set : ℕ) (t : Past) (c : Coming set t) → Telling set t c →
    view_of set (knowledge (worker c.work)) ≡ None → Turned set t c
telling_quiet set t c k none = record {
  node = passed (node_of c);
  turn = Passes (inl (subst (IsQuiet o.id (node_of c).view) (sym (telling_says set t c k))
      (λ at. old.view ∙ ap (moment_of c.work.leader.id) none))) refl;
  far = refl;
  view = old.view ∙ ap (moment_of c.work.leader.id) (none ∙ sym behind_none);
  kept = λ v found own. let never : None ≡ Some v = sym behind_none ∙ found in absurd cc;
  logs = λ l moment e logs.
      among_right l c.work.carried.brought.logs (logged o) (old.logs l moment e logs);
  whole = record { keeps = old.whole.keeps; bars = old.whole.bars; has = old.whole.has };
}
  where
    o : Node
    o = worker c.work

    old : Before c.work
    old = worker_before c.work

    behind_none : view_of set (knowledge (behind c.work.carried)) ≡ None
    behind_none = telling_view set t c k ∙ ap (option_map (λ v. cond (begins set t c k) (based v) v)) none

-- it keeps this one
telling_turned : (set : ℕ) (t : Past) (c : Coming set t) → Telling set t c → (v : View) →
    view_of set (knowledge (worker c.work)) ≡ Some v → Turned set t c
telling_turned set t c k v found = record {
  node = turned_by m (u.0.forward || not k.forward) (node_of c);
  turn = TurnsTurn k.provider m k.forward u.0 (telling_says set t c k) viewed u.1.0 refl;
  far = refl;
  view = viewed ∙ sym (ap (moment_of c.work.leader.id) there ∙ seen_as (begins set t c k)
      ∙ moment_own c.work.leader.id v own);
  kept = λ w has of.
      subst (λ (w : View). IsKept (order_in c.work.ended) (length c.work.ended) w
      (turned_by m (u.0.forward || not k.forward) (node_of c)))
      (one_found (cond (begins set t c k) (based v) v) w (sym there ∙ has))
      (subst (λ b. IsKept (order_in c.work.ended) (length c.work.ended) (cond (k.forward && not b) (based v) v)
      (turned_by m (u.0.forward || not k.forward) (node_of c))) (sym forward) (kept_as u.0.forward k.forward));
  logs = λ l moment e logs.
      among_right l c.work.carried.brought.logs (logged o) (old.logs l moment e logs);
  whole = record { keeps = old.whole.keeps; bars = old.whole.bars; has = old.whole.has };
}
  where
    o : Node
    o = worker c.work

    old : Before c.work
    old = worker_before c.work

    m : ℕ
    m = count_of v.seen

    own : v.origin ≡ c.work.leader.id
    own =
        fed_from t c.work.carried c.work.origin c.work.is set v found
        (ap (feeds set) k.body ∙ eq-eqb set set refl) ∙ c.own

    kept : IsKept (order_in c.work.ended) (length c.work.ended) v (node_of c)
    kept = old.kept v found own

    viewed : (node_of c).view ≡ Some m
    viewed = old.view ∙ ap (moment_of c.work.leader.id) found ∙ moment_own c.work.leader.id v own

    there : view_of set (knowledge (behind c.work.carried)) ≡ Some (cond (begins set t c k) (based v) v)
    there = telling_view set t c k ∙ ap (option_map (λ v. cond (begins set t c k) (based v) v)) found

    seen_as : (b : Bool) → moment_of c.work.leader.id (Some (cond b (based v) v))
        ≡ moment_of c.work.leader.id (Some v)
    seen_as true = refl
    seen_as false = refl

    u : (u : Row) × ((configured c.work.netted.net o.id o.id ≡ Some u) × (u.ready ≡ true))
    u = view_has_row c.work.netted.net (netted_sound c.work.netted) o.id m viewed

    forward : forwards set o.id (knowledge o).config ≡ u.0.forward
    forward =
        ap (λ q. unwrap_or (option_map (λ (s : Subscription). s.forward) q) false)
        (old.row u.0 (sym (configured_is set t c o.id) ∙ u.1.0))

    -- the base of the net is that of the view, whether the node forwarded and is to forward or not
    kept_as : (was now : Bool) →
        IsKept (order_in c.work.ended) (length c.work.ended) (cond (now && not was) (based v) v)
        (turned_by m (was || not now) (node_of c))
    kept_as true true = record { base = kept.base; seen = kept.seen; began = kept.began }
    kept_as true false = record { base = kept.base; seen = kept.seen; began = kept.began }
    kept_as false true = record { base = refl; seen = kept.seen; began = kept.seen }
    kept_as false false = record { base = kept.base; seen = kept.seen; began = kept.began }

telling_later : (set : ℕ) (t : Past) (c : Coming set t) → Telling set t c → Turned set t c
telling_later set t c k = by (view_of set (knowledge (worker c.work))) refl
  where
    by : (o : Option View) → view_of set (knowledge (worker c.work)) ≡ o → Turned set t c
    by None none = telling_quiet set t c k none
    by (Some v) found = telling_turned set t c k v found

-- ---- the node gives the set up

-- nothing comes with an event by which it does
ending_none : (set : ℕ) (t : Past) (c : Coming set t) → leaves set (worker c.work).id (event_of c).body ≡ true →
    c.work.carried.brought ≡ nothing_brought
ending_none set t c left = by c.work.is.brings
  where
    by : IsBrought t c.work.carried.seat (event_of c) c.work.carried.brought →
        c.work.carried.brought ≡ nothing_brought
    by (Nothing n) = n.none
    by (Copies y) =
        absurd (false≢true (sym (copy_stays set y.copy.copying.set_id y.at.seat.node.id (worker c.work).id
        (event_of c).body (copy_asks y.at.to.world y.at.seat (event_of c) y.found y.copy)) ∙ left))
    by (Brings y) = absurd (false≢true (ap (leaves set (worker c.work).id) (sym y.follows.body) ∙ left))

ending_later : (set : ℕ) (t : Past) (c : Coming set t) → leaves set (worker c.work).id (event_of c).body ≡ true →
    Ends (worker c.work).id (said set (event_of c)) → Turned set t c
ending_later set t c gone ends = record {
  node = left (node_of c);
  turn = Leaves ends refl;
  far = refl;
  view = sym (ap (moment_of c.work.leader.id) none);
  kept = λ v found own. let never : None ≡ Some v = sym none ∙ found in absurd cc;
  logs = λ l moment e logs.
      among_right l c.work.carried.brought.logs (logged o) (old.logs l moment e logs);
  whole = record { keeps = old.whole.keeps; bars = old.whole.bars; has = old.whole.has };
}
  where
    o : Node
    o = worker c.work

    old : Before c.work
    old = worker_before c.work

    none : view_of set (knowledge (behind c.work.carried)) ≡ None
    none =
        ap (λ (b : Brought). entry_at set (with_views b.views
        (views_told o.id (event_of c).body (knowledge o).config (knowledge o).views))) (ending_none set t c gone)
        ∙ gone_told o.id set (event_of c).body (knowledge o).config (knowledge o).views gone

-- by the end of its subscription
left_later : (set : ℕ) (t : Past) (c : Coming set t) → (event_of c).body ≡ UnsubscribeSet set (worker c.work).id →
    Turned set t c
left_later set t c body =
    ending_later set t c (ap (leaves set o) body
    ∙ and_from (set == set) (o == o) (eq-eqb set set refl) (eq-eqb o o refl))
    (subst (Ends o) (sym (ap (said_by set (event_of c).taken) body
    ∙ ap (λ b. cond b (Unsubscribe o) Unrelated) (eq-eqb set set refl))) refl)
  where
    o : ℕ
    o = (worker c.work).id

-- or by that of the set
dropped_later : (set : ℕ) (t : Past) (c : Coming set t) → (event_of c).body ≡ EndsSet set → Turned set t c
dropped_later set t c body =
    ending_later set t c (ap (leaves set o) body ∙ eq-eqb set set refl)
    (subst (Ends o) (sym (ap (said_by set (event_of c).taken) body
    ∙ ap (λ b. cond b DropSet Unrelated) (eq-eqb set set refl))) tt)
  where
    o : ℕ
    o = (worker c.work).id

-- ---- every event of the stream

pub coming_later : (set : ℕ) (t : Past) (c : Coming set t) →
    NodeLater c.work.netted c.work.carried.seat.name (behind c.work.carried)
coming_later set t c = turned_later set t c (told (concerned set (worker c.work).id (event_of c).body))
  where
    -- nor does it begin to forward the set then, or give it up
    no_turn : (body : Body) → IsOfOthers set (worker c.work).id body →
        Turns (worker c.work).id set body (knowledge (worker c.work)).config → ⊥
    no_turn (SubscribeSet id provider receiver forward) others turns = others turns.0 turns.1
    no_turn others of turns = absurd turns

    no_end : (body : Body) → IsOfOthers set (worker c.work).id body → leaves set (worker c.work).id body ≡ true → ⊥
    no_end (UnsubscribeSet id receiver) others left =
        let same = both_same id set receiver (worker c.work).id left in others same.0 same.1
    no_end (EndsSet id) others left = others (eqb-true id set left)
    no_end others of left = absurd (false≢true left)

    by : IsOfOthers set (worker c.work).id (event_of c).body → ViewTaken t c.work.carried set → Turned set t c
    by others (Keeps same sync copy) =
        pass_turned set t c (record { same = same; sync = sync; copy = copy; others = others })
    by others (TurnedView v found turns now) = absurd (no_turn (event_of c).body others turns)
    by others (LeftView v found left now) = absurd (no_end (event_of c).body others left)
    by others (Copied k same now) = copy_turned set t c (record { made = k; same = same; now = now })
    by others (Followed y v found own now) =
        sync_turned set t c (record { synced = y; view = v; found = found; own = own; now = now })

    told : Concerns set (worker c.work).id (event_of c).body → Turned set t c
    told (TellsHow provider forward is) =
        telling_later set t c (record { provider = provider; forward = forward; body = is })
    told (TellsEnd is) = left_later set t c is
    told (TellsDrop is) = dropped_later set t c is
    told (TellsOthers others) = by others (view_taken t c.work.carried c.work.origin c.work.is set)
