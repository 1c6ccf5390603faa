-- What holds of a node after its next event.
use Rattle.std.proofs.Common.{◌≡◌, ℕ, ◌+◌, ◌<◌, ◌≤◌, max, Bool, true, false, cond, List, ◌∷◌, length, Option, Some}
use Rattle.std.proofs.Common.{None, refl, sym, ap, subst, ◌∙◌, arith, ◌⊎◌, inl, inr}
use Rattle.std.specs.Prelude.{◌==◌, ◌||◌, not}
use Rattle.std.proofs.lemmas.Bool.{ne_eqb, eq-eqb, cases_lt, cases_eq, false≢true, cond-true, cond-false}
use Rattle.std.proofs.lemmas.Option.{same_Some}
use Rattle.net_laws.specs.Subscriptions.{Subscription, Event, Sync, Subscribe, Enable, Unsubscribe, DropSet}
use Rattle.net_laws.specs.Subscriptions.{last_moment, moment_with, subscribed, readied, enabled, changed, row}
use Rattle.net_laws.specs.Net.{Node, Stretch, stretch, Logs, LogsAll, Net, IsQuiet, Ends, passed, synced, turned_by}
use Rattle.net_laws.specs.Net.{copied, left, Turn, Passes, Syncs, Turns, Copies, Skips, Leaves, NextTurn, IsNext, heard}
use Rattle.net_laws.specs.Net.{configured}
use Rattle.net_laws.specs.Sound.{Sound, Holds}
use Rattle.net_laws.proofs.Options.{not_both}
use Rattle.net_laws.proofs.Prefixes.{moment_more, moment_up_to}
use Rattle.net_laws.proofs.Rows.{cut_below}

-- ---- an event that changes nothing, and one that takes a row away

same_changed : {X : Type 0} (n r : ℕ) (new old : X) → (r ≡ n → ⊥) → cond (n == r) new old ≡ old
same_changed n r new old differ = cond-false (n == r) new old (ne_eqb n r (λ is. differ (sym is)))

quiet : (n k c : ℕ) (view : Option ℕ) (e : Event) (old : Option Subscription) → IsQuiet n view e →
    (view ≡ None) ⊎ ((changed n k c e old ≡ old) × (moment_with e c ≡ c))
quiet n k c view (Sync m) old is = inl is
quiet n k c view (Subscribe r p f) old is = elim (cases_eq r n) [
  | inl same ↦ inl (is same)
  | inr differ ↦ inr (same_changed n r (Some (subscribed k c p f old)) old differ, refl)
]
quiet n k c view (Enable r) old is = inr (same_changed n r (enabled k old) old is, refl)
quiet n k c view (Unsubscribe r) old is = inr (same_changed n r None old is, refl)
quiet n k c view DropSet old is = absurd is
quiet n k c view others old is = inr (refl, refl)

row_quiet : (w : Net) (n : ℕ) (e : Event) → IsQuiet n (w.nodes n).view e → ((w.nodes n).view ≡ None) ⊎
    ((row w.start n (e ∷ heard w n) ≡ configured w n n) ×
    (last_moment (e ∷ heard w n) ≡ last_moment (heard w n)))
row_quiet w n e is = quiet n (length (heard w n) + 1) (last_moment (heard w n)) (w.nodes n).view e (configured w n n) is

ends_none : (n k c : ℕ) (e : Event) (old : Option Subscription) → Ends n e → changed n k c e old ≡ None
ends_none n k c (Unsubscribe r) old is = cond-true (n == r) None old (eq-eqb n r (sym is))
ends_none n k c DropSet old is = refl
ends_none n k c others old is = absurd is

pub row_ends : (w : Net) (n : ℕ) (e : Event) → Ends n e → row w.start n (e ∷ heard w n) ≡ None
row_ends w n e ends = ends_none n (length (heard w n) + 1) (last_moment (heard w n)) e (configured w n n) ends

pub row_enabled : (w : Net) (n : ℕ) (u : Subscription) → configured w n n ≡ Some u →
    row w.start n (Enable n ∷ heard w n) ≡ Some (readied (length (heard w n) + 1) u)
row_enabled w n u has =
    cond-true (n == n) (enabled (length (heard w n) + 1) (configured w n n)) (configured w n n) (eq-eqb n n refl) ∙
    ap (enabled (length (heard w n) + 1)) has

-- ---- the ways in which a node applies an event

-- without a view little is claimed
holds_none : (w : Net) (n : ℕ) (z : List Event) (node : Node) → Sound w → node.view ≡ None →
    node.log ≡ (w.nodes n).log → last_moment (heard w n) ≤ last_moment z → Holds w.start w.now z n node
holds_none w n z node s none log more = record {
  covers = λ v is. not_both node.view v none is;
  within = λ v is. not_both node.view v none is;
  based = λ v is. not_both node.view v none is;
  came = λ v is. not_both node.view v none is;
  rowed = λ v is. not_both node.view v none is;
  cut = λ v u is has. not_both node.view v none is;
  logged = λ v u is has. not_both node.view v none is;
  fresh = λ moment logs.
      let below = (s.holds n).fresh moment (subst (λ l. Logs l moment) log logs) in
      omega (arith, below, more);
}

-- the row stays and no moment is told
holds_same : (w : Net) (n : ℕ) (e : Event) → Sound w →
    row w.start n (e ∷ heard w n) ≡ configured w n n → last_moment (e ∷ heard w n) ≡ last_moment (heard w n) →
    Holds w.start w.now (e ∷ heard w n) n (passed (w.nodes n))
holds_same w n e s rows moments =
    let h = s.holds n in record {
      covers = λ v is. let old = h.covers v is in omega (arith, old, moments);
      within = h.within;
      based = h.based;
      came = λ v is. elim (h.came v is) [ inl base ↦ inl base | inr seen ↦ inr (omega (arith, seen, moments)) ];
      rowed = λ v is. let old = h.rowed v is in (old.0, (rows ∙ old.1.0, old.1.1));
      cut = λ v u is has. h.cut v u is (sym rows ∙ has);
      logged = λ v u is has forward. h.logged v u is (sym rows ∙ has) forward;
      fresh = λ moment logs. let old = h.fresh moment logs in omega (arith, old, moments);
    }

-- n keeps this view, and has this row
pub record Keeps (w : Net) (n v : ℕ) (u : Subscription) : Type 0 where
  pub view : (w.nodes n).view ≡ Some v
  pub row : configured w n n ≡ Some u

holds_synced : (w : Net) (n m v : ℕ) (u : Subscription) → Sound w → m ≤ w.now → Keeps w n v u →
    Holds w.start w.now (Sync m ∷ heard w n) n (synced m v u.forward (w.nodes n))
holds_synced w n m v u s known keeps =
    let h = s.holds n in record {
      covers = λ t is. let same = same_Some (max v m) t is in
          let old = h.covers v keeps.view in omega (arith, same, old);
      within = λ t is. let same = same_Some (max v m) t is in
          let old = h.within v keeps.view in omega (arith, same, old, known);
      based = λ t is. let same = same_Some (max v m) t is in
          let old = h.based v keeps.view in omega (arith, same, old);
      came = λ t is. let same = same_Some (max v m) t is in elim (cases_lt v m) [
        | inl new ↦ inr (omega (arith, same, new))
        | inr kept ↦ elim (h.came v keeps.view) [
          | inl base ↦ inl (omega (arith, same, kept, base))
          | inr seen ↦ inr (omega (arith, same, kept, seen))
        ]
      ];
      rowed = λ t is. h.rowed v keeps.view;
      cut = λ t x is has. let same = same_Some (max v m) t is in
          let old = h.cut v x keeps.view has in omega (arith, same, old);
      logged = λ t x is has forward moment inside.
          let same = same_Some (max v m) t is in
          let on : u.forward ≡ true =
          ap (λ (y : Subscription). y.forward) (same_Some u x (sym keeps.row ∙ has)) ∙ forward in
          let low = inside.from in
          let high = inside.to in
          subst (λ b. Logs (cond b (new ∷ (w.nodes n).log) (w.nodes n).log) moment) (sym on)
          (elim (cases_lt moment v) [
            | inl before ↦ inr (h.logged v x keeps.view has forward moment (record { from = low; to = before }))
            | inr after ↦ inl (record { from = after; to = omega (arith, same, high, after) })
          ]);
      fresh = λ moment logs. fresh_at u.forward moment logs;
    }
  where
    new : Stretch
    new = stretch v m

    fresh_at : (b : Bool) (moment : ℕ) → Logs (cond b (new ∷ (w.nodes n).log) (w.nodes n).log) moment →
        moment < max m (last_moment (heard w n))
    fresh_at true moment (inl here) = omega (arith, here.to)
    fresh_at true moment (inr old) =
        let below = (s.holds n).fresh moment old in omega (arith, below)
    fresh_at false moment old =
        let below = (s.holds n).fresh moment old in omega (arith, below)

holds_turned : (w : Net) (n p v : ℕ) (f : Bool) (u : Subscription) → Sound w → Keeps w n v u →
    Holds w.start w.now (Subscribe n p f ∷ heard w n) n (turned_by v (u.forward || not f) (w.nodes n))
holds_turned w n p v f u s keeps =
    let h = s.holds n in record {
      covers = h.covers;
      within = h.within;
      based = λ t is. let same = same_Some v t (sym keeps.view ∙ is) in let old = h.based v keeps.view in
          elim (u.forward || not f) as (λ b. cond b (w.nodes n).base v ≤ t) [
            | true ↦ omega (arith, same, old)
            | false ↦ omega (arith, same)
          ];
      came = λ t is. let same = same_Some v t (sym keeps.view ∙ is) in
          elim (u.forward || not f) as (λ b. (t ≡ cond b (w.nodes n).base v) ⊎ (t ≤ last_moment (heard w n))) [
            | true ↦ h.came t is
            | false ↦ inl (sym same)
          ];
      rowed = λ t is. (after, (now_row, ready));
      cut = λ t x is has. let old = h.covers t is in
          let same = ap (λ (y : Subscription). y.cut) (same_Some after x (sym now_row ∙ has)) in
          omega (arith, old, same);
      logged = λ t x is has forward. let same = same_Some v t (sym keeps.view ∙ is) in
          let on : f ≡ true =
          ap (λ (y : Subscription). y.forward) (same_Some after x (sym now_row ∙ has)) ∙ forward in
          elim u.forward as (λ b. u.forward ≡ b →
          LogsAll (w.nodes n).log (stretch (cond (b || not f) (w.nodes n).base v) t)) [
            | true ↦ λ was. h.logged t u is keeps.row was
            | false ↦ λ off moment inside.
                let low = subst (λ g. cond (not g) (w.nodes n).base v ≤ moment) on inside.from in
                let high = inside.to in absurd (omega (arith, same, low, high))
          ] refl;
      fresh = h.fresh;
    }
  where
    after : Subscription
    after = subscribed (length (heard w n) + 1) (last_moment (heard w n)) p f (Some u)

    now_row : row w.start n (Subscribe n p f ∷ heard w n) ≡ Some after
    now_row =
        cond-true (n == n) (Some (subscribed (length (heard w n) + 1) (last_moment (heard w n)) p f (configured w n n)))
        (configured w n n) (eq-eqb n n refl) ∙
        ap (λ o. Some (subscribed (length (heard w n) + 1) (last_moment (heard w n)) p f o)) keeps.row

    ready : u.ready ≡ true
    ready =
        let old = (s.holds n).rowed v keeps.view in
        ap (λ (y : Subscription). y.ready) (same_Some u old.0 (sym keeps.row ∙ old.1.0)) ∙ old.1.1

holds_copied : (w : Net) (n v : ℕ) (u : Subscription) → Sound w → last_moment (heard w n) ≤ v → v ≤ w.now →
    configured w n n ≡ Some u → Holds w.start w.now (Enable n ∷ heard w n) n (copied v (w.nodes n))
holds_copied w n v u s low high has = record {
  covers = λ t is. let same = same_Some v t is in omega (arith, same, low);
  within = λ t is. let same = same_Some v t is in omega (arith, same, high);
  based = λ t is. let same = same_Some v t is in omega (arith, same);
  came = λ t is. inl (sym (same_Some v t is));
  rowed = λ t is. (readied (length (heard w n) + 1) u, (row_enabled w n u has, refl));
  cut = λ t x is now_has.
      let same = same_Some v t is in
      let rows = same_Some (readied (length (heard w n) + 1) u) x (sym (row_enabled w n u has) ∙ now_has) in
      let cuts = ap (λ (y : Subscription). y.cut) rows in
      let below = cut_below w.start n (heard w n) u has in
      omega (arith, same, cuts, below, low);
  logged = λ t x is now_has forward moment inside.
      let same = same_Some v t is in
      let from = inside.from in
      let to = inside.to in
      absurd (omega (arith, same, from, to));
  fresh = (s.holds n).fresh;
}

-- who waits for its ENABLE_SUBSCRIPTION has no view
pub unviewed : (w : Net) (n : ℕ) → Sound w → IsNext w n (Enable n) → (w.nodes n).view ≡ None
unviewed w n s next = go (w.nodes n).view refl
  where
    go : (view : Option ℕ) → (w.nodes n).view ≡ view → (w.nodes n).view ≡ None
    go None is = is
    go (Some v) is =
        let more = next.more in
        let pending = s.expected ((w.nodes n).progress + 1) (omega (arith, more)) n (heard w n) next.next in
        let old = (s.holds n).rowed v is in
        let rows = same_Some pending.0 old.0 (sym pending.1.0 ∙ old.1.0) in
        absurd (false≢true (sym pending.1.1 ∙ (ap (λ (y : Subscription). y.ready) rows ∙ old.1.1)))

moment_next : (w : Net) (n : ℕ) (e : Event) → Sound w → IsNext w n e → last_moment (e ∷ heard w n) ≤ w.now
moment_next w n e s next =
    let bound = s.bound in
    let all = subst (λ z. last_moment z ≤ last_moment w.stream) next.next
    (moment_up_to ((w.nodes n).progress + 1) w.stream) in
    omega (arith, bound, all)

pub holds_turn : (w : Net) (n : ℕ) (next : NextTurn w n) → Sound w →
    Holds w.start w.now (next.event ∷ heard w n) n next.node
holds_turn w n next s = by next.turn
  where
    e : Event
    e = next.event

    -- an event of which n makes nothing, where it has no view
    idle : (node : Node) → node.view ≡ None → node.log ≡ (w.nodes n).log → Holds w.start w.now (e ∷ heard w n) n node
    idle node none log = holds_none w n (e ∷ heard w n) node s none log (moment_more e (last_moment (heard w n)))

    -- the event and the node are known
    known : (d : Event) (node : Node) → e ≡ d → next.node ≡ node → Holds w.start w.now (d ∷ heard w n) n node →
        Holds w.start w.now (e ∷ heard w n) n next.node
    known d node event is holds =
        subst (λ x. Holds w.start w.now (x ∷ heard w n) n next.node) (sym event)
        (subst (Holds w.start w.now (d ∷ heard w n) n) (sym is) holds)

    by : Turn w n e next.node → Holds w.start w.now (e ∷ heard w n) n next.node
    by (Passes (inl is_quiet) is) = subst (Holds w.start w.now (e ∷ heard w n) n) (sym is)
        (elim (row_quiet w n e is_quiet) [
          | inl none ↦ idle (passed (w.nodes n)) none refl
          | inr same ↦ holds_same w n e s same.0 same.1
        ])
    by (Passes (inr out) is) =
        subst (Holds w.start w.now (e ∷ heard w n) n) (sym is) (idle (passed (w.nodes n)) out.none refl)
    by (Syncs m v u event view has is) =
        let all = subst (λ d. last_moment (d ∷ heard w n) ≤ w.now) event (moment_next w n e s next.comes) in
        known (Sync m) (synced m v u.forward (w.nodes n)) event is
        (holds_synced w n m v u s (omega (arith, all)) (record { view = view; row = has }))
    by (Turns p v f u event view has is) =
        known (Subscribe n p f) (turned_by v (u.forward || not f) (w.nodes n)) event is
        (holds_turned w n p v f u s (record { view = view; row = has }))
    by (Copies v u event has low high is) = known (Enable n) (copied v (w.nodes n)) event is
        (holds_copied w n v u s low high has)
    by (Skips event gone is) = subst (Holds w.start w.now (e ∷ heard w n) n) (sym is)
        (idle (passed (w.nodes n)) (unviewed w n s (subst (IsNext w n) event next.comes)) refl)
    by (Leaves ends is) =
        subst (Holds w.start w.now (e ∷ heard w n) n) (sym is) (idle (left (w.nodes n)) refl refl)

pub holds_given : (w : Net) (n : ℕ) (node : Node) → node.view ≡ None → node.log ≡ (w.nodes n).log → Sound w →
    Holds w.start w.now (heard w n) n node
holds_given w n node none log s = holds_none w n (heard w n) node s none log (omega arith)
