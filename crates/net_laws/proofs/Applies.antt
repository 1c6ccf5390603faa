-- A node applies its next event.
use Rattle.std.proofs.Common.{◌≡◌, ℕ, ◌+◌, ◌≤◌, max, Bool, true, false, cond, List, ◌∷◌, length, Option, Some, None}
use Rattle.std.proofs.Common.{refl, sym, ap, subst, ◌∙◌, arith, inl, inr}
use Rattle.std.specs.Prelude.{◌||◌, not}
use Rattle.std.proofs.lemmas.Bool.{cases_lt, false≢true, cond-true}
use Rattle.std.proofs.lemmas.Option.{same_Some}
use Rattle.net_laws.specs.Subscriptions.{Subscription, Event, Sync, Enable, up_to, last_moment, readied, row}
use Rattle.net_laws.specs.Net.{Node, stretch, Logs, LogsAll, IsViewed, member, Net, with_node, owned, heard, configured}
use Rattle.net_laws.specs.Net.{IsQuiet, Ends, passed, Turn, Passes, Syncs, Turns, Copies, Skips, Leaves, NextTurn}
use Rattle.net_laws.specs.Sound.{Sound, Holds, Provides, IsForwarder, IsBased, IsSpared}
use Rattle.net_laws.proofs.Options.{not_both}
use Rattle.net_laws.proofs.Prefixes.{up_to_both, length_up_to, moment_between}
use Rattle.net_laws.proofs.Rows.{Found, ForwardsReady, since_made, since_turned, is_enable}
use Rattle.net_laws.proofs.Nodes.{IsProvider, sound_with}
use Rattle.net_laws.proofs.Views.{row_ends, row_enabled, holds_turn}

-- ---- what every turn does

pub record Goes (old node : Node) : Type 0 where
  pub progress : node.progress ≡ old.progress + 1
  pub gave_up : node.gave_up ≡ old.gave_up
  pub cleaned : node.cleaned ≡ old.cleaned
  pub barred : node.barred ≡ old.barred
  pub log : (moment : ℕ) → Logs old.log moment → Logs node.log moment

pub goes : (w : Net) (n : ℕ) (next : NextTurn w n) → Goes (w.nodes n) next.node
goes w n next = by next.turn
  where
    old : Node
    old = w.nodes n

    -- nothing is logged
    silent : (view : Option ℕ) (base : ℕ) → next.node ≡ record (passed old) { view = view; base = base } →
        Goes old next.node
    silent view base is = subst (Goes old) (sym is)
        (record { progress = refl; gave_up = refl; cleaned = refl; barred = refl; log = λ moment logs. logs })

    by : Turn w n next.event next.node → Goes old next.node
    by (Passes why is) = silent old.view old.base is
    by (Syncs m v u event view has is) = subst (Goes old) (sym is)
        (record { progress = refl; gave_up = refl; cleaned = refl; barred = refl; log = more u.forward })
      where
        more : (b : Bool) (moment : ℕ) → Logs old.log moment → Logs (cond b (stretch v m ∷ old.log) old.log) moment
        more true moment logs = inr logs
        more false moment logs = logs
    by (Turns p v f u event view has is) = silent old.view (cond (u.forward || not f) old.base v) is
    by (Copies v u event has low high is) = silent (Some v) v is
    by (Skips event gone is) = silent old.view old.base is
    by (Leaves ends is) = silent None old.base is

-- ---- rows of n by its new events

heard_length : (w : Net) (n : ℕ) → Sound w → length (heard w n) ≡ (w.nodes n).progress
heard_length w n s = length_up_to (w.nodes n).progress w.stream (s.behind n)

-- n forwards by the first a events, and has applied the event from which on it does
record IsForwarding (w : Net) (n a : ℕ) : Type 0 where
  own : Subscription
  has : row w.start n (up_to a w.stream) ≡ Some own
  forwarder : IsForwarder own (w.nodes n)

-- so it does by what it has applied, and by that with its next event
forwards_before : (w : Net) (n a : ℕ) → (w.nodes n).progress ≤ a → (f : IsForwarding w n a) →
    Found (λ t. t.turned) ForwardsReady (configured w n n) f.own
forwards_before w n a behind f =
    subst (λ z. Found (λ t. t.turned) ForwardsReady (row w.start n z) f.own)
    (up_to_both (w.nodes n).progress a w.stream behind)
    (since_turned w.start n (w.nodes n).progress (up_to a w.stream) f.own f.has
    (f.forwarder.forward, f.forwarder.ready) f.forwarder.turned)

forwards_after : (w : Net) (n : ℕ) (next : NextTurn w n) (a : ℕ) → (w.nodes n).progress + 1 ≤ a →
    (f : IsForwarding w n a) → Found (λ t. t.turned) ForwardsReady (row w.start n (next.event ∷ heard w n)) f.own
forwards_after w n next a past f =
    subst (λ z. Found (λ t. t.turned) ForwardsReady (row w.start n z) f.own)
    (up_to_both ((w.nodes n).progress + 1) a w.stream past ∙ next.comes.next)
    (since_turned w.start n ((w.nodes n).progress + 1) (up_to a w.stream) f.own f.has
    (f.forwarder.forward, f.forwarder.ready) (omega (arith, f.forwarder.turned)))

-- ---- activity

-- the row of n at the origin is this one, and it is ready since event number k, or longer
record IsEnabled (w : Net) (n k : ℕ) (u : Subscription) : Type 0 where
  has : owned w n ≡ Some u
  ready : u.ready ≡ true
  made : u.made ≤ k

active_turn : (w : Net) (n : ℕ) (next : NextTurn w n) (u : Subscription) → Sound w → (w.nodes n).gave_up ≡ false →
    IsEnabled w n ((w.nodes n).progress + 1) u → IsViewed next.node
active_turn w n next u s kept enabled = elim (cases_lt (w.nodes n).progress u.made) [
  | inl now ↦
      let made = enabled.made in
      let same = after.same in
      let l = heard_length w n s in
      fresh next.turn (omega (arith, now, made))
      (is_enable w.start n next.event (heard w n) after.row after.is after.holds (omega (arith, same, l, now, made)))
  | inr before ↦ old next.turn (s.active n u kept enabled.has enabled.ready before)
]
  where
    after : Found (λ t. t.made) (λ t. t.ready ≡ true) (row w.start n (next.event ∷ heard w n)) u
    after =
        subst (λ z. Found (λ t. t.made) (λ t. t.ready ≡ true) (row w.start n z) u) next.comes.next
        (since_made w.start n ((w.nodes n).progress + 1) w.stream u enabled.has enabled.ready enabled.made)

    old : Turn w n next.event next.node → IsViewed (w.nodes n) → IsViewed next.node
    old (Syncs m v t event view has is) seen = subst IsViewed (sym is) (max v m, refl)
    old (Copies v t event has low high is) seen = subst IsViewed (sym is) (v, refl)
    old (Leaves ends is) seen = not_both (row w.start n (next.event ∷ heard w n)) after.row
        (row_ends w n next.event ends) after.is
    old (Passes why is) seen = subst IsViewed (sym is) seen
    old (Turns p v f t event view has is) seen = subst IsViewed (sym is) seen
    old (Skips event gone is) seen = subst IsViewed (sym is) seen

    fresh : Turn w n next.event next.node → u.made ≡ (w.nodes n).progress + 1 → next.event ≡ Enable n →
        IsViewed next.node
    fresh (Passes (inl is_quiet) is) here enable = absurd (subst (IsQuiet n (w.nodes n).view) enable is_quiet refl)
    fresh (Passes (inr out) is) here enable = absurd (false≢true (sym kept ∙ out.gave_up))
    fresh (Syncs m v t event view has is) here enable = subst IsViewed (sym is) (max v m, refl)
    fresh (Turns p v f t event view has is) here enable = subst IsViewed (sym is) (v, view)
    fresh (Copies v t event has low high is) here enable = subst IsViewed (sym is) (v, refl)
    fresh (Skips event (inl gave_up) is) here enable = absurd (false≢true (sym kept ∙ gave_up))
    fresh (Skips event (inr gone) is) here enable = absurd (gone u enabled.has enabled.ready here)
    fresh (Leaves ends is) here enable = absurd (subst (Ends n) enable ends)

-- ---- providers

-- until n has passed the first a events, by which it forwards, it keeps a view, and its base stays
serves_turn : (w : Net) (n : ℕ) (next : NextTurn w n) (a : ℕ) → Sound w → (w.nodes n).progress + 1 ≤ a →
    IsForwarding w n a → IsViewed (w.nodes n) → IsViewed next.node × (next.node.base ≡ (w.nodes n).base)
serves_turn w n next a s past f viewed = by next.turn
  where
    Serves : Node → Type 0
    Serves node = IsViewed node × (node.base ≡ (w.nodes n).base)

    after : Found (λ t. t.turned) ForwardsReady (row w.start n (next.event ∷ heard w n)) f.own
    after = forwards_after w n next a past f

    by : Turn w n next.event next.node → Serves next.node
    by (Passes why is) = subst Serves (sym is) (viewed, refl)
    by (Syncs m v u event view has is) = subst Serves (sym is) ((max v m, refl), refl)
    by (Turns p v g u event view has is) =
        let before = forwards_before w n a (omega (arith, past)) f in
        let rows = same_Some u before.row (sym has ∙ before.is) in
        let on : u.forward ≡ true = ap (λ (x : Subscription). x.forward) rows ∙ before.holds.0 in
        subst Serves (sym is) (viewed, cond-true (u.forward || not g) (w.nodes n).base v (ap (λ b. b || not g) on))
    by (Copies v u event has low high is) =
        let here = ap (λ d. row w.start n (d ∷ heard w n)) (sym event) ∙ after.is in
        let rows = same_Some (readied (length (heard w n) + 1) u) after.row (sym (row_enabled w n u has) ∙ here) in
        let made = ap (λ (x : Subscription). x.turned) rows in
        let same = after.same in
        let turned = f.forwarder.turned in
        let l = heard_length w n s in
        absurd (omega (arith, made, same, turned, l))
    by (Skips event gone is) = subst Serves (sym is) (viewed, refl)
    by (Leaves ends is) =
        not_both (row w.start n (next.event ∷ heard w n)) after.row (row_ends w n next.event ends) after.is

provides_turn : (w : Net) (n : ℕ) (next : NextTurn w n) (a : ℕ) → Sound w → (p : IsProvider w n a) →
    (n ≡ w.origin → ⊥) → Provides w.start (up_to a w.stream) n p.own.cut (w.nodes n) →
    Provides w.start (up_to a w.stream) n p.own.cut next.node
provides_turn w n next a s p other old =
    let more = g.progress in record {
      forwards = (
        forwards.0,
        (
          forwards.1.0,
          record {
            forward = forwards.1.1.forward;
            ready = forwards.1.1.ready;
            turned = let before = forwards.1.1.turned in omega (arith, before, more);
          },
        ),
      );
      serves = λ kept before.
          let based = old.serves (sym g.gave_up ∙ kept) (omega (arith, before, more)) in
          let serves = serves_turn w n next a s (omega (arith, before, more, l))
          (record { own = forwards.0; has = forwards.1.0; forwarder = forwards.1.1 }) (based.view, based.is) in
          let base = serves.1 in
          let low = based.base in
          record { view = serves.0.0; is = serves.0.1; base = omega (arith, base, low) };
      served = λ kept past m before is. elim (cases_lt (w.nodes n).progress a) [
        | inl now ↦ last (sym g.gave_up ∙ kept) (omega (arith, now, past, more, l)) m before is
        | inr done ↦ λ moment inside. g.log moment
            (old.served (sym g.gave_up ∙ kept) (omega (arith, done, l)) m before is moment inside)
      ];
    }
  where
    g : Goes (w.nodes n) next.node
    g = goes w n next

    l : length (up_to a w.stream) ≡ a
    l = length_up_to a w.stream p.within

    forwards : (t : Subscription) × ((row w.start n (up_to a w.stream) ≡ Some t) × IsForwarder t (w.nodes n))
    forwards = old.forwards

    -- at a SYNC a provider logs all that its receivers may want
    logs : (m : ℕ) (t : Subscription) → next.event ≡ Sync m → configured w n n ≡ Some t → t.forward ≡ true →
        IsBased (w.nodes n) p.own.cut → Turn w n next.event next.node → LogsAll next.node.log (stretch p.own.cut m)
    logs m t event has forward based (Syncs j v u here view own is) = λ moment inside.
        let moments : m ≡ j = cc in
        let on : u.forward ≡ true =
        ap (λ (x : Subscription). x.forward) (same_Some u t (sym own ∙ has)) ∙ forward in
        let low = inside.from in
        let high = inside.to in
        let base = based.base in
        subst (λ d. Logs d.log moment) (sym is)
        (subst (λ b. Logs (cond b (stretch v j ∷ (w.nodes n).log) (w.nodes n).log) moment) (sym on)
        (elim (cases_lt moment v) [
          | inl before ↦ inr ((s.holds n).logged v t view has forward moment
              (record { from = omega (arith, base, low); to = before }))
          | inr after ↦ inl (record { from = after; to = omega (arith, high, moments) })
        ]))
    logs m t event has forward based (Passes (inl is_quiet) is) =
        not_both (w.nodes n).view based.view (subst (IsQuiet n (w.nodes n).view) event is_quiet) based.is
    logs m t event has forward based (Passes (inr out) is) = not_both (w.nodes n).view based.view out.none based.is
    logs m t event has forward based (Turns q v f u here view own is) = absurd cc
    logs m t event has forward based (Copies v u here own low high is) = absurd cc
    logs m t event has forward based (Skips here gone is) = absurd cc
    logs m t event has forward based (Leaves ends is) = absurd (subst (Ends n) event ends)

    last : (w.nodes n).gave_up ≡ false → a ≡ (w.nodes n).progress + 1 → (m : ℕ) (before : List Event) →
        up_to a w.stream ≡ Sync m ∷ before → LogsAll next.node.log (stretch p.own.cut m)
    last kept now m before is =
        let here = ap (λ j. up_to j w.stream) now ∙ next.comes.next in
        let all : next.event ∷ heard w n ≡ Sync m ∷ before = sym here ∙ is in
        let event : next.event ≡ Sync m = cc in
        let same = here ∙ ap (λ d. d ∷ heard w n) event in
        let has : row w.start p.receiver (heard w n) ≡ Some p.own =
        ap (row w.start p.receiver) (sym same) ∙ p.has in
        let provides = subst (λ j. Provides w.start (heard w n) j p.own.cut (w.nodes j)) p.provider
        (s.provided (w.nodes n).progress (s.behind n) p.receiver p.own has (λ o. other (sym p.provider ∙ o))) in
        let known = provides.forwards in
        let h = heard_length w n s in
        logs m known.0 event known.1.0 known.1.1.forward (provides.serves kept (omega (arith, h))) next.turn

-- ---- what may be cleaned

spared_turn : (w : Net) (n : ℕ) (next : NextTurn w n) (moment : ℕ) →
    IsSpared w.start w.stream moment n (w.nodes n) → IsSpared w.start w.stream moment n next.node
spared_turn w n next moment (inl low) =
    let p = (goes w n next).progress in
    let more = moment_between (w.nodes n).progress next.node.progress w.stream (omega (arith, p)) in
    inl (omega (arith, low, more))
spared_turn w n next moment (inr later) = by next.turn
  where
    progress : next.node.progress ≡ (w.nodes n).progress + 1
    progress = (goes w n next).progress

    still : next.node.view ≡ None → IsSpared w.start w.stream moment n next.node
    still none = inr (none, λ a u past within is. later.1 a u (omega (arith, progress, past)) within is)

    by : Turn w n next.event next.node → IsSpared w.start w.stream moment n next.node
    by (Passes why is) = still (ap (λ (d : Node). d.view) is ∙ later.0)
    by (Syncs m v u event view has is) = not_both (w.nodes n).view v later.0 view
    by (Turns p v f u event view has is) = not_both (w.nodes n).view v later.0 view
    by (Copies v u event has low high is) =
        let more = next.comes.more in
        let here = ap (row w.start n) next.comes.next ∙
        (ap (λ d. row w.start n (d ∷ heard w n)) event ∙ row_enabled w n u has) in
        inl (subst (λ j. moment ≤ last_moment (up_to j w.stream)) (sym progress)
        (later.1 ((w.nodes n).progress + 1) (readied (length (heard w n) + 1) u) (omega arith) (omega (arith, more))
        here))
    by (Skips event gone is) = still (ap (λ (d : Node). d.view) is ∙ later.0)
    by (Leaves ends is) = still (ap (λ (d : Node). d.view) is)

-- ---- the step

pub sound_applied : (w : Net) (n : ℕ) (next : NextTurn w n) → Sound w → Sound (with_node n next.node w)
sound_applied w n next s = sound_with w n next.node (record {
  progress = omega (arith, g.progress);
  behind = let more = next.comes.more in omega (arith, more, g.progress);
  holds = subst (λ z. Holds w.start w.now z n next.node)
      (sym (ap (λ j. up_to j w.stream) g.progress ∙ next.comes.next)) (holds_turn w n next s);
  active = λ u kept is ready made. active_turn w n next u s (sym g.gave_up ∙ kept)
      (record { has = is; ready = ready; made = omega (arith, made, g.progress) });
  provides = λ a p other old. provides_turn w n next a s p other old;
  cleaned = let old = s.swept n in omega (arith, old, g.cleaned);
  spared = spared_turn w n next;
  spares = λ r other known. subst (λ c. IsSpared w.start w.stream c r (w.nodes r)) (sym g.cleaned)
      (s.spared n r other (ap (member r) (sym g.barred) ∙ known));
}) s
  where
    g : Goes (w.nodes n) next.node
    g = goes w n next
