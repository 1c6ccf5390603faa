-- Nodes go from one era to the next.
use Rattle.std.proofs.Common.{◌≡◌, ℕ, ◌+◌, ◌<◌, ◌≤◌, max, true, false, ◌∷◌, length, Option, Some, None, refl, sym, ap}
use Rattle.std.proofs.Common.{subst, ◌∙◌, arith, inl, inr}
use Rattle.std.specs.Prelude.{◌==◌}
use Rattle.std.proofs.lemmas.Bool.{false≢true, cases_eq, ne_eqb, cond-false}
use Rattle.std.proofs.lemmas.Option.{same_Some}
use Rattle.net_laws.specs.Updates.{set_at}
use Rattle.net_laws.specs.Subscriptions.{Subscription, MoveSet, up_to, last_moment, row}
use Rattle.net_laws.specs.Net.{Node, given_up, barring, cleaned_below, IsViewed, Net, with_node, owned, configured}
use Rattle.net_laws.specs.Net.{emitted, IsNext, Turn, Passes, Syncs, Turns, Copies, Skips, Leaves, NextTurn, Step}
use Rattle.net_laws.specs.Net.{Commits, Ticks, Emits, Applies, GivesUp, Bars, Cleans, Leads, Here, More}
use Rattle.net_laws.specs.Sound.{Sound}
use Rattle.net_laws.specs.Laws.{HasPassedMove, pair_of}
use Rattle.net_laws.specs.Crossing.{CrossesByMove, Takeover, IsKept, IsCatchingUp, CrossesByFailover}
use Rattle.net_laws.proofs.Options.{not_both}
use Rattle.net_laws.proofs.Updates.{set_each, set_here, set_other}
use Rattle.net_laws.proofs.Prefixes.{up_to_old, up_to_whole}
use Rattle.net_laws.proofs.Rows.{numbered}
use Rattle.net_laws.proofs.Views.{unviewed}
use Rattle.net_laws.proofs.Applies.{goes}
use Rattle.net_laws.proofs.Sounds.{sound_begun, sound_step, sound_leads}
use Rattle.net_laws.proofs.Laws.{Continues, grows, move_is_whole, move_keeps_row, kept_keeps_view, takeover_is_whole}
use Rattle.net_laws.proofs.Laws.{takeover_stays_below}
use Rattle.net_laws.proofs.Beginnings.{beginning_stays}

-- ---- what only grows at a node

record IsLater (old node : Node) : Type 0 where
  progress : old.progress ≤ node.progress
  gave_up : node.gave_up ≡ false → old.gave_up ≡ false

later_itself : (o : Node) → IsLater o o
later_itself o = record { progress = omega arith; gave_up = λ kept. kept }

later_step : (w x : Net) → Step w x → (n : ℕ) → IsLater (w.nodes n) (x.nodes n)
later_step w x step n = by step
  where
    -- no node changes, or one
    still : x.nodes ≡ w.nodes → IsLater (w.nodes n) (x.nodes n)
    still is = subst (λ nodes. IsLater (w.nodes n) (nodes n)) (sym is) (later_itself (w.nodes n))

    at : (k : ℕ) (node : Node) → IsLater (w.nodes k) node → x ≡ with_node k node w → IsLater (w.nodes n) (x.nodes n)
    at k node later is = subst (λ (y : Net). IsLater (w.nodes n) (y.nodes n)) (sym is)
        (set_each (λ j d. IsLater (w.nodes j) d) k node w.nodes later (λ j differ. later_itself (w.nodes j)) n)

    by : Step w x → IsLater (w.nodes n) (x.nodes n)
    by (Applies k next is) =
        let g = goes w k next in
        at k next.node (record { progress = omega (arith, g.progress); gave_up = λ kept. sym g.gave_up ∙ kept }) is
    by (GivesUp k is) = at k (given_up (w.nodes k))
        (record { progress = omega arith; gave_up = λ kept. absurd (false≢true (sym kept)) }) is
    by (Bars k r is) = at k (barring r (w.nodes k)) (record { progress = omega arith; gave_up = λ kept. kept }) is
    by (Cleans k i within confirmed is) = at k (cleaned_below (last_moment (up_to i w.stream)) (w.nodes k))
        (record { progress = omega arith; gave_up = λ kept. kept }) is
    by (Commits here is) = still (ap (λ (y : Net). y.nodes) is)
    by (Ticks is) = still (ap (λ (y : Net). y.nodes) is)
    by (Emits e may is) = still (ap (λ (y : Net). y.nodes) is)

later : (w x : Net) → Leads w x → (n : ℕ) → IsLater (w.nodes n) (x.nodes n)
later w x Here n = later_itself (w.nodes n)
later w x (More {u = u} leads step) n =
    let one = later w u leads n in
    let two = later_step u x step n in
    record { progress = omega (arith, one.progress, two.progress); gave_up = λ kept. one.gave_up (two.gave_up kept) }

-- ---- by a move

pub crosses_by_move : CrossesByMove
crosses_by_move w x c z y n m i = record {
  whole = λ v view. move_is_whole x sound n v w.stream passed view;
  first = λ v view.
      let mine = move_keeps_row x sound n v w.stream passed view in
      as_begun ∙ m.moves.begun.some n (mine.0.provider, mine.0.forward) (as_moved (Some mine.0) (sym rows ∙ mine.1.1));
  none = λ none. none_later none (owned w n) refl;
}
  where
    moving : Step w (emitted MoveSet w)
    moving = Emits MoveSet m.moves.may refl

    sound_w : Sound w
    sound_w = sound_leads m.first w m.before (sound_begun m.first m.begun)

    sound : Sound x
    sound = sound_leads (emitted MoveSet w) x m.after (sound_step w (emitted MoveSet w) moving sound_w)

    g : Continues (emitted MoveSet w) x
    g = grows (emitted MoveSet w) x m.after

    passed : HasPassedMove x n w.stream
    passed =
        let past = i.past in
        let longer : length (MoveSet ∷ w.stream) ≤ length x.stream = g.longer in
        record {
          number = length w.stream + 1;
          within = omega (arith, longer);
          is = ap (λ k. up_to k x.stream) (omega arith) ∙ g.same;
          past = omega (arith, past);
        }

    -- the row is the one with which the set moved
    rows : owned x n ≡ owned w n
    rows =
        let k = length w.stream + 1 in
        let all = up_to_whole x.stream in
        let frozen = sound.frozen (length x.stream) (omega arith) n k w.stream (ap (up_to k) all ∙ passed.is) in
        ap (row x.start n) (sym all) ∙ (frozen ∙ (ap (λ s. row x.start n (up_to k s)) all ∙
        (ap (row x.start n) passed.is ∙ ap (λ start. row start n w.stream) g.start)))

    as_moved : (o : Option Subscription) → owned w n ≡ o → c.start.rows n ≡ pair_of o
    as_moved o has =
        let old = cond-false (n == w.origin) (Some (y, true)) (pair_of (owned w n)) (ne_eqb n w.origin i.not_old) in
        m.moves.rows n ∙ (cond-false (n == y) None _ (ne_eqb n y i.not_new) ∙ (old ∙ ap pair_of has))

    as_begun : (z.nodes n).view ≡ (c.nodes n).view
    as_begun = (beginning_stays c z m.moves.begun m.later n i.before i.keeps_new).view

    none_later : (x.nodes n).view ≡ None → (o : Option Subscription) → owned w n ≡ o → (z.nodes n).view ≡ None
    none_later none None has = as_begun ∙ m.moves.begun.none n (as_moved None has)
    none_later none (Some u) has =
        let settled = m.moves.settled n u has in
        let order = (numbered w.start n w.stream u has).made in
        let more = (later (emitted MoveSet w) x m.after n).progress in
        let mark : u.mark ≤ (w.nodes n).progress = settled.1 in
        let seen = sound.active n u i.keeps_old (rows ∙ has) settled.0 (omega (arith, order, more, mark)) in
        not_both (x.nodes n).view seen.0 none seen.1

-- ---- by a failover

-- what a takeover needs of two nodes is the same
record IsAlike (w x : Net) (t : Takeover) : Type 0 where
  has : configured x t.backup t.receiver ≡ configured w t.backup t.receiver
  backup : (x.nodes t.backup).view ≡ (w.nodes t.backup).view
  base : (x.nodes t.backup).base ≡ (w.nodes t.backup).base
  view : (x.nodes t.receiver).view ≡ (w.nodes t.receiver).view
  progress : (w.nodes t.receiver).progress ≤ (x.nodes t.receiver).progress

alike_kept : (w x : Net) (t : Takeover) → IsAlike w x t → IsKept w t → IsKept x t
alike_kept w x t a k = record {
  has = a.has ∙ k.has;
  mark = omega (arith, k.mark, a.progress);
  backup = a.backup ∙ k.backup;
  view = k.view;
  keeps = a.view ∙ k.keeps;
  base = omega (arith, k.base, a.base);
  below = k.below;
}

-- nothing changes at a node that a takeover needs
record IsSameNode (old new : Node) : Type 0 where
  progress : new.progress ≡ old.progress
  view : new.view ≡ old.view
  base : new.base ≡ old.base

alike_with : (w : Net) (j : ℕ) (new : Node) (t : Takeover) →
    IsSameNode (w.nodes t.backup) (set_at j new w.nodes t.backup) →
    IsSameNode (w.nodes t.receiver) (set_at j new w.nodes t.receiver) → IsAlike w (with_node j new w) t
alike_with w j new t b r = record {
  has = ap (λ p. row w.start t.receiver (up_to p w.stream)) b.progress;
  backup = b.view;
  base = b.base;
  view = r.view;
  progress = let progress = r.progress in omega (arith, progress);
}

-- the view of the receiver, as it applies an event on its way to the backup's progress
record IsBelow (w : Net) (t : Takeover) (node : Node) : Type 0 where
  view : ℕ
  keeps : node.view ≡ Some view
  base : (w.nodes t.backup).base ≤ view
  below : view ≤ t.top

kept_turn : (w : Net) (t : Takeover) (next : NextTurn w t.receiver) → Sound w →
    (w.nodes t.receiver).progress < (w.nodes t.backup).progress → IsKept w t → IsBelow w t next.node
kept_turn w t next s less k = by next.turn
    (kept_keeps_view w s n t.backup next (record { row = t.row; has = k.has; mark = k.mark }) less (k.view, k.keeps))
  where
    n : ℕ
    n = t.receiver

    old : next.node.view ≡ (w.nodes n).view → IsBelow w t next.node
    old is = record { view = k.view; keeps = is ∙ k.keeps; base = k.base; below = k.below }

    by : Turn w n next.event next.node → IsViewed next.node → IsBelow w t next.node
    by (Passes why is) seen = old (ap (λ (d : Node). d.view) is)
    by (Syncs m v a event view has is) seen =
        let same = same_Some v k.view (sym view ∙ k.keeps) in
        let low = k.base in
        let below = k.below in
        let high = takeover_stays_below w s n t.backup m
        (record { view = v; keeps = view; top = t.top; backup = k.backup; below = omega (arith, same, below) })
        (subst (IsNext w n) event next.comes) less in
        record {
          view = max v m;
          keeps = ap (λ (d : Node). d.view) is;
          base = omega (arith, same, low);
          below = high;
        }
    by (Turns p v f a event view has is) seen = old (ap (λ (d : Node). d.view) is)
    by (Copies v a event has low high is) seen =
        not_both (w.nodes n).view k.view (unviewed w n s (subst (IsNext w n) event next.comes)) k.keeps
    by (Skips event gone is) seen = old (ap (λ (d : Node). d.view) is)
    by (Leaves ends is) seen = not_both next.node.view seen.0 (ap (λ (d : Node). d.view) is) seen.1

-- One step of catching up: the backup stands, and the receiver goes on only where it is behind it.
record IsStepAhead (w x : Net) (t : Takeover) : Type 0 where
  stands : (x.nodes t.backup).progress ≡ (w.nodes t.backup).progress
  ahead : (w.nodes t.receiver).progress < (x.nodes t.receiver).progress →
      (w.nodes t.receiver).progress < (w.nodes t.backup).progress
  receiver : (x.nodes t.receiver).gave_up ≡ false
  backup : (x.nodes t.backup).gave_up ≡ false

-- the receiver, or a node that is neither of the two, applies an event
kept_applies : (w : Net) (t : Takeover) (j : ℕ) (next : NextTurn w j) → Sound w →
    IsStepAhead w (with_node j next.node w) t → IsKept w t → IsKept (with_node j next.node w) t
kept_applies w t j next s a k = record {
  has = ap (λ (d : Node). row w.start t.receiver (up_to d.progress w.stream)) b_is ∙ k.has;
  mark =
      let more = (later_step w x (Applies j next refl) t.receiver).progress in
      let mark = k.mark in
      omega (arith, mark, more);
  backup = ap (λ (d : Node). d.view) b_is ∙ k.backup;
  view = there.view;
  keeps = there.keeps;
  base =
      let same = ap (λ (d : Node). d.base) b_is in
      let low = there.base in
      omega (arith, same, low);
  below = there.below;
}
  where
    x : Net
    x = with_node j next.node w

    p : next.node.progress ≡ (w.nodes j).progress + 1
    p = (goes w j next).progress

    -- the backup stays where it is
    not_backup : j ≡ t.backup → ⊥
    not_backup same =
        let stands = a.stands in
        let moved = ap (λ (d : Node). d.progress) (set_here j next.node w.nodes t.backup (sym same)) in
        let old = ap (λ i. (w.nodes i).progress) same in
        omega (arith, p, moved, stands, old)

    b_is : x.nodes t.backup ≡ w.nodes t.backup
    b_is = set_other j next.node w.nodes t.backup (λ is. not_backup (sym is))

    there : IsBelow w t (x.nodes t.receiver)
    there = elim (cases_eq t.receiver j) [
      | inl same ↦ mine same
      | inr differ ↦ subst (IsBelow w t) (sym (set_other j next.node w.nodes t.receiver differ))
          (record { view = k.view; keeps = k.keeps; base = k.base; below = k.below })
    ]
      where
        mine : t.receiver ≡ j → IsBelow w t (x.nodes t.receiver)
        mine same =
            let here = set_here j next.node w.nodes t.receiver same in
            let moved = ap (λ (d : Node). d.progress) here in
            let old = ap (λ i. (w.nodes i).progress) same in
            let less = a.ahead (omega (arith, p, moved, old)) in
            subst (IsBelow w t) (sym here)
            (subst (λ i. (step : NextTurn w i) → IsBelow w t step.node) same (λ step. kept_turn w t step s less k) next)

same_node : (o : Node) → IsSameNode o o
same_node o = record { progress = refl; view = refl; base = refl }

kept_step : (w x : Net) (t : Takeover) → Sound w → Step w x → IsStepAhead w x t → IsKept w t → IsKept x t
kept_step w x t s step a k = by step
  where
    alike : (y : Net) → x ≡ y → IsAlike w y t → IsKept x t
    alike y is same = subst (λ z. IsKept z t) (sym is) (alike_kept w y t same k)

    -- a node changes, that may be one of the two
    at : (j : ℕ) (new : Node) → (new.gave_up ≡ false → IsSameNode (w.nodes j) new) → x ≡ with_node j new w → IsKept x t
    at j new same is = alike (with_node j new w) is
        (alike_with w j new t (of t.backup a.backup) (of t.receiver a.receiver))
      where
        of : (i : ℕ) → (x.nodes i).gave_up ≡ false → IsSameNode (w.nodes i) (set_at j new w.nodes i)
        of i kept = set_each (λ q d. d.gave_up ≡ false → IsSameNode (w.nodes q) d) j new w.nodes same
            (λ q differ one. same_node (w.nodes q)) i (sym (ap (λ (y : Net). (y.nodes i).gave_up) is) ∙ kept)

    by : Step w x → IsKept x t
    by (Applies j next is) = subst (λ y. IsKept y t) (sym is)
        (kept_applies w t j next s (subst (λ y. IsStepAhead w y t) is a) k)
    by (Emits e may is) = alike (emitted e w) is (record {
      has = ap (row w.start t.receiver) (up_to_old (w.nodes t.backup).progress e w.stream (s.behind t.backup));
      backup = refl;
      base = refl;
      view = refl;
      progress = omega arith;
    })
    by (GivesUp j is) = at j (given_up (w.nodes j)) (λ kept. absurd (false≢true (sym kept))) is
    by (Bars j r is) =
        at j (barring r (w.nodes j)) (λ kept. record { progress = refl; view = refl; base = refl }) is
    by (Cleans j i within confirmed is) = at j (cleaned_below (last_moment (up_to i w.stream)) (w.nodes j))
        (λ kept. record { progress = refl; view = refl; base = refl }) is
    by (Commits here is) = alike (record w { now = w.now + 1; full = w.now + 1 }) is
        (record { has = refl; backup = refl; base = refl; view = refl; progress = omega arith })
    by (Ticks is) = alike (record w { now = w.now + 1 }) is
        (record { has = refl; backup = refl; base = refl; view = refl; progress = omega arith })

stays_kept : (w x : Net) → Sound w → Leads w x → (t : Takeover) → IsKept w t → IsCatchingUp w x t → IsKept x t
stays_kept w x s Here t k c = k
stays_kept w x s (More {u = v} leads step) t k c =
    let last_backup = later_step v x step t.backup in
    let last_receiver = later_step v x step t.receiver in
    let first_backup = later w v leads t.backup in
    let first_receiver = later w v leads t.receiver in
    let stands = c.stands in
    let most = c.most in
    let same : (v.nodes t.backup).progress ≡ (w.nodes t.backup).progress =
    omega (arith, last_backup.progress, first_backup.progress, stands) in
    kept_step v x t (sound_leads w v leads s) step (record {
      stands = omega (arith, same, stands);
      ahead = λ more. omega (arith, more, most, same, first_receiver.progress);
      receiver = c.receiver;
      backup = c.backup;
    }) (stays_kept w v s leads t k (record {
      stands = same;
      most = omega (arith, most, last_receiver.progress);
      receiver = last_receiver.gave_up c.receiver;
      backup = last_backup.gave_up c.backup;
    }))

pub crosses_by_failover : (w : Net) → Sound w → CrossesByFailover w
crosses_by_failover w s x leads t k c = (there, caught_up)
  where
    sound : Sound x
    sound = sound_leads w x leads s

    there : IsKept x t
    there = stays_kept w x s leads t k c

    caught_up : (w.nodes t.backup).progress ≤ (x.nodes t.receiver).progress →
        (x.nodes t.receiver).view ≡ Some t.top
    caught_up far =
        let stands = c.stands in
        let whole = takeover_is_whole x sound t.receiver t.backup (record {
          view = there.view;
          keeps = there.keeps;
          top = t.top;
          backup = there.backup;
          below = there.below;
        }) (omega (arith, far, stands)) there.base in
        there.keeps ∙ ap (λ v. Some v) whole
