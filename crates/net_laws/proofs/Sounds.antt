-- Every step, and every beginning of an era, leads to what is sound.
use Rattle.std.proofs.Common.{◌≡◌, ℕ, ◌≤◌, max, Bool, true, false, cond, List, [], ◌∷◌, length, Option, Some, None}
use Rattle.std.proofs.Common.{refl, sym, ap, subst, ◌∙◌, arith, inl, inr}
use Rattle.std.specs.Prelude.{◌==◌, ◌||◌, nat_le}
use Rattle.std.specs.List.{AllByRecursion}
use Rattle.std.proofs.lemmas.Bool.{cases_lt, false≢true}
use Rattle.std.proofs.lemmas.Option.{same_Some}
use Rattle.net_laws.specs.Subscriptions.{Subscription, Event, Enable, MoveSet, Sync, Unrelated, up_to}
use Rattle.net_laws.specs.Subscriptions.{last_moment, Start, first_row, begun, row}
use Rattle.net_laws.specs.Net.{Node, Logs, given_up, barring, cleaned_below, member, Net, with_node, owned, heard}
use Rattle.net_laws.specs.Net.{HasConfirmed, AllConfirmed, Step, Commits, Ticks, Emits, Applies, GivesUp, Bars, Cleans}
use Rattle.net_laws.specs.Net.{Leads, Here, More, IsBegun}
use Rattle.net_laws.specs.Sound.{Sound, Holds, Provides, IsSpared}
use Rattle.net_laws.proofs.Options.{not_both}
use Rattle.net_laws.proofs.Prefixes.{moment_up_to, moment_between}
use Rattle.net_laws.proofs.Nodes.{sound_with}
use Rattle.net_laws.proofs.Views.{holds_given}
use Rattle.net_laws.proofs.Emits.{sound_committed, sound_ticked, sound_emitted}
use Rattle.net_laws.proofs.Applies.{sound_applied}

-- ---- one node changes, and stays where it is in the stream

-- What has to be shown of such a node that is put in the place of n: it logs the same, and if it does not give the set
-- up, it keeps view and base.
record IsSteady (w : Net) (n : ℕ) (new : Node) : Type 0 where
  progress : new.progress ≡ (w.nodes n).progress
  log : new.log ≡ (w.nodes n).log
  keeps : new.gave_up ≡ false → (w.nodes n).gave_up ≡ false
  view : new.gave_up ≡ false → new.view ≡ (w.nodes n).view
  base : new.gave_up ≡ false → new.base ≡ (w.nodes n).base
  lost : (w.nodes n).view ≡ None → new.view ≡ None
  holds : Holds w.start w.now (heard w n) n new
  cleaned : new.cleaned ≤ last_moment w.stream
  spares : (r : ℕ) → (r ≡ w.origin → ⊥) → member r new.barred ≡ false →
      IsSpared w.start w.stream new.cleaned r (w.nodes r)

sound_steady : (w : Net) (n : ℕ) (new : Node) → IsSteady w n new → Sound w → Sound (with_node n new w)
sound_steady w n new i s = sound_with w n new (record {
  progress = omega (arith, i.progress);
  behind = let old = s.behind n in omega (arith, old, i.progress);
  holds = subst (λ j. Holds w.start w.now (up_to j w.stream) n new) (sym i.progress) i.holds;
  active = λ u kept is ready made.
      let seen = s.active n u (i.keeps kept) is ready (omega (arith, made, i.progress)) in
      (seen.0, i.view kept ∙ seen.1);
  provides = λ a p other old. provides a p.own.cut old;
  cleaned = i.cleaned;
  spared = spared;
  spares = i.spares;
}) s
  where
    provides : (a cut : ℕ) → Provides w.start (up_to a w.stream) n cut (w.nodes n) →
        Provides w.start (up_to a w.stream) n cut new
    provides a cut old =
        let forwards = old.forwards in record {
          forwards = (
            forwards.0,
            (
              forwards.1.0,
              record {
                forward = forwards.1.1.forward;
                ready = forwards.1.1.ready;
                turned = let before = forwards.1.1.turned in omega (arith, before, i.progress);
              },
            ),
          );
          serves = λ kept before.
              let based = old.serves (i.keeps kept) (omega (arith, before, i.progress)) in
              let base = i.base kept in
              let low = based.base in
              record { view = based.view; is = i.view kept ∙ based.is; base = omega (arith, base, low) };
          served = λ kept past m before is moment inside.
              subst (λ log. Logs log moment) (sym i.log)
              (old.served (i.keeps kept) (omega (arith, past, i.progress)) m before is moment inside);
        }

    spared : (moment : ℕ) → IsSpared w.start w.stream moment n (w.nodes n) → IsSpared w.start w.stream moment n new
    spared moment (inl low) = inl (subst (λ j. moment ≤ last_moment (up_to j w.stream)) (sym i.progress) low)
    spared moment (inr later) =
        inr (i.lost later.0, λ a u past within is. later.1 a u (omega (arith, past, i.progress)) within is)

-- ---- the set is given up

sound_given : (w : Net) (n : ℕ) → Sound w → Sound (with_node n (given_up (w.nodes n)) w)
sound_given w n s = sound_steady w n (given_up (w.nodes n)) (record {
  progress = refl;
  keeps = λ kept. absurd (false≢true (sym kept));
  holds = holds_given w n (given_up (w.nodes n)) refl refl s;
  view = λ kept. absurd (false≢true (sym kept));
  base = λ kept. refl;
  log = refl;
  cleaned = s.swept n;
  lost = λ none. refl;
  spares = s.spared n;
}) s

-- ---- logs are cleaned, nodes are dropped or fenced

sound_kept : (w : Net) (n cleaned : ℕ) (barred : List ℕ) → cleaned ≤ last_moment w.stream →
    ((r : ℕ) → (r ≡ w.origin → ⊥) → member r barred ≡ false → IsSpared w.start w.stream cleaned r (w.nodes r)) →
    Sound w → Sound (with_node n (record (w.nodes n) { cleaned = cleaned; barred = barred }) w)
sound_kept w n cleaned barred low spares s =
    let h = s.holds n in
    sound_steady w n (record (w.nodes n) { cleaned = cleaned; barred = barred }) (record {
      progress = refl;
      keeps = λ kept. kept;
      holds = record {
        covers = h.covers;
        within = h.within;
        based = h.based;
        came = h.came;
        rowed = h.rowed;
        cut = h.cut;
        logged = h.logged;
        fresh = h.fresh;
      };
      view = λ kept. refl;
      base = λ kept. refl;
      log = refl;
      cleaned = low;
      lost = λ none. none;
      spares = spares;
    }) s

not_head : (r x : ℕ) (xs : List ℕ) → member r (x ∷ xs) ≡ false → member r xs ≡ false
not_head r x xs = elim (r == x) as (λ b. (b || member r xs) ≡ false → member r xs ≡ false) [
  | true ↦ λ is. absurd (false≢true (sym is))
  | false ↦ λ is. is
]

sound_barred : (w : Net) (n r : ℕ) → Sound w → Sound (with_node n (barring r (w.nodes n)) w)
sound_barred w n r s = sound_kept w n (w.nodes n).cleaned (r ∷ (w.nodes n).barred) (s.swept n)
    (λ q other known. s.spared n q other (not_head q r (w.nodes n).barred known)) s

-- what a SYNC that is confirmed sees is needed no more
confirmed_spares : (w : Net) (k r : ℕ) → Sound w → HasConfirmed w k r →
    IsSpared w.start w.stream (last_moment (up_to k w.stream)) r (w.nodes r)
confirmed_spares w k r s (inl passed) = inl (moment_between k (w.nodes r).progress w.stream passed)
confirmed_spares w k r s (inr none) = go (w.nodes r).view refl
  where
    go : (view : Option ℕ) → (w.nodes r).view ≡ view →
        IsSpared w.start w.stream (last_moment (up_to k w.stream)) r (w.nodes r)
    go None is = inr (
      is,
      λ a u past less has. elim (cases_lt k a) [
        | inl later ↦ moment_between k a w.stream (omega (arith, later))
        | inr low ↦ absurd (none a u low has)
      ],
    )
    go (Some v) is = elim (cases_lt k (w.nodes r).progress) [
      | inl later ↦ inl (moment_between k (w.nodes r).progress w.stream (omega (arith, later)))
      | inr low ↦ let old = (s.holds r).rowed v is in absurd (none (w.nodes r).progress old.0 low old.1.0)
    ]

both_spare : (w : Net) (one two r : ℕ) → IsSpared w.start w.stream one r (w.nodes r) →
    IsSpared w.start w.stream two r (w.nodes r) → IsSpared w.start w.stream (max one two) r (w.nodes r)
both_spare w one two r a b = elim (cases_lt one two) [
  | inl less ↦ subst (λ m. IsSpared w.start w.stream m r (w.nodes r)) (omega (arith, less)) b
  | inr more ↦ subst (λ m. IsSpared w.start w.stream m r (w.nodes r)) (omega (arith, more)) a
]

sound_cleaned : (w : Net) (p k : ℕ) → AllConfirmed w p k → Sound w →
    Sound (with_node p (cleaned_below (last_moment (up_to k w.stream)) (w.nodes p)) w)
sound_cleaned w p k confirmed s =
    let old = s.swept p in
    let below = moment_up_to k w.stream in
    let moment = last_moment (up_to k w.stream) in
    sound_kept w p (max (w.nodes p).cleaned moment) (w.nodes p).barred (omega (arith, old, below))
    (λ r other known. both_spare w (w.nodes p).cleaned moment r (s.spared p r other known)
    (confirmed_spares w k r s (confirmed r other known))) s

-- ---- the beginning

pub others_up_to : (k : ℕ) (z : List Event) → AllByRecursion (λ e. e ≡ Unrelated) z →
    AllByRecursion (λ e. e ≡ Unrelated) (up_to k z)
others_up_to k [] all = tt
others_up_to k (e ∷ z) all = elim (nat_le k (length z))
    as (λ b. AllByRecursion (λ e. e ≡ Unrelated) (cond b (up_to k z) (e ∷ z))) [
      | true ↦ others_up_to k z all.1
      | false ↦ all
    ]

others_row : (start : Start) (n : ℕ) (z : List Event) → AllByRecursion (λ e. e ≡ Unrelated) z →
    row start n z ≡ begun (start.rows n)
others_row start n [] all = refl
others_row start n (e ∷ z) all =
    subst (λ d. row start n (d ∷ z) ≡ begun (start.rows n)) (sym all.0) (others_row start n z all.1)

others_moment : (z : List Event) → AllByRecursion (λ e. e ≡ Unrelated) z → last_moment z ≡ 0
others_moment [] all = refl
others_moment (e ∷ z) all = subst (λ d. last_moment (d ∷ z) ≡ 0) (sym all.0) (others_moment z all.1)

pub others_head : (d : Event) (before z : List Event) → AllByRecursion (λ e. e ≡ Unrelated) z → z ≡ d ∷ before →
    d ≡ Unrelated
others_head d before [] all is = absurd cc
others_head d before (e ∷ z) all is = let same : e ≡ d = cc in sym same ∙ all.0

-- the row of n is one with which the era begins
record IsFirstRow (w : Net) (n : ℕ) (u : Subscription) : Type 0 where
  pair : ℕ × Bool
  is : w.start.rows n ≡ Some pair
  same : first_row pair ≡ u
  cut : u.cut ≡ 0
  mark : u.mark ≡ 0

pub sound_begun : (w : Net) → IsBegun w → Sound w
sound_begun w b = record {
  bound = omega (arith, others_moment w.stream b.stream);
  filled = let none = b.full in omega (arith, none);
  closed = λ is. let none = b.full in omega (arith, none);
  behind = b.behind;
  holds = λ n. record {
    covers = λ v is. omega (arith, others_moment (heard w n) (all (w.nodes n).progress));
    within = λ v is. let zero_view = view_zero n v is in omega (arith, zero_view);
    based = λ v is. let none = b.base n in omega (arith, none);
    came = λ v is. inl (view_zero n v is ∙ sym (b.base n));
    rowed = λ v is. view_row n v is;
    cut = λ v u is has. let new = from_first (w.nodes n).progress n u has in omega (arith, new.cut);
    logged = λ v u is has forward moment inside.
        let zero_view = view_zero n v is in
        let high = inside.to in
        absurd (omega (arith, zero_view, high));
    fresh = λ moment logs. absurd (subst (λ l. Logs l moment) (b.log n) logs);
  };
  active = λ n u kept has ready made. let new = whole n u has in (0, b.some n new.pair new.is);
  marked = λ n u has less. let new = whole n u has in absurd (omega (arith, new.mark, less));
  provided = λ a within r u has other. provides a r u has other;
  moved = λ a within before is. let d = others_head MoveSet before (up_to a w.stream) (all a) is in absurd cc;
  frozen = λ a within n j before is.
      let d = others_head MoveSet before (up_to j (up_to a w.stream)) (others_up_to j (up_to a w.stream) (all a)) is in
      absurd cc;
  expected = λ a within r before is.
      let d = others_head (Enable r) before (up_to a w.stream) (all a) is in absurd cc;
  swept = λ p. let none = b.cleaned p in omega (arith, none);
  spared = λ p r other known. inl (let none = b.cleaned p in omega (arith, none));
}
  where
    all : (k : ℕ) → AllByRecursion (λ e. e ≡ Unrelated) (up_to k w.stream)
    all k = others_up_to k w.stream b.stream

    rows : (k n : ℕ) → row w.start n (up_to k w.stream) ≡ begun (w.start.rows n)
    rows k n = others_row w.start n (up_to k w.stream) (all k)

    from_begun : (n : ℕ) (u : Subscription) (o : Option (ℕ × Bool)) → w.start.rows n ≡ o → begun o ≡ Some u →
        IsFirstRow w n u
    from_begun n u None is has = absurd cc
    from_begun n u (Some r) is has =
        let same = same_Some (first_row r) u has in
        let rows = sym same in record {
          pair = r;
          is = is;
          same = same;
          cut = ap (λ (x : Subscription). x.cut) rows;
          mark = ap (λ (x : Subscription). x.mark) rows;
        }

    from_first : (k n : ℕ) (u : Subscription) → row w.start n (up_to k w.stream) ≡ Some u → IsFirstRow w n u
    from_first k n u has = from_begun n u (w.start.rows n) refl (sym (rows k n) ∙ has)

    whole : (n : ℕ) (u : Subscription) → owned w n ≡ Some u → IsFirstRow w n u
    whole n u has = from_begun n u (w.start.rows n) refl (sym (others_row w.start n w.stream b.stream) ∙ has)

    view_zero : (n v : ℕ) → (w.nodes n).view ≡ Some v → v ≡ 0
    view_zero n v is = go (w.start.rows n) refl
      where
        go : (o : Option (ℕ × Bool)) → w.start.rows n ≡ o → v ≡ 0
        go None none = not_both (w.nodes n).view v (b.none n none) is
        go (Some r) some = sym (same_Some 0 v (sym (b.some n r some) ∙ is))

    view_row : (n v : ℕ) → (w.nodes n).view ≡ Some v →
        (u : Subscription) × ((row w.start n (heard w n) ≡ Some u) × (u.ready ≡ true))
    view_row n v is = go (w.start.rows n) refl
      where
        go : (o : Option (ℕ × Bool)) → w.start.rows n ≡ o →
            (u : Subscription) × ((row w.start n (heard w n) ≡ Some u) × (u.ready ≡ true))
        go None none = not_both (w.nodes n).view v (b.none n none) is
        go (Some r) some = (first_row r, (rows (w.nodes n).progress n ∙ ap begun some, refl))

    provides : (a r : ℕ) (u : Subscription) → row w.start r (up_to a w.stream) ≡ Some u → (u.provider ≡ w.origin → ⊥) →
        Provides w.start (up_to a w.stream) u.provider u.cut (w.nodes u.provider)
    provides a r u has other =
        subst (λ x. Provides w.start (up_to a w.stream) x.provider x.cut (w.nodes x.provider)) first.same (record {
          forwards = (
            first_row next.0,
            (
              rows a p ∙ ap begun next.1.0,
              record {
                forward = next.1.1;
                ready = refl;
                turned = omega arith;
              },
            ),
          );
          serves = λ kept before. record {
            view = 0;
            is = b.some p next.0 next.1.0;
            base = let none = b.base p in omega (arith, none);
          };
          served = λ kept past m before is.
              let d = others_head (Sync m) before (up_to a w.stream) (all a) is in absurd cc;
        })
      where
        first : IsFirstRow w r u
        first = from_first a r u has

        p : ℕ
        p = first.pair.0

        next : (q : ℕ × Bool) × ((w.start.rows p ≡ Some q) × (q.1 ≡ true))
        next = b.forwards r first.pair first.is
            (λ is. other (ap (λ (x : Subscription). x.provider) (sym first.same) ∙ is))

-- ---- each step

pub sound_step : (w v : Net) → Step w v → Sound w → Sound v
sound_step w v (Commits here is) s = subst Sound (sym is) (sound_committed w here s)
sound_step w v (Ticks is) s = subst Sound (sym is) (sound_ticked w s)
sound_step w v (Emits e may is) s = subst Sound (sym is) (sound_emitted w e may s)
sound_step w v (Applies n next is) s = subst Sound (sym is) (sound_applied w n next s)
sound_step w v (GivesUp n is) s = subst Sound (sym is) (sound_given w n s)
sound_step w v (Bars n r is) s = subst Sound (sym is) (sound_barred w n r s)
sound_step w v (Cleans p k within confirmed is) s = subst Sound (sym is) (sound_cleaned w p k confirmed s)

pub sound_leads : (w v : Net) → Leads w v → Sound w → Sound v
sound_leads w v Here s = s
sound_leads w v (More {u = u} leads step) s = sound_step u v step (sound_leads w u leads s)
