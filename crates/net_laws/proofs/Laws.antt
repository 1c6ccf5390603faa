-- The laws, from soundness.
use Rattle.std.proofs.Common.{◌≡◌, ℕ, ◌+◌, ◌≤◌, max, Bool, true, false, cond, ◌∷◌, length, Option, Some, None}
use Rattle.std.proofs.Common.{refl, sym, ap, subst, ◌∙◌, arith, ◌⊎◌, inl, inr}
use Rattle.std.specs.Prelude.{◌==◌}
use Rattle.std.proofs.lemmas.Bool.{cases_lt, cases_eq, cases_Bool, ne_eqb, eq-eqb, cond-true, cond-false}
use Rattle.std.proofs.lemmas.Option.{same_Some}
use Rattle.net_laws.specs.Subscriptions.{Subscription, Sync, Enable, up_to, last_moment, readied, row}
use Rattle.net_laws.specs.Net.{Node, Logs, LogsAll, stretch, given_up, barring, cleaned_below, IsViewed, Net, owned}
use Rattle.net_laws.specs.Net.{with_node, heard}
use Rattle.net_laws.specs.Net.{configured, IsNext, Turn, Passes, Syncs, Turns, Copies, Skips, Leaves, NextTurn, Step}
use Rattle.net_laws.specs.Net.{Commits, Ticks, Emits, Applies, GivesUp, Bars, Cleans, Leads, Here, More}
use Rattle.net_laws.specs.Sound.{Sound, Provides, IsForwarder, IsBased}
use Rattle.net_laws.specs.Laws.{Always, ViewCovers, CopyCovers, ViewHasRow, ViewsRise, HasReached, LogsHold}
use Rattle.net_laws.specs.Laws.{BackupServes, ForwarderLogs, LoggedOnce, LogsAreCommitted, CleanedIsSeen, CopyFinds}
use Rattle.net_laws.specs.Laws.{GoneStays, ActiveHasView, MoveLosesNothing, MoveIsWhole, MoveKeepsRow, pair_of}
use Rattle.net_laws.specs.Laws.{moved_rows, DoesForward, AllForward, MoveBegins, failed_provider, failed_row}
use Rattle.net_laws.specs.Laws.{failed_rows, FailoverBegins, TakeoverIsWhole, TakeoverStaysBelow, KeptKeepsView}
use Rattle.net_laws.proofs.Options.{not_both}
use Rattle.net_laws.proofs.Updates.{set_each}
use Rattle.net_laws.proofs.Prefixes.{up_to_old, up_to_whole, up_to_both, length_up_to, moment_up_to, moment_between}
use Rattle.net_laws.proofs.Rows.{numbered, since_made, since_mark}
use Rattle.net_laws.proofs.Views.{row_enabled, row_ends, unviewed}
use Rattle.net_laws.proofs.Sounds.{sound_begun, sound_leads}

pub always : (P : Net → Type 0) → ((w : Net) → Sound w → P w) → Always P
always P from b w begun leads = from w (sound_leads b w leads (sound_begun b begun))

-- ---- views

pub view_covers : (w : Net) → Sound w → ViewCovers w
view_covers w s n v is = ((s.holds n).covers v is, (s.holds n).within v is)

pub copy_covers : (w : Net) → Sound w → CopyCovers w
copy_covers w s n p v less is =
    let covers = (s.holds p).covers v is in
    let between = moment_between (w.nodes n).progress (w.nodes p).progress w.stream less in
    (omega (arith, covers, between), (s.holds p).within v is)

pub view_has_row : (w : Net) → Sound w → ViewHasRow w
view_has_row w s n v is = (s.holds n).rowed v is

abbrev Rises : Node → Node → Type 0
Rises old new = (v t : ℕ) → old.view ≡ Some v → new.view ≡ Some t → v ≤ t

same_rises : (old new : Node) → new.view ≡ old.view → Rises old new
same_rises old new is v t before after =
    let same = same_Some v t (sym before ∙ (sym is ∙ after)) in omega (arith, same)

rises_turn : (w : Net) (n : ℕ) (next : NextTurn w n) → Sound w → Rises (w.nodes n) next.node
rises_turn w n next s = by next.turn
  where
    by : Turn w n next.event next.node → Rises (w.nodes n) next.node
    by (Passes why is) = same_rises (w.nodes n) next.node (ap (λ (d : Node). d.view) is)
    by (Syncs m a u event view has is) = λ v t old new.
        let one = same_Some v a (sym old ∙ view) in
        let two = same_Some (max a m) t (ap (λ (d : Node). d.view) (sym is) ∙ new) in
        omega (arith, one, two)
    by (Turns p a f u event view has is) = same_rises (w.nodes n) next.node (ap (λ (d : Node). d.view) is)
    by (Copies a u event has low high is) = λ v t old new.
        not_both (w.nodes n).view v (unviewed w n s (subst (IsNext w n) event next.comes)) old
    by (Skips event gone is) = same_rises (w.nodes n) next.node (ap (λ (d : Node). d.view) is)
    by (Leaves ends is) = λ v t old new. not_both next.node.view t (ap (λ (d : Node). d.view) is) new

pub views_rise : (w : Net) → Sound w → ViewsRise w
views_rise w s x step n = by step
  where
    -- one node changes
    at : (k : ℕ) (node : Node) → Rises (w.nodes k) node → x ≡ with_node k node w → Rises (w.nodes n) (x.nodes n)
    at k node rises is = subst (λ (y : Net). Rises (w.nodes n) (y.nodes n)) (sym is)
        (set_each (λ j d. Rises (w.nodes j) d) k node w.nodes rises
        (λ j differ. same_rises (w.nodes j) (w.nodes j) refl) n)

    by : Step w x → Rises (w.nodes n) (x.nodes n)
    by (Applies k next is) = at k next.node (rises_turn w k next s) is
    by (GivesUp k is) = at k (given_up (w.nodes k)) (λ v t old new. absurd cc) is
    by (Bars k r is) = at k (barring r (w.nodes k)) (same_rises (w.nodes k) (barring r (w.nodes k)) refl) is
    by (Cleans k j within confirmed is) =
        let new = cleaned_below (last_moment (up_to j w.stream)) (w.nodes k) in
        at k new (same_rises (w.nodes k) new refl) is
    by (Commits here is) = same_rises (w.nodes n) (x.nodes n) (ap (λ (y : Net). (y.nodes n).view) is)
    by (Ticks is) = same_rises (w.nodes n) (x.nodes n) (ap (λ (y : Net). (y.nodes n).view) is)
    by (Emits e may is) = same_rises (w.nodes n) (x.nodes n) (ap (λ (y : Net). (y.nodes n).view) is)

-- ---- logs

pub cleaned_is_seen : (w : Net) → Sound w → CleanedIsSeen w
cleaned_is_seen w s p r v other known is = elim (s.spared p r other known) [
  | inl low ↦ let covers = (s.holds r).covers v is in omega (arith, low, covers)
  | inr later ↦ not_both (w.nodes r).view v later.0 is
]

-- n, which keeps a view, is to apply a SYNC of this moment from its provider. That is another node than the origin, has
-- come as far, and has not given the set up.
pub record Follows (w : Net) (n moment : ℕ) : Type 0 where
  pub next : IsNext w n (Sync moment)
  pub view : ℕ
  pub keeps : (w.nodes n).view ≡ Some view
  pub row : Subscription
  pub has : configured w n n ≡ Some row
  pub other : row.provider ≡ w.origin → ⊥
  pub far : (w.nodes n).progress + 1 ≤ (w.nodes row.provider).progress
  pub stays : (w.nodes row.provider).gave_up ≡ false

-- The provider has logged all of it, whomever it has as dropped or as fenced.
pub provider_logs : (w : Net) → Sound w → (n m : ℕ) (f : Follows w n m) →
    LogsAll (w.nodes f.row.provider).log (stretch f.view m)
provider_logs w s n m f moment inside =
    let next = f.next.next in
    let more = f.next.more in
    let far = f.far in
    let low = inside.from in
    let within : (w.nodes n).progress + 1 ≤ length w.stream = omega (arith, more) in
    let provides =
    s.provided ((w.nodes n).progress + 1) within n f.row (ap (row w.start n) next ∙ f.has) f.other in
    let l = length_up_to ((w.nodes n).progress + 1) w.stream within in
    let cut = (s.holds n).cut f.view f.row f.keeps f.has in
    provides.served f.stays (omega (arith, far, l)) m (heard w n) next moment
    (record { from = omega (arith, cut, low); to = inside.to })

pub logs_hold : (w : Net) → Sound w → LogsHold w
logs_hold w s n m i moment inside = (logged (cases_eq p w.origin), omega (arith, seen, low))
  where
    p : ℕ
    p = i.row.provider

    low : i.view ≤ moment
    low = inside.from

    seen : (w.nodes p).cleaned ≤ i.view
    seen = cleaned_is_seen w s p n i.view i.may.other i.may.known i.keeps

    logged : ((p ≡ w.origin) ⊎ (p ≡ w.origin → ⊥)) → (p ≡ w.origin) ⊎ Logs (w.nodes p).log moment
    logged (inl is) = inl is
    logged (inr other) = inr (from i.reached)
      where
        from : HasReached w p ((w.nodes n).progress + 1) → Logs (w.nodes p).log moment
        from (inl is) = absurd (other is)
        from (inr far) =
            provider_logs w s n m (record {
              next = i.next;
              view = i.view;
              keeps = i.keeps;
              row = i.row;
              has = i.has;
              other = other;
              far = far;
              stays = i.may.keeps;
            }) moment inside

pub backup_serves : (w : Net) → Sound w → BackupServes w
backup_serves w s n p c moment inside =
    let base = c.base in
    let low = inside.from in
    let high = inside.to in
    let covers = (s.holds p).covers c.top c.seen in
    let between = moment_between c.number (w.nodes p).progress w.stream c.reached in
    let cleaned = cleaned_is_seen w s p n c.view c.other c.known c.keeps in
    let logged = (s.holds p).logged c.top c.row c.seen c.has c.forward moment
    (record { from = omega (arith, base, low); to = omega (arith, covers, between, high) }) in
    (inr logged, omega (arith, cleaned, low))

pub forwarder_logs : (w : Net) → Sound w → ForwarderLogs w
forwarder_logs w s n v u view has forward = (s.holds n).logged v u view has forward

pub logged_once : (w : Net) → Sound w → LoggedOnce w
logged_once w s n v moment is logs =
    let fresh = (s.holds n).fresh moment logs in
    let covers = (s.holds n).covers v is in
    omega (arith, fresh, covers)

pub logs_are_committed : (w : Net) → Sound w → LogsAreCommitted w
logs_are_committed w s n moment logs =
    let fresh = (s.holds n).fresh moment logs in
    let below = moment_up_to (w.nodes n).progress w.stream in
    let bound = s.bound in
    omega (arith, fresh, below, bound)

-- ---- copies

pub copy_finds : (w : Net) → Sound w → CopyFinds w
copy_finds w s n a other far keeps = record {
  row = (found.0, (subst (λ j. row w.start j (heard w p) ≡ Some found.0) same found.1.0, found.1.1.forward));
  view = (based.view, subst (λ j. (w.nodes j).view ≡ Some based.view) same based.is);
}
  where
    p : ℕ
    p = a.known.provider

    mark : a.row.mark ≤ (w.nodes n).progress + 1
    mark =
        let made = a.made in
        elim (cases_lt a.row.made a.row.mark) [
          | inl less ↦ let confirmed = s.marked n a.row a.has less in absurd (omega (arith, confirmed, made))
          | inr most ↦ omega (arith, most, made)
        ]

    -- the row is the same from here on
    at_next : row w.start n (Enable n ∷ heard w n) ≡ Some a.row
    at_next = ap (row w.start n) (sym a.next.next) ∙
        since_mark w.start n ((w.nodes n).progress + 1) w.stream a.row a.has mark

    same : a.row.provider ≡ p
    same = sym (ap (λ (x : Subscription). x.provider)
        (same_Some (readied (length (heard w n) + 1) a.known) a.row (sym (row_enabled w n a.known a.is) ∙ at_next)))

    then_row : row w.start n (heard w p) ≡ Some a.row
    then_row = since_mark w.start n (w.nodes p).progress w.stream a.row a.has (omega (arith, mark, far))

    provides : Provides w.start (heard w p) a.row.provider a.row.cut (w.nodes a.row.provider)
    provides = s.provided (w.nodes p).progress (s.behind p) n a.row then_row (λ is. other (sym same ∙ is))

    found : (x : Subscription) ×
        ((row w.start a.row.provider (heard w p) ≡ Some x) × IsForwarder x (w.nodes a.row.provider))
    found = provides.forwards

    based : IsBased (w.nodes a.row.provider) a.row.cut
    based =
        let l = length_up_to (w.nodes p).progress w.stream (s.behind p) in
        let progress = ap (λ j. (w.nodes j).progress) same in
        provides.serves (ap (λ j. (w.nodes j).gave_up) same ∙ keeps) (omega (arith, l, progress))

-- the beginning is the same, and the stream begins with the old one
pub record Continues (w x : Net) : Type 0 where
  pub start : x.start ≡ w.start
  pub longer : length w.stream ≤ length x.stream
  pub same : up_to (length w.stream) x.stream ≡ w.stream

still : (w x : Net) → x.start ≡ w.start → x.stream ≡ w.stream → Continues w x
still w x start stream = record {
  start = start;
  longer = let lengths = ap length stream in omega (arith, lengths);
  same = ap (up_to (length w.stream)) stream ∙ up_to_whole w.stream;
}

grows_step : (w x : Net) → Step w x → Continues w x
grows_step w x (Emits e may is) = subst (Continues w) (sym is) (record {
  start = refl;
  longer = omega arith;
  same = up_to_old (length w.stream) e w.stream (omega arith) ∙ up_to_whole w.stream;
})
grows_step w x (Commits here is) = still w x (ap (λ (y : Net). y.start) is) (ap (λ (y : Net). y.stream) is)
grows_step w x (Ticks is) = still w x (ap (λ (y : Net). y.start) is) (ap (λ (y : Net). y.stream) is)
grows_step w x (Applies k next is) = still w x (ap (λ (y : Net). y.start) is) (ap (λ (y : Net). y.stream) is)
grows_step w x (GivesUp k is) = still w x (ap (λ (y : Net). y.start) is) (ap (λ (y : Net). y.stream) is)
grows_step w x (Bars k r is) = still w x (ap (λ (y : Net). y.start) is) (ap (λ (y : Net). y.stream) is)
grows_step w x (Cleans k j within confirmed is) =
    still w x (ap (λ (y : Net). y.start) is) (ap (λ (y : Net). y.stream) is)

pub grows : (w x : Net) → Leads w x → Continues w x
grows w x Here = still w w refl refl
grows w x (More {u = u} leads step) =
    let one = grows w u leads in
    let two = grows_step u x step in
    let first = one.longer in
    let then = two.longer in
    record {
      start = two.start ∙ one.start;
      longer = omega (arith, first, then);
      same = sym (up_to_both (length w.stream) (length u.stream) x.stream first) ∙
          (ap (up_to (length w.stream)) two.same ∙ one.same);
    }

pub gone_stays : GoneStays
gone_stays w x leads = record {
  longer = g.longer;
  same = g.same;
  gone = λ n q within gone u has ready made.
      let old = since_made x.start n (length w.stream) x.stream u has ready (omega (arith, made, within)) in
      let here = ap (λ start. row start n w.stream) (sym g.start) ∙ (ap (row x.start n) (sym g.same) ∙ old.is) in
      gone old.row here old.holds (old.same ∙ made);
}
  where
    g : Continues w x
    g = grows w x leads

pub active_has_view : (w : Net) → Sound w → ActiveHasView w
active_has_view w s n u has ready made keeps = s.active n u keeps has ready made

-- ---- an era ends by a move

pub move_loses_nothing : (w : Net) → Sound w → MoveLosesNothing w
move_loses_nothing w s = s.closed

pub move_is_whole : (w : Net) → Sound w → MoveIsWhole w
move_is_whole w s n v before p view =
    let last : w.full ≤ last_moment before = s.moved p.number p.within before p.is in
    let here : last_moment before ≤ last_moment (up_to p.number w.stream) =
    subst (λ z. last_moment before ≤ last_moment z) (sym p.is) (omega arith) in
    let between = moment_between p.number (w.nodes n).progress w.stream p.past in
    let covers = (s.holds n).covers v view in
    omega (arith, last, here, between, covers)

pub move_keeps_row : (w : Net) → Sound w → MoveKeepsRow w
move_keeps_row w s n v before p view = (mine.0, (earlier ∙ mine.1.0, now ∙ (earlier ∙ mine.1.0)))
  where
    mine : (u : Subscription) × ((row w.start n (heard w n) ≡ Some u) × (u.ready ≡ true))
    mine = (s.holds n).rowed v view

    -- by the events before, and by what n has applied
    earlier : row w.start n before ≡ row w.start n (heard w n)
    earlier =
        let prefix = up_to_both p.number (w.nodes n).progress w.stream p.past in
        let frozen = s.frozen (w.nodes n).progress (s.behind n) n p.number before (prefix ∙ p.is) in
        ap (row w.start n) (sym p.is) ∙ (ap (row w.start n) (sym prefix) ∙ sym frozen)

    now : owned w n ≡ row w.start n before
    now =
        let all = up_to_whole w.stream in
        let frozen = s.frozen (length w.stream) (omega arith) n p.number before (ap (up_to p.number) all ∙ p.is) in
        ap (row w.start n) (sym all) ∙
        (frozen ∙ (ap (λ z. row w.start n (up_to p.number z)) all ∙ ap (row w.start n) p.is))

pub move_begins : (w : Net) → Sound w → MoveBegins w
move_begins w s settled y = (forwards, viewed)
  where
    viewed : (n : ℕ) (u : Subscription) → owned w n ≡ Some u → (w.nodes n).gave_up ≡ false → IsViewed (w.nodes n)
    viewed n u has keeps =
        let confirmed = (settled n u has).1 in
        let order = (numbered w.start n w.stream u has).made in
        s.active n u keeps has (settled n u has).0 (omega (arith, confirmed, order))

    -- the provider of a row forwards at the origin
    IsForwarding : ℕ → Type 0
    IsForwarding p = (t : Subscription) × ((owned w p ≡ Some t) × (t.forward ≡ true))

    all_now : (n : ℕ) (u : Subscription) → owned w n ≡ Some u → (u.provider ≡ w.origin → ⊥) → IsForwarding u.provider
    all_now n u has other =
        let whole = up_to_whole w.stream in
        let forwards =
        (s.provided (length w.stream) (omega arith) n u (ap (row w.start n) whole ∙ has) other).forwards in
        (forwards.0, (ap (row w.start u.provider) (sym whole) ∙ forwards.1.0, forwards.1.1.forward))

    of_provider : (p : ℕ) → (p ≡ y → ⊥) → ((p ≡ w.origin → ⊥) → IsForwarding p) → DoesForward (moved_rows w y) p
    of_provider p not row_of = elim (cases_eq p w.origin) [
      | inl is ↦
          let first = cond-true (p == w.origin) (Some (y, true)) (pair_of (owned w p)) (eq-eqb p w.origin is) in
          ((y, true), (not_new ∙ first, refl))
      | inr other ↦
          let found = row_of other in
          let own = cond-false (p == w.origin) (Some (y, true)) (pair_of (owned w p)) (ne_eqb p w.origin other) in
          ((found.0.provider, found.0.forward), (not_new ∙ (own ∙ ap pair_of found.1.0), found.1.1))
    ]
      where
        not_new : moved_rows w y p ≡ cond (p == w.origin) (Some (y, true)) (pair_of (owned w p))
        not_new = cond-false (p == y) None _ (ne_eqb p y not)

    from_row : (n : ℕ) (r : ℕ × Bool) (o : Option Subscription) → owned w n ≡ o → pair_of o ≡ Some r →
        (r.0 ≡ y → ⊥) → DoesForward (moved_rows w y) r.0
    from_row n r None has is not = absurd cc
    from_row n r (Some u) has is not =
        let same = ap (λ (x : ℕ × Bool). x.0) (same_Some (u.provider, u.forward) r is) in
        subst (DoesForward (moved_rows w y)) same
        (of_provider u.provider (λ is_y. not (sym same ∙ is_y)) (all_now n u has))

    forwards : AllForward y (moved_rows w y)
    forwards n r is not = elim (n == y) as (λ b. Forwards (cond b None other)) [
      | true ↦ λ none. absurd cc
      | false ↦ elim (n == w.origin) as (λ b. Forwards (cond b (Some (y, true)) (pair_of (owned w n)))) [
        | true ↦ λ first. absurd (not (sym (ap (λ (x : ℕ × Bool). x.0) (same_Some (y, true) r first))))
        | false ↦ λ old. from_row n r (owned w n) refl old not
      ]
    ] is
      where
        other : Option (ℕ × Bool)
        other = cond (n == w.origin) (Some (y, true)) (pair_of (owned w n))

        Forwards : Option (ℕ × Bool) → Type 0
        Forwards o = o ≡ Some r → DoesForward (moved_rows w y) r.0

-- ---- an era ends by a failover

pub failover_begins : (w : Net) → Sound w → FailoverBegins w
failover_begins w s b keeps n r is not = elim (keeps n)
    as (λ c. Forwards (cond c (failed_row w.origin b keeps (configured w b n)) None)) [
      | true ↦ λ has. from_row (configured w b n) refl has
      | false ↦ λ none. absurd cc
    ] is
  where
    Goal : ℕ → Type 0
    Goal p = DoesForward (failed_rows w b keeps) p

    Forwards : Option (ℕ × Bool) → Type 0
    Forwards o = o ≡ Some r → Goal r.0

    of_provider : (u : Subscription) → configured w b n ≡ Some u → (u.provider ≡ w.origin → ⊥) →
        keeps u.provider ≡ true → Goal u.provider
    of_provider u has other kept =
        let found = (s.provided (w.nodes b).progress (s.behind b) n u has other).forwards in
        let own = cond-true (keeps u.provider) (failed_row w.origin b keeps (configured w b u.provider)) None kept in (
          (failed_provider w.origin b keeps found.0.provider, found.0.forward),
          (own ∙ ap (failed_row w.origin b keeps) found.1.0, found.1.1.forward),
        )

    -- the provider that is given, where that is not the backup
    given : (u : Subscription) → configured w b n ≡ Some u → (failed_provider w.origin b keeps u.provider ≡ b → ⊥) →
        Goal (failed_provider w.origin b keeps u.provider)
    given u has differs = elim (cases_eq u.provider w.origin) [
      | inl origin ↦
          absurd (differs (cond-true (u.provider == w.origin) b _ (eq-eqb u.provider w.origin origin)))
      | inr other ↦
          let own = cond-false (u.provider == w.origin) b (cond (keeps u.provider) u.provider b)
          (ne_eqb u.provider w.origin other) in
          elim (cases_Bool (keeps u.provider)) [
            | inl kept ↦
                subst Goal (sym (own ∙ cond-true (keeps u.provider) u.provider b kept)) (of_provider u has other kept)
            | inr lost ↦ absurd (differs (own ∙ cond-false (keeps u.provider) u.provider b lost))
          ]
    ]

    from_row : (o : Option Subscription) → configured w b n ≡ o → failed_row w.origin b keeps o ≡ Some r → Goal r.0
    from_row None has none = absurd cc
    from_row (Some u) has some =
        let same = ap (λ (x : ℕ × Bool). x.0)
        (same_Some (failed_provider w.origin b keeps u.provider, u.forward) r some) in
        subst Goal same (given u has (λ is_b. not (sym same ∙ is_b)))

pub takeover_is_whole : (w : Net) → Sound w → TakeoverIsWhole w
takeover_is_whole w s n b a far base =
    let most = a.below in
    let covers = (s.holds n).covers a.view a.keeps in
    let between = moment_between (w.nodes b).progress (w.nodes n).progress w.stream far in
    elim ((s.holds b).came a.top a.backup) [
      | inl copy ↦ omega (arith, copy, base, most)
      | inr seen ↦ omega (arith, seen, covers, between, most)
    ]

pub takeover_stays_below : (w : Net) → Sound w → TakeoverStaysBelow w
takeover_stays_below w s n b m a next less =
    let most = a.below in
    let covers = (s.holds b).covers a.top a.backup in
    let between = moment_between ((w.nodes n).progress + 1) (w.nodes b).progress w.stream (omega (arith, less)) in
    let here : m ≤ last_moment (up_to ((w.nodes n).progress + 1) w.stream) =
    subst (λ z. m ≤ last_moment z) (sym next.next) (omega arith) in
    omega (arith, covers, between, here, most)

pub kept_keeps_view : (w : Net) → Sound w → KeptKeepsView w
kept_keeps_view w s n b next listed less viewed = by next.turn
  where
    after : row w.start n (next.event ∷ heard w n) ≡ Some listed.row
    after =
        let mark = listed.mark in
        let prefix = up_to_both ((w.nodes n).progress + 1) (w.nodes b).progress w.stream (omega (arith, less)) in
        ap (row w.start n) (sym next.comes.next) ∙ (ap (row w.start n) (sym prefix) ∙
        since_mark w.start n ((w.nodes n).progress + 1) (heard w b) listed.row listed.has (omega (arith, mark)))

    by : Turn w n next.event next.node → IsViewed next.node
    by (Passes why is) = subst IsViewed (sym is) viewed
    by (Syncs m v t event old own is) = subst IsViewed (sym is) (max v m, refl)
    by (Turns p v f t event old own is) = subst IsViewed (sym is) viewed
    by (Copies v t event own low high is) = subst IsViewed (sym is) (v, refl)
    by (Skips event gone is) = subst IsViewed (sym is) viewed
    by (Leaves ends is) =
        not_both (row w.start n (next.event ∷ heard w n)) listed.row (row_ends w n next.event ends) after
