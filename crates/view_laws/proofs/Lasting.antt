-- What lasts behind the events of a stream: between one that opens and one behind which nothing lasts stands one that
-- closes.
use Rattle.std.proofs.Common.{◌≡◌, ◌⊎◌, inl, inr, ℕ, ◌<◌, Bool, true, false, List, [], ◌∷◌, ◌++◌, refl, sym, ap, subst}
use Rattle.std.proofs.Common.{◌∙◌, arith, not}
use Rattle.std.specs.Prelude.{◌&&◌, ◌||◌, ◌==◌}
use Rattle.std.proofs.lemmas.Bool.{false≢true, true≢false, or_cases, or_left, or_right, or_parts, and_from, and_parts}
use Rattle.std.proofs.lemmas.Bool.{eqb-true}
use Rattle.node_rows.specs.declared.body.Body.{Body}
use Rattle.node_rows.specs.declared.body.Body.TheVariants.{EnableSubscription, SetAddTable}
use Rattle.slon_model.specs.Events.{Event}
use Rattle.stream_laws.specs.Nodes.{IsAmong}
use Rattle.stream_laws.specs.Making.{AreEmitted as AreNumbered}
use Rattle.stream_laws.proofs.Streams.{Found, among_earlier, among_found, number_within}
use Rattle.view_laws.specs.Known.{AreOnce, AreUnfed, IsOnce, IsUnfed, enables, is_enabled, is_fed, is_on_feed, lasts}
use Rattle.view_laws.specs.Known.{adds, leaves, subscribes}

-- what lasts was opened
pub lasts_from : (opens closes : Body → Bool) (es : List Event) → lasts opens closes es ≡ true →
    (e : Event) × IsAmong e es × (opens e.body ≡ true)
lasts_from opens closes [] is = absurd (false≢true is)
lasts_from opens closes (e ∷ es) is =
    by (or_cases (opens e.body) (not (closes e.body) && lasts opens closes es) is) (lasts_from opens closes es)
  where
    by : (opens e.body ≡ true) ⊎ ((not (closes e.body) && lasts opens closes es) ≡ true) →
        (lasts opens closes es ≡ true → (f : Event) × IsAmong f es × (opens f.body ≡ true)) →
        (f : Event) × IsAmong f (e ∷ es) × (opens f.body ≡ true)
    by (inl here) rest = (e, inl refl, here)
    by (inr later) rest =
        let there = rest (and_parts (not (closes e.body)) (lasts opens closes es) later).1 in
        (there.0, inr there.1, there.2)

-- where more opens, more lasts
pub lasts_more : (one other closes : Body → Bool) → ((body : Body) → one body ≡ true → other body ≡ true) →
    (es : List Event) → lasts one closes es ≡ true → lasts other closes es ≡ true
lasts_more one other closes more [] is = is
lasts_more one other closes more (e ∷ es) is =
    by (or_cases (one e.body) (not (closes e.body) && lasts one closes es) is) (lasts_more one other closes more es)
  where
    by : (one e.body ≡ true) ⊎ ((not (closes e.body) && lasts one closes es) ≡ true) →
        (lasts one closes es ≡ true → lasts other closes es ≡ true) →
        (other e.body || (not (closes e.body) && lasts other closes es)) ≡ true
    by (inl here) rest = or_left (other e.body) _ (more e.body here)
    by (inr later) rest =
        let parts = and_parts (not (closes e.body)) (lasts one closes es) later in
        or_right (other e.body) _ (and_from (not (closes e.body)) (lasts other closes es) parts.0 (rest parts.1))

-- An event of a list that closes what another one opened.
pub record Closed (closes : Body → Bool) (es : List Event) (opened : Event) : Type 0 where
  pub event : Event
  pub among : IsAmong event es
  pub done : closes event.body ≡ true
  pub later : opened.number < event.number

abbrev closed_more : (closes : Body → Bool) (more es : List Event) (a : Event) → (c : Closed closes es a) →
    IsAmong c.event more → Closed closes more a
closed_more closes more es a c among =
    record { event = c.event; among = among; done = c.done; later = c.later }

-- what was opened and lasts no more was closed
pub lasts_no_more : (opens closes : Body → Bool) (own : ℕ) (es : List Event) (a : Event) → AreNumbered own es →
    IsAmong a es × (opens a.body ≡ true) → lasts opens closes es ≡ false → Closed closes es a
lasts_no_more opens closes own [] a are (among, opened) over = absurd among
lasts_no_more opens closes own (e ∷ es) a are (inl is, opened) over =
    absurd (true≢false (sym opened ∙ ap (λ (f : Event). opens f.body) is
    ∙ (or_parts (opens e.body) (not (closes e.body) && lasts opens closes es) over).0))
lasts_no_more opens closes own (e ∷ es) a are (inr later, opened) over =
    by (closes e.body) refl (or_parts (opens e.body) (not (closes e.body) && lasts opens closes es) over).1
    (lasts_no_more opens closes own es a are.3 (later, opened))
  where
    by : (b : Bool) → closes e.body ≡ b → (not b && lasts opens closes es) ≡ false →
        (lasts opens closes es ≡ false → Closed closes es a) → Closed closes (e ∷ es) a
    by true here none rest = record {
      event = e;
      among = inl refl;
      done = here;
      later = let within = number_within own es a are.3 later in
          let number = are.1 in
          omega (arith, within.1, number);
    }
    by false stays none rest = let c = rest none in closed_more closes (e ∷ es) es a c (inr c.among)

-- ---- between two events

-- Of numbered events, two of which one comes before the other.
pub record Ordered (own : ℕ) (es : List Event) : Type 0 where
  pub first : Event
  pub second : Event
  pub are : AreNumbered own es
  pub among : IsAmong first es
  pub behind : IsAmong second es
  pub before : first.number < second.number

-- One event closes what an event opened, before another event.
pub record Between (closes : Body → Bool) (es : List Event) (a b : Event) : Type 0 where
  pub closed : Closed closes es a
  pub earlier : closed.event.number < b.number

-- nothing lasts where the second one is, so that the first one was closed before
closed_between : (opens closes : Body → Bool) (own : ℕ) (es : List Event) (p : Ordered own es) →
    opens p.first.body ≡ true → (f : Found own es p.second) → lasts opens closes f.earlier ≡ false →
    Between closes es p.first p.second
closed_between opens closes own es p opened f over = record {
  closed = let among = subst (IsAmong c.event) (sym f.all) (behind f.later c.event c.among) in
      closed_more closes es f.earlier p.first c among;
  earlier = let within = number_within own f.earlier c.event f.are.3 c.among in
      let number = f.are.1 in
      omega (arith, within.1, number);
}
  where
    behind : (later : List Event) (x : Event) → IsAmong x f.earlier → IsAmong x (later ++ p.second ∷ f.earlier)
    behind [] x is = inr is
    behind (e ∷ later) x is = inr (behind later x is)

    there : IsAmong p.first (p.second ∷ f.earlier)
    there =
        among_earlier own f.later (p.second ∷ f.earlier) p.first (subst (AreNumbered own) f.all p.are)
        (subst (IsAmong p.first) f.all p.among)
        (let number = f.are.1 in let before = p.before in omega (arith, number, before))

    c : Closed closes f.earlier p.first
    c = lasts_no_more opens closes own f.earlier p.first f.are.3 (first there, opened) over
      where
        first : IsAmong p.first (p.second ∷ f.earlier) → IsAmong p.first f.earlier
        first (inl same) =
            let at = ap (λ (e : Event). e.number) same in let before = p.before in absurd (omega (arith, at, before))
        first (inr later) = later

-- ---- what holds of the events before one

pub both_same : (q a r b : ℕ) → (q == a && r == b) ≡ true → (q ≡ a) × (r ≡ b)
both_same q a r b is = let parts = and_parts (q == a) (r == b) is in (eqb-true q a parts.0, eqb-true r b parts.1)

once_at : (later : List Event) (e : Event) (earlier : List Event) → AreOnce (later ++ e ∷ earlier) →
    IsOnce earlier e.body
once_at [] e earlier once = once.0
once_at (f ∷ later) e earlier once = once_at later e earlier once.1

unfed_at : (later : List Event) (e : Event) (earlier : List Event) → AreUnfed (later ++ e ∷ earlier) →
    IsUnfed earlier e.body
unfed_at [] e earlier unfed = unfed.0
unfed_at (f ∷ later) e earlier unfed = unfed_at later e earlier unfed.1

none_enabled : (set node : ℕ) (earlier : List Event) (body : Body) → enables set node body ≡ true →
    IsOnce earlier body → is_enabled set node earlier ≡ false
none_enabled set node earlier (EnableSubscription id provider receiver forward era) is once =
    let same = both_same id set receiver node is in
    subst (λ i. is_enabled i node earlier ≡ false) same.0 (subst (λ r. is_enabled id r earlier ≡ false) same.1 once)
none_enabled set node earlier others is once = absurd (false≢true is)

none_fed : (set node : ℕ) (earlier : List Event) (body : Body) → adds set body ≡ true → IsUnfed earlier body →
    is_fed set node earlier ≡ false
none_fed set node earlier (SetAddTable id table name comment) is unfed =
    subst (λ i. is_fed i node earlier ≡ false) (eqb-true id set is) (unfed node)
none_fed set node earlier others is unfed = absurd (false≢true is)

-- who is told again to copy a set gave it up before
pub left_again : (set node own : ℕ) (es : List Event) (p : Ordered own es) → AreOnce es →
    (enables set node p.first.body ≡ true) × (enables set node p.second.body ≡ true) →
    Between (leaves set node) es p.first p.second
left_again set node own es p once on =
    let f = among_found own es p.second p.are p.behind in
    closed_between (enables set node) (leaves set node) own es p on.0 f
    (none_enabled set node f.earlier p.second.body on.1
    (once_at f.later p.second f.earlier (subst AreOnce f.all once)))

pub enabled_on : (set node : ℕ) (body : Body) → enables set node body ≡ true → is_on_feed set node body ≡ true
enabled_on set node body is = or_right (subscribes set node body) (enables set node body) is

-- before a table comes into a set, each receiver gave it up
pub left_before : (set node own : ℕ) (es : List Event) (p : Ordered own es) → AreUnfed es →
    (enables set node p.first.body ≡ true) × (adds set p.second.body ≡ true) →
    Between (leaves set node) es p.first p.second
left_before set node own es p unfed on =
    let f = among_found own es p.second p.are p.behind in
    closed_between (is_on_feed set node) (leaves set node) own es p (enabled_on set node p.first.body on.0) f
    (none_fed set node f.earlier p.second.body on.1
    (unfed_at f.later p.second f.earlier (subst AreUnfed f.all unfed)))
