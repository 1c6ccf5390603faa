-- Events that arrive twice are there already the second time.
use Rattle.std.proofs.Common.{◌≡◌, ◌∙◌, ◌≤◌, ℕ, ◌==◌, Bool, true, false, cond, List, [], ◌∷◌, ◌++◌, refl, sym, ap}
use Rattle.std.proofs.Common.{subst}
use Rattle.std.proofs.Common.{arith}
use Rattle.std.specs.Prelude.{nat_lt}
use Rattle.std.proofs.lemmas.Bool.{ltb-true, ltb-false, le-ltb}
use Rattle.slon_model.specs.Maps.{Map}
use Rattle.slon_model.specs.Events.{Event}
use Rattle.slon_model.specs.Sessions.{Memory}
use Rattle.slon_model.specs.Polls.{last_number, lined, line_of, queued, all_queued, queue_at, with_queue}
use Rattle.set_config.proofs.Entries.{eq_of, self_eq}
use Rattle.event_store.specs.declared.queue.Queue.{Queue}
use Rattle.remote_listener.proofs.Lines.{line_with}
use Rattle.slon_turns.specs.Polling.{Waits}
use Rattle.slon_turns.proofs.Waiting.{queue_here}

abbrev Lines : Type 0
Lines = Map (List Event)

abbrev last_of : ℕ → Lines → ℕ
last_of origin lines = last_number (line_of origin lines)

-- ---- an event that was put

last_behind : (es : List Event) (e : Event) → last_number (es ++ e ∷ []) ≡ e.number
last_behind [] e = refl
last_behind (x ∷ []) e = refl
last_behind (x ∷ y ∷ es) e = last_behind (y ∷ es) e

lined_rises : (e : Event) (es : List Event) →
    (last_number es ≤ last_number (lined e es)) × (e.number ≤ last_number (lined e es))
lined_rises e es = by (nat_lt (last_number es) e.number) refl
  where
    by : (b : Bool) → nat_lt (last_number es) e.number ≡ b →
        (last_number es ≤ last_number (cond b (es ++ e ∷ []) es))
        × (e.number ≤ last_number (cond b (es ++ e ∷ []) es))
    by true is =
        let less = ltb-true (last_number es) e.number is in
        let last = last_behind es e in
        (omega (arith, less, last), omega (arith, last))
    by false is =
        let most = ltb-false (last_number es) e.number is in
        (omega arith, omega (arith, most))

put_rises : (origin : ℕ) (e : Event) (lines : Lines) → last_of origin lines ≤ last_of origin (queued e lines)
put_rises origin e lines =
    subst (λ es. last_of origin lines ≤ last_number es)
    (sym (line_with origin e.origin (lined e (line_of e.origin lines)) lines)) (by (origin == e.origin) refl)
  where
    by : (b : Bool) → (origin == e.origin) ≡ b →
        last_of origin lines ≤ last_number (cond b (lined e (line_of e.origin lines)) (line_of origin lines))
    by true same =
        subst (λ o. last_of o lines ≤ last_number (lined e (line_of e.origin lines))) (sym (eq_of origin e.origin same))
        (lined_rises e (line_of e.origin lines)).0
    by false other = omega arith

put_has : (e : Event) (lines : Lines) → e.number ≤ last_of e.origin (queued e lines)
put_has e lines =
    subst (λ es. e.number ≤ last_number es)
    (sym (line_with e.origin e.origin (lined e (line_of e.origin lines)) lines
    ∙ ap (λ b. cond b (lined e (line_of e.origin lines)) (line_of e.origin lines)) (self_eq e.origin)))
    (lined_rises e (line_of e.origin lines)).1

all_rise : (origin : ℕ) (es : List Event) (lines : Lines) → last_of origin lines ≤ last_of origin (all_queued es lines)
all_rise origin [] lines = omega arith
all_rise origin (e ∷ es) lines =
    let one = put_rises origin e lines in
    let more = all_rise origin es (queued e lines) in
    omega (arith, one, more)

-- ---- events that are there

abbrev HaveAll : List Event → Lines → Type 0
HaveAll [] lines = Unit {0}
HaveAll (e ∷ es) lines = (e.number ≤ last_of e.origin lines) × HaveAll es lines

all_have : (es : List Event) (lines : Lines) → HaveAll es (all_queued es lines)
all_have [] lines = tt
all_have (e ∷ es) lines =
    let one = put_has e lines in
    let more = all_rise e.origin es (queued e lines) in
    (omega (arith, one, more), all_have es (queued e lines))

have_as : (es : List Event) (lines other : Lines) → ((origin : ℕ) → line_of origin other ≡ line_of origin lines) →
    HaveAll es lines → HaveAll es other
have_as [] lines other same have = tt
have_as (e ∷ es) lines other same have =
    (subst (λ l. e.number ≤ last_number l) (sym (same e.origin)) have.0, have_as es lines other same have.1)

put_stays : (e : Event) (lines : Lines) → e.number ≤ last_of e.origin lines → (origin : ℕ) →
    line_of origin (queued e lines) ≡ line_of origin lines
put_stays e lines has origin =
    line_with origin e.origin (lined e (line_of e.origin lines)) lines ∙ by (origin == e.origin) refl
  where
    there : lined e (line_of e.origin lines) ≡ line_of e.origin lines
    there = ap (λ b. cond b (line_of e.origin lines ++ e ∷ []) (line_of e.origin lines))
        (le-ltb (last_of e.origin lines) e.number has)

    by : (b : Bool) → (origin == e.origin) ≡ b →
        cond b (lined e (line_of e.origin lines)) (line_of origin lines) ≡ line_of origin lines
    by true same = there ∙ ap (λ o. line_of o lines) (sym (eq_of origin e.origin same))
    by false other = refl

all_stay : (es : List Event) (lines : Lines) → HaveAll es lines → (origin : ℕ) →
    line_of origin (all_queued es lines) ≡ line_of origin lines
all_stay [] lines have origin = refl
all_stay (e ∷ es) lines have origin =
    let same = put_stays e lines have.0 in
    all_stay es (queued e lines) (have_as es lines (queued e lines) same have.1) origin ∙ same origin

-- ---- a delivery

-- what waits behind one delivery waits behind two
pub twice_waits : (name : List ℕ) (es : List Event) (m : Memory) (queue : Queue) →
    let once = with_queue name (all_queued es (queue_at name m)) m in
    Waits name once queue → Waits name (with_queue name (all_queued es (queue_at name once)) once) queue
twice_waits name es m queue waits origin =
    let lines = all_queued es (queue_at name m) in
    let once = with_queue name lines m in
    waits origin ∙ ap (line_of origin) (queue_here name lines m)
    ∙ sym (ap (line_of origin) (queue_here name (all_queued es (queue_at name once)) once)
    ∙ ap (λ l. line_of origin (all_queued es l)) (queue_here name lines m)
    ∙ all_stay es lines (all_have es (queue_at name m)) origin)
