-- Lines of events, and a queue of them by origins.
use Rattle.std.proofs.Common.{◌≡◌, ℕ, zero, suc, ◌<◌, ◌≤◌, ◌+◌, Bool, true, false, cond, ◌==◌, if◌then◌else◌, refl}
use Rattle.std.proofs.Common.{List, [], ◌∷◌, ◌++◌, length, get_or, nat_lt, Option, Some, None, Result, Ok, Err, OnOk}
use Rattle.std.proofs.Common.{OnErr, IfOk, filter, is_ok, map, sym, ap, ◌∙◌, subst, arith, ⊎_elim, IsSome, Bor}
use Rattle.std.specs.List.{find, slice_get, HoldsAt, AllByRecursion}
use Rattle.std.specs.Option.{option_copied}
use Rattle.std.specs.Slice.{IsItemAt}
use Rattle.std.specs.List.Sorted.{IsNonDecreasingBy, IsPartitionPoint}
use Rattle.std.specs.declared.alloc.Global.{Global}
use Rattle.std.specs.declared.cmp.Ordering.TheVariants.{Less, Equal, Greater}
use Rattle.std.specs.declared.collections.VecDeque.{VecDeque}
use Rattle.std.specs.Ordering.{is_eq, is_lt, nat_cmp, ordering_index}
use Rattle.std.specs.Cmp.{unsigned_tied}
use Rattle.std.specs.Map.{lookup}
use Rattle.std.specs.BTreeMap.{UpdatesBy, WritesThrough, get, get_by}
use Rattle.std.proofs.lemmas.Bool.{and_parts, and_from, cond_both, ltb-true, lt-ltb, le-ltb, eqb-true, eq-eqb, ne_eqb}
use Rattle.std.proofs.lemmas.Bool.{cases_lt}
use Rattle.std.proofs.lemmas.Cmp.{nat_cmp_total, ranked}
use Rattle.std.proofs.lemmas.Option.{slice_get_past, slice_get-get_or}
use Rattle.std.proofs.lemmas.List.Sorted.{searchable_from_sorted}
use Rattle.slon_model.specs.Snapshots.{Rising}
use Rattle.event_store.specs.Lines.{LineMap, AreLines, events_in, line_at, is_line, are_rising, are_of, newest}
use Rattle.event_store.specs.Lines.{is_above, with_event}
use Rattle.event_store.specs.Queueing.{waiting}
use Rattle.event_store.specs.declared.event.Event.{Event}
use Rattle.event_store.specs.declared.queue.Queue.{Queue}

-- ---- numbers that rise

first_of : (n : ℕ) (e : Event) (es : List Event) → are_rising n (e ∷ es) ≡ true → n < e.number
first_of n e es rising = ltb-true n e.number (and_parts (nat_lt n e.number) (are_rising e.number es) rising).0

behind_of : (n : ℕ) (e : Event) (es : List Event) → are_rising n (e ∷ es) ≡ true → are_rising e.number es ≡ true
behind_of n e es rising = (and_parts (nat_lt n e.number) (are_rising e.number es) rising).1

rising_from : (m n : ℕ) (es : List Event) → m ≤ n → are_rising n es ≡ true → are_rising m es ≡ true
rising_from m n [] less rising = refl
rising_from m n (e ∷ es) less rising =
    and_from (nat_lt m e.number) (are_rising e.number es)
    (lt-ltb m e.number (omega (arith, less, first_of n e es rising))) (behind_of n e es rising)

above_at : (n : ℕ) (es : List Event) (k : ℕ) (d : Event) → are_rising n es ≡ true → k < length es →
    n < (get_or es k d).number
above_at n [] k d rising within = absurd (omega (arith, within))
above_at n (e ∷ es) zero d rising within = first_of n e es rising
above_at n (e ∷ es) (suc k) d rising within =
    let above = above_at e.number es k d (behind_of n e es rising) (omega (arith, within)) in
    omega (arith, above, first_of n e es rising)

next_above : (n : ℕ) (es : List Event) (k : ℕ) (d : Event) → are_rising n es ≡ true → suc k < length es →
    (get_or es k d).number < (get_or es (suc k) d).number
next_above n [] k d rising within = absurd (omega (arith, within))
next_above n (e ∷ es) zero d rising within = above_at e.number es 0 d (behind_of n e es rising) (omega (arith, within))
next_above n (e ∷ es) (suc k) d rising within =
    next_above e.number es k d (behind_of n e es rising) (omega (arith, within))

-- the numbers of what waits rise
pub rising_numbers : (n : ℕ) (es : List Event) → are_rising n es ≡ true →
    AllByRecursion (λ y. n < y) (map (λ (e : Event). e.number) es) × Rising (map (λ (e : Event). e.number) es)
rising_numbers n [] rising = (tt, tt)
rising_numbers n (e ∷ es) rising =
    let behind = rising_numbers e.number es (behind_of n e es rising) in
    let first = first_of n e es rising in
    ((first, higher _ first behind.0), behind)
  where
    higher : {m k : ℕ} (ns : List ℕ) → m < k → AllByRecursion (λ y. k < y) ns → AllByRecursion (λ y. m < y) ns
    higher [] less above = tt
    higher (x ∷ ns) less above = (omega (arith, less, above.0), higher ns less above.1)

-- ---- an event is found

sorted_by : (number : ℕ) (es : List Event) → are_rising 0 es ≡ true →
    IsNonDecreasingBy (λ (e : Event). ordering_index (nat_cmp e.number number)) es
sorted_by number es rising =
    searchable_from_sorted nat_cmp_total (λ (e : Event). e.number) es number (λ k d from within.
    let next : suc k ≡ k + 1 = omega arith in
    not_less (get_or es (k + 1) d).number (get_or es k d).number
    (subst (λ j. (get_or es k d).number < (get_or es j d).number) next
    (next_above 0 es k d rising (omega (arith, within)))))
  where
    not_less : (a b : ℕ) → b < a → is_lt (nat_cmp a b) ≡ false
    not_less a b less = ap (λ t. is_lt (cond t Less (cond (a == b) Equal Greater))) (le-ltb a b (omega (arith, less)))
        ∙ ap (λ t. is_lt (cond t Equal Greater)) (ne_eqb a b (λ same. omega (arith, less, same)))

-- where the search met it, it is the first with this number
pub found_at : (number n : ℕ) (es : List Event) (place : ℕ) → are_rising n es ≡ true → place < length es →
    HoldsAt (λ (e : Event). nat_cmp e.number number ≡ Equal) es place →
    slice_get es place ≡ find (λ (e : Event). e.number == number) es
found_at number n [] place rising within holds = absurd (omega (arith, within))
found_at number n (e ∷ es) zero rising within holds =
    sym (ap (λ b. cond b (Some e) (find (λ (e : Event). e.number == number) es))
    (eq-eqb e.number number (ranked e.number number Equal (sym (holds e)))))
found_at number n (e ∷ es) (suc place) rising within holds =
    let here : (get_or es place e).number ≡ number = ranked (get_or es place e).number number Equal (sym (holds e)) in
    let behind = behind_of n e es rising in
    let above = above_at e.number es place e behind (omega (arith, within)) in
    found_at number e.number es place behind (omega (arith, within)) holds
    ∙ sym (ap (λ b. cond b (Some e) (find (λ (e : Event). e.number == number) es))
    (ne_eqb e.number number (λ same. omega (arith, same, here, above))))

none_found : (number : ℕ) (es : List Event) →
    ((k : ℕ) (d : Event) → k < length es → (get_or es k d).number ≡ number → ⊥) →
    find (λ (e : Event). e.number == number) es ≡ None
none_found number [] differ = refl
none_found number (e ∷ es) differ =
    ap (λ b. cond b (Some e) (find (λ (e : Event). e.number == number) es))
    (ne_eqb e.number number (differ 0 e (omega arith)))
    ∙ none_found number es (λ k d within. differ (suc k) d (omega (arith, within)))

-- what is read at a place
pub got : (es : List Event) (place : ℕ) (r : Option (Bor Event)) → IsItemAt es place r →
    option_copied r ≡ slice_get es place
got es place None item = sym (slice_get_past es place item.3)
got es place (Some e) item = sym (slice_get-get_or es place e.now item.3.0 ∙ ap Some (sym (item.3.1 e.now)))

-- the search met none
pub found_none : (number : ℕ) (es : List Event) (place : ℕ) → are_rising 0 es ≡ true →
    (IsNonDecreasingBy (λ (e : Event). ordering_index (nat_cmp e.number number)) es →
    IsPartitionPoint (λ (e : Event). nat_cmp e.number number ≡ Less) (λ (e : Event). nat_cmp e.number number ≡ Greater)
    es place) → find (λ (e : Event). e.number == number) es ≡ None
found_none number es place rising parted = none_found number es (λ k d within same.
    let here = (get_or es k d).number in
    ⊎_elim
    (λ less. let below = ranked here number Less (sym ((parted (sorted_by number es rising)).0 k d (omega arith) less))
    in omega (arith, below, same))
    (λ more. let above = ranked here number Greater (sym ((parted (sorted_by number es rising)).1 k d more within))
    in omega (arith, above, same)) (cases_lt k place))

-- ---- the first events are dropped

abbrev pub dropped : ℕ → List Event → List Event
dropped number es = filter (λ (e : Event). nat_lt number e.number) es

-- all are above, and stay
none_dropped : (number n : ℕ) (es : List Event) → number ≤ n → are_rising n es ≡ true → dropped number es ≡ es
none_dropped number n [] less rising = refl
none_dropped number n (e ∷ es) less rising =
    let first = first_of n e es rising in
    ap (λ b. cond b (e ∷ dropped number es) (dropped number es)) (lt-ltb number e.number (omega (arith, less, first)))
    ∙ ap (λ (rest : List Event). e ∷ rest) (none_dropped number e.number es (omega (arith, less, first))
    (behind_of n e es rising))

-- the first is not, and goes
one_dropped : (number : ℕ) (e : Event) (es : List Event) → e.number ≤ number →
    dropped number (e ∷ es) ≡ dropped number es
one_dropped number e es less =
    ap (λ b. cond b (e ∷ dropped number es) (dropped number es)) (le-ltb number e.number less)

-- so the loop goes on with the rest
pub goes_on : (number : ℕ) (e : Event) (all rest : List Event) → all ≡ e ∷ rest → e.number ≤ number →
    are_rising 0 all ≡ true → (are_rising 0 rest ≡ true) × (dropped number rest ≡ dropped number all)
goes_on number e all rest is less rising =
    let here : are_rising 0 (e ∷ rest) ≡ true = ap (are_rising 0) (sym is) ∙ rising in (
      rising_from 0 e.number rest (omega arith) (behind_of 0 e rest here),
      sym (ap (dropped number) is ∙ one_dropped number e rest less),
    )

-- the loop ends at an event that is above
pub ends_at : (number : ℕ) (e : Event) (es : List Event) → 0 < length es → e ≡ get_or es 0 e → number < e.number →
    are_rising 0 es ≡ true → dropped number es ≡ es
ends_at number e [] some first above rising = absurd (omega (arith, some))
ends_at number e (f ∷ es) some first above rising =
    let same : e.number ≡ f.number = ap (λ (x : Event). x.number) first in
    ap (λ b. cond b (f ∷ dropped number es) (dropped number es)) (lt-ltb number f.number (omega (arith, above, same)))
    ∙ ap (λ (rest : List Event). f ∷ rest) (none_dropped number f.number es (omega (arith, above, same))
    (behind_of 0 f es rising))

rising_dropped : (number n : ℕ) (es : List Event) → are_rising n es ≡ true → are_rising n (dropped number es) ≡ true
rising_dropped number n [] rising = refl
rising_dropped number n (e ∷ es) rising =
    let first = first_of n e es rising in
    let behind = rising_dropped number e.number es (behind_of n e es rising) in
    cond_both (nat_lt number e.number) (e ∷ dropped number es) (dropped number es) (λ rest. are_rising n rest ≡ true)
    (λ stays. and_from (nat_lt n e.number) (are_rising e.number (dropped number es)) (lt-ltb n e.number first) behind)
    (λ goes. rising_from n e.number (dropped number es) (omega (arith, first)) behind)

of_dropped : (number origin : ℕ) (es : List Event) → are_of origin es ≡ true → are_of origin (dropped number es) ≡ true
of_dropped number origin [] of = refl
of_dropped number origin (e ∷ es) of =
    let parts = and_parts (e.origin == origin) (are_of origin es) of in
    let behind = of_dropped number origin es parts.1 in
    cond_both (nat_lt number e.number) (e ∷ dropped number es) (dropped number es) (λ rest. are_of origin rest ≡ true)
    (λ stays. and_from (e.origin == origin) (are_of origin (dropped number es)) parts.0 behind)
    (λ goes. behind)

line_dropped : (number origin : ℕ) (es : List Event) → is_line origin es ≡ true →
    is_line origin (dropped number es) ≡ true
line_dropped number origin es line =
    let parts = and_parts (are_rising 0 es) (are_of origin es) line in
    and_from (are_rising 0 (dropped number es)) (are_of origin (dropped number es))
    (rising_dropped number 0 es parts.0) (of_dropped number origin es parts.1)

-- ---- an event comes behind the others

rising_with : (e f : Event) (es : List Event) → are_rising e.number es ≡ true → newest (e ∷ es) < f.number →
    are_rising e.number (es ++ f ∷ []) ≡ true
rising_with e f [] rising above = and_from (nat_lt e.number f.number) true (lt-ltb e.number f.number above) refl
rising_with e f (g ∷ es) rising above =
    and_from (nat_lt e.number g.number) (are_rising g.number (es ++ f ∷ []))
    (and_parts (nat_lt e.number g.number) (are_rising g.number es) rising).0
    (rising_with g f es (behind_of e.number g es rising) above)

all_rising_with : (f : Event) (es : List Event) → are_rising 0 es ≡ true → newest es < f.number →
    are_rising 0 (es ++ f ∷ []) ≡ true
all_rising_with f [] rising above = and_from (nat_lt 0 f.number) true (lt-ltb 0 f.number above) refl
all_rising_with f (e ∷ es) rising above =
    and_from (nat_lt 0 e.number) (are_rising e.number (es ++ f ∷ []))
    (and_parts (nat_lt 0 e.number) (are_rising e.number es) rising).0
    (rising_with e f es (behind_of 0 e es rising) above)

of_with : (f : Event) (es : List Event) → are_of f.origin es ≡ true → are_of f.origin (es ++ f ∷ []) ≡ true
of_with f [] of = and_from (f.origin == f.origin) true (eq-eqb f.origin f.origin refl) refl
of_with f (e ∷ es) of =
    let parts = and_parts (e.origin == f.origin) (are_of f.origin es) of in
    and_from (e.origin == f.origin) (are_of f.origin (es ++ f ∷ [])) parts.0 (of_with f es parts.1)

line_with : (f : Event) (es : List Event) → is_line f.origin es ≡ true → is_line f.origin (with_event f es) ≡ true
line_with f es line =
    let parts = and_parts (are_rising 0 es) (are_of f.origin es) line in
    cond_both (nat_lt (newest es) f.number) (es ++ f ∷ []) es (λ all. is_line f.origin all ≡ true)
    (λ above. and_from (are_rising 0 (es ++ f ∷ [])) (are_of f.origin (es ++ f ∷ []))
    (all_rising_with f es parts.0 (ltb-true (newest es) f.number above)) (of_with f es parts.1))
    (λ below. line)

-- whether or not there was memory
line_put : (b : Bool) (f : Event) (es : List Event) → is_line f.origin es ≡ true →
    is_line f.origin (cond b (with_event f es) es) ≡ true
line_put true f es line = line_with f es line
line_put false f es line = line

pub newest_last : (es : List Event) (k : ℕ) (e : Event) → length es ≡ suc k → e ≡ get_or es k e → e.number ≡ newest es
newest_last [] k e long last = absurd (omega (arith, long))
newest_last (f ∷ []) zero e long last = ap (λ (x : Event). x.number) last
newest_last (f ∷ []) (suc k) e long last = absurd (omega (arith, long))
newest_last (f ∷ g ∷ es) zero e long last = absurd (omega (arith, long))
newest_last (f ∷ g ∷ es) (suc k) e long last = newest_last (g ∷ es) k e (omega (arith, long)) last

-- ---- one line of a map changes

-- what a look-up gives is the line that stands there
pub stands : (origin : ℕ) (m : LineMap) (o : Option (VecDeque Event Global)) → o ≡ get_by (nat_cmp origin) m →
    events_in o ≡ line_at origin m
unfolding line_at
stands origin m o is = ap events_in is

pub rising_at : (origin : ℕ) (m : LineMap) (o : Option (VecDeque Event Global)) → AreLines m →
    o ≡ get_by (nat_cmp origin) m → are_rising 0 (events_in o) ≡ true
rising_at origin m o lines is =
    ap (are_rising 0) (stands origin m o is)
    ∙ (and_parts (are_rising 0 (line_at origin m)) (are_of origin (line_at origin m)) (lines origin)).0

events_in-cond : (b : Bool) (w o : Option (VecDeque Event Global)) →
    events_in (cond b w o) ≡ cond b (events_in w) (events_in o)
events_in-cond true w o = refl
events_in-cond false w o = refl

-- A line of an origin that is put in a map, and the map before and after.
pub record Written (origin : ℕ) : Type 0 where
  pub line : VecDeque Event Global
  pub old : LineMap
  pub new : LineMap

abbrev pub written : {origin : ℕ} → VecDeque Event Global → LineMap → LineMap → Written origin
written line old new = record { line = line; old = old; new = new }

abbrev pub Updated : {origin : ℕ} → Written origin → Type 0
Updated {origin} w = UpdatesBy nat_cmp (nat_cmp origin) w.old w.new (Some w.line)

changed : {origin : ℕ} (w : Written origin) → Updated w → (o : ℕ) →
    line_at o w.new ≡ (if origin == o then w.line.items else line_at o w.old)
unfolding line_at
changed {origin} w updates o = ap events_in (updates.0 o)
    ∙ events_in-cond (is_eq (nat_cmp origin o)) (Some w.line) (get nat_cmp w.old o)
    ∙ ap (λ b. cond b w.line.items (events_in (get nat_cmp w.old o))) (unsigned_tied origin o)

pub turned : {origin : ℕ} (w : Written origin) (f : List Event → List Event) → Updated w →
    w.line.items ≡ f (line_at origin w.old) → (o : ℕ) →
    line_at o w.new ≡ (if origin == o then f (line_at o w.old) else line_at o w.old)
turned {origin} w f updates is o =
    changed w updates o ∙ elim (origin == o) as (λ b. (origin == o) ≡ b →
    cond b w.line.items (line_at o w.old) ≡ cond b (f (line_at o w.old)) (line_at o w.old)) [
      | true ↦ λ here. is ∙ ap (λ x. f (line_at x w.old)) (eqb-true origin o here)
      | false ↦ λ there. refl
    ] refl

still_lines : {origin : ℕ} (w : Written origin) → Updated w → AreLines w.old → is_line origin w.line.items ≡ true →
    AreLines w.new
still_lines {origin} w updates lines line o =
    ap (is_line o) (changed w updates o)
    ∙ elim (origin == o) as (λ b. (origin == o) ≡ b → is_line o (cond b w.line.items (line_at o w.old)) ≡ true) [
      | true ↦ λ here. subst (λ x. is_line x w.line.items ≡ true) (eqb-true origin o here) line
      | false ↦ λ there. lines o
    ] refl

pub same_lines : (m n : LineMap) → n.entries ≡ m.entries → (o : ℕ) → line_at o n ≡ line_at o m
unfolding line_at
same_lines m n same o = ap (λ es. events_in (lookup (λ k. is_eq (nat_cmp o k)) es)) same

pub no_lines : (m : LineMap) → m.entries ≡ [] → (o : ℕ) → line_at o m ≡ []
unfolding line_at
no_lines m none o = ap (λ es. events_in (lookup (λ k. is_eq (nat_cmp o k)) es)) none

pub are_no_lines : (m : LineMap) → m.entries ≡ [] → AreLines m
are_no_lines m none o = ap (is_line o) (no_lines m none o)

-- ---- a line is lent

-- A line that `get_mut` lends, and the map after the line was written.
pub record Lent (origin : ℕ) : Type 0 where
  pub was : VecDeque Event Global
  pub line : VecDeque Event Global
  pub old : LineMap
  pub new : LineMap
  pub found : Some was ≡ get_by (nat_cmp origin) old
  pub writes : WritesThrough nat_cmp (nat_cmp origin) old line new

abbrev pub lent : {origin : ℕ} (was line : VecDeque Event Global) (old new : LineMap) →
    Some was ≡ get_by (nat_cmp origin) old → WritesThrough nat_cmp (nat_cmp origin) old line new → Lent origin
lent was line old new found writes = record {
  was = was;
  line = line;
  old = old;
  new = new;
  found = found;
  writes = writes;
}

abbrev back : {origin : ℕ} → Lent origin → Written origin
back l = written l.line l.old l.new

updated : {origin : ℕ} (l : Lent origin) → Updated (back l)
updated l = l.writes.3 (subst IsSome l.found refl)

stood : {origin : ℕ} (l : Lent origin) → l.was.items ≡ line_at origin l.old
stood {origin} l = stands origin l.old (Some l.was) l.found

pub lines_dropped : {origin : ℕ} (number : ℕ) (l : Lent origin) → AreLines l.old →
    l.line.items ≡ dropped number l.was.items → AreLines l.new
lines_dropped {origin} number l lines is = still_lines (back l) (updated l) lines (ap (is_line origin) (is
    ∙ ap (dropped number) (stood l)) ∙ line_dropped number origin (line_at origin l.old) (lines origin))

pub dropped_here : {origin : ℕ} (number : ℕ) (l : Lent origin) → l.line.items ≡ dropped number l.was.items →
    line_at origin l.new ≡ dropped number (line_at origin l.old)
dropped_here {origin} number l is = changed (back l) (updated l) origin
    ∙ ap (λ b. cond b l.line.items (line_at origin l.old)) (eq-eqb origin origin refl)
    ∙ is ∙ ap (dropped number) (stood l)

pub kept_there : {origin : ℕ} (l : Lent origin) (o : ℕ) → (origin == o) ≡ false → line_at o l.new ≡ line_at o l.old
kept_there l o other = changed (back l) (updated l) o ∙ ap (λ b. cond b l.line.items (line_at o l.old)) other

-- ---- an event is put

-- the line was given the event, or there was no memory
abbrev pub IsPut : {T E : Type 0} → Result T E → Event → List Event → List Event → Type 0
IsPut r event was now = now ≡ cond (is_ok r) (with_event event was) was

put_on : {T E : Type 0} (r : Result T E) (event : Event) (l : Lent event.origin) →
    IsPut r event l.was.items l.line.items → IsPut r event (line_at event.origin l.old) l.line.items
put_on r event l is = is ∙ ap (λ es. cond (is_ok r) (with_event event es) es) (stood l)

pub lines_put : {T E : Type 0} (r : Result T E) (event : Event) (l : Lent event.origin) → AreLines l.old →
    IsPut r event l.was.items l.line.items → AreLines l.new
lines_put r event l lines is = still_lines (back l) (updated l) lines (ap (is_line event.origin) (put_on r event l is)
    ∙ line_put (is_ok r) event (line_at event.origin l.old) (lines event.origin))

pub answer_put : {E : Type 0} (r : Result Bool E) (event : Event) (l : Lent event.origin) →
    IfOk r (λ put. put ≡ is_above event.number l.was.items) →
    IfOk r (λ put. put ≡ is_above event.number (line_at event.origin l.old))
answer_put r event l is = subst (λ es. IfOk r (λ put. put ≡ is_above event.number es)) (stood l) is

pub put_ok : {T E : Type 0} (r : Result T E) (event : Event) (l : Lent event.origin) →
    IsPut r event l.was.items l.line.items → OnOk r ((o : ℕ) →
    line_at o l.new ≡ (if event.origin == o then with_event event (line_at o l.old) else line_at o l.old))
put_ok {T} {E} (Ok x) event l is = turned (back l) (with_event event) (updated l)
    (put_on {T = T} {E = E} (Ok x) event l is)
put_ok (Err x) event l is = tt

pub put_err : {T E : Type 0} (r : Result T E) (event : Event) (l : Lent event.origin) →
    IsPut r event l.was.items l.line.items → OnErr r ((o : ℕ) → line_at o l.new ≡ line_at o l.old)
put_err (Ok x) event l is = tt
put_err {T} {E} (Err x) event l is = λ o.
    turned (back l) (λ es. es) (updated l) (put_on {T = T} {E = E} (Err x) event l is) o
    ∙ same (event.origin == o) (line_at o l.old)
  where
    same : (b : Bool) (es : List Event) → cond b es es ≡ es
    same true es = refl
    same false es = refl

-- a new line comes in with the event, or there is no memory
pub lines_in : {T E : Type 0} (r : Result T E) (event : Event) (w : Written event.origin) → AreLines w.old →
    w.line.items ≡ with_event event (line_at event.origin w.old) → OnOk r (Updated w) →
    OnErr r (w.new.entries ≡ w.old.entries) → AreLines w.new
lines_in (Ok x) event w lines is ok err = still_lines w ok lines (ap (is_line event.origin) is
    ∙ line_with event (line_at event.origin w.old) (lines event.origin))
lines_in (Err x) event w lines is ok err = λ o. ap (is_line o) (same_lines w.old w.new err o) ∙ lines o

pub whatever_failed : {T E P : Type 0} (r : Result T E) → P → OnErr r P
whatever_failed (Ok x) p = tt
whatever_failed (Err x) p = p

-- ---- what is known of every queue

-- all that waits is of its origin
pub waiting_of : (queue : Queue) (origin : ℕ) → are_of origin (waiting origin queue) ≡ true
unfolding waiting
waiting_of queue origin =
    let es = line_at origin queue.lines in
    (and_parts (are_rising 0 es) (are_of origin es) (queue.lined origin)).1
