-- Calls over two stores, one after the other.
use Rattle.std.proofs.Common.{◌≡◌, Result, Ok, Err, refl, sym, ap, subst, ◌∙◌, arith}
use Rattle.std.specs.Prelude.{IfOk, OnOk, IfErr}
use Rattle.slon_base.specs.Keeper.{Kept}
use Rattle.store_rows.specs.declared.stop.Stop.{Stop}
use Rattle.store_rows.specs.Steps.{Safe}
use Rattle.store_rows.proofs.Spaces.{Looked, safe_on, handed_safe}
use Rattle.node_change.specs.declared.side.Side.{Side}
use Rattle.node_change.specs.declared.side.Side.TheVariants.{From, To}
use Rattle.node_change.specs.declared.side.Failed.{Failed}
use Rattle.node_change.specs.Both.{IsWell, IsStopped, StopsOne, SafeBoth, stopped}

pub well_none : {old : Kept} → IsWell old old
well_none = record {
  still = λ n most. most;
  spends = λ failed. absurd cc;
  later = omega arith;
  rises = λ failed. absurd cc;
  quiet = λ none n up. up;
  told = λ c from. from;
  held = refl;
  doubts = refl;
  opened = refl;
}

-- a call after calls of which none failed
pub safe_then : {T : Type 0} {old mid new : Kept} {result : Result T Stop} → IsWell old mid → Safe mid new result →
    Safe old new result
safe_then w s = record {
  still = λ n most. s.still n (w.still n most);
  spends = λ failed n most. s.spends failed n (w.still n most);
  later = omega (arith, w.later, s.later);
  rises = λ failed n le. s.rises failed n (omega (arith, le, w.later));
  quiet = λ none n up. s.quiet none n (w.quiet refl n up);
  told = λ c from. s.told c (w.told c from);
  held = s.held ∙ w.held;
  doubts = s.doubts ∙ w.doubts;
  opened = s.opened ∙ w.opened;
}

-- whatever a call gave that did not fail
pub well_of : {T : Type 0} {old new : Kept} {x : T} → Safe old new (Ok x) → IsWell old new
well_of s = record {
  still = s.still;
  spends = λ failed. absurd cc;
  later = s.later;
  rises = λ failed. absurd cc;
  quiet = s.quiet;
  told = s.told;
  held = s.held;
  doubts = s.doubts;
  opened = s.opened;
}

pub well_on : {T : Type 0} {old mid new : Kept} {x : T} → IsWell old mid → Safe mid new (Ok x) → IsWell old new
well_on w s = safe_then w (well_of s)

pub well_looked : {old new : Kept} → Looked old new → IsWell old new
well_looked l = safe_on l well_none

-- what was given without a stop, under the name of the value
pub safe_as : {T : Type 0} {old new : Kept} {given : Result T Stop} {x : T} → given ≡ Ok x → Safe old new given →
    Safe old new (Ok x)
safe_as {old = old} {new} is s = subst (Safe old new) is s

pub then_as : {T P : Type 0} {given : Result T Stop} {x : T} → given ≡ Ok x → OnOk given P → P
then_as {P = P} is on = subst (λ r. OnOk r P) is on

pub value_as : {T : Type 0} (P : T → Type 0) {given : Result T Stop} {x : T} → given ≡ Ok x → IfOk given P → P x
value_as P is ok = subst (λ r. IfOk r P) is ok

-- ---- which of the two it was

-- a call that stopped, and the side that is told
pub record IsSided {T : Type 0} (side : Side) (given : Result T Stop) (f : Failed) : Type 0 where
  pub is : given ≡ Err f.stop
  pub on : f.side ≡ side

-- after calls of which none failed
stopped_on : {T : Type 0} {old mid new : Kept} {given : Result T Stop} {stop : Stop} → given ≡ Err stop →
    IsWell old mid → Safe mid new given → IsStopped stop old new
stopped_on {old = old} {mid} {new} {stop = stop} is w s =
    handed_safe old new (Err stop) (stop, refl, refl) (safe_then w (subst (Safe mid new) is s))

pub from_stops : {T : Type 0} {from from_mid from_new to to_new : Kept} {given : Result T Stop} {f : Failed} →
    IsSided From given f → IsWell from from_mid → Safe from_mid from_new given → IsWell to to_new →
    StopsOne f.side f.stop from from_new to to_new
from_stops {from = from} {from_new = from_new} {to} {to_new} {f = f} sided w s well =
    subst (λ side. StopsOne side f.stop from from_new to to_new) (sym sided.on) (stopped_on sided.is w s, well)

pub to_stops : {T : Type 0} {from from_new to to_mid to_new : Kept} {given : Result T Stop} {f : Failed} →
    IsSided To given f → IsWell from from_new → IsWell to to_mid → Safe to_mid to_new given →
    StopsOne f.side f.stop from from_new to to_new
to_stops {from = from} {from_new} {to} {to_new = to_new} {f = f} sided well w s =
    subst (λ side. StopsOne side f.stop from from_new to to_new) (sym sided.on) (well, stopped_on sided.is w s)

-- a stop that is handed on
pub both_handed : {U : Type 0} (from from_new to to_new : Kept) {f : Failed} (result : Result U Failed) →
    (y : Failed) × (result ≡ Err y) × (y ≡ f) → StopsOne f.side f.stop from from_new to to_new →
    SafeBoth from from_new to to_new result
both_handed from from_new to to_new result (y, is, same) stops =
    subst (SafeBoth from from_new to to_new) (sym (is ∙ ap (λ e. Err e) same)) stops

-- the last call is one on the store that is changed
pub to_ends : {T : Type 0} {from from_new to to_mid to_new : Kept} {given : Result T Stop} (result : Result T Failed) →
    given ≡ stopped result → IfErr result (λ f. f.side ≡ To) → IsWell from from_new → IsWell to to_mid →
    Safe to_mid to_new given → SafeBoth from from_new to to_new result
to_ends (Ok x) is on well w s = (well, well_on w (safe_as is s))
to_ends (Err f) is on well w s = to_stops (record { is = is; on = on }) well w s

-- more work over both, after calls of which none failed
pub both_then : {T : Type 0} {from from_mid to to_mid : Kept} (from_new to_new : Kept) (result : Result T Failed) →
    IsWell from from_mid → IsWell to to_mid → SafeBoth from_mid from_new to_mid to_new result →
    SafeBoth from from_new to to_new result
both_then from_new to_new (Ok x) well also both = (safe_then well both.0, safe_then also both.1)
both_then {from = from} {from_mid} {to} {to_mid} from_new to_new (Err f) well also both = by f.side both
  where
    by : (side : Side) → StopsOne side f.stop from_mid from_new to_mid to_new →
        StopsOne side f.stop from from_new to to_new
    by From stops = (safe_then well stops.0, safe_then also stops.1)
    by To stops = (safe_then well stops.0, safe_then also stops.1)

-- ---- without the side

pub stop_handed : {U : Type 0} {f : Failed} (result : Result U Failed) → (y : Failed) × (result ≡ Err y) × (y ≡ f) →
    (y : Stop) × (stopped result ≡ Err y) × (y ≡ f.stop)
stop_handed result (y, is, same) = (y.stop, ap stopped is, ap (λ g. g.stop) same)
