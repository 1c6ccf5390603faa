-- Transactions that go on, step by step.
use Rattle.std.proofs.Common.{◌≡◌, Result, Ok, Err, refl, sym, ap, subst, ◌∙◌, arith, is_some}
use Rattle.std.specs.Prelude.{IfErr}
use Rattle.slon_base.specs.Keeper.{Kept}
use Rattle.store_rows.specs.declared.stop.Stop.{Stop}
use Rattle.store_rows.specs.declared.stop.Stop.TheVariants.{TooBig}
use Rattle.store_rows.specs.Steps.{Safe, IsOutside, IsWithinLimit, is_stop_failed}
use Rattle.store_rows.proofs.Causes.{outside_within}
use Rattle.app_store.specs.Steps.{Knows, Starts}
use Rattle.node_change.specs.declared.side.Side.{Side}
use Rattle.node_change.specs.declared.side.Side.TheVariants.{From, To}
use Rattle.node_change.specs.declared.side.Failed.{Failed}
use Rattle.node_change.specs.Both.{IsWell, StopsOne as BothStop, stopped}
use Rattle.node_store.specs.Midways.{Begun, Midway, BreaksOff, Enters, EntersSecond, EntersBoth, StopsOne, StopsBoth}
use Rattle.node_store.specs.Midways.{IsOfEvent}
use Rattle.app_store.proofs.Pending.{knows_on, knows_safe}

pub midway_begun : {old new : Kept} {u : Unit {0}} → Starts old new (Ok u) → Midway old new
midway_begun b = record {
  sure = b.sure;
  later = b.later;
  held = b.held;
  doubts = b.doubts;
  opened = ap is_some b.opened;
}

pub midway_on : {T : Type 0} {old mid new : Kept} {x : T} → Midway old mid → Safe mid new (Ok x) → Midway old new
midway_on one two = record {
  sure = knows_on one.sure (knows_safe two);
  later = omega (arith, one.later, two.later);
  held = two.held ∙ one.held;
  doubts = two.doubts ∙ one.doubts;
  opened = two.opened ∙ one.opened;
}

-- a stop that tells of no number that is too big tells of none but that of an event
pub within_event : (stop : Stop) → IsWithinLimit stop → IsOfEvent stop
within_event (TooBig space) within = absurd within
within_event others within = tt

-- it did not begin
pub breaks_start : {old new : Kept} {stop : Stop} → Starts old new (Err stop) → BreaksOff stop old new
breaks_start {stop = stop} b = record {
  sure = b.sure;
  later = b.later;
  failed = λ failed. b.rises failed _ (omega arith);
  within = within_event stop (outside_within stop b.only);
  held = b.held;
  doubts = b.doubts;
}

-- a call of it stopped, and is told as this stop
pub breaks_on : {T : Type 0} {old mid new : Kept} {stop : Stop} (told : Stop) → Midway old mid →
    Safe {T = T} mid new (Err stop) → IsWithinLimit told → is_stop_failed told ≡ is_stop_failed stop →
    BreaksOff told old new
breaks_on {old = old} {new = new} told one two within same = record {
  sure = subst (λ failed. Knows failed old new) (sym same) (knows_on one.sure (knows_safe two));
  later = omega (arith, one.later, two.later);
  failed = λ failed. two.rises (sym same ∙ failed) _ one.later;
  within = within_event told within;
  held = two.held ∙ one.held;
  doubts = two.doubts ∙ one.doubts;
}

-- the exit of a step that passes its stop on
pub enters_as : {T : Type 0} (old new : Kept) {stop : Stop} (result : Result T Stop) →
    (y : Stop) × (result ≡ Err y) × (y ≡ stop) → BreaksOff stop old new → Enters old new result
enters_as old new result (y, is, same) breaks =
    subst (Enters old new) (sym is) (subst (λ s. BreaksOff s old new) (sym same) breaks)

-- ---- two stores

pub begun_midway : {old new : Kept} → Midway old new → Begun old new
begun_midway way = record { sure = way.sure; later = way.later; held = way.held; doubts = way.doubts }

-- nothing failed, and the transaction goes on
pub midway_well : {old mid new : Kept} → Midway old mid → IsWell mid new → Midway old new
midway_well way well = midway_on way well

-- the store that is written stopped
pub second_to : {f : Failed} {from from_new to to_new : Kept} → f.side ≡ To → IsWell from from_new →
    BreaksOff f.stop to to_new → StopsOne f.side f.stop from from_new to to_new
second_to {f} {from} {from_new} {to} {to_new} on well breaks =
    subst (λ side. StopsOne side f.stop from from_new to to_new) (sym on) (well, breaks)

-- Two stores, before some work over both and after it.
pub record Two : Type 0 where
  pub from : Kept
  pub from_new : Kept
  pub to : Kept
  pub to_new : Kept

-- work over both that stopped, behind the begin of the transaction of the second
pub second_stops : (f : Failed) (two : Two) (mid : Kept) → Midway two.to mid → IsWithinLimit f.stop →
    BothStop f.side f.stop two.from two.from_new mid two.to_new →
    StopsOne f.side f.stop two.from two.from_new two.to two.to_new
second_stops f two mid way within stops = by f.side stops
  where
    by : (side : Side) → BothStop side f.stop two.from two.from_new mid two.to_new →
        StopsOne side f.stop two.from two.from_new two.to two.to_new
    by From stops = (stops.0, begun_midway (midway_well way stops.1))
    by To stops = (stops.0, breaks_on f.stop way stops.1 within refl)

pub second_handed : {T : Type 0} {f : Failed} (from from_new to to_new : Kept) (result : Result T Failed) →
    (y : Failed) × (result ≡ Err y) × (y ≡ f) → StopsOne f.side f.stop from from_new to to_new →
    EntersSecond from from_new to to_new result
second_handed from from_new to to_new result (y, is, same) stops =
    subst (EntersSecond from from_new to to_new) (sym (is ∙ ap (λ e. Err e) same)) stops

-- the end of the second one's work
pub second_ends : {T : Type 0} {from from_new to mid to_new : Kept} {given : Result T Stop} (result : Result T Failed) →
    given ≡ stopped result → IfErr result (λ f. f.side ≡ To) → IsWell from from_new → Midway to mid →
    Safe mid to_new given × IfErr given IsWithinLimit → EntersSecond from from_new to to_new result
second_ends {mid = mid} {to_new = to_new} (Ok x) is on well way done =
    (well, midway_on way (subst (Safe mid to_new) is done.0))
second_ends {mid = mid} {to_new = to_new} (Err f) is on well way done =
    second_to {f = f} on well (breaks_on f.stop way (subst (Safe mid to_new) is done.0)
    (subst (λ r. IfErr r IsWithinLimit) is done.1) refl)

-- both, where the second one stopped behind a transaction of the first that goes on
pub both_stops : (f : Failed) (two : Two) (mid : Kept) → Midway two.from mid → IsWithinLimit f.stop →
    StopsOne f.side f.stop mid two.from_new two.to two.to_new →
    StopsBoth f.side f.stop two.from two.from_new two.to two.to_new
both_stops f two mid way within stops = by f.side stops
  where
    by : (side : Side) → StopsOne side f.stop mid two.from_new two.to two.to_new →
        StopsBoth side f.stop two.from two.from_new two.to two.to_new
    by From stops = (breaks_on f.stop way stops.0 within refl, stops.1)
    by To stops = (midway_well way stops.0, stops.1)

pub both_handed : {T : Type 0} {f : Failed} (from from_new to to_new : Kept) (result : Result T Failed) →
    (y : Failed) × (result ≡ Err y) × (y ≡ f) → StopsBoth f.side f.stop from from_new to to_new →
    EntersBoth from from_new to to_new result
both_handed from from_new to to_new result (y, is, same) stops =
    subst (EntersBoth from from_new to to_new) (sym (is ∙ ap (λ e. Err e) same)) stops

-- the end of the work of a transaction that goes on
pub enters_ends : {T : Type 0} {old mid new : Kept} (result : Result T Stop) → Midway old mid → Safe mid new result →
    IfErr result IsWithinLimit → Enters old new result
enters_ends (Ok x) way safe within = midway_on way safe
enters_ends (Err stop) way safe within = breaks_on stop way safe within refl

-- a last call, whichever way it ended
pub enters_on : {T : Type 0} {old mid new : Kept} (result : Result T Stop) → Midway old mid → Safe mid new result →
    IfErr result IsOutside → Enters old new result
enters_on (Ok x) way safe only = midway_on way safe
enters_on (Err stop) way safe only = breaks_on stop way safe (outside_within stop only) refl
