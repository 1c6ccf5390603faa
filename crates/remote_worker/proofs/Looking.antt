-- Looks at one database or at two of them, one after the other.
use Rattle.std.proofs.Common.{◌≡◌, ◌∙◌, None, Result, Ok, Err, refl, sym, ap, subst}
use Rattle.std.specs.Prelude.{IfOk}
use Rattle.slon_model.specs.declared.fault.DbFault.{DbFault}
use Rattle.slon_model.specs.Place.{Place}
use Rattle.node_change.specs.declared.side.Side.{Side}
use Rattle.node_change.specs.declared.side.Side.TheVariants.{From, To}
use Rattle.app_store.specs.Base.{Base}
use Rattle.app_store.specs.Fits.{Fits, Ready}
use Rattle.app_store.specs.Parts.{Looks, Remembers}
use Rattle.app_store.specs.Serves.{halts}
use Rattle.app_store.proofs.Serving.{ran_not}
use Rattle.node_store.specs.declared.joining.Fell.{Fell}
use Rattle.node_store.specs.Acting.{Acts}
use Rattle.node_store.specs.Joining.{Pair}
use Rattle.node_store.proofs.Acting.{acts_well}
use Rattle.node_store.proofs.Chaining.{acts_then}
use Rattle.remote_worker.specs.Looking.{Looking, Seen, sided}

-- a database that nothing was done with
acts_none : (b : Base) → Acts None b b
acts_none b = acts_well b b (record { ran = ran_not b.kept; doubts = refl })

-- the place stays as it was
ready_still : {p : Place} {old mid : Base} → Ready p old → Fits p mid → Ready p mid
ready_still ready fits = record { fits = fits; sound = ready.sound; spelled = ready.spelled }

-- ---- at one of them

pub looked_up : {T : Type 0} (says : Place → T → Type 0) {old new : Base} (result : Result T DbFault) →
    Acts (halts result) old new → Looks says old result new → Remembers old result new → Seen says old result new
looked_up says result acts looks same = record { acts = acts; looks = looks; same = same }

-- what was seen first holds behind the second look too
pub seen_then : {T U : Type 0} {one : Place → T → Type 0} {two : Place → U → Type 0} {old mid new : Base} {x : T}
    (result : Result U DbFault) → Seen one old (Ok x) mid → Seen two mid result new →
    Seen (λ p y. one p x × two p y) old result new
seen_then (Ok y) first second = record {
  acts = acts_then None _ _ _ first.acts second.acts;
  looks = λ p here full.
      let a = first.looks p here refl in
      let b = second.looks p (ready_still here a.1) refl in
      ((a.0, b.0), b.1);
  same = second.same ∙ first.same;
}
seen_then (Err fault) first second = record {
  acts = acts_then _ _ _ _ first.acts second.acts;
  looks = λ p here full. second.looks p (ready_still here (first.looks p here refl).1) full;
  same = tt;
}

-- what was seen is so in other words
pub seen_so : {T U : Type 0} {one : Place → T → Type 0} {two : Place → U → Type 0} {old new : Base} {x : T} {y : U} →
    ((p : Place) → one p x → two p y) → Seen one old (Ok x) new → Seen two old (Ok y) new
seen_so words seen = record {
  acts = seen.acts;
  looks = λ p here full. let a = seen.looks p here refl in (words p a.0, a.1);
  same = seen.same;
}

pub seen_each : {T : Type 0} {one two : Place → T → Type 0} {old new : Base} (result : Result T DbFault) →
    ((p : Place) (x : T) → one p x → two p x) → Seen one old result new → Seen two old result new
seen_each (Ok x) words seen = seen_so (λ p. words p x) seen
seen_each (Err fault) words seen = record { acts = seen.acts; looks = seen.looks; same = tt }

-- what is so of each place that agrees with a database, with no look at it
pub seen_as_is : {T U : Type 0} {one : Place → T → Type 0} {two : Place → U → Type 0} {old new : Base} {x : T}
    (y : U) → ((p : Place) → Ready p new → one p x → two p y) → Seen one old (Ok x) new → Seen two old (Ok y) new
seen_as_is y words seen = record {
  acts = seen.acts;
  looks = λ p here full. let a = seen.looks p here refl in (words p (ready_still here a.1) a.0, a.1);
  same = seen.same;
}

-- what is so of every place, with no look at it
pub seen_none : {T : Type 0} (says : Place → T → Type 0) (b : Base) (x : T) → ((p : Place) → says p x) →
    Seen says b (Ok x) b
seen_none says b x so = record {
  acts = acts_none b;
  looks = λ p here full. (so p, here.fits);
  same = refl;
}

-- a look that failed, whatever was sought
pub seen_fails : {T U : Type 0} {one : Place → T → Type 0} {two : Place → U → Type 0} {old new : Base}
    {fault : DbFault} → Seen one old (Err fault) new → Seen two old (Err fault) new
seen_fails seen = record { acts = seen.acts; looks = seen.looks; same = tt }

pub at_own : {T : Type 0} {says : Place → T → Type 0} {old new : Base} (other : Base) (result : Result T DbFault) →
    Seen says old result new →
    Looking (λ p q x. says p x) (record { from = old; to = other }) (sided From result)
    (record { from = new; to = other })
at_own other (Ok x) s = record {
  own = s.acts;
  provider = acts_none other;
  same = (s.same, refl);
  looks = λ p q here there full. let found = s.looks p here refl in (found.0, found.1, there.fits);
}
at_own other (Err fault) s = record {
  own = s.acts;
  provider = acts_none other;
  same = tt;
  looks = λ p q here there full. (s.looks p here full, there.fits);
}

pub at_provider : {T : Type 0} {says : Place → T → Type 0} {old new : Base} (other : Base)
    (result : Result T DbFault) → Seen says old result new →
    Looking (λ p q x. says q x) (record { from = other; to = old }) (sided To result)
    (record { from = other; to = new })
at_provider other (Ok x) s = record {
  own = acts_none other;
  provider = s.acts;
  same = (refl, s.same);
  looks = λ p q here there full. let found = s.looks q there refl in (found.0, here.fits, found.1);
}
at_provider other (Err fault) s = record {
  own = acts_none other;
  provider = s.acts;
  same = tt;
  looks = λ p q here there full. (here.fits, s.looks q there full);
}

-- the same under the name of what was handed over
pub own_look : {T : Type 0} (says : Place → T → Type 0) {old new : Base} (other : Base) (given : Result T DbFault)
    (result : Result T Fell) → result ≡ sided From given → Seen says old given new →
    Looking (λ p q x. says p x) (record { from = old; to = other }) result (record { from = new; to = other })
own_look says {old} {new} other given result is seen =
    subst (λ r. Looking (λ p q x. says p x) (record { from = old; to = other }) r (record { from = new; to = other }))
    (sym is) (at_own other given seen)

pub provider_look : {T : Type 0} (says : Place → T → Type 0) {old new : Base} (other : Base) (given : Result T DbFault)
    (result : Result T Fell) → result ≡ sided To given → Seen says old given new →
    Looking (λ p q x. says q x) (record { from = other; to = old }) result (record { from = other; to = new })
provider_look says {old} {new} other given result is seen =
    subst (λ r. Looking (λ p q x. says q x) (record { from = other; to = old }) r (record { from = other; to = new }))
    (sym is) (at_provider other given seen)

-- what holds of what was found holds of it at its side
pub found_at : {T : Type 0} (P : T → Type 0) (side : Side) (given : Result T DbFault) (x : T) →
    Ok x ≡ sided side given → IfOk given P → P x
found_at P side (Ok y) x is has =
    let same : x ≡ y = cc in
    subst P (sym same) has
found_at P side (Err fault) x is has = absurd cc

-- ---- at both

-- what is so of places that agree, with no look at them
pub unseen : {T : Type 0} (says : Place → Place → T → Type 0) (b : Pair) (x : T) →
    ((p q : Place) → Ready p b.from → Ready q b.to → says p q x) → Looking says b (Ok x) b
unseen says b x so = record {
  own = acts_none b.from;
  provider = acts_none b.to;
  same = (refl, refl);
  looks = λ p q here there full. (so p q here there, here.fits, there.fits);
}

-- What was seen first holds behind the second look too.
pub then : {T U : Type 0} {one : Place → Place → T → Type 0} {two : Place → Place → U → Type 0} {old mid new : Pair}
    {x : T} (result : Result U Fell) → Looking one old (Ok x) mid → Looking two mid result new →
    Looking (λ p q y. one p q x × two p q y) old result new
then (Ok y) first second = record {
  own = acts_then None _ _ _ first.own second.own;
  provider = acts_then None _ _ _ first.provider second.provider;
  same = (second.same.0 ∙ first.same.0, second.same.1 ∙ first.same.1);
  looks = λ p q here there full.
      let a = first.looks p q here there refl in
      let b = second.looks p q (ready_still here a.1) (ready_still there a.2) refl in
      ((a.0, b.0), b.1, b.2);
}
then (Err f) first second = record {
  own = acts_then _ _ _ _ first.own second.own;
  provider = acts_then _ _ _ _ first.provider second.provider;
  same = tt;
  looks = λ p q here there full.
      let a = first.looks p q here there refl in
      second.looks p q (ready_still here a.1) (ready_still there a.2) full;
}

-- what was seen is so in other words
pub so : {T U : Type 0} {one : Place → Place → T → Type 0} {two : Place → Place → U → Type 0} {old new : Pair}
    {x : T} {y : U} → ((p q : Place) → one p q x → two p q y) → Looking one old (Ok x) new → Looking two old (Ok y) new
so words seen = record {
  own = seen.own;
  provider = seen.provider;
  same = seen.same;
  looks = λ p q here there full. let a = seen.looks p q here there refl in (words p q a.0, a.1, a.2);
}

pub so_each : {T : Type 0} {one two : Place → Place → T → Type 0} {old new : Pair} (result : Result T Fell) →
    ((p q : Place) (x : T) → one p q x → two p q x) → Looking one old result new → Looking two old result new
so_each (Ok x) words seen = so (λ p q. words p q x) seen
so_each (Err f) words seen = record { own = seen.own; provider = seen.provider; same = tt; looks = seen.looks }

-- a look that failed, whatever was sought
pub fails : {T U : Type 0} {one : Place → Place → T → Type 0} {two : Place → Place → U → Type 0} {old new : Pair}
    {f : Fell} (result : Result U Fell) → (y : Fell) × (result ≡ Err y) × (y ≡ f) →
    Looking one old (Err f) new → Looking two old result new
fails {two = two} {old} {new} result (y, is, same) seen =
    subst (λ r. Looking two old r new) (sym (is ∙ ap (λ g. Err g) same))
    (record { own = seen.own; provider = seen.provider; same = tt; looks = seen.looks })
