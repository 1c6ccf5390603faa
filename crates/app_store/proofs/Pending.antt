-- What the calls of a transaction and the reads of a step come to.
use Rattle.std.proofs.Common.{◌≡◌, ℕ, ◌≤◌, Bool, true, false, Option, Some, None, Result, Ok, Err}
use Rattle.std.proofs.Common.{refl, sym, ap, subst, ◌∙◌, inl, inr, arith, is_some}
use Rattle.std.specs.Prelude.{IfOk, IfErr}
use Rattle.std.proofs.lemmas.Bool.{false≢true, true≢false}
use Rattle.std.specs.Option.{option_map, unwrap_or}
use Rattle.slon_base.specs.Counts.{Rose}
use Rattle.slon_base.specs.Keeper.{Kept, Store, HasCause, Begins, Commits, sight}
use Rattle.slon_base.specs.declared.fault.KeepFault.TheVariants.{Failed}
use Rattle.store_rows.specs.Spending.{IsAtMost, Stays}
use Rattle.store_rows.specs.Steps.{Safe, IsOutside, IsWithinLimit, is_failed}
use Rattle.store_rows.specs.declared.stop.Stop.{Stop}
use Rattle.store_rows.specs.declared.stop.Stop.TheVariants.{Failed as StopFailed}
use Rattle.store_rows.proofs.Causes.{stays, spends, rose, outside_within}
use Rattle.store_rows.proofs.Putting.{none_more}
use Rattle.app_store.specs.declared.transact.Made.{Made}
use Rattle.app_store.specs.declared.transact.Made.TheVariants.{Done, InDoubt}
use Rattle.app_store.specs.Steps.{Knows, Starts, Transacts, Finishes, EndsAs, Leaves, Doubts, Looks, Says}

-- ---- what is known of the failures of a store

pub knows_none : (k : Kept) → Knows false k k
knows_none k = record {
  still = λ n most. most;
  spends = λ failed. absurd (false≢true failed);
  quiet = λ none n up. up;
  told = λ c from. from;
}

-- one step after another
pub knows_on : {old mid new : Kept} {failed : Bool} → Knows false old mid → Knows failed mid new → Knows failed old new
knows_on one two = record {
  still = λ n most. two.still n (one.still n most);
  spends = λ failed n most. two.spends failed n (one.still n most);
  quiet = λ none n up. two.quiet none n (one.quiet refl n up);
  told = λ c from. two.told c (one.told c from);
}

pub knows_safe : {T : Type 0} {old new : Kept} {result : Result T Stop} → Safe old new result →
    Knows (is_failed result) old new
knows_safe s = record { still = s.still; spends = s.spends; quiet = s.quiet; told = s.told }

-- a call that failed
knows_cause : {T : Type 0} {old new : Kept} → HasCause {T = T} old new (Err Failed) → Knows true old new
knows_cause cause = record {
  still = stays cause;
  spends = λ failed. spends cause;
  quiet = λ none. absurd (true≢false none);
  told = cause.told;
}

pub rose_later : {a b c : ℕ} → a ≤ b → Rose b c → Rose a c
rose_later le (inl lt) = inl (omega arith)
rose_later le (inr last) = inr last

-- nothing is told, so no bound is either
pub untold : (new : Option ℕ) → Stays None new
unfolding IsAtMost
untold new n most = absurd most

-- ---- a transaction

-- a transaction that did not begin, and a commit that failed
pub start_failed : {T : Type 0} {old new : Kept} → Begins {T = T} old new (Err Failed) → Starts old new (Err StopFailed)
start_failed b = record {
  sure = knows_cause b.cause;
  later = b.cause.later;
  rises = λ failed. rose b.cause;
  held = b.held;
  doubts = b.doubts;
  only = tt;
  opened = tt;
  puts = none_more b.puts;
}

pub doubted : {T : Type 0} {old new : Kept} → Commits {T = T} old new (Err Failed) → Finishes old new (Ok InDoubt)
doubted c = record {
  sure = knows_cause c.cause;
  counted = record { later = c.cause.later; failed = λ failed. absurd (false≢true failed); within = tt };
  closed = tt;
  doubts = (c.cause.failed refl, c.doubted refl);
  ends = c.in_doubt refl;
  puts = none_more c.puts;
}

-- what stands between the calls of a transaction
pub record Pends (change : Store → Store) (old mid : Kept) : Type 0 where
  pub sure : Knows false old mid
  pub later : old.faults ≤ mid.faults
  pub held : mid.held ≡ old.held
  pub doubts : mid.doubts ≡ old.doubts
  pub pending : mid.pending ≡ Some (option_map change old.held)

pub begun : {old new : Kept} {u : Unit {0}} → Starts old new (Ok u) → Pends (λ m. m) old new
begun {old} {new} b =
    record {
      sure = b.sure;
      later = b.later;
      held = b.held;
      doubts = b.doubts;
      pending = b.opened ∙ ap (λ o. Some o)
          (same old.held);
    }
  where
    same : (o : Option Store) → o ≡ option_map (λ m. m) o
    same None = refl
    same (Some m) = refl

pub changed : {change : Store → Store} (more : Store → Store) {old mid new : Kept} {u : Unit {0}} →
    Pends change old mid → Safe mid new (Ok u) →
    new.pending ≡ option_map (option_map more) mid.pending → Pends (λ m. more (change m)) old new
changed {change} more {old} p s put = record {
  sure = knows_on p.sure (knows_safe s);
  later = omega (arith, p.later, s.later);
  held = s.held ∙ p.held;
  doubts = s.doubts ∙ p.doubts;
  pending = put ∙ ap (option_map (option_map more)) p.pending ∙ ap (λ o. Some o) (twice old.held);
}
  where
    twice : (o : Option Store) → option_map more (option_map change o) ≡ option_map (λ m. more (change m)) o
    twice None = refl
    twice (Some m) = refl

some_same : {A : Type 0} (x y : A) → Some x ≡ Some y → x ≡ y
some_same x y e = ap (λ o. unwrap_or o x) e

-- what is held after a commit that stands
stands : {change : Store → Store} {old mid : Kept} → Pends change old mid → (held : Option Store) →
    mid.pending ≡ Some held →
    (m : Store) → old.held ≡ Some m → held ≡ Some (change m)
stands {change} p held is m was = some_same held _ (sym is ∙ p.pending) ∙ ap (option_map change) was

leaves_as : {change : Store → Store} {old mid : Kept} (new : Kept) (result : Result Made Stop) → Pends change old mid →
    EndsAs mid new result → (m : Store) → old.held ≡ Some m → Leaves change m result new
leaves_as new (Ok Done) p e m was = stands p new.held e m was
leaves_as new (Ok InDoubt) p e m was =
    elim e [ inl before ↦ inl (before ∙ p.held ∙ was) | inr after ↦ inr (stands p new.held after m was) ]
leaves_as new (Err stop) p e m was = (e.0 ∙ p.held ∙ was, e.1)

-- a transaction counts its doubts from where it began
pub doubts_since : (old mid new : Kept) (result : Result Made Stop) → old.faults ≤ mid.faults →
    mid.doubts ≡ old.doubts → Doubts mid new result → Doubts old new result
doubts_since old mid new (Ok Done) later same d = d ∙ same
doubts_since old mid new (Ok InDoubt) later same d = (rose_later later d.0, subst (λ n. Rose n new.doubts) same d.1)
doubts_since old mid new (Err stop) later same d = d ∙ same

pub ended : {change : Store → Store} {old mid new : Kept} (result : Result Made Stop) → Pends change old mid →
    Finishes mid new result → Transacts change old new result
ended {old = old} {mid = mid} {new = new} result p f = record {
  sure = knows_on p.sure f.sure;
  counted = record {
    later = omega (arith, p.later, f.counted.later);
    failed = λ failed. rose_later p.later (f.counted.failed failed);
    within = f.counted.within;
  };
  closed = f.closed;
  doubts = doubts_since old mid new result p.later p.doubts f.doubts;
  leaves = leaves_as new result p f.ends;
}

-- the exit of a step that passes its stop on
pub exit_as : {T : Type 0} (P : Result T Stop → Type 0) {stop : Stop} (result : Result T Stop) →
    (y : Stop) × (result ≡ Err y) × (y ≡ stop) → P (Err stop) → P result
exit_as P result (y, is, same) holds = subst P (sym is) (subst (λ s. P (Err s)) (sym same) holds)

-- a transaction that stopped before its commit
pub not_begun : {change : Store → Store} {old new : Kept} {stop : Stop} → Starts old new (Err stop) →
    Transacts change old new (Err stop)
not_begun {stop = stop} b = record {
  sure = b.sure;
  counted = record {
    later = b.later;
    failed = λ failed. b.rises failed _ (omega arith);
    within =
        outside_within stop b.only;
  };
  closed = tt;
  doubts = b.doubts;
  leaves = λ m was. (b.held ∙ was, b.only);
}

pub not_changed : {change all : Store → Store} {old mid new : Kept} {stop : Stop} → Pends change old mid →
    Safe {T = Unit {0}} mid new (Err stop) → IsOutside stop → Transacts all old new (Err stop)
not_changed {stop = stop} p s outside = record {
  sure = knows_on p.sure (knows_safe s);
  counted = record {
    later = omega (arith, p.later, s.later);
    failed = λ failed. s.rises failed _ p.later;
    within =
        outside_within stop outside;
  };
  closed = tt;
  doubts = s.doubts ∙ p.doubts;
  leaves = λ m was. (s.held ∙ p.held ∙ was, outside);
}

-- ---- reads

pub looks : {T : Type 0} {says : Store → Result T Stop → Type 0} {old new : Kept} (result : Result T Stop) →
    Safe old new result →
    IfErr result IsWithinLimit → ((m : Store) → sight old ≡ Some m → says m result) → Looks says old new result
looks result s within gives = record {
  sure = knows_safe s;
  counted = record { later = s.later; failed = λ failed. s.rises failed _ (omega arith); within = within };
  held = s.held;
  doubts = s.doubts;
  opened = s.opened;
  gives = gives;
}

-- with no transaction, reads see what is held
pub sight-idle : (k : Kept) → is_some k.pending ≡ false → sight k ≡ k.held
sight-idle k idle = seen k.pending idle
  where
    seen : (p : Option (Option Store)) → is_some p ≡ false → unwrap_or p k.held ≡ k.held
    seen None is = refl
    seen (Some o) is = absurd (false≢true (sym is))

-- the reading of what is held, with no transaction
pub held_gives : {T : Type 0} {says : Store → Result T Stop → Type 0} {result : Result T Stop} {old new : Kept} →
    is_some old.pending ≡ false → Looks says old new result → (m : Store) → old.held ≡ Some m → says m result
held_gives {old = old} idle l m held = l.gives m (sight-idle old idle ∙ held)

-- a read that stopped, stopped for the store
pub says_within : {T : Type 0} (result : Result T Stop) → IfErr result IsOutside → IfErr result IsWithinLimit
says_within (Ok x) only = tt
says_within (Err stop) only = outside_within stop only

pub says_read : {T : Type 0} (right : T) (result : Result T Stop) → IfErr result IsOutside → IfOk result
    (λ x. x ≡ right) → Says right result
says_read right (Ok x) only is = is
says_read right (Err stop) only is = only

-- a look, and a read after it
pub looks_then : {T U V : Type 0} {says : Store → Result T Stop → Type 0} {all : Store → Result V Stop →
    Type 0} {x : T} {y : U}
    {old mid new : Kept} (result : Result V Stop) → is_failed result ≡ false → IfErr result IsWithinLimit →
    Looks says old mid (Ok x) →
    Safe mid new (Ok y) → ((m : Store) → sight old ≡ Some m → all m result) → Looks all old new result
looks_then {old = old} {new = new} result never within l s gives = record {
  sure = subst (λ failed. Knows failed old new) (sym never) (knows_on l.sure (knows_safe s));
  counted = record {
    later = omega (arith, l.counted.later, s.later);
    failed = λ failed. absurd
        (false≢true (sym never ∙ failed));
    within = within;
  };
  held = s.held ∙ l.held;
  doubts = s.doubts ∙ l.doubts;
  opened = s.opened ∙ l.opened;
  gives = gives;
}

-- what is seen after a look
pub sight_after : {T : Type 0} {says : Store → Result T Stop → Type 0} {result : Result T Stop} {old new : Kept} →
    is_some old.pending ≡ false → Looks says old new result → sight new ≡ sight old
sight_after {old = old} {new = new} idle l = sight-idle new (l.opened ∙ idle) ∙ l.held ∙ sym (sight-idle old idle)
