-- What holds of the result of checks and of steps that may be refused.
use Rattle.std.proofs.Common.{◌≡◌, ℕ, Bool, true, false, List, [], ◌∷◌, ◌++◌, Option, Some, None, Result, Ok, Err, refl}
use Rattle.std.specs.List.{AllByRecursion}
use Rattle.std.specs.Prelude.{option_map}
use Rattle.slon_model.specs.declared.reply.Refusal.{Refusal}
use Rattle.slon_model.specs.declared.reply.Refusal.TheVariants as refused
use Rattle.slon_model.specs.Sessions.{bind, when, first_refusal, unless_refused, checked}

-- P of what there is, if it was not refused
abbrev pub OnOk : {A : Type 0} → (A → Type 0) → Result A Refusal → Type 0
OnOk P (Ok a) = P a
OnOk P (Err refusal) = Unit {0}

pub bind_ok : {A B : Type 0} (P : A → Type 0) (Q : B → Type 0) (r : Result A Refusal) (f : A → Result B Refusal) →
    OnOk P r → ((a : A) → P a → OnOk Q (f a)) → OnOk Q (bind r f)
bind_ok P Q (Ok a) f is on = on a is
bind_ok P Q (Err refusal) f is on = tt

-- whatever the first one gives
pub any_bind : {A B : Type 0} (Q : B → Type 0) (r : Result A Refusal) (f : A → Result B Refusal) →
    ((a : A) → OnOk Q (f a)) → OnOk Q (bind r f)
any_bind Q (Ok a) f on = on a
any_bind Q (Err refusal) f on = tt

-- what holds of whatever there is
pub any_ok : {A : Type 0} (P : A → Type 0) (r : Result A Refusal) → ((a : A) → P a) → OnOk P r
any_ok P (Ok a) each = each a
any_ok P (Err refusal) each = tt

pub ok_then : {A : Type 0} (P Q : A → Type 0) (r : Result A Refusal) → OnOk P r → ((a : A) → P a → Q a) → OnOk Q r
ok_then P Q (Ok a) is on = on a is
ok_then P Q (Err refusal) is on = tt

-- with that there is it
pub ok_is : {A : Type 0} (P Q : A → Type 0) (r : Result A Refusal) → OnOk P r → ((a : A) → r ≡ Ok a → P a → Q a) →
    OnOk Q r
ok_is P Q (Ok a) is on = on a refl is
ok_is P Q (Err refusal) is on = tt

pub both_ok : {A : Type 0} (P Q : A → Type 0) (r : Result A Refusal) → OnOk P r → OnOk Q r → OnOk (λ a. P a × Q a) r
both_ok P Q (Ok a) one other = (one, other)
both_ok P Q (Err refusal) one other = tt

-- where none of these looks at something that refuses
pub checked_ok : {A : Type 0} (P : A → Type 0) (checks : List (Option Refusal)) (a : A) →
    (first_refusal checks ≡ None → P a) → OnOk P (checked checks a)
checked_ok {A} P checks a is = by (first_refusal checks) refl
  where
    by : (o : Option Refusal) → first_refusal checks ≡ o → OnOk P (unless_refused o a)
    by None none = is none
    by (Some refusal) some = tt

pub kept_ok : {A : Type 0} (P : A → Type 0) (checks : List (Option Refusal)) (a : A) → P a → OnOk P (checked checks a)
kept_ok P checks a is = checked_ok P checks a (λ none. is)

pub none_first : (o : Option Refusal) (more : List (Option Refusal)) → first_refusal (o ∷ more) ≡ None →
    (o ≡ None) × (first_refusal more ≡ None)
none_first None more none = (refl, none)
none_first (Some refusal) more none = absurd cc

-- where none of several looks at something that refuses, the last one does not
pub last_none : (checks : List (Option Refusal)) (o : Option Refusal) → first_refusal (checks ++ o ∷ []) ≡ None →
    o ≡ None
last_none [] o none = (none_first o [] none).0
last_none (check ∷ more) o none = last_none more o (none_first check (more ++ o ∷ []) none).1

pub all_none : (checks : List (Option Refusal)) → first_refusal checks ≡ None → AllByRecursion (λ o. o ≡ None) checks
all_none [] none = tt
all_none (o ∷ more) none = let parts = none_first o more none in (parts.0, all_none more parts.1)

pub when_none : (b : Bool) (refusal : Refusal) → when b refusal ≡ None → b ≡ false
when_none true refusal none = absurd cc
when_none false refusal none = refl

pub none_busy : (o : Option ℕ) → option_map refused.Busy o ≡ None → o ≡ None
none_busy None none = refl
none_busy (Some xid) none = absurd cc
