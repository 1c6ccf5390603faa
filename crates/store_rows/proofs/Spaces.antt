-- A space in which one row is changed.
use Rattle.std.proofs.Common.{◌≡◌, ℕ, Bool, true, false, cond, List, Option, Some, None, refl, sym, ap, subst, ◌∙◌, ◌≤◌}
use Rattle.std.proofs.Common.{option_map, is_some, arith}
use Rattle.std.proofs.lemmas.Bool.{false≢true}
use Rattle.std.specs.Ordering.{is_eq}
use Rattle.std.specs.Cmp.Lexicographic.{nat_list_cmp_total}
use Rattle.std.specs.FinMap.{get, empty, get-empty, get-insert, get-remove}
use Rattle.std.specs.Prelude.{Result, Ok, Err, OnOk, IfErr, unwrap_or}
use Rattle.slon_base.specs.Charges.{KeepsTold}
use Rattle.slon_base.specs.Keeper.{Space, Store, Kept, key_cmp, sight}
use Rattle.store_rows.specs.declared.stop.Stop.{Stop}
use Rattle.store_rows.specs.Steps.{IsOutside, Safe}
use Rattle.store_rows.specs.Spending.{Stays, Rests}
use Rattle.store_rows.specs.Space.{IsSpace, Any, AllOf, Alters, written, IsPending, Becomes}
use Rattle.slon_base.proofs.Order.{same_keys, equal_of, tied}

get-written : (o : Option (List ℕ)) (key q : List ℕ) (space : Space) → get (written o key space) q ≡ cond
    (is_eq (key_cmp q key)) o (get space q)
get-written None key q space = get-remove nat_list_cmp_total space key q
get-written (Some v) key q space = get-insert nat_list_cmp_total space key v q

-- at one key what stands is changed, to what can be spelled there
pub record Turns {I X : Type 0} (key : I → List ℕ) (IsOne : I → Type 0) (Can : X → Type 0) (old new : I → Option X)
    (i : I) (now : Option X) : Type 0 where
  pub unique : (a b : I) → IsOne a → IsOne b → key a ≡ key b → a ≡ b
  pub one : IsOne i
  pub can : AllOf Can now
  pub alters : Alters IsOne i now old new

-- the one lemma of all kinds of rows
pub altered : {I X : Type 0} {key : I → List ℕ} {IsOne : I → Type 0} {value : X → List ℕ} {Can : X → Type 0}
    {old new : I → Option X} {space : Space} {i : I} {now : Option X} → Turns key IsOne Can old new i now →
    IsSpace key IsOne value Can old space →
    IsSpace key IsOne value Can new (written (option_map value now) (key i) space)
altered {I} {X} {key} {IsOne} {value} {Can} {old} {new} {space} {i} {now} turns is = record {
  lookups = λ j other. get-written (option_map value now) (key i) (key j) space ∙ lookup j other
      (is_eq (key_cmp (key j) (key i))) refl;
  spelled = λ j other. spell j other (is_eq (key_cmp (key j) (key i))) refl;
  keys = λ q v there. key_of q v (is_eq (key_cmp q (key i))) refl
      (sym (get-written (option_map value now) (key i) q space) ∙ there);
}
  where
    same : (j : I) → IsOne j → is_eq (key_cmp (key j) (key i)) ≡ true → j ≡ i
    same j other tie = turns.unique j i other turns.one (same_keys (key j) (key i) (equal_of _ tie))

    differ : (j : I) → is_eq (key_cmp (key j) (key i)) ≡ false → j ≡ i → ⊥
    differ j not_tie is_same = false≢true (sym not_tie ∙ ap (λ k. is_eq (key_cmp (key k) (key i))) is_same
        ∙ tied (key i))

    lookup : (j : I) → IsOne j → (b : Bool) → is_eq (key_cmp (key j) (key i)) ≡ b → cond b (option_map value now)
        (get space (key j)) ≡ option_map value (new j)
    lookup j other true tie = ap (option_map value) (sym turns.alters.here ∙ ap new (sym (same j other tie)))
    lookup j other false not_tie = is.lookups j other ∙ ap (option_map value)
        (sym (turns.alters.there j other (differ j not_tie)))

    spell : (j : I) → IsOne j → (b : Bool) → is_eq (key_cmp (key j) (key i)) ≡ b → AllOf Can (new j)
    spell j other true tie = subst (AllOf Can) (sym turns.alters.here ∙ ap new (sym (same j other tie))) turns.can
    spell j other false not_tie = subst (AllOf Can) (sym (turns.alters.there j other (differ j not_tie)))
        (is.spelled j other)

    key_of : (q v : List ℕ) (b : Bool) → is_eq (key_cmp q (key i)) ≡ b → cond b (option_map value now)
        (get space q) ≡ Some v → (j : I) × IsOne j × (q ≡ key j)
    key_of q v true tie there = (i, turns.one, same_keys q (key i) (equal_of _ tie))
    key_of q v false not_tie there = is.keys q v there

-- a pending store after a change
pub pending_on : {P Q : Store → Type 0} (f : Store → Store) {old new : Kept} → IsPending P old →
    new.pending ≡ option_map (option_map f) old.pending → ((m : Store) → P m → Q (f m)) → IsPending Q new
pending_on f p is on = record {
  store = f p.store;
  is = is ∙ ap (option_map (option_map f)) p.is;
  has =
      on p.store p.has;
}

pub becomes : {T : Type 0} {P : Store → Type 0} (Q : Store → Type 0) (f : Store → Store) {old : Kept} (new : Kept)
    (result : Result T Stop) → OnOk result (new.pending ≡ option_map (option_map f) old.pending) →
    IfErr result IsOutside → IsPending P old →
    ((m : Store) → P m → Q (f m)) → Becomes Q new result
becomes Q f new (Ok x) put only p on = pending_on f p put on
becomes Q f new (Err stop) put only p on = only

-- what is pending is seen
pub sees : {P : Store → Type 0} {k : Kept} (p : IsPending P k) → sight k ≡ Some p.store
sees {k = k} p = ap (λ o. unwrap_or o k.held) p.is

-- a call that changed nothing
pub pending_same : {P : Store → Type 0} {old new : Kept} → IsPending P old → new.pending ≡ old.pending → IsPending P new
pending_same p same = record { store = p.store; is = same ∙ p.is; has = p.has }

-- the same of what is pending
pub pending_as : {P Q : Store → Type 0} {k : Kept} → ((m : Store) → P m → Q m) → IsPending P k → IsPending Q k
pending_as on p = record { store = p.store; is = p.is; has = on p.store p.has }

-- a part that stopped is handed on
pub hands_stop : {U : Type 0} (Q : Store → Type 0) (new : Kept) {stop : Stop} (result : Result U Stop) → (y : Stop)
    × (result ≡ Err y) × (y ≡ stop) → IsOutside stop → Becomes Q new result
hands_stop Q new result (y, is, same) outside = subst (Becomes Q new) (sym is) (subst IsOutside (sym same) outside)

-- the same stands
pub same_space : {I X : Type 0} {key : I → List ℕ} {IsOne : I → Type 0} {value : X → List ℕ} {Can : X →
    Type 0} {old new : I → Option X} {space : Space} → IsSpace key IsOne value Can old space →
    ((j : I) → IsOne j → new j ≡ old j) → IsSpace key IsOne value Can new space
same_space {value = value} {Can = Can} is same = record {
  lookups = λ i one. is.lookups i one ∙ ap (option_map value) (sym (same i one));
  spelled = λ i one. subst (AllOf Can) (sym (same i one)) (is.spelled i one);
  keys = is.keys;
}

pub stop_outside : (stop : Stop) {T : Type 0} (result : Result T Stop) → result ≡ Err stop → IfErr result IsOutside →
    IsOutside stop
stop_outside stop result is only = subst (λ r. IfErr r IsOutside) is only

-- reads so far, which changed nothing
pub record Looked (old mid : Kept) : Type 0 where
  pub still : Stays old.can_fail mid.can_fail
  pub later : old.faults ≤ mid.faults
  pub rests : Rests old.faults mid.faults
  pub told : KeepsTold old.told mid.told
  pub held : mid.held ≡ old.held
  pub doubts : mid.doubts ≡ old.doubts
  pub pending : mid.pending ≡ old.pending

pub looked_on : {T : Type 0} {old mid new : Kept} {x : T} → Looked old mid → Safe mid new (Ok x) →
    new.pending ≡ mid.pending → Looked old new
looked_on l s same = record {
  still = λ n most. s.still n (l.still n most);
  later = omega (arith, l.later, s.later);
  rests = λ n up. s.quiet refl n (l.rests n up);
  told = λ c from. s.told c (l.told c from);
  held = s.held ∙ l.held;
  doubts = s.doubts ∙ l.doubts;
  pending = same ∙ l.pending;
}

pub looked_none : {old : Kept} → Looked old old
looked_none = record {
  still = λ n most. most;
  later = omega arith;
  rests = λ n up. up;
  told = λ c from. from;
  held = refl;
  doubts = refl;
  pending = refl;
}

pub safe_on : {T : Type 0} {old mid new : Kept} {result : Result T Stop} → Looked old mid → Safe mid new result →
    Safe old new result
safe_on l s = record {
  still = λ n most. s.still n (l.still n most);
  spends = λ failed n most. s.spends failed n (l.still n most);
  later = omega (arith, l.later, s.later);
  rises = λ failed n le. s.rises failed n (omega (arith, le, l.later));
  quiet = λ none n up. s.quiet none n (l.rests n up);
  told = λ c from. s.told c (l.told c from);
  held = s.held ∙ l.held;
  doubts = s.doubts ∙ l.doubts;
  opened = s.opened ∙ ap is_some l.pending;
}

-- reads that changed nothing see the same
pub sight_on : (old new : Kept) → new.held ≡ old.held → new.pending ≡ old.pending → sight new ≡ sight old
sight_on old new held pending = ap (λ p. unwrap_or p new.held) pending ∙ ap (λ h. unwrap_or old.pending h) held

pub sight_same : {old mid : Kept} → Looked old mid → sight mid ≡ sight old
sight_same {old} {mid} l = sight_on old mid l.held l.pending

pub sight_safe : {T : Type 0} {old new : Kept} {result : Result T Stop} → Safe old new result →
    new.pending ≡ old.pending →
    sight new ≡ sight old
sight_safe {T} {old} {new} s same = sight_on old new s.held same

-- a stop that is handed on
pub handed_safe : {T U : Type 0} (old new : Kept) {stop : Stop} (result : Result U Stop) → (y : Stop) × (result ≡ Err y)
    × (y ≡ stop) → Safe {T = T} old new (Err stop) → Safe old new result
handed_safe {T} {U} old new {stop} result (y, is, same) s = subst (λ r. Safe {T = U} old new r)
    (sym (is ∙ ap (λ e. Err e) same)) (record {
      still = s.still;
      spends = s.spends;
      later = s.later;
      rises = s.rises;
      quiet = s.quiet;
      told = s.told;
      held = s.held;
      doubts = s.doubts;
      opened = s.opened;
    })

-- every value may stand
pub any_of : {X : Type 0} (o : Option X) → AllOf Any o
any_of None = tt
any_of (Some x) = tt

-- an empty space, where nothing stands
pub empty_space : {I X : Type 0} {key : I → List ℕ} {IsOne : I → Type 0} {value : X → List ℕ} {Can : X → Type 0}
    {entry : I → Option X} → ((i : I) → entry i ≡ None) → IsSpace key IsOne value Can entry empty
empty_space {key = key} {value = value} {Can = Can} none = record {
  lookups = λ i one. get-empty key_cmp (key i) ∙ ap (option_map value) (sym (none i));
  spelled = λ i one. subst (AllOf Can) (sym (none i)) tt;
  keys = λ q v there. let bad : None ≡ Some v = sym (get-empty key_cmp q) ∙ there in absurd cc;
}
