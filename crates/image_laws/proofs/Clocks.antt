-- The transactions of a database that have ended, and how they become more.
use Rattle.std.proofs.Common.{◌≡◌, ℕ, zero, suc, ◌+◌, ◌<◌, Bool, true, false, cond, List, [], ◌∷◌, ◌++◌, length, Some}
use Rattle.std.proofs.Common.{None, refl, sym, ap, subst, ◌∙◌, arith, not}
use Rattle.std.specs.Prelude.{◌==◌, ◌||◌, ◌&&◌, nat_lt}
use Rattle.std.specs.List.{AllByRecursion}
use Rattle.std.specs.Str.{bytes_eq}
use Rattle.std.proofs.lemmas.Bool.{false≢true, false_from_ne_true, eqb-true, eqb-false, eq-eqb, lt-ltb, le-ltb}
use Rattle.std.proofs.lemmas.Bool.{ltb-true, ltb-false, and_right}
use Rattle.std.proofs.lemmas.List.{append_assoc}
use Rattle.slon_model.specs.Names.{Named, find_named, without}
use Rattle.slon_model.specs.Rows.{member}
use Rattle.slon_model.specs.Snapshots.{Rising}
use Rattle.slon_model.proofs.Names.{bytes_same}
use Rattle.slon_laws.specs.Sound.{AreNamedOnce, ids_of}
use Rattle.slon_laws.proofs.Opens.{member_all}
use Rattle.image_laws.proofs.Orders.{AreApart, member_append}

-- Of the ids below the next one, those that are not open have ended, each once.
pub record Clock (next : ℕ) (open_ids ended : List ℕ) : Type 0 where
  pub each : (x : ℕ) → member x ended ≡ (nat_lt x next && not (member x open_ids))
  pub count : length ended + length open_ids ≡ next
  pub apart : AreApart ended

-- more of them have ended
pub record Ticked (next : ℕ) (open_ids before : List ℕ) : Type 0 where
  pub more : List ℕ
  pub clock : Clock next open_ids (more ++ before)

abbrev pub no_more : {next : ℕ} {open_ids ended : List ℕ} → Clock next open_ids ended → Ticked next open_ids ended
no_more c = record { more = []; clock = c }

pub ticked_on : {next : ℕ} {open_ids middle before : List ℕ} (more : List ℕ) → middle ≡ more ++ before →
    Ticked next open_ids middle → Ticked next open_ids before
ticked_on {next} {open_ids} {before = before} more is t = record {
  more = t.more ++ more;
  clock =
      subst (Clock next open_ids) (ap (λ es. t.more ++ es) is ∙ sym (append_assoc t.more more before)) t.clock;
}

-- ---- one begins

other_below : (x next : ℕ) → (x == next) ≡ false → nat_lt x (next + 1) ≡ nat_lt x next
other_below x next other = by (nat_lt x next) refl
  where
    by : (b : Bool) → nat_lt x next ≡ b → nat_lt x (next + 1) ≡ b
    by true below = let less = ltb-true x next below in lt-ltb x (next + 1) (omega (arith, less))
    by false above =
        let most = ltb-false x next above in
        let differ = eqb-false x next other in
        le-ltb x (next + 1) (omega (arith, most, differ))

pub clock_begins : {next : ℕ} {open_ids ended : List ℕ} → Clock next open_ids ended →
    Clock (next + 1) (open_ids ++ next ∷ []) ended
clock_begins {next} {open_ids} {ended} c = record {
  each = λ x. by x (x == next) refl;
  count = let count = c.count in let one = longer open_ids in omega (arith, count, one);
  apart = c.apart;
}
  where
    longer : (xs : List ℕ) → length (xs ++ next ∷ []) ≡ length xs + 1
    longer [] = refl
    longer (x ∷ xs) = let more = longer xs in omega (arith, more)

    by : (x : ℕ) (b : Bool) → (x == next) ≡ b →
        member x ended ≡ (nat_lt x (next + 1) && not (member x (open_ids ++ next ∷ [])))
    by x true same =
        let is : x ≡ next = eqb-true x next same in
        c.each x
        ∙ ap (λ b. b && not (member x open_ids)) (le-ltb x next (omega (arith, is)))
        ∙ sym (and_right (nat_lt x (next + 1)) (not (member x (open_ids ++ next ∷ [])))
        (ap not (member_append x open_ids (next ∷ []) ∙ ap (λ b. member x open_ids || (b || false)) same
        ∙ either (member x open_ids))))
      where
        either : (b : Bool) → (b || true) ≡ true
        either true = refl
        either false = refl
    by x false other =
        c.each x
        ∙ ap (λ b. b && not (member x open_ids)) (sym (other_below x next other))
        ∙ ap (λ b. nat_lt x (next + 1) && not b)
        (sym (member_append x open_ids (next ∷ []) ∙ ap (λ b. member x open_ids || (b || false)) other
        ∙ either (member x open_ids)))
      where
        either : (b : Bool) → (b || false) ≡ b
        either true = refl
        either false = refl

-- ---- one ends

-- an id is taken out of these
pub record IsTakenOut (id : ℕ) (old new : List ℕ) : Type 0 where
  pub among : member id old ≡ true
  pub rest : (x : ℕ) → member x new ≡ (member x old && not (x == id))
  pub one : length old ≡ length new + 1

pub clock_ends : {next : ℕ} {open_ids fewer ended : List ℕ} (id : ℕ) → id < next → IsTakenOut id open_ids fewer →
    Clock next open_ids ended → Clock next fewer (id ∷ ended)
clock_ends {next} {open_ids} {fewer} {ended} id below out c = record {
  each = λ x. by x (x == id) refl;
  count = let count = c.count in let one = out.one in omega (arith, count, one);
  apart = (
    c.each id ∙ and_right (nat_lt id next) (not (member id open_ids)) (ap not out.among),
    c.apart,
  );
}
  where
    by : (x : ℕ) (b : Bool) → (x == id) ≡ b → (b || member x ended) ≡ (nat_lt x next && not (member x fewer))
    by x true same =
        let is : x ≡ id = eqb-true x id same in
        sym (ap (λ b. b && not (member x fewer)) (lt-ltb x next (omega (arith, is, below)))
        ∙ ap not (out.rest x ∙ and_right (member x open_ids) (not (x == id)) (ap not same)))
    by x false other =
        c.each x
        ∙ ap (λ b. nat_lt x next && not b) (sym (out.rest x ∙ ap (λ b. member x open_ids && not b) other
        ∙ either (member x open_ids)))
      where
        either : (b : Bool) → (b && true) ≡ b
        either true = refl
        either false = refl

-- ---- a name is taken away

above_none : (x : ℕ) (xs : List ℕ) → AllByRecursion (λ y. x < y) xs → member x xs ≡ false
above_none x xs above =
    false_from_ne_true (member x xs) (λ is. let less : x < x = member_all (λ y. x < y) x xs above is in
    omega (arith, less))

-- the first of rising ids
first_out : (id : ℕ) (rest : List ℕ) → AllByRecursion (λ y. id < y) rest → IsTakenOut id (id ∷ rest) rest
first_out id rest above = record {
  among = ap (λ b. b || member id rest) (eq-eqb id id refl);
  rest = λ x. by x (x == id) refl;
  one = omega arith;
}
  where
    by : (x : ℕ) (b : Bool) → (x == id) ≡ b → member x rest ≡ ((b || member x rest) && not b)
    by x true same = ap (λ y. member y rest) (eqb-true x id same) ∙ above_none id rest above
    by x false other = either (member x rest)
      where
        either : (b : Bool) → b ≡ (b && true)
        either true = refl
        either false = refl

-- another one in front of it
later_out : (id first : ℕ) (old new : List ℕ) → AllByRecursion (λ y. first < y) old → IsTakenOut id old new →
    IsTakenOut id (first ∷ old) (first ∷ new)
later_out id first old new above out = record {
  among = ap (λ b. (id == first) || b) out.among ∙ either (id == first);
  rest = λ x. by x (x == first) refl;
  one = let one = out.one in omega (arith, one);
}
  where
    either : (b : Bool) → (b || true) ≡ true
    either true = refl
    either false = refl

    by : (x : ℕ) (b : Bool) → (x == first) ≡ b → (b || member x new) ≡ ((b || member x old) && not (x == id))
    by x true same =
        ap not (sym (false_from_ne_true (x == id) (λ is.
        false≢true (sym (above_none first old above)
        ∙ ap (λ y. member y old) (sym (eqb-true x first same) ∙ eqb-true x id is) ∙ out.among))))
    by x false other = out.rest x

pub none_without : {X : Type 0} (name : List ℕ) (os : Named X) → find_named name os ≡ None → without name os ≡ os
none_without name [] none = refl
none_without name (o ∷ os) none = by (none_without name os) (bytes_eq name o.0) none
  where
    by : (find_named name os ≡ None → without name os ≡ os) → (b : Bool) →
        cond b (Some o.1) (find_named name os) ≡ None →
        cond (not b) (o ∷ without name os) (without name os) ≡ o ∷ os
    by on true found = absurd cc
    by on false rest = ap (λ es. o ∷ es) (on rest)

pub name_out : (name : List ℕ) (id : ℕ) (os : Named ℕ) → AreNamedOnce os → Rising (ids_of os) →
    find_named name os ≡ Some id → IsTakenOut id (ids_of os) (ids_of (without name os))
name_out name id [] named rising found = absurd cc
name_out name id (o ∷ os) named rising found =
    by (name_out name id os named.1 rising.1) (bytes_eq name o.0) refl found
  where
    by : (find_named name os ≡ Some id → IsTakenOut id (ids_of os) (ids_of (without name os))) → (b : Bool) →
        bytes_eq name o.0 ≡ b → cond b (Some o.1) (find_named name os) ≡ Some id →
        IsTakenOut id (o.1 ∷ ids_of os) (ids_of (cond (not b) (o ∷ without name os) (without name os)))
    by on true same here =
        let is : o.1 ≡ id = cc in
        subst (λ rest. IsTakenOut id (o.1 ∷ ids_of os) (ids_of rest))
        (sym (none_without name os (ap (λ k. find_named k os) (bytes_same name o.0 same) ∙ named.0)))
        (subst (λ k. IsTakenOut k (o.1 ∷ ids_of os) (ids_of os)) is (first_out o.1 (ids_of os) rising.0))
    by on false other later =
        later_out id o.1 (ids_of os) (ids_of (without name os)) rising.0 (on later)

-- ---- all end, and ids are skipped

pub clock_all_end : {next : ℕ} {ended : List ℕ} (open_ids : List ℕ) → Rising open_ids →
    AllByRecursion (λ x. x < next) open_ids → Clock next open_ids ended → Ticked next [] ended
clock_all_end [] rising below c = no_more c
clock_all_end (id ∷ rest) rising below c =
    ticked_on (id ∷ []) refl
    (clock_all_end rest rising.1 below.1 (clock_ends id below.0 (first_out id rest rising.0) c))

clock_skips : {next : ℕ} {ended : List ℕ} → Clock next [] ended → Clock (next + 1) [] (next ∷ ended)
clock_skips {next} {ended} c = record {
  each = λ x. by x (x == next) refl;
  count = let count = c.count in omega (arith, count);
  apart = (c.each next ∙ ap (λ b. b && true) (le-ltb next next (omega arith)), c.apart);
}
  where
    by : (x : ℕ) (b : Bool) → (x == next) ≡ b → (b || member x ended) ≡ (nat_lt x (next + 1) && true)
    by x true same =
        let is = eqb-true x next same in
        sym (ap (λ b. b && true) (lt-ltb x (next + 1) (omega (arith, is))))
    by x false other = c.each x ∙ ap (λ b. b && true) (sym (other_below x next other))

pub clock_skips_all : (many : ℕ) {next : ℕ} {ended : List ℕ} → Clock next [] ended → Ticked (next + many) [] ended
clock_skips_all zero {next} {ended} c = subst (λ n. Ticked n [] ended) (omega arith) (no_more c)
clock_skips_all (suc many) {next} {ended} c =
    subst (λ n. Ticked n [] ended) (omega arith)
    (ticked_on (next ∷ []) refl (clock_skips_all many (clock_skips c)))
