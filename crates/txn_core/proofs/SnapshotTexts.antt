-- The printed form of a snapshot, printed and read.
use Rattle.std.proofs.Common.{◌≡◌, ℕ, ◌<◌, ◌≤◌, ◌^◌, Bool, true, false, IsTrue, ◌↔◌, eqb, ◌==◌, nat_lt, List, [], ◌∷◌}
use Rattle.std.proofs.Common.{◌++◌, map, length, refl, sym, ap, ◌∙◌, arith, append_assoc, length-append}
use Rattle.std.proofs.lemmas.Bool.{and_parts, and_from, false≢true}
use borrow.Author.Tests.{eqb-true, ltb-true, lt-ltb}
use Rattle.std.proofs.lemmas.List.{append-nil}
use Rattle.std.proofs.lemmas.Fmt.{decimal_nonempty}
use Rattle.std.specs.List.{AllByRecursion, slice_split, slice_get}
use Rattle.std.specs.Option.{unwrap_or}
use Rattle.std.specs.Fmt.{decimal}
use Rattle.slon_model.specs.Snapshots.{Snapshot, ids_text, snapshot_text, first_or, Rising}
use Rattle.txn_core.specs.Snapshots.{IsPrinted, behind_commas, rises_below}
use Rattle.slon_lemmas.proofs.Splitting.{lacks, lacks-append, lacks-decimal, split_first, split_last}

pub ids_first : (x : ℕ) (xs : List ℕ) → ids_text (x ∷ xs) ≡ decimal x ++ behind_commas xs
ids_first x [] = sym (append-nil (decimal x))
ids_first x (y ∷ more) = append_assoc (decimal x) (44 ∷ []) (ids_text (y ∷ more))
    ∙ ap (λ t. decimal x ++ 44 ∷ t) (ids_first y more)

-- ids that are small
abbrev pub AllSmall : List ℕ → Type 0
AllSmall xs = AllByRecursion (λ x. x < 2 ^ 64) xs

pub no_ids : (xs : List ℕ) → AllSmall xs → [] ≡ ids_text xs → [] ≡ xs
no_ids [] h e = refl
no_ids (x ∷ xs) h e =
    let long = decimal_nonempty x h.0 in
    let same = ap length (e ∙ ids_first x xs) in
    absurd (omega (arith, long, same, length-append {A = ℕ}))

pub ids_split : (x : ℕ) (xs : List ℕ) → AllSmall (x ∷ xs) →
    slice_split (λ b. eqb b 44) (ids_text (x ∷ xs)) ≡ map decimal (x ∷ xs)
ids_split x [] h = split_last 44 (decimal x) (lacks-decimal 44 x refl h.0)
ids_split x (y ∷ more) h = ap (slice_split (λ b. eqb b 44)) (append_assoc (decimal x) (44 ∷ []) (ids_text (y ∷ more)))
    ∙ split_first 44 (decimal x) (ids_text (y ∷ more)) (lacks-decimal 44 x refl h.0)
    ∙ ap (λ l. decimal x ∷ l) (ids_split y more h.1)

-- the words of ids that are not none
pub ids_words : (text : List ℕ) (xs : List ℕ) → (text ≡ [] → ⊥) → AllSmall xs → text ≡ ids_text xs →
    slice_split (λ b. eqb b 44) text ≡ map decimal xs
ids_words text [] some h e = absurd (some e)
ids_words text (x ∷ xs) some h e = ap (slice_split (λ b. eqb b 44)) e ∙ ids_split x xs h

ids_lack : (xs : List ℕ) → AllSmall xs → lacks 58 (ids_text xs) ≡ true
ids_lack [] h = refl
ids_lack (x ∷ []) h = lacks-decimal 58 x refl h.0
ids_lack (x ∷ y ∷ more) h = lacks-append 58 (decimal x ++ 44 ∷ []) (ids_text (y ∷ more)) (lacks-append 58 (decimal x)
    (44 ∷ []) (lacks-decimal 58 x refl h.0) refl) (ids_lack (y ∷ more) h.1)

small_below : (xs : List ℕ) (limit : ℕ) → limit < 2 ^ 64 → AllByRecursion (λ x. x < limit) xs → AllSmall xs
small_below [] limit h b = tt
small_below (x ∷ xs) limit h b = let at = b.0 in (omega (arith, h, at), small_below xs limit h b.1)

pub running_small : (s : Snapshot) → IsPrinted s → AllSmall s.running
running_small s h = small_below s.running s.xmax h.small h.below

first_le : (limit : ℕ) (xs : List ℕ) → AllByRecursion (λ x. x < limit) xs → first_or limit xs ≤ limit
first_le limit [] b = omega arith
first_le limit (x ∷ xs) b = let at = b.0 in omega (arith, at)

pub xmin_le : (s : Snapshot) → IsPrinted s → s.xmin ≤ s.xmax
xmin_le s h = let first = h.first in omega (arith, first, first_le s.xmax s.running h.below)

pub xmin_small : (s : Snapshot) → IsPrinted s → s.xmin < 2 ^ 64
xmin_small s h = let small = h.small in omega (arith, small, xmin_le s h)

-- the three parts of the text
pub text_split : (s : Snapshot) → IsPrinted s → slice_split (λ b. eqb b 58) (snapshot_text s) ≡ decimal s.xmin ∷ decimal
    s.xmax ∷ ids_text s.running ∷ []
text_split s h =
    ap (slice_split (λ b. eqb b 58)) (append_assoc (decimal s.xmin ++ 58 ∷ [] ++ decimal s.xmax) (58 ∷ [])
    (ids_text s.running) ∙ append_assoc (decimal s.xmin ++ 58 ∷ []) (decimal s.xmax) (58 ∷ ids_text s.running)
    ∙ append_assoc (decimal s.xmin) (58 ∷ []) (decimal s.xmax ++ 58 ∷ ids_text s.running))
    ∙ split_first 58 (decimal s.xmin) (decimal s.xmax ++ 58 ∷ ids_text s.running) (lacks-decimal 58 s.xmin refl
    (xmin_small s h))
    ∙ ap (λ l. decimal s.xmin ∷ l) (split_first 58 (decimal s.xmax) (ids_text s.running)
    (lacks-decimal 58 s.xmax refl h.small)
    ∙ ap (λ l. decimal s.xmax ∷ l) (split_last 58 (ids_text s.running) (ids_lack s.running (running_small s h))))

pub nil_of_length : (text : List ℕ) → true ≡ (length text == 0) → text ≡ []
nil_of_length [] e = refl
nil_of_length (c ∷ cs) e = let none = eqb-true (length (c ∷ cs)) 0 (sym e) in absurd (omega (arith, none))

pub some_of_length : (text : List ℕ) → false ≡ (length text == 0) → text ≡ [] → ⊥
some_of_length text e none = false≢true (e ∙ ap (λ t. length t == 0) none)

-- ---- the form that a snapshot has

all_above : (x y : ℕ) (ys : List ℕ) → x < y → AllByRecursion (λ z. y < z) ys → AllByRecursion (λ z. x < z) ys
all_above x y [] h a = tt
all_above x y (z ∷ zs) h a = let at = a.0 in (omega (arith, h, at), all_above x y zs h a.1)

first_above : (x limit : ℕ) (xs : List ℕ) → x < first_or limit xs → Rising xs → AllByRecursion (λ z. z < limit) xs →
    AllByRecursion (λ z. x < z) xs × (x < limit)
first_above x limit [] h r b = (tt, h)
first_above x limit (y ∷ ys) h r b = let at = b.0 in ((h, all_above x y ys h r.0), omega (arith, h, at))

pub rises_yes : (limit : ℕ) (xs : List ℕ) → rises_below limit xs ≡ true → Rising xs × AllByRecursion (λ z. z < limit) xs
rises_yes limit [] e = (tt, tt)
rises_yes limit (x ∷ xs) e =
    let h = and_parts (nat_lt x (first_or limit xs)) (rises_below limit xs) e in
    let rest = rises_yes limit xs h.1 in
    let at = first_above x limit xs (ltb-true x (first_or limit xs) h.0) rest.0 rest.1 in
    ((at.0, rest.0), (at.1, rest.1))

below_first : (x limit : ℕ) (xs : List ℕ) → AllByRecursion (λ z. x < z) xs → x < limit → x < first_or limit xs
below_first x limit [] a h = h
below_first x limit (y ∷ ys) a h = a.0

pub rises_no : (limit : ℕ) (xs : List ℕ) → Rising xs → AllByRecursion (λ z. z < limit) xs → rises_below limit xs ≡ true
rises_no limit [] r b = refl
rises_no limit (x ∷ xs) r b = and_from (nat_lt x (first_or limit xs)) (rises_below limit xs)
    (lt-ltb x (first_or limit xs) (below_first x limit xs r.0 b.0)) (rises_no limit xs r.1 b.1)

pub first_of : (limit : ℕ) (xs : List ℕ) → unwrap_or (slice_get xs 0) limit ≡ first_or limit xs
first_of limit [] = refl
first_of limit (x ∷ xs) = refl

pub canonical : (s : Snapshot) (result : Bool) → s.xmin ≡ first_or s.xmax s.running → s.xmax < 2 ^ 64 →
    result ≡ rises_below s.xmax s.running → IsTrue result ↔ IsPrinted s
canonical s result first small e = (
  λ yes. let h = rises_yes s.xmax s.running (sym e ∙ yes) in record {
    first = first;
    rising = h.0;
    below = h.1;
    small = small;
  },
  λ h. e ∙ rises_no s.xmax s.running h.rising h.below,
)
