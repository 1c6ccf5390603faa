-- What definitions stand for whose parts are tokens and earlier definitions.
use Rattle.std.proofs.Common.{◌==◌, ◌≡◌, ℕ, zero, suc, if◌then◌else◌, ◌+◌, ◌-◌, ◌<◌, ltb, ◌&&◌, Bool, true, false}
use Rattle.std.proofs.Common.{List}
use Rattle.std.proofs.Common.{[], ◌∷◌, ◌++◌, map, length, get_or, slice_get, Option, Some, None, Result, Ok, Err, OnOk}
use Rattle.std.proofs.Common.{OnErr, cond, ◌⊎◌, inl, inr, refl, sym, ap, subst, ◌∙◌, arith, append_assoc}
use Rattle.std.proofs.Math.ListN.{get_or-append}
use Rattle.std.proofs.Math.Seq.{get_or-append_seam}
use Rattle.std.proofs.lemmas.Bool.{ltb-true}
use Rattle.std.proofs.lemmas.Bool.Decides.{nat_tests}
use Rattle.std.proofs.lemmas.List.{append-nil, get_or_past, length-append, map-append}
use Rattle.std.proofs.lemmas.Option.{slice_get-map, unwrap_or-slice_get}
use Rattle.std.specs.Option.{option_map, unwrap_or}
use Rattle.slonik_tokens.specs.declared.token.Token.{Token}
use Rattle.slonik_expand.specs.declared.definition.Part.{Part}
use Rattle.slonik_expand.specs.declared.definition.Part.TheVariants.{Single, Earlier}
use Rattle.slonik_expand.specs.declared.definition.Definition.{Definition}
use Rattle.slonik_expand.specs.Steps.{Means, Settles}
use Rattle.slonik_expand.specs.Shared.{only_earlier, capped, part_tokens, parts_tokens, values_behind, meanings}
use Rattle.slonik_expand.specs.Shared.{meaning, is_below}
use Rattle.slonik_expand.specs.Shared.{are_below, are_ordered, parts_at}

pub both : (a b : Bool) → (a && b) ≡ true → (a ≡ true) × (b ≡ true)
both true b h = (refl, h)
both false b h = cc

-- the values go on from the table
pub behind_is : {X : Type 0} (value : List X → List Part → X) (xs : List X) (ds : List Definition)
    → (ys : List X) × (values_behind value xs ds ≡ xs ++ ys) × (length ys ≡ length ds)
unfolding values_behind
behind_is value xs [] = ([], sym (append-nil xs), refl)
behind_is value xs (d ∷ ds) =
    let x = value xs d.parts.items in
    let more = behind_is value (xs ++ x ∷ []) ds in
    (x ∷ more.0, more.1 ∙ append_assoc xs (x ∷ []) more.0, ap suc more.2)

-- the value of one more definition
pub behind_one : {X : Type 0} (value : List X → List Part → X) (xs : List X) (ds : List Definition) (d : Definition)
    → values_behind value xs (ds ++ d ∷ []) ≡ values_behind value xs ds
    ++ value (values_behind value xs ds) d.parts.items ∷ []
unfolding values_behind
behind_one value xs [] d = refl
behind_one value xs (e ∷ ds) d = behind_one value (xs ++ value xs e.parts.items ∷ []) ds d

-- a value that more of the table does not change
abbrev pub IsSteady : {X : Type 0} → (List X → List Part → X) → Type 0
IsSteady {X} value = (xs ys : List X) (ps : List Part) → are_below (length xs) ps ≡ true
    → value (xs ++ ys) ps ≡ value xs ps

-- the value of a definition is that of its parts in the whole table
pub value_at : {X : Type 0} (value : List X → List Part → X) (x : X) → IsSteady value
    → ((table : List X) → value table [] ≡ x)
    → (xs : List X) (ds : List Definition) (i : ℕ) → are_ordered (length xs) ds ≡ true
    → get_or (values_behind value xs ds) (length xs + i) x ≡ value (values_behind value xs ds) (parts_at ds i)
unfolding values_behind are_ordered
value_at value x steady none xs [] i h = get_or_past xs (length xs + i) x (omega arith) ∙ sym (none xs)
value_at value x steady none xs (d ∷ ds) zero h =
    let y = value xs d.parts.items in
    let more = behind_is value (xs ++ y ∷ []) ds in
    let whole : values_behind value (xs ++ y ∷ []) ds ≡ xs ++ y ∷ more.0 = more.1 ∙ append_assoc xs (y ∷ []) more.0 in
    let below : are_below (length xs) d.parts.items ≡ true =
    (both (are_below (length xs) d.parts.items) (are_ordered (length xs + 1) ds) h).0 in
    let here : length xs + 0 ≡ length xs = omega arith in
    ap (λ l. get_or l (length xs + 0) x) whole ∙ ap (λ n. get_or (xs ++ y ∷ more.0) n x) here
    ∙ get_or-append_seam xs y more.0 x
    ∙ sym (ap (λ l. value l d.parts.items) whole ∙ steady xs (y ∷ more.0) d.parts.items below)
value_at value x steady none xs (d ∷ ds) (suc i) h =
    let y = value xs d.parts.items in
    let long : length (xs ++ y ∷ []) ≡ length xs + 1 = length-append xs (y ∷ []) in
    let order : are_ordered (length (xs ++ y ∷ [])) ds ≡ true =
    ap (λ n. are_ordered n ds) long ∙ (both (are_below (length xs) d.parts.items) (are_ordered (length xs + 1) ds)
    h).1 in
    let place : length xs + suc i ≡ length (xs ++ y ∷ []) + i = omega (arith, long) in
    ap (λ n. get_or (values_behind value (xs ++ y ∷ []) ds) n x) place
    ∙ value_at value x steady none (xs ++ y ∷ []) ds i order

-- the parts of the new definition speak of those before it
ordered_one : (n : ℕ) (ds : List Definition) (d : Definition) → are_ordered n ds ≡ true
    → are_below (n + length ds) d.parts.items ≡ true
    → are_ordered n (ds ++ d ∷ []) ≡ true
unfolding are_ordered
ordered_one n [] d h below =
    let here : n ≡ n + 0 = omega arith in
    ap (λ k. are_below k d.parts.items && true) here ∙ ap (λ b. b && true) below
ordered_one n (e ∷ ds) d h below =
    let parts = both (are_below n e.parts.items) (are_ordered (n + 1) ds) h in
    let there : n + 1 + length ds ≡ n + suc (length ds) = omega arith in
    ap (λ b. b && are_ordered (n + 1) (ds ++ d ∷ [])) parts.0
    ∙ ordered_one (n + 1) ds d parts.1 (ap (λ k. are_below k d.parts.items) there ∙ below)

pub ordered_new : (ds : List Definition) (d : Definition) → are_ordered 0 ds ≡ true
    → are_below (length ds) d.parts.items ≡ true
    → are_ordered 0 (ds ++ d ∷ []) ≡ true
ordered_new ds d h below =
    let all : 0 + length ds ≡ length ds = omega arith in
    ordered_one 0 ds d h (ap (λ n. are_below n d.parts.items) all ∙ below)

-- what parts stand for does not depend on definitions that came later
steady_tokens : (xs ys : List (List Token)) (ps : List Part) → are_below (length xs) ps ≡ true
    → parts_tokens (xs ++ ys) ps ≡ parts_tokens xs ps
unfolding parts_tokens part_tokens are_below is_below
steady_tokens xs ys [] h = refl
steady_tokens xs ys (Single t ∷ ps) h = ap (λ l. t ∷ l) (steady_tokens xs ys ps h)
steady_tokens xs ys (Earlier i ∷ ps) h =
    let parts = both (ltb i (length xs)) (are_below (length xs) ps) h in
    ap (λ l. l ++ parts_tokens (xs ++ ys) ps) (get_or-append xs ys [] i (ltb-true i (length xs) parts.0))
    ∙ ap (λ l. get_or xs i [] ++ l) (steady_tokens xs ys ps parts.1)

pub meaning_at : (made : List Definition) (place : ℕ) → are_ordered 0 made ≡ true
    → meaning made place ≡ parts_tokens (meanings made) (parts_at made place)
unfolding meaning meanings parts_tokens
meaning_at made place h =
    let there : place ≡ 0 + place = omega arith in
    ap (λ n. get_or (meanings made) n []) there ∙ value_at parts_tokens [] steady_tokens (λ table. refl) [] made place h

pub meanings_length : (made : List Definition) → length (meanings made) ≡ length made
unfolding meanings
meanings_length made =
    let all = behind_is parts_tokens [] made in
    ap length all.1 ∙ all.2

parts_more : (table : List (List Token)) (ps qs : List Part)
    → parts_tokens table (ps ++ qs) ≡ parts_tokens table ps ++ parts_tokens table qs
unfolding parts_tokens
parts_more table [] qs = refl
parts_more table (p ∷ ps) qs =
    ap (λ l. part_tokens table p ++ l) (parts_more table ps qs)
    ∙ sym (append_assoc (part_tokens table p) (parts_tokens table ps) (parts_tokens table qs))

below_more : (n : ℕ) (ps : List Part) (p : Part) → are_below n ps ≡ true → is_below n p ≡ true
    → are_below n (ps ++ p ∷ []) ≡ true
unfolding are_below
below_more n [] p h one = ap (λ b. b && true) one
below_more n (q ∷ ps) p h one =
    let parts = both (is_below n q) (are_below n ps) h in
    ap (λ b. b && are_below n (ps ++ p ∷ [])) parts.0 ∙ below_more n ps p parts.1 one

-- a definition stands for nothing yet
pub means_nothing : (made : List Definition) (d : Definition) → d.parts.items ≡ [] → d.len ≡ 0 → Means made d []
unfolding parts_tokens are_below
means_nothing made d none zeroed = record {
  parts = ap (parts_tokens (meanings made)) none;
  len = zeroed;
  below = ap (are_below (length made)) none;
}

capped_sum : (a b n m : ℕ) → n ≡ capped a → m ≡ capped b → capped (n + m) ≡ capped (a + b)
capped_sum a b n m e f = grind (arith, nat_tests, e, f)

-- A part came to the end of a definition, with a number of tokens that it is to stand for.
pub record Pushed (p : Part) : Type 0 where
  pub old : Definition
  pub new : Definition
  pub len : ℕ
  pub parts : new.parts.items ≡ old.parts.items ++ p ∷ []
  pub counted : new.len ≡ capped (old.len + len)

-- a part is added
pub means_more : (made : List Definition) (p : Part) (u : Pushed p)
    → u.len ≡ capped (length (part_tokens (meanings made) p)) → is_below (length made) p ≡ true
    → (tokens : List Token) → Means made u.old tokens → Means made u.new (tokens ++ part_tokens (meanings made) p)
unfolding parts_tokens
means_more made p u size below tokens h =
    let more = part_tokens (meanings made) p in
    record {
      parts = ap (parts_tokens (meanings made)) u.parts ∙ parts_more (meanings made) u.old.parts.items (p ∷ [])
          ∙ ap (λ l. l ++ parts_tokens (meanings made) (p ∷ [])) h.parts ∙ ap (λ l. tokens ++ l) (append-nil more);
      len = u.counted ∙ capped_sum (length tokens) (length more) u.old.len u.len h.len size
          ∙ ap capped (sym (length-append tokens more));
      below = ap (are_below (length made)) u.parts ∙ below_more (length made) u.old.parts.items p h.below below;
    }

pub means_token : (made : List Definition) (t : Token) (u : Pushed (Single t)) → u.len ≡ 1
    → (tokens : List Token) → Means made u.old tokens → Means made u.new (tokens ++ t ∷ [])
unfolding part_tokens is_below
means_token made t u one tokens h = means_more made (Single t) u one refl tokens h

pub means_earlier : (made : List Definition) (place : ℕ) (u : Pushed (Earlier place))
    → u.len ≡ capped (length (meaning made place)) → place < length made
    → (tokens : List Token) → Means made u.old tokens → Means made u.new (tokens ++ meaning made place)
unfolding part_tokens is_below meaning
means_earlier made place u size within tokens h =
    let below : ltb place (length made) ≡ true = grind (arith, nat_tests) in
    means_more made (Earlier place) u size below tokens h

-- how many tokens a definition counts, if there is one
abbrev pub len_in : Option Definition → ℕ
len_in None = 0
len_in (Some d) = d.len

len_of : (found : Option Definition) (tokens : Option (List Token))
    → option_map (λ d. d.len) found ≡ option_map (λ ts. capped (length ts)) tokens
    → len_in found ≡ capped (length (unwrap_or tokens []))
len_of None None e = refl
len_of None (Some ts) e = cc
len_of (Some d) None e = cc
len_of (Some d) (Some ts) e = cc

pub len_at : (made : List Definition) (place : ℕ)
    → map (λ d. d.len) made ≡ map (λ ts. capped (length ts)) (meanings made)
    → len_in (slice_get made place) ≡ capped (length (meaning made place))
unfolding meaning
len_at made place e =
    len_of (slice_get made place) (slice_get (meanings made) place)
    (sym (slice_get-map (λ d. d.len) made place) ∙ ap (λ l. slice_get l place) e
    ∙ slice_get-map (λ ts. capped (length ts)) (meanings made) place)
    ∙ ap (λ l. capped (length l)) (unwrap_or-slice_get (meanings made) place [])

-- a new definition counts its tokens
pub counted_one : (made : List Definition) (d : Definition)
    → map (λ d. d.len) made ≡ map (λ ts. capped (length ts)) (meanings made)
    → Means made d (parts_tokens (meanings made) d.parts.items)
    → map (λ d. d.len) (made ++ d ∷ []) ≡ map (λ ts. capped (length ts)) (meanings (made ++ d ∷ []))
unfolding meanings
counted_one made d e h =
    let count : List Token → ℕ = λ ts. capped (length ts) in
    let tokens = parts_tokens (meanings made) d.parts.items in
    map-append (λ d. d.len) made (d ∷ []) ∙ ap (λ l. l ++ d.len ∷ []) e
    ∙ ap (λ n. map count (meanings made) ++ n ∷ []) h.len
    ∙ sym (map-append count (meanings made) (tokens ∷ [])) ∙ ap (map count) (sym (behind_one parts_tokens [] made d))

-- a new definition settles behind the others
pub settles_new : (made now : List Definition) (d : Definition) (place : ℕ) → now ≡ made ++ d ∷ []
    → place ≡ length now - 1 → Settles made d now place
unfolding meaning meanings
settles_new made now d place e at =
    let long : length now ≡ length made + 1 = ap length e ∙ length-append made (d ∷ []) in
    let here : place ≡ length (meanings made) = omega (arith, at, long, meanings_length made) in
    let tokens = parts_tokens (meanings made) d.parts.items in
    let table : meanings now ≡ meanings made ++ tokens ∷ [] = ap meanings e ∙ behind_one parts_tokens [] made d in
    record {
      within = omega (arith, at, long);
      stands = ap (λ l. get_or l place []) table ∙ ap (λ n. get_or (meanings made ++ tokens ∷ []) n []) here
          ∙ get_or-append_seam (meanings made) tokens [] [];
      more = omega (arith, long);
      others = λ other h. ap (λ l. get_or l other []) table
          ∙ get_or-append (meanings made) (tokens ∷ []) [] other (omega (arith, h, meanings_length made));
    }

-- a definition that is another one settles there
pub settles_earlier : (made : List Definition) (d : Definition) (place : ℕ) → d.parts.items ≡ Earlier place ∷ []
    → Means made d (parts_tokens (meanings made) d.parts.items) → Settles made d made place
unfolding meaning parts_tokens part_tokens are_below is_below
settles_earlier made d place e h =
    let below : (ltb place (length made) && true) ≡ true = sym (ap (are_below (length made)) e) ∙ h.below in
    record {
      within = ltb-true place (length made) (both (ltb place (length made)) true below).0;
      stands = sym (ap (parts_tokens (meanings made)) e ∙ append-nil (meaning made place));
      more = omega arith;
      others = λ other h. refl;
    }

-- what the other names stand for
pub names_stay : (old new : List Definition) (found : Option ℕ)
    → ((place : ℕ) → found ≡ Some place → place < length old)
    → ((place : ℕ) → place < length old → meaning new place ≡ meaning old place)
    → option_map (meaning new) found ≡ option_map (meaning old) found
names_stay old new None within same = refl
names_stay old new (Some place) within same = ap Some (same place (within place refl))

-- a definition was put behind the others, or was not
pub kept_if : (P : List Definition → Type 0) (put : Bool) (made now : List Definition) (d : Definition)
    → now ≡ (if put then made ++ d ∷ [] else made) → P made → P (made ++ d ∷ []) → P now
kept_if P true made now d e h more = subst P (sym e) more
kept_if P false made now d e h more = subst P (sym e) h

-- a name was defined, or memory ran out
pub turned : {T E : Type 0} (r : Result T E) (same : Bool) (place : ℕ) (new old : Option ℕ)
    → OnOk r (new ≡ cond same (Some place) old) → OnErr r (new ≡ old) → (new ≡ Some place) ⊎ (new ≡ old)
turned (Ok x) true place new old ok err = inl ok
turned (Ok x) false place new old ok err = inr ok
turned (Err x) same place new old ok err = inr err

-- A name stands for the definition at a place, or for what it stood for before, and there are n definitions.
pub record Placing (n : ℕ) (old new : Option ℕ) : Type 0 where
  pub place : ℕ
  pub within : place < n
  pub turned : (new ≡ Some place) ⊎ (new ≡ old)
  pub before : (found : ℕ) → old ≡ Some found → found < n

pub placed_within : (n : ℕ) (old new : Option ℕ) (p : Placing n old new) (found : ℕ) → new ≡ Some found → found < n
placed_within n old new p found e = by p.turned
  where
    by : (new ≡ Some p.place) ⊎ (new ≡ old) → found < n
    by (inl is) = let same : p.place ≡ found = cc in subst (λ i. i < n) same p.within
    by (inr is) = p.before found (sym is ∙ e)

-- what a name stands for when one was defined
pub defined_name : (same : Bool) (new : List Definition) (place : ℕ) (now before : Option ℕ)
    → now ≡ (if same then Some place else before)
    → option_map (meaning new) now
    ≡ (if same then Some (meaning new place) else option_map (meaning new) before)
defined_name true new place now before e = ap (option_map (meaning new)) e
defined_name false new place now before e = ap (option_map (meaning new)) e

pub on_err : {T E : Type 0} (r : Result T E) {P Q : Type 0} → (P → Q) → OnErr r P → OnErr r Q
on_err (Ok x) f h = tt
on_err (Err x) f h = f h

pub only_is : (ps : List Part) (place : ℕ) → Some place ≡ only_earlier ps → ps ≡ Earlier place ∷ []
only_is [] place e = cc
only_is (Single t ∷ ps) place e = cc
only_is (Earlier other ∷ []) place e = cc
only_is (Earlier other ∷ p ∷ ps) place e = cc

-- a definition stands for something, by the length that it counts
pub some_counted : (n len : ℕ) → 0 < len → len ≡ capped n → (n == 0) ≡ false
some_counted n len some e = grind (arith, nat_tests, e)
