-- The views of a node as an event tells it how it receives a set: where it begins to forward the set, the base of its
-- view changes; where it is to receive the set no more, that view goes; and nothing else.
use Rattle.std.proofs.Common.{◌≡◌, ◌⊎◌, inl, inr, ℕ, ◌<◌, Bool, true, false, cond, [], ◌∷◌, Option, Some, None, not}
use Rattle.std.proofs.Common.{filter, refl, sym, ap, subst, ◌∙◌}
use Rattle.std.specs.Prelude.{◌==◌, ◌&&◌, option_map}
use Rattle.std.specs.List.{AllByRecursion}
use Rattle.std.proofs.lemmas.Bool.{and_from, and_left, and_parts, and_right, eq-eqb, eqb-true, false≢true}
use Rattle.std.proofs.lemmas.Bool.{false_from_ne_true, not-true, true≢false}
use Rattle.node_rows.specs.declared.body.Body.{Body}
use Rattle.node_rows.specs.declared.body.Body.TheVariants.{Sync, DropSet, SubscribeSet, EnableSubscription}
use Rattle.node_rows.specs.declared.body.Body.TheVariants.{UnsubscribeSet}
use Rattle.slon_model.specs.Maps.{Map, entry_at, without_entry}
use Rattle.slon_model.specs.Config.{Config, forwards}
use Rattle.slon_model.specs.Views.{View, based, based_at, views_told}
use Rattle.slon_model.proofs.Names.{all_map, one_found}
use Rattle.view_laws.specs.Known.{AreRising, enables, feeds, leaves}
use Rattle.view_laws.proofs.Rising.{entry-without, without_rising}
use Rattle.stream_laws.proofs.Lists.{all_passed, entry-changed}

-- by the event the node of this id, which knows this, begins to forward the set
abbrev pub Turns : ℕ → ℕ → Body → Config → Type 0
Turns own id (SubscribeSet set provider receiver forward) c =
    (set ≡ id) × (receiver ≡ own) × (forward ≡ true) × (forwards set own c ≡ false)
Turns own id others c = ⊥

-- The view is as it was, or the node begins to forward the set.
pub data IsToldAs (own id : ℕ) (body : Body) (c : Config) (v y : View) : Type 0 where
  IsSame : y ≡ v → IsToldAs own id body c v y
  IsBased : y ≡ based v → Turns own id body c → IsToldAs own id body c v y

-- What stays of a view.
pub record IsLike (v y : View) : Type 0 where
  pub era : y.era ≡ v.era
  pub origin : y.origin ≡ v.origin
  pub number : y.number ≡ v.number
  pub seen : y.seen ≡ v.seen

pub told_like : (own id : ℕ) (body : Body) (c : Config) (v y : View) → IsToldAs own id body c v y → IsLike v y
told_like own id body c v y told = by told
  where
    itself : IsLike v v
    itself = record { era = refl; origin = refl; number = refl; seen = refl }

    other : IsLike v (based v)
    other = record { era = refl; origin = refl; number = refl; seen = refl }

    by : IsToldAs own id body c v y → IsLike v y
    by (IsSame same) = subst (IsLike v) (sym same) itself
    by (IsBased same turns) = subst (IsLike v) (sym same) other

pub turns_feeds : (own id : ℕ) (body : Body) (c : Config) → Turns own id body c → feeds id body ≡ true
turns_feeds own id (SubscribeSet set provider receiver forward) c turns = eq-eqb set id turns.0
turns_feeds own id others c turns = absurd turns

-- no other event changes a view so
pub sync_told : (own : ℕ) (body : Body) (c : Config) (vs : Map View) → body ≡ Sync → views_told own body c vs ≡ vs
sync_told own body c vs sync = ap (λ b. views_told own b c vs) sync

pub enables_told : (own set node : ℕ) (body : Body) (c : Config) (vs : Map View) → enables set node body ≡ true →
    views_told own body c vs ≡ vs
enables_told own set node (EnableSubscription id provider receiver forward era) c vs is = refl
enables_told own set node others c vs is = absurd (false≢true is)

-- ---- what is found

pub entry-based : (set id : ℕ) (vs : Map View) →
    entry_at id (based_at set vs) ≡ cond (id == set) (option_map based (entry_at id vs)) (entry_at id vs)
entry-based set id vs = entry-changed based set id vs

-- the node itself is told how it receives the set
pub own_told : (own set provider : ℕ) (forward : Bool) (c : Config) (vs : Map View) →
    entry_at set (views_told own (SubscribeSet set provider own forward) c vs)
    ≡ option_map (λ v. cond (forward && not (forwards set own c)) (based v) v) (entry_at set vs)
own_told own set provider forward c vs =
    ap (λ b. entry_at set (cond (b && (forward && not (forwards set own c))) (based_at set vs) vs))
    (eq-eqb own own refl)
    ∙ by (forward && not (forwards set own c))
  where
    same : (o : Option View) → o ≡ option_map (λ v. v) o
    same None = refl
    same (Some v) = refl

    by : (b : Bool) → entry_at set (cond b (based_at set vs) vs)
        ≡ option_map (λ v. cond b (based v) v) (entry_at set vs)
    by true =
        entry-based set set vs
        ∙ ap (λ b. cond b (option_map based (entry_at set vs)) (entry_at set vs)) (eq-eqb set set refl)
    by false = same (entry_at set vs)

-- what the event says
told_turns : (own id set provider receiver : ℕ) (forward : Bool) (c : Config) →
    ((receiver == own && (forward && not (forwards set own c))) ≡ true) × ((id == set) ≡ true) →
    Turns own id (SubscribeSet set provider receiver forward) c
told_turns own id set provider receiver forward c (turns, same) =
    let here = and_parts (receiver == own) (forward && not (forwards set own c)) turns in
    let on = and_parts forward (not (forwards set own c)) here.1 in
    (sym (eqb-true id set same), eqb-true receiver own here.0, on.0, not-true (forwards set own c) on.1)

-- the event tells the node of this id to give up this set
left_test : (own set receiver : ℕ) → (receiver == own) ≡ true → (id : ℕ) → (id == set) ≡ true →
    leaves id own (UnsubscribeSet set receiver) ≡ true
left_test own set receiver here id same =
    and_from (set == id) (receiver == own) (eq-eqb set id (sym (eqb-true id set same))) here

-- either way round
other_way : (id set : ℕ) → (id == set) ≡ false → (set == id) ≡ false
other_way id set other =
    false_from_ne_true (set == id) (λ same. true≢false (sym (eq-eqb id set (sym (eqb-true set id same))) ∙ other))

-- and no other one
stays_test : (own set receiver id : ℕ) → (id == set) ≡ false → leaves id own (UnsubscribeSet set receiver) ≡ false
stays_test own set receiver id other =
    and_left (set == id) (receiver == own) (other_way id set other)

elsewhere_test : (own set receiver : ℕ) → (receiver == own) ≡ false → (id : ℕ) →
    leaves id own (UnsubscribeSet set receiver) ≡ false
elsewhere_test own set receiver other id = and_right (set == id) (receiver == own) other

-- what is found then was found before
pub found_told : (own id : ℕ) (body : Body) (c : Config) (vs : Map View) (y : View) →
    entry_at id (views_told own body c vs) ≡ Some y →
    (v : View) × (entry_at id vs ≡ Some v) × IsToldAs own id body c v y
found_told own id (SubscribeSet set provider receiver forward) c vs y found =
    by (receiver == own && (forward && not (forwards set own c))) refl found
  where
    Told : Type 0
    Told = (v : View) × (entry_at id vs ≡ Some v)
        × IsToldAs own id (SubscribeSet set provider receiver forward) c v y

    by : (b : Bool) → (receiver == own && (forward && not (forwards set own c))) ≡ b →
        entry_at id (cond b (based_at set vs) vs) ≡ Some y → Told
    by true turns found = at (id == set) refl (sym (entry-based set id vs) ∙ found)
      where
        of : (o : Option View) → entry_at id vs ≡ o → (id == set) ≡ true → option_map based o ≡ Some y → Told
        of None none same is = absurd cc
        of (Some v) some same is = (
          v,
          some,
          IsBased (sym (one_found (based v) y is))
              (told_turns own id set provider receiver forward c (turns, same)),
        )

        at : (b : Bool) → (id == set) ≡ b → cond b (option_map based (entry_at id vs)) (entry_at id vs) ≡ Some y → Told
        at true same is = of (entry_at id vs) refl same is
        at false other is = (y, is, IsSame refl)
    by false stays found = (y, found, IsSame refl)
found_told own id (UnsubscribeSet set receiver) c vs y found = by (receiver == own) found
  where
    Told : Type 0
    Told = (v : View) × (entry_at id vs ≡ Some v) × IsToldAs own id (UnsubscribeSet set receiver) c v y

    by : (b : Bool) → entry_at id (cond b (without_entry set vs) vs) ≡ Some y → Told
    by true found = at (id == set) (sym (entry-without id set vs) ∙ found)
      where
        at : (b : Bool) → cond b None (entry_at id vs) ≡ Some y → Told
        at true none = absurd cc
        at false is = (y, is, IsSame refl)
    by false found = (y, found, IsSame refl)
found_told own id (DropSet set) c vs y found = by (id == set) (sym (entry-without id set vs) ∙ found)
  where
    by : (b : Bool) → cond b None (entry_at id vs) ≡ Some y →
        (v : View) × (entry_at id vs ≡ Some v) × IsToldAs own id (DropSet set) c v y
    by true none = absurd cc
    by false is = (y, is, IsSame refl)
found_told own id others c vs y found = (y, found, IsSame refl)

-- and the node was not told to give it up
pub found_stays : (own id : ℕ) (body : Body) (c : Config) (vs : Map View) (y : View) →
    entry_at id (views_told own body c vs) ≡ Some y → leaves id own body ≡ false
found_stays own id (UnsubscribeSet set receiver) c vs y found = by (receiver == own) refl found
  where
    by : (b : Bool) → (receiver == own) ≡ b → entry_at id (cond b (without_entry set vs) vs) ≡ Some y →
        leaves id own (UnsubscribeSet set receiver) ≡ false
    by true here found = at (id == set) refl (sym (entry-without id set vs) ∙ found)
      where
        at : (b : Bool) → (id == set) ≡ b → cond b None (entry_at id vs) ≡ Some y →
            leaves id own (UnsubscribeSet set receiver) ≡ false
        at true same none = absurd cc
        at false other is = stays_test own set receiver id other
    by false other found = elsewhere_test own set receiver other id
found_stays own id (DropSet set) c vs y found = by (id == set) refl (sym (entry-without id set vs) ∙ found)
  where
    by : (b : Bool) → (id == set) ≡ b → cond b None (entry_at id vs) ≡ Some y → (set == id) ≡ false
    by true same none = absurd cc
    by false other is = other_way id set other
found_stays own id others c vs y found = refl

-- what it was told to give up is found no more
pub gone_told : (own id : ℕ) (body : Body) (c : Config) (vs : Map View) → leaves id own body ≡ true →
    entry_at id (views_told own body c vs) ≡ None
gone_told own id (UnsubscribeSet set receiver) c vs is =
    let both = and_parts (set == id) (receiver == own) is in
    ap (λ b. entry_at id (cond b (without_entry set vs) vs)) both.1 ∙ entry-without id set vs
    ∙ ap (λ b. cond b None (entry_at id vs)) (eq-eqb id set (sym (eqb-true set id both.0)))
gone_told own id (DropSet set) c vs is =
    entry-without id set vs ∙ ap (λ b. cond b None (entry_at id vs)) (eq-eqb id set (sym (eqb-true set id is)))
gone_told own id others c vs is = absurd (false≢true is)

-- what was found is found then, unless the node was told to give it up
pub there_told : (own id : ℕ) (body : Body) (c : Config) (vs : Map View) (v : View) → entry_at id vs ≡ Some v →
    leaves id own body ≡ false → (y : View) × (entry_at id (views_told own body c vs) ≡ Some y)
    × IsToldAs own id body c v y
there_told own id (SubscribeSet set provider receiver forward) c vs v found stays =
    by (receiver == own && (forward && not (forwards set own c))) refl
  where
    body : Body
    body = SubscribeSet set provider receiver forward

    by : (b : Bool) → (receiver == own && (forward && not (forwards set own c))) ≡ b →
        (y : View) × (entry_at id (cond b (based_at set vs) vs) ≡ Some y) × IsToldAs own id body c v y
    by true turns = at (id == set) refl
      where
        at : (b : Bool) → (id == set) ≡ b →
            (y : View) × (entry_at id (based_at set vs) ≡ Some y) × IsToldAs own id body c v y
        at true same = (
          based v,
          entry-based set id vs ∙ ap (λ b. cond b (option_map based (entry_at id vs)) (entry_at id vs)) same
              ∙ ap (option_map based) found,
          IsBased refl (told_turns own id set provider receiver forward c (turns, same)),
        )
        at false other = (
          v,
          entry-based set id vs ∙ ap (λ b. cond b (option_map based (entry_at id vs)) (entry_at id vs)) other ∙ found,
          IsSame refl,
        )
    by false stays = (v, found, IsSame refl)
there_told own id (UnsubscribeSet set receiver) c vs v found stays = by (receiver == own) refl
  where
    Told : Bool → Type 0
    Told b = (y : View) × (entry_at id (cond b (without_entry set vs) vs) ≡ Some y)
        × IsToldAs own id (UnsubscribeSet set receiver) c v y

    by : (b : Bool) → (receiver == own) ≡ b → Told b
    by true here = (
      v,
      entry-without id set vs
          ∙ ap (λ b. cond b None (entry_at id vs))
          (false_from_ne_true (id == set) (λ same. true≢false (sym (left_test own set receiver here id same) ∙ stays)))
          ∙ found,
      IsSame refl,
    )
    by false other = (v, found, IsSame refl)
there_told own id (DropSet set) c vs v found stays = (
  v,
  entry-without id set vs ∙ ap (λ b. cond b None (entry_at id vs)) (other_way set id stays) ∙ found,
  IsSame refl,
)
there_told own id others c vs v found stays = (v, found, IsSame refl)

-- ---- all views

all_based : (P : ℕ × View → Type 0) (set : ℕ) (vs : Map View) → ((f : ℕ × View) → P f → P (f.0, based f.1)) →
    AllByRecursion P vs → AllByRecursion P (based_at set vs)
all_based P set [] on all = tt
all_based P set (e ∷ es) on all = (by (e.0 == set), all_based P set es on all.1)
  where
    by : (b : Bool) → P (cond b (e.0, based e.1) e)
    by true = on e all.0
    by false = all.0

pub all_told : (P : ℕ × View → Type 0) (own : ℕ) (body : Body) (c : Config) (vs : Map View) →
    ((f : ℕ × View) → P f → P (f.0, based f.1)) → AllByRecursion (λ e. leaves e.0 own body ≡ false → P e) vs →
    AllByRecursion P (views_told own body c vs)
all_told P own (SubscribeSet set provider receiver forward) c vs on all =
    by (receiver == own && (forward && not (forwards set own c)))
  where
    old : AllByRecursion P vs
    old =
        all_map (λ e. leaves e.0 own (SubscribeSet set provider receiver forward) ≡ false → P e) P (λ e is. is refl) vs
        all

    by : (b : Bool) → AllByRecursion P (cond b (based_at set vs) vs)
    by true = all_based P set vs on old
    by false = old
all_told P own (UnsubscribeSet set receiver) c vs on all = by (receiver == own) refl
  where
    Stays : ℕ × View → Type 0
    Stays e = leaves e.0 own (UnsubscribeSet set receiver) ≡ false → P e

    other_one : (e : ℕ × View) → not (set == e.0) ≡ true → leaves e.0 own (UnsubscribeSet set receiver) ≡ false
    other_one e passes = and_left (set == e.0) (receiver == own) (not-true (set == e.0) passes)

    by : (b : Bool) → (receiver == own) ≡ b → AllByRecursion P (cond b (without_entry set vs) vs)
    by true here =
        all_passed Stays P (λ e. not (set == e.0)) (λ e is passes. is (other_one e passes)) vs all
    by false other = all_map Stays P (λ e is. is (elsewhere_test own set receiver other e.0)) vs all
all_told P own (DropSet set) c vs on all =
    all_passed (λ e. leaves e.0 own (DropSet set) ≡ false → P e) P (λ e. not (set == e.0))
    (λ e is passes. is (not-true (set == e.0) passes)) vs all
all_told P own others c vs on all = all_map (λ e. leaves e.0 own others ≡ false → P e) P (λ e is. is refl) vs all

rising_based : (set : ℕ) (vs : Map View) → AreRising vs → AreRising (based_at set vs)
rising_based set [] rising = tt
rising_based set (e ∷ es) rising = by (e.0 == set) (rising_based set es rising.1)
  where
    above : AllByRecursion (λ f. e.0 < f.0) (based_at set es)
    above = all_based (λ f. e.0 < f.0) set es (λ f less. less) rising.0

    by : (b : Bool) → AreRising (based_at set es) → AreRising (cond b (e.0, based e.1) e ∷ based_at set es)
    by true rest = (above, rest)
    by false rest = (above, rest)

pub rising_told : (own : ℕ) (body : Body) (c : Config) (vs : Map View) → AreRising vs →
    AreRising (views_told own body c vs)
rising_told own (SubscribeSet set provider receiver forward) c vs rising =
    by (receiver == own && (forward && not (forwards set own c)))
  where
    by : (b : Bool) → AreRising (cond b (based_at set vs) vs)
    by true = rising_based set vs rising
    by false = rising
rising_told own (UnsubscribeSet set receiver) c vs rising = by (receiver == own)
  where
    by : (b : Bool) → AreRising (cond b (without_entry set vs) vs)
    by true = without_rising set vs rising
    by false = rising
rising_told own (DropSet set) c vs rising = without_rising set vs rising
rising_told own others c vs rising = rising

-- ---- those of an origin

filter_based : (origin set : ℕ) (vs : Map View) →
    AllByRecursion (λ e. e.0 ≡ set → (e.1.origin == origin) ≡ false) vs →
    filter (λ e. e.1.origin == origin) (based_at set vs) ≡ filter (λ e. e.1.origin == origin) vs
filter_based origin set [] all = refl
filter_based origin set (e ∷ es) all = by (e.0 == set) refl (filter_based origin set es all.1)
  where
    kept : Map View → Map View
    kept vs = filter (λ v. v.1.origin == origin) vs

    by : (b : Bool) → (e.0 == set) ≡ b → kept (based_at set es) ≡ kept es →
        kept (cond b (e.0, based e.1) e ∷ based_at set es) ≡ kept (e ∷ es)
    by true same rest =
        let other = all.0 (eqb-true e.0 set same) in
        ap (λ b. cond b ((e.0, based e.1) ∷ kept (based_at set es)) (kept (based_at set es))) other
        ∙ rest ∙ sym (ap (λ b. cond b (e ∷ kept es) (kept es)) other)
    by false differ rest = ap (λ vs. cond (e.1.origin == origin) (e ∷ vs) vs) rest

filter_without : (origin set : ℕ) (vs : Map View) →
    AllByRecursion (λ e. (set == e.0) ≡ true → (e.1.origin == origin) ≡ false) vs →
    filter (λ e. e.1.origin == origin) (without_entry set vs) ≡ filter (λ e. e.1.origin == origin) vs
filter_without origin set [] all = refl
filter_without origin set (e ∷ es) all = by (set == e.0) refl (filter_without origin set es all.1)
  where
    kept : Map View → Map View
    kept vs = filter (λ v. v.1.origin == origin) vs

    by : (b : Bool) → (set == e.0) ≡ b → kept (without_entry set es) ≡ kept es →
        kept (cond (not b) (e ∷ without_entry set es) (without_entry set es)) ≡ kept (e ∷ es)
    by true same rest = rest ∙ sym (ap (λ b. cond b (e ∷ kept es) (kept es)) (all.0 same))
    by false differ rest = ap (λ vs. cond (e.1.origin == origin) (e ∷ vs) vs) rest

-- the event changes the view of this set, or has the node give it up
abbrev pub Touches : ℕ → ℕ → Body → Config → Type 0
Touches own id body c = Turns own id body c ⊎ (leaves id own body ≡ true)

-- the views of an origin stay, if the one that changes is of another
pub filter_told : (origin own : ℕ) (body : Body) (c : Config) (vs : Map View) →
    AllByRecursion (λ e. Touches own e.0 body c → (e.1.origin == origin) ≡ false) vs →
    filter (λ e. e.1.origin == origin) (views_told own body c vs) ≡ filter (λ e. e.1.origin == origin) vs
filter_told origin own (SubscribeSet set provider receiver forward) c vs all =
    by (receiver == own && (forward && not (forwards set own c))) refl
  where
    body : Body
    body = SubscribeSet set provider receiver forward

    by : (b : Bool) → (receiver == own && (forward && not (forwards set own c))) ≡ b →
        filter (λ e. e.1.origin == origin) (cond b (based_at set vs) vs) ≡ filter (λ e. e.1.origin == origin) vs
    by true turns =
        filter_based origin set vs
        (all_map (λ e. Touches own e.0 body c → (e.1.origin == origin) ≡ false)
        (λ e. e.0 ≡ set → (e.1.origin == origin) ≡ false)
        (λ e other same. other
        (inl (told_turns own e.0 set provider receiver forward c (turns, eq-eqb e.0 set same))))
        vs all)
    by false stays = refl
filter_told origin own (UnsubscribeSet set receiver) c vs all = by (receiver == own) refl
  where
    by : (b : Bool) → (receiver == own) ≡ b →
        filter (λ e. e.1.origin == origin) (cond b (without_entry set vs) vs) ≡ filter (λ e. e.1.origin == origin) vs
    by true here =
        filter_without origin set vs
        (all_map (λ e. Touches own e.0 (UnsubscribeSet set receiver) c → (e.1.origin == origin) ≡ false)
        (λ e. (set == e.0) ≡ true → (e.1.origin == origin) ≡ false)
        (λ e other same. other (inr (and_from (set == e.0) (receiver == own) same here))) vs all)
    by false elsewhere = refl
filter_told origin own (DropSet set) c vs all =
    filter_without origin set vs
    (all_map (λ e. Touches own e.0 (DropSet set) c → (e.1.origin == origin) ≡ false)
    (λ e. (set == e.0) ≡ true → (e.1.origin == origin) ≡ false) (λ e other same. other (inr same)) vs all)
filter_told origin own others c vs all = refl
