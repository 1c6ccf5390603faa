-- The least id of an open transaction that wrote one of some tables is the one that the rules have.
use Rattle.std.proofs.Common.{◌≡◌, ℕ, Bool, true, false, cond, List, [], ◌∷◌, Option, Some, None, refl, sym, ap}
use Rattle.std.proofs.Common.{subst, ◌∙◌, ◌⊎◌, ◌<◌, inl, inr, slice_get}
use Rattle.std.specs.Prelude.{◌==◌, ◌&&◌, ◌||◌, filter, find as find_in}
use Rattle.std.specs.List.{list_any, AllByRecursion}
use Rattle.std.specs.Ordering.{is_eq}
use Rattle.std.specs.FinMap.{get, entries, entries_sorted, get-entries}
use Rattle.std.specs.FinMap.Entries.{find, is_sorted, below_all}
use Rattle.std.proofs.Math.Bool.{or_comm}
use Rattle.std.proofs.lemmas.Bool.{false≢true, eq-eqb, eqb-true, or_cases, or_left, or_right, and_parts}
use Rattle.std.proofs.lemmas.List.Folds.{list_any-append}
use Rattle.slon_base.specs.Keeper.{key_cmp}
use Rattle.slon_base.proofs.Order.{tied, equal_of, same_keys}
use Rattle.slon_model.specs.Logs.{named}
use Rattle.slon_model.specs.Rows.{Action, member}
use Rattle.slon_model.specs.Names.{find_named}
use Rattle.slon_model.specs.Place.{Place, is_running, open_xids, own_actions}
use Rattle.slon_model.specs.Sessions.{writer_of}
use Rattle.slon_model.specs.Snapshots.{Rising}
use Rattle.slon_laws.proofs.Opens.{found_member}
use Rattle.node_state.specs.Held.{action_as, captured_all}
use Rattle.app_store.specs.declared.opens.Transaction.{Transaction}
use Rattle.app_store.specs.Base.{Base}
use Rattle.app_store.specs.Fits.{OpensAs, IsOpened, Ready}
use Rattle.app_store.specs.Taking.{put_xids, wrote_one, writers}
use Rattle.app_store.proofs.Standing.{running_as}
use Rattle.app_store.proofs.Taking.{entry_xids, rising_all, all_there, all_only, rising_same, named_once, none_below}
use Rattle.app_store.proofs.Taking.{true_of}

-- ---- the entries

-- an open transaction of this id that wrote one of the tables
abbrev IsWriter : List (List ℕ) → ℕ → List (List ℕ × Transaction) → Type 0
IsWriter tables x es =
    (name : List ℕ) × (t : Transaction) × (find key_cmp name es ≡ Some t) × (t.xid ≡ x)
    × (wrote_one tables t ≡ true)

writer_behind : (tables : List (List ℕ)) (x : ℕ) (e : List ℕ × Transaction) (es : List (List ℕ × Transaction)) →
    below_all key_cmp e.0 es ≡ true → IsWriter tables x es → IsWriter tables x (e ∷ es)
writer_behind tables x e es below f =
    elim (is_eq (key_cmp f.0 e.0)) as (λ b. is_eq (key_cmp f.0 e.0) ≡ b → IsWriter tables x (e ∷ es)) [
      | true ↦ λ same. let none : find key_cmp f.0 es ≡ None =
          ap (λ q. find key_cmp q es) (same_keys f.0 e.0 (equal_of (key_cmp f.0 e.0) same)) ∙ none_below e.0 es below in
          let bad : None ≡ Some f.1 = sym none ∙ f.2 in absurd cc
      | false ↦ λ other. (f.0, f.1, ap (λ b. cond b (Some e.1) (find key_cmp f.0 es)) other ∙ f.2, f.3, f.4)
    ] refl

writer_found : (tables : List (List ℕ)) (x : ℕ) (es : List (List ℕ × Transaction)) → is_sorted key_cmp es ≡ true →
    member x (entry_xids (writers tables es)) ≡ true → IsWriter tables x es
writer_found tables x [] sorted is = absurd (false≢true is)
writer_found tables x (e ∷ es) sorted is =
    let parts = and_parts (below_all key_cmp e.0 es) (is_sorted key_cmp es) sorted in
    step parts.0 (writer_found tables x es parts.1) (wrote_one tables e.1) refl is
  where
    step : below_all key_cmp e.0 es ≡ true →
        (member x (entry_xids (writers tables es)) ≡ true → IsWriter tables x es) → (b : Bool) →
        wrote_one tables e.1 ≡ b →
        member x (entry_xids (cond b (e ∷ writers tables es) (writers tables es))) ≡ true → IsWriter tables x (e ∷ es)
    step below later true wrote is = elim (or_cases (x == e.1.xid) (member x (entry_xids (writers tables es))) is) [
      | inl same ↦
          (e.0, e.1, ap (λ b. cond b (Some e.1) (find key_cmp e.0 es)) (tied e.0), sym (eqb-true x e.1.xid same), wrote)
      | inr more ↦ writer_behind tables x e es below (later more)
    ]
    step below later false wrote is = writer_behind tables x e es below (later is)

found_writer : (tables : List (List ℕ)) (name : List ℕ) (t : Transaction) (es : List (List ℕ × Transaction)) →
    find key_cmp name es ≡ Some t → wrote_one tables t ≡ true → member t.xid (entry_xids (writers tables es)) ≡ true
found_writer tables name t [] found wrote = absurd cc
found_writer tables name t (e ∷ es) found wrote =
    step (is_eq (key_cmp name e.0)) (wrote_one tables e.1) refl found
    (λ later. found_writer tables name t es later wrote)
  where
    step : (here b : Bool) → wrote_one tables e.1 ≡ b → cond here (Some e.1) (find key_cmp name es) ≡ Some t →
        (find key_cmp name es ≡ Some t → member t.xid (entry_xids (writers tables es)) ≡ true) →
        member t.xid (entry_xids (cond b (e ∷ writers tables es) (writers tables es))) ≡ true
    step true true is found later =
        let same : e.1 ≡ t = cc in
        or_left (t.xid == e.1.xid) (member t.xid (entry_xids (writers tables es)))
        (eq-eqb t.xid e.1.xid (ap (λ (u : Transaction). u.xid) (sym same)))
    step true false is found later =
        let same : e.1 ≡ t = cc in
        absurd (false≢true (sym is ∙ ap (wrote_one tables) same ∙ wrote))
    step false true is found later =
        or_right (t.xid == e.1.xid) (member t.xid (entry_xids (writers tables es))) (later found)
    step false false is found later = later found

-- ---- by the rules

-- what the rules ask of an open transaction
abbrev has_touched : List (List ℕ) → Place → ℕ → Bool
has_touched tables p x = list_any (λ a. a.xid == x && named a.table tables) p.actions

captured_any : (tables : List (List ℕ)) (actions : List Action) →
    list_any (λ a. named a.table tables) (captured_all actions) ≡ list_any (λ a. named a.table tables) actions
captured_any tables [] = refl
captured_any tables (a ∷ actions) =
    list_any-append (λ b. named b.table tables) (captured_all actions) (action_as a ∷ [])
    ∙ ap (λ b. list_any (λ o. named o.table tables) (captured_all actions) || b) (or_comm (named a.table tables) false)
    ∙ or_comm (list_any (λ o. named o.table tables) (captured_all actions)) (named a.table tables)
    ∙ ap (λ b. named a.table tables || b) (captured_any tables actions)

own_any : (tables : List (List ℕ)) (x : ℕ) (actions : List Action) →
    list_any (λ a. named a.table tables) (filter (λ a. a.xid == x) actions)
    ≡ list_any (λ a. a.xid == x && named a.table tables) actions
own_any tables x [] = refl
own_any tables x (a ∷ actions) = step (a.xid == x) (own_any tables x actions)
  where
    step : (b : Bool) → list_any (λ o. named o.table tables) (filter (λ o. o.xid == x) actions)
        ≡ list_any (λ o. o.xid == x && named o.table tables) actions →
        list_any (λ o. named o.table tables)
        (cond b (a ∷ filter (λ o. o.xid == x) actions) (filter (λ o. o.xid == x) actions))
        ≡ ((b && named a.table tables) || list_any (λ o. o.xid == x && named o.table tables) actions)
    step true more = ap (λ b. named a.table tables || b) more
    step false more = more

wrote_is : {p : Place} {x : ℕ} {t : Transaction} (tables : List (List ℕ)) → IsOpened p x t →
    wrote_one tables t ≡ has_touched tables p x
wrote_is {p} {x} {t} tables o =
    ap (list_any (λ a. named a.table tables)) o.actions ∙ captured_any tables (own_actions x p)
    ∙ own_any tables x p.actions

-- ---- the first of those that pass

member_filter : (test : ℕ → Bool) (x : ℕ) (xs : List ℕ) → member x (filter test xs) ≡ true →
    (member x xs ≡ true) × (test x ≡ true)
member_filter test x [] is = absurd (false≢true is)
member_filter test x (y ∷ ys) is = step (test y) refl is (member_filter test x ys)
  where
    step : (b : Bool) → test y ≡ b → member x (cond b (y ∷ filter test ys) (filter test ys)) ≡ true →
        (member x (filter test ys) ≡ true → (member x ys ≡ true) × (test x ≡ true)) →
        ((x == y || member x ys) ≡ true) × (test x ≡ true)
    step true passes is later = elim (or_cases (x == y) (member x (filter test ys)) is) [
      | inl same ↦ (or_left (x == y) (member x ys) same, ap test (eqb-true x y same) ∙ passes)
      | inr more ↦ let both = later more in (or_right (x == y) (member x ys) both.0, both.1)
    ]
    step false passes is later = let both = later is in (or_right (x == y) (member x ys) both.0, both.1)

filter_member : (test : ℕ → Bool) (x : ℕ) (xs : List ℕ) → member x xs ≡ true → test x ≡ true →
    member x (filter test xs) ≡ true
filter_member test x [] is passes = absurd (false≢true is)
filter_member test x (y ∷ ys) is passes =
    step (test y) refl (or_cases (x == y) (member x ys) is) (λ more. filter_member test x ys more passes)
  where
    step : (b : Bool) → test y ≡ b → ((x == y) ≡ true) ⊎ (member x ys ≡ true) →
        (member x ys ≡ true → member x (filter test ys) ≡ true) →
        member x (cond b (y ∷ filter test ys) (filter test ys)) ≡ true
    step true passes_y (inl same) later = or_left (x == y) (member x (filter test ys)) same
    step true passes_y (inr more) later = or_right (x == y) (member x (filter test ys)) (later more)
    step false passes_y (inl same) later =
        absurd (false≢true (sym passes_y ∙ ap test (sym (eqb-true x y same)) ∙ passes))
    step false passes_y (inr more) later = later more

all_filter : (P : ℕ → Type 0) (test : ℕ → Bool) (xs : List ℕ) → AllByRecursion P xs → AllByRecursion P (filter test xs)
all_filter P test [] all = tt
all_filter P test (x ∷ xs) all = step (test x) (all_filter P test xs all.1)
  where
    step : (b : Bool) → AllByRecursion P (filter test xs) →
        AllByRecursion P (cond b (x ∷ filter test xs) (filter test xs))
    step true more = (all.0, more)
    step false more = more

rising_filter : (test : ℕ → Bool) (xs : List ℕ) → Rising xs → Rising (filter test xs)
rising_filter test [] rising = tt
rising_filter test (x ∷ xs) rising = step (test x) (rising_filter test xs rising.1)
  where
    step : (b : Bool) → Rising (filter test xs) → Rising (cond b (x ∷ filter test xs) (filter test xs))
    step true more = (all_filter (λ y. x < y) test xs rising.0, more)
    step false more = more

first_filter : (test : ℕ → Bool) (xs : List ℕ) → slice_get (filter test xs) 0 ≡ find_in test xs
first_filter test [] = refl
first_filter test (x ∷ xs) = step (test x) (first_filter test xs)
  where
    step : (b : Bool) → slice_get (filter test xs) 0 ≡ find_in test xs →
        slice_get (cond b (x ∷ filter test xs) (filter test xs)) 0 ≡ cond b (Some x) (find_in test xs)
    step true later = refl
    step false later = later

-- ---- the least writer

-- by the name that it has by the rules, it is open by the code, and the other way round
touched_there : (b : Base) (p : Place) (tables : List (List ℕ)) (x : ℕ) → Ready p b → is_running p.standing ≡ true →
    member x (open_xids p) ≡ true → has_touched tables p x ≡ true →
    member x (entry_xids (writers tables (entries b.memory.opens))) ≡ true
touched_there b p tables x ready running among touched =
    let runs = running_as p b ready.fits running in
    let f = named_once x p.opens ready.sound.named among in
    by (get b.memory.opens f.0) (subst (λ o. OpensAs p o (get b.memory.opens f.0)) f.1 (runs.opened f.0)) f.0 refl
  where
    by : (o : Option Transaction) → OpensAs p (Some x) o → (name : List ℕ) → get b.memory.opens name ≡ o →
        member x (entry_xids (writers tables (entries b.memory.opens))) ≡ true
    by None opens name is = absurd opens
    by (Some t) opens name is =
        subst (λ y. member y (entry_xids (writers tables (entries b.memory.opens))) ≡ true) opens.xid_is
        (found_writer tables name t (entries b.memory.opens) (sym (get-entries b.memory.opens name) ∙ is)
        (wrote_is tables opens ∙ touched))

there_touched : (b : Base) (p : Place) (tables : List (List ℕ)) (x : ℕ) → Ready p b → is_running p.standing ≡ true →
    member x (entry_xids (writers tables (entries b.memory.opens))) ≡ true →
    (member x (open_xids p) ≡ true) × (has_touched tables p x ≡ true)
there_touched b p tables x ready running among =
    let runs = running_as p b ready.fits running in
    let f = writer_found tables x (entries b.memory.opens)
    (true_of (is_sorted key_cmp (entries b.memory.opens)) (entries_sorted b.memory.opens)) among in
    by f.1 (find_named f.0 p.opens)
    (subst (OpensAs p (find_named f.0 p.opens)) (get-entries b.memory.opens f.0 ∙ f.2) (runs.opened f.0))
    f.3 f.4 f.0 refl
  where
    by : (t : Transaction) (o : Option ℕ) → OpensAs p o (Some t) → t.xid ≡ x → wrote_one tables t ≡ true →
        (name : List ℕ) → find_named name p.opens ≡ o →
        (member x (open_xids p) ≡ true) × (has_touched tables p x ≡ true)
    by t None opens is wrote name found = absurd opens
    by t (Some y) opens is wrote name found =
        let same : y ≡ x = sym opens.xid_is ∙ is in (
          subst (λ z. member z (open_xids p) ≡ true) same (found_member name y p.opens found),
          subst (λ z. has_touched tables p z ≡ true) same (sym (wrote_is tables opens) ∙ wrote),
        )

pub writer_is : (b : Base) (p : Place) (tables : List (List ℕ)) → Ready p b → is_running p.standing ≡ true →
    slice_get (put_xids [] (writers tables (entries b.memory.opens))) 0 ≡ writer_of tables p
writer_is b p tables ready running =
    ap (λ xs. slice_get xs 0) same ∙ first_filter (has_touched tables p) (open_xids p)
  where
    found : List (List ℕ × Transaction)
    found = writers tables (entries b.memory.opens)

    same : put_xids [] found ≡ filter (has_touched tables p) (open_xids p)
    same = rising_same (put_xids [] found) (filter (has_touched tables p) (open_xids p)) (rising_all [] found tt)
        (rising_filter (has_touched tables p) (open_xids p) ready.sound.running)
        (λ x among. elim (all_only x [] found among) [
          | inl none ↦ absurd (false≢true none)
          | inr is ↦ let both = there_touched b p tables x ready running is in
              filter_member (has_touched tables p) x (open_xids p) both.0 both.1
        ])
        (λ x among. let both = member_filter (has_touched tables p) x (open_xids p) among in
        all_there x [] found (inr (touched_there b p tables x ready running both.0 both.1)))
