-- What a step of a script promises over every store, database by database.
use Rattle.std.proofs.Common.{◌≡◌, ◌∙◌, ℕ, suc, ◌+◌, Bool, true, false, cond, List, [], ◌∷◌, length, Option, Some, None}
use Rattle.std.proofs.Common.{refl, sym, ap, subst, true≢false}
use Rattle.std.specs.List.{AllByRecursion}
use Rattle.std.specs.Str.{bytes_eq}
use Rattle.slon_base.specs.declared.fault.Halt.{Halt as HaltOf}
use Rattle.slon_model.specs.Names.{Named, find_named}
use Rattle.slon_model.proofs.Names.{bytes_same, bytes_turned_false}
use Rattle.app_store.specs.Base.{Base}
use Rattle.slonik_exec.specs.Databases.{Trouble, Tried, TriesAll, trouble_here, trouble_later}
use Rattle.cluster_engine.specs.Failing.{place_of}

-- the database of a name before a step after which it is there
pub record TriedAs (calm : Bool) (told : Option Trouble) (name : List ℕ) (olds : Named Base) (n : Base) : Type 0 where
  pub before : Base
  pub was : find_named name olds ≡ Some before
  pub tried : Tried calm (trouble_here told name) before n

-- what is told of another database is told still
here_later : (told : Option Trouble) (name other : List ℕ) → bytes_eq name other ≡ false →
    trouble_here (trouble_later told other) name ≡ trouble_here told name
here_later None name other apart = refl
here_later (Some t) name other apart = by (bytes_eq t.0 other) refl
  where
    by : (b : Bool) → bytes_eq t.0 other ≡ b → trouble_here (cond b None (Some t)) name ≡ trouble_here (Some t) name
    by false is = refl
    by true is =
        sym (ap (λ c. cond c (Some t.1) None) (ap (λ x. bytes_eq x name) (bytes_same t.0 other is)
        ∙ bytes_turned_false name other apart))

same_here : (told : Option Trouble) (name other : List ℕ) → bytes_eq name other ≡ true →
    trouble_here told other ≡ trouble_here told name
same_here told name other same = ap (trouble_here told) (sym (bytes_same name other same))

pub find_tried : (calm : Bool) (told : Option Trouble) (name : List ℕ) (n : Base) (olds news : Named Base) →
    TriesAll calm told olds news → find_named name news ≡ Some n → TriedAs calm told name olds n
find_tried calm told name n [] [] tries found = absurd cc
find_tried calm told name n [] (y ∷ ys) tries found = absurd tries
find_tried calm told name n (x ∷ xs) [] tries found = absurd tries
find_tried calm told name n (x ∷ xs) (y ∷ ys) tries found =
    by (bytes_eq name y.0) (bytes_eq name x.0) refl (ap (bytes_eq name) tries.0) found
    (find_tried calm (trouble_later told x.0) name n xs ys tries.2)
  where
    by : (b c : Bool) → bytes_eq name x.0 ≡ c → b ≡ c → cond b (Some y.1) (find_named name ys) ≡ Some n →
        (find_named name ys ≡ Some n → TriedAs calm (trouble_later told x.0) name xs n) →
        TriedAs calm told name (x ∷ xs) n
    by true true at same here later =
        let it : y.1 ≡ n = cc in
        record {
          before = x.1;
          was = ap (λ c. cond c (Some x.1) (find_named name xs)) at;
          tried = subst (λ t. Tried calm t x.1 n) (same_here told name x.0 at)
              (subst (Tried calm (trouble_here told x.0) x.1) it tries.1);
        }
    by false false at same here later =
        let rest = later here in
        record {
          before = rest.before;
          was = ap (λ c. cond c (Some x.1) (find_named name xs)) at ∙ rest.was;
          tried = subst (λ t. Tried calm t rest.before n) (here_later told name x.0 at) rest.tried;
        }
    by true false at same here later = absurd (true≢false same)
    by false true at same here later = absurd (true≢false (sym same))

-- the database of a name that a step leaves without one was not there before
pub find_lacks : (calm : Bool) (told : Option Trouble) (name : List ℕ) (olds news : Named Base) →
    TriesAll calm told olds news → find_named name news ≡ None → find_named name olds ≡ None
find_lacks calm told name [] [] tries none = refl
find_lacks calm told name [] (y ∷ ys) tries none = absurd tries
find_lacks calm told name (x ∷ xs) [] tries none = absurd tries
find_lacks calm told name (x ∷ xs) (y ∷ ys) tries none =
    by (bytes_eq name y.0) (bytes_eq name x.0) refl (ap (bytes_eq name) tries.0) none
    (find_lacks calm (trouble_later told x.0) name xs ys tries.2)
  where
    by : (b c : Bool) → bytes_eq name x.0 ≡ c → b ≡ c → cond b (Some y.1) (find_named name ys) ≡ None →
        (find_named name ys ≡ None → find_named name xs ≡ None) → find_named name (x ∷ xs) ≡ None
    by true true at same here later = absurd cc
    by false false at same here later = ap (λ c. cond c (Some x.1) (find_named name xs)) at ∙ later here
    by true false at same here later = absurd (true≢false same)
    by false true at same here later = absurd (true≢false (sym same))

-- the database of which a fault or a doubt is told
pub record Troubled (calm : Bool) (name : List ℕ) (halt : HaltOf) (olds news : Named Base) : Type 0 where
  pub before : Base
  pub behind : Base
  pub was : find_named name olds ≡ Some before
  pub is : find_named name news ≡ Some behind
  pub tried : Tried calm (Some halt) before behind

pub find_trouble : (calm : Bool) (name : List ℕ) (halt : HaltOf) (olds news : Named Base) →
    TriesAll calm (Some (name, halt)) olds news → Troubled calm name halt olds news
find_trouble calm name halt [] [] tries = absurd cc
find_trouble calm name halt [] (y ∷ ys) tries = absurd tries
find_trouble calm name halt (x ∷ xs) [] tries = absurd tries
find_trouble calm name halt (x ∷ xs) (y ∷ ys) tries =
    by (bytes_eq name x.0) refl tries.1 tries.2 (find_trouble calm name halt xs ys)
  where
    by : (c : Bool) → bytes_eq name x.0 ≡ c → Tried calm (cond c (Some halt) None) x.1 y.1 →
        TriesAll calm (cond c None (Some (name, halt))) xs ys →
        (TriesAll calm (Some (name, halt)) xs ys → Troubled calm name halt xs ys) →
        Troubled calm name halt (x ∷ xs) (y ∷ ys)
    by true at here rest later = record {
      before = x.1;
      behind = y.1;
      was = ap (λ c. cond c (Some x.1) (find_named name xs)) at;
      is = ap (λ c. cond c (Some y.1) (find_named name ys)) (ap (bytes_eq name) tries.0 ∙ at);
      tried = here;
    }
    by false at here rest later =
        let found = later rest in
        record {
          before = found.before;
          behind = found.behind;
          was = ap (λ c. cond c (Some x.1) (find_named name xs)) at ∙ found.was;
          is = ap (λ c. cond c (Some y.1) (find_named name ys)) (ap (bytes_eq name) tries.0 ∙ at) ∙ found.is;
          tried = found.tried;
        }

-- ---- how many there are, and where

pub length_tries : (calm : Bool) (told : Option Trouble) (olds news : Named Base) → TriesAll calm told olds news →
    length news ≡ length olds
length_tries calm told [] [] tries = refl
length_tries calm told [] (y ∷ ys) tries = absurd tries
length_tries calm told (x ∷ xs) [] tries = absurd tries
length_tries calm told (x ∷ xs) (y ∷ ys) tries =
    ap suc (length_tries calm (trouble_later told x.0) xs ys tries.2)

pub place_tries : (calm : Bool) (told : Option Trouble) (name : List ℕ) (olds news : Named Base) →
    TriesAll calm told olds news → place_of name news ≡ place_of name olds
place_tries calm told name [] [] tries = refl
place_tries calm told name [] (y ∷ ys) tries = absurd tries
place_tries calm told name (x ∷ xs) [] tries = absurd tries
place_tries calm told name (x ∷ xs) (y ∷ ys) tries =
    ap (λ b. cond b 0 (place_of name ys + 1)) (ap (bytes_eq name) tries.0)
    ∙ ap (λ k. cond (bytes_eq name x.0) 0 (k + 1))
    (place_tries calm (trouble_later told x.0) name xs ys tries.2)

-- ---- what holds of all

-- what each step keeps holds of all after it
pub all_behind_tries : (P Q : Base → Type 0) (calm : Bool) (told : Option Trouble) (olds news : Named Base) →
    ((t : Option HaltOf) (o n : Base) → Tried calm t o n → P o → Q n) →
    TriesAll calm told olds news × AllByRecursion (λ e. P e.1) olds → AllByRecursion (λ e. Q e.1) news
all_behind_tries P Q calm told [] [] keeps (tries, all) = tt
all_behind_tries P Q calm told [] (y ∷ ys) keeps (tries, all) = absurd tries
all_behind_tries P Q calm told (x ∷ xs) [] keeps (tries, all) = absurd tries
all_behind_tries P Q calm told (x ∷ xs) (y ∷ ys) keeps (tries, all) = (
  keeps (trouble_here told x.0) x.1 y.1 tries.1 all.0,
  all_behind_tries P Q calm (trouble_later told x.0) xs ys keeps (tries.2, all.1),
)

-- and what each step needs held of all before it
pub all_before_tries : (P Q : Base → Type 0) (calm : Bool) (told : Option Trouble) (olds news : Named Base) →
    ((t : Option HaltOf) (o n : Base) → Tried calm t o n → Q n → P o) →
    TriesAll calm told olds news × AllByRecursion (λ e. Q e.1) news → AllByRecursion (λ e. P e.1) olds
all_before_tries P Q calm told [] [] needs (tries, all) = tt
all_before_tries P Q calm told [] (y ∷ ys) needs (tries, all) = absurd tries
all_before_tries P Q calm told (x ∷ xs) [] needs (tries, all) = absurd tries
all_before_tries P Q calm told (x ∷ xs) (y ∷ ys) needs (tries, all) = (
  needs (trouble_here told x.0) x.1 y.1 tries.1 all.0,
  all_before_tries P Q calm (trouble_later told x.0) xs ys needs (tries.2, all.1),
)
