-- What is known of the transactions of other nodes, where it serves for a snapshot.
use Rattle.std.proofs.Common.{◌≡◌, ◌∙◌, ◌<◌, inl, inr, ℕ, Bool, true, false, cond, List, [], ◌∷◌, ◌++◌, Option, Some}
use Rattle.std.proofs.Common.{None, fold, refl, sym, subst, arith}
use Rattle.std.specs.Prelude.{◌==◌, ◌&&◌, ◌⊎◌, filter, nat_le, nat_lt}
use Rattle.std.specs.List.{AllByRecursion}
use Rattle.std.proofs.lemmas.Bool.{and_parts, eqb-true, leb-true}
use Rattle.slon_model.specs.Deeds.{Logged}
use Rattle.slon_model.specs.Names.{find_named}
use Rattle.slon_model.specs.Place.{Place}
use Rattle.slon_model.specs.Sessions.{World}
use Rattle.slon_model.proofs.Names.{all_map}
use Rattle.slon_laws.specs.Lists.{IsAmong}
use Rattle.slon_laws.specs.Spelled.{logs_in}
use Rattle.slon_laws.proofs.Lists.{all_appended, all_each, all_filtered, among_all}
use Rattle.node_store.specs.Logged.{HaveEnded}
use Rattle.slon_turns.specs.declared.bounds.Bound.{Bound}
use Rattle.slon_turns.specs.Bounds.{AreBounds, AreLearned, IsBound, IsLearned, is_kept, learned, next_of}
use Rattle.slon_turns.specs.Bounds.{raised, start_of}

-- ---- where a read may start

abbrev Before : ℕ → ℕ → ℕ → Logged → Type 0
Before origin number xid l = l.origin ≡ origin → l.action.number < number → l.action.xid < xid

-- what is known with an id up to this
ended_up : (logs : List Logged) (b : Bound) (origin xmin : ℕ) → b.origin ≡ origin → nat_le b.xid xmin ≡ true →
    HaveEnded b.origin b.number b.xid logs → HaveEnded origin b.number xmin logs
ended_up logs b origin xmin same up ended =
    let most = leb-true b.xid xmin up in
    all_map (Before b.origin b.number b.xid) (Before origin b.number xmin)
    (λ l past from below. let less = past (from ∙ sym same) below in omega (arith, less, most)) logs ended

raised_ended : (logs : List Logged) (origin xmin start : ℕ) (b : Bound) → HaveEnded origin start xmin logs →
    HaveEnded b.origin b.number b.xid logs → HaveEnded origin (raised origin xmin start b) xmin logs
raised_ended logs origin xmin start b before ended =
    by (b.origin == origin && nat_le b.xid xmin && nat_lt start b.number) refl
  where
    by : (t : Bool) → (b.origin == origin && nat_le b.xid xmin && nat_lt start b.number) ≡ t →
        HaveEnded origin (cond t b.number start) xmin logs
    by true is =
        let parts = and_parts (b.origin == origin && nat_le b.xid xmin) (nat_lt start b.number) is in
        let both = and_parts (b.origin == origin) (nat_le b.xid xmin) parts.0 in
        ended_up logs b origin xmin (eqb-true b.origin origin both.0) both.1 ended
    by false is = before

-- of several, from a start on
start_from : (logs : List Logged) (origin xmin start : ℕ) (bounds : List Bound) → HaveEnded origin start xmin logs →
    AllByRecursion (λ b. HaveEnded b.origin b.number b.xid logs) bounds →
    HaveEnded origin (fold (λ s b. raised origin xmin s b) start bounds) xmin logs
start_from logs origin xmin start [] before ended = before
start_from logs origin xmin start (b ∷ bounds) before ended =
    start_from logs origin xmin (raised origin xmin start b) bounds
    (raised_ended logs origin xmin start b before ended.0) ended.1

-- below the number from which on a log is read all had ended
pub start_ended : (w : World) (origin xmin : ℕ) (bounds : List Bound) → AreBounds w bounds →
    (name : List ℕ) (p : Place) → find_named name w.places ≡ Some p →
    HaveEnded origin (start_of origin xmin bounds) xmin (logs_in p.node)
start_ended w origin xmin bounds known name p found =
    start_from (logs_in p.node) origin xmin 0 bounds
    (all_each (Before origin 0 xmin) (λ l from below. absurd (omega (arith, below))) (logs_in p.node))
    (all_map (IsBound w) (λ b. HaveEnded b.origin b.number b.xid (logs_in p.node)) (λ b is. is name p found) bounds
    known)

-- ---- what is learned

abbrev Holds : World → ℕ → List Bound → Bound → Type 0
Holds w origin old b = IsAmong b old ⊎ IsLearned w origin b

-- all was known before
pub learned_none : (w : World) (origin : ℕ) {old new : List Bound} → new ≡ old → AreLearned w origin old new
learned_none w origin {old} same =
    subst (AreLearned w origin old) (sym same)
    (among_all (Holds w origin old) old (λ b among. inl among))

learned_one : (w : World) (origin xmin : ℕ) (known : Bound) (old : List Bound) → IsLearned w origin known →
    (b : Bool) → AreLearned w origin old (cond b old
    (filter (λ x. is_kept known.origin (start_of known.origin xmin old)
    (next_of known.origin (start_of known.origin xmin old) old) x) old ++ known ∷ []))
learned_one w origin xmin known old is true = learned_none w origin refl
learned_one w origin xmin known old is false =
    let start = start_of known.origin xmin old in
    let next = next_of known.origin start old in
    all_appended (Holds w origin old) (filter (λ x. is_kept known.origin start next x) old) (known ∷ [])
    (all_filtered (Holds w origin old) (λ x. is_kept known.origin start next x) old
    (among_all (Holds w origin old) old (λ b among. inl among)))
    (inr is, tt)

-- what is learned of an origin, if anything is
pub learned_more : (w : World) (origin xmin : ℕ) (known : Option Bound) (old : List Bound) →
    ((b : Bound) → known ≡ Some b → IsLearned w origin b) → AreLearned w origin old (learned xmin known old)
learned_more w origin xmin None old each = learned_none w origin refl
learned_more w origin xmin (Some known) old each =
    learned_one w origin xmin known old (each known refl) (nat_le known.number (start_of known.origin known.xid old))
