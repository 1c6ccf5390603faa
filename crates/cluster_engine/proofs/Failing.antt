-- The replies that tell of faults are at most as many as the calls of the stores that can fail.
use Rattle.std.proofs.Common.{◌≡◌, ◌∙◌, ℕ, ◌+◌, ◌≤◌, suc, Bool, true, false, cond, List, [], ◌∷◌, ◌++◌, length, is_some}
use Rattle.std.proofs.Common.{Option, Some, None, Result, Ok, Err, refl, sym, ap, subst, arith, length-append}
use Rattle.std.specs.Prelude.{◌&&◌}
use Rattle.std.specs.Option.{option_map}
use Rattle.std.specs.Str.{bytes_eq}
use Rattle.std.proofs.lemmas.Bool.{false≢true}
use Rattle.slon_base.specs.Keeper.{Kept, nothing}
use Rattle.slon_base.specs.Shelf.{Promise, IsAsPromised}
use Rattle.slon_base.specs.Counts.{Within}
use Rattle.slon_base.specs.declared.fault.Halt.{Halt as HaltOf}
use Rattle.slon_base.specs.declared.fault.Halt.TheVariants.{Doubt, Fault as HaltFault}
use Rattle.slon_model.specs.declared.fault.DbFault.{DbFault}
use Rattle.slon_model.specs.declared.fault.DbFault.TheVariants.{Halt}
use Rattle.slon_model.specs.declared.command.Command.{Command}
use Rattle.slon_model.specs.declared.command.Command.TheVariants.{Database}
use Rattle.slon_model.specs.declared.reply.Answered.{Answered}
use Rattle.slon_model.specs.declared.reply.Answered.TheVariants.{InDoubt as AnsweredInDoubt}
use Rattle.slon_model.specs.declared.reply.Refusal.TheVariants as refused
use Rattle.slon_model.specs.declared.reply.Reply.{Reply}
use Rattle.slon_model.specs.declared.reply.Reply.TheVariants.{Refused, InDoubt}
use Rattle.slon_model.specs.Names.{Named, find_named, put_named}
use Rattle.slon_model.specs.Tasks.{Act, OnNew, OnOne, Words, words_of}
use Rattle.slon_model.specs.World.{Happening, reply_of}
use Rattle.slon_model.proofs.Names.{bytes_same, bytes_turned, bytes_turned_false, find-behind, put_found, put_other}
use Rattle.slon_model.proofs.Names.{one_found}
use Rattle.app_store.specs.Base.{Base}
use Rattle.app_store.specs.Serves.{is_failure, trouble, settled}
use Rattle.store_rows.specs.Spending.{IsAtMost, Stays, Spends}
use Rattle.slonik_exec.specs.Databases.{Trouble, TriesAll, told_by, trouble_here, is_calm}
use Rattle.cluster_engine.specs.Agreed.{Clustered}
use Rattle.cluster_engine.specs.Calls.{arms_on, happened, with_base, with_more, Moves, Grants, Misses, Asks, Acts}
use Rattle.cluster_engine.specs.Calls.{IsActed, is_sure_reply}
use Rattle.cluster_engine.specs.Calls.{Adopts, Rejects, Keeps}
use Rattle.cluster_engine.specs.Failing.{tells_of, failures, place_of, IsWithin, Pays}
use Rattle.cluster_engine.proofs.Moving.{IsGranted}
use Rattle.cluster_engine.proofs.Telling.{granted_sure}
use Rattle.cluster_engine.proofs.Stepping.{never_empty}
use Rattle.cluster_engine.proofs.Trials.{find_tried, find_lacks, find_trouble, length_tries, place_tries}

-- ---- bounds

one_taken : (n : ℕ) (left : Option ℕ) → IsAtMost n (option_map suc left) → (m : ℕ) × (m + 1 ≤ n) × IsAtMost m left
unfolding IsAtMost
one_taken n None most = absurd most
one_taken n (Some m) most = (m, omega (arith, most), omega arith)

promised_most : (n : ℕ) (promise : Promise) (kept : Kept) → IsAsPromised promise kept → promise.can_fail ≡ Some n →
    IsAtMost n kept.can_fail
unfolding IsAtMost
promised_most n promise kept promised is = subst (λ o. Within o kept.can_fail) is promised.left

-- the failures that were told, and those that can still come, are at most n
abbrev Leaves : ℕ → ℕ → Option ℕ → Type 0
Leaves told n can_fail = (left : ℕ) × (told + left ≤ n) × IsAtMost left can_fail

-- the replies so far and one more
more_left : (failed : Bool) (told n : ℕ) (old new : Option ℕ) → Stays old new → Spends failed old new →
    Leaves told n old →
    Leaves (cond failed (told + 1) told) n new
more_left false told n old new stays spends (left, few, most) = (left, few, stays left most)
more_left true told n old new stays spends (left, few, most) =
    let one = one_taken left new (spends refl left most) in (one.0, omega (arith, few, one.1), one.2)

-- ---- which database a reply tells of

reply_tells : (name : List ℕ) (words : Words) (result : Result Answered DbFault) →
    tells_of name (reply_of words result) ≡ (is_failure (trouble result) && bytes_eq name words.database)
reply_tells name words (Ok (AnsweredInDoubt answer)) = refl
reply_tells name words (Err (Halt (HaltFault count))) = refl
reply_tells name words (Err (Halt Doubt)) = refl
reply_tells name words others = refl

sure_tells : (name : List ℕ) (reply : Reply) → is_sure_reply reply ≡ true → tells_of name reply ≡ false
sure_tells name (Refused (refused.Fault database count)) is = absurd (false≢true is)
sure_tells name (InDoubt database answer) is = absurd (false≢true is)
sure_tells name others is = refl

-- a reply that tells of none changes no count
untold : (promise : ℕ → Promise) (h : Happening) (cluster : Clustered) (history : List Happening) →
    is_sure_reply h.reply ≡ true →
    IsWithin promise history cluster → IsWithin promise (h ∷ history) cluster
untold promise h cluster history is w = record {
  placed = w.placed;
  absent = λ name none. ap (λ b. cond b (failures name history + 1) (failures name history))
      (sure_tells name h.reply is) ∙ w.absent name none;
  present = λ name b n found told.
      subst (λ c. Leaves (cond c (failures name history + 1) (failures name history)) n b.kept.can_fail)
      (sym (sure_tells name h.reply is))
      (w.present name b n found told);
}

and_false : (a : Bool) → (a && false) ≡ false
and_false true = refl
and_false false = refl

and_true : (a : Bool) → (a && true) ≡ a
and_true true = refl
and_true false = refl

-- What a happening tells of the database of a name: of a failure, if it failed; of no other database.
record TellsOf (name : List ℕ) (h : Happening) (failed : Bool) : Type 0 where
  tells : (other : List ℕ) → tells_of other h.reply ≡ (failed && bytes_eq other name)

failures_here : (name other : List ℕ) (h : Happening) (failed : Bool) (history : List Happening) →
    TellsOf name h failed → bytes_eq other name ≡ true →
    failures other (h ∷ history) ≡ cond failed (failures other history + 1) (failures other history)
failures_here name other h failed history t same =
    ap (λ c. cond c (failures other history + 1) (failures other history))
    (t.tells other ∙ ap (λ x. failed && x) same ∙ and_true failed)

failures_there : (name other : List ℕ) (h : Happening) (failed : Bool) (history : List Happening) →
    TellsOf name h failed → bytes_eq other name ≡ false →
    failures other (h ∷ history) ≡ failures other history
failures_there name other h failed history t differ =
    ap (λ c. cond c (failures other history + 1) (failures other history))
    (t.tells other ∙ ap (λ x. failed && x) differ ∙ and_false failed)

some_none : {X : Type 0} {Y : Type 0} (x : X) → Some x ≡ None → Y
some_none x is = absurd cc

-- ---- a database that serves

place_put : (name other : List ℕ) (d : Base) (bases : Named Base) →
    place_of name (put_named other d bases) ≡ place_of name bases
place_put name other d [] = refl
place_put name other d (b ∷ bs) =
    elim (bytes_eq other b.0) as (λ c. place_of name (cond c ((b.0, d) ∷ bs) (b ∷ put_named other d bs)) ≡ place_of name
    (b ∷ bs)) [
      | true ↦ refl
      | false ↦ ap (λ k. cond (bytes_eq name b.0) 0 (k + 1)) (place_put name other d bs)
    ]

length_put : (name : List ℕ) (d : Base) (bases : Named Base) → length (put_named name d bases) ≡ length bases
length_put name d [] = refl
length_put name d (b ∷ bs) =
    elim (bytes_eq name b.0) as (λ c. length (cond c ((b.0, d) ∷ bs) (b ∷ put_named name d bs)) ≡ length (b ∷ bs)) [
      | true ↦ refl
      | false ↦ ap suc (length_put name d bs)
    ]

-- a database that was asked, and what it spends
record Spent (name : List ℕ) (h : Happening) (c : Clustered) (d : Base) : Type 0 where
  failed : Bool
  tells : TellsOf name h failed
  b : Base
  found : find_named name c.bases ≡ Some b
  still : Stays b.kept.can_fail d.kept.can_fail
  spends : Spends failed b.kept.can_fail d.kept.can_fail

asks_pays : (promise : ℕ → Promise) (name : List ℕ) (h : Happening) (old : Clustered) (was d : Base)
    (history : List Happening) → Spent name h old d × IsWithin promise history old →
    IsWithin promise (h ∷ history) (with_base name was d old)
asks_pays promise name h old was d history (s, w) = record {
  placed = w.placed ∙ sym (length_put name d old.bases);
  absent = λ other none. gone other (bytes_eq other name) refl none;
  present = λ other e n is told. here other e n (bytes_eq other name) refl is
      (ap (λ k. (promise k).can_fail) (sym (place_put other name d old.bases)) ∙ told);
}
  where
    at : (other : List ℕ) → bytes_eq other name ≡ true → find_named other (put_named name d old.bases) ≡ Some d
    at other same = ap (λ k. find_named k (put_named name d old.bases)) (bytes_same other name same)
        ∙ put_found name d s.b old.bases s.found

    gone : (other : List ℕ) (c : Bool) → bytes_eq other name ≡ c →
        find_named other (put_named name d old.bases) ≡ None → failures other (h ∷ history) ≡ 0
    gone other true same none = some_none d (sym (at other same) ∙ none)
    gone other false differ none =
        failures_there name other h s.failed history s.tells differ
        ∙ w.absent other (sym (put_other other name d old.bases differ) ∙ none)

    here : (other : List ℕ) (e : Base) (n : ℕ) (c : Bool) → bytes_eq other name ≡ c →
        find_named other (put_named name d old.bases) ≡ Some e →
        (promise (place_of other old.bases)).can_fail ≡ Some n → Leaves (failures other (h ∷ history)) n e.kept.can_fail
    here other e n true same is told =
        let it : d ≡ e = one_found d e (sym (at other same) ∙ is) in
        subst (λ (k : Base). Leaves (failures other (h ∷ history)) n k.kept.can_fail) it
        (subst (λ told. Leaves told n d.kept.can_fail) (sym (failures_here name other h s.failed history s.tells same))
        (more_left s.failed (failures other history) n s.b.kept.can_fail d.kept.can_fail s.still s.spends
        (w.present other s.b n (ap (λ k. find_named k old.bases) (bytes_same other name same) ∙ s.found) told)))
    here other e n false differ is told =
        subst (λ told. Leaves told n e.kept.can_fail)
        (sym (failures_there name other h s.failed history s.tells differ))
        (w.present other e n (sym (put_other other name d old.bases differ) ∙ is) told)

-- ---- scripts

turned : (a b : List ℕ) → bytes_eq a b ≡ bytes_eq b a
turned a b = by (bytes_eq a b) refl
  where
    by : (c : Bool) → bytes_eq a b ≡ c → bytes_eq a b ≡ bytes_eq b a
    by true is = is ∙ sym (bytes_turned a b is)
    by false is = is ∙ sym (bytes_turned_false a b is)

failing : (b : Bool) (halt : HaltOf) → is_failure (Some halt) ≡ true → b ≡ is_failure (cond b (Some halt) None)
failing true halt fails = sym fails
failing false halt fails = refl

-- of which database a reply tells
told_tells : (name : List ℕ) (reply : Reply) →
    tells_of name reply ≡ is_failure (trouble_here (told_by reply) name)
told_tells name (Refused (refused.Fault database count)) =
    turned name database ∙ failing (bytes_eq database name) (HaltFault count) refl
told_tells name (InDoubt database answer) = turned name database ∙ failing (bytes_eq database name) Doubt refl
told_tells name others = refl

-- a name of which nothing is told, as no database has it
untroubled : (calm : Bool) (told : Option Trouble) (name : List ℕ) (olds news : Named Base) →
    TriesAll calm told olds news → find_named name olds ≡ None → trouble_here told name ≡ None
untroubled calm None name olds news tries lacks = refl
untroubled calm (Some t) name olds news tries lacks = by (bytes_eq t.0 name) refl
  where
    by : (b : Bool) → bytes_eq t.0 name ≡ b → cond b (Some t.1) None ≡ None
    by false is = refl
    by true is =
        let found = find_trouble calm t.0 t.1 olds news tries in
        some_none found.before (sym found.was ∙ ap (λ n. find_named n olds) (bytes_same t.0 name is) ∙ lacks)

acts_pays : {act : Act} (promise : ℕ → Promise) (h : Happening) (old new : Clustered) (history : List Happening) →
    IsActed act old h.reply new → IsWithin promise history old → IsWithin promise (h ∷ history) new
acts_pays promise h old new history acted w = record {
  placed = acted.given ∙ w.placed ∙ sym (length_tries calm told old.bases new.bases acted.runs);
  absent = λ name lacks.
      let none = find_lacks calm told name old.bases new.bases acted.runs lacks in
      ap (λ b. cond b (failures name history + 1) (failures name history)) (told_tells name h.reply
      ∙ ap is_failure (untroubled calm told name old.bases new.bases acted.runs none)) ∙ w.absent name none;
  present = λ name n bound found most.
      let t = find_tried calm told name n old.bases new.bases acted.runs found in
      subst (λ b. Leaves (cond b (failures name history + 1) (failures name history)) bound n.kept.can_fail)
      (sym (told_tells name h.reply))
      (more_left (is_failure (trouble_here told name)) (failures name history) bound t.before.kept.can_fail
      n.kept.can_fail t.tried.tries.still t.tried.tries.spends
      (w.present name t.before bound t.was
      (ap (λ k. (promise k).can_fail) (sym (place_tries calm told name old.bases new.bases acted.runs)) ∙ most)));
}
  where
    calm : Bool
    calm = is_calm h.reply

    told : Option Trouble
    told = told_by h.reply

pub moves_pays : (promise : ℕ → Promise) (command : Command) (old : Clustered) (reply : Reply) (new : Clustered) →
    Moves command old reply new →
    Pays promise command old reply new
moves_pays promise command old reply new (Grants name about told same) armless choice history w =
    subst (IsWithin promise (happened command reply choice ∷ history)) (sym same)
    (untold promise (happened command reply choice) old history (ap is_sure_reply told ∙ granted_sure name old) w)
moves_pays promise command old reply new (Misses name task about none told same) armless choice history w =
    subst (IsWithin promise (happened command reply choice ∷ history)) (sym same)
    (untold promise (happened command reply choice) old history (ap is_sure_reply told) w)
moves_pays promise command old reply new (Asks s) armless choice history w =
    subst (IsWithin promise (happened command reply choice ∷ history)) (sym s.same)
    (asks_pays promise s.name (happened command reply choice) old s.before s.behind history (
      record {
        failed = is_failure (trouble s.result);
        tells = record {
          tells = λ other. ap (tells_of other) s.told
              ∙ reply_tells other (words_of (OnOne s.name s.task)) s.result;
        };
        b = s.before;
        found = s.found;
        still = s.serves.still (sym (ap arms_on s.about) ∙ armless);
        spends = s.serves.spends;
      },
      w,
    ))
moves_pays promise command old reply new (Acts act about acted) armless choice history w =
    acts_pays promise (happened command reply choice) old new history acted w

-- ---- a database that is made

or_none : (o : Option Base) → cond (is_some o) o None ≡ o
or_none None = refl
or_none (Some b) = refl

behind_other : (name other : List ℕ) (b : Base) (bases : Named Base) → bytes_eq name other ≡ false →
    find_named name (bases ++ (other, b) ∷ []) ≡ find_named name bases
behind_other name other b bases differ =
    find-behind name other b bases ∙ ap (λ c. cond (is_some (find_named name bases)) (find_named name bases)
    (cond c (Some b) None)) differ ∙ or_none (find_named name bases)

behind_new : (name other : List ℕ) (b : Base) (bases : Named Base) → bytes_eq name other ≡ true →
    find_named name bases ≡ None →
    find_named name (bases ++ (other, b) ∷ []) ≡ Some b
behind_new name other b bases same none =
    find-behind name other b bases ∙ ap (λ o. cond (is_some o) o (cond (bytes_eq name other) (Some b) None)) none
    ∙ ap (λ c. cond c (Some b) None) same

-- its place is behind all others
place_new : (name other : List ℕ) (b : Base) (bases : Named Base) → bytes_eq name other ≡ true →
    find_named name bases ≡ None →
    place_of name (bases ++ (other, b) ∷ []) ≡ length bases
place_new name other b [] same none = ap (λ c. cond c 0 1) same
place_new name other b (e ∷ es) same none =
    elim (bytes_eq name e.0) as (λ c. cond c (Some e.1) (find_named name es) ≡ None →
    cond c 0 (place_of name (es ++ (other, b) ∷ []) + 1) ≡ suc (length es)) [
      | true ↦ λ found. absurd cc
      | false ↦ λ absent. let rest = place_new name other b es same absent in omega (arith, rest)
    ] none

place_old : (name other : List ℕ) (b e : Base) (bases : Named Base) → find_named name bases ≡ Some e →
    place_of name (bases ++ (other, b) ∷ []) ≡ place_of name bases
place_old name other b e [] found = absurd cc
place_old name other b e (x ∷ xs) found =
    elim (bytes_eq name x.0) as (λ c. cond c (Some x.1) (find_named name xs) ≡ Some e →
    cond c 0 (place_of name (xs ++ (other, b) ∷ []) + 1) ≡ cond c 0 (place_of name xs + 1)) [
      | true ↦ λ here. refl
      | false ↦ λ later. ap (λ k. k + 1) (place_old name other b e xs later)
    ] found

-- a database that was made over a store as it was promised, under a name that was free, and what its making spends
record Opened (promise : ℕ → Promise) (name : List ℕ) (h : Happening) (c : Clustered) (b : Base) : Type 0 where
  failed : Bool
  tells : TellsOf name h failed
  free : find_named name c.bases ≡ None
  kept : Kept
  promised : IsAsPromised (promise (length c.bases)) kept
  still : Stays kept.can_fail b.kept.can_fail
  spends : Spends failed kept.can_fail b.kept.can_fail

keeps_pays : (promise : ℕ → Promise) (name : List ℕ) (h : Happening) (old : Clustered) (b : Base)
    (history : List Happening) → Opened promise name h old b →
    IsWithin promise history old → IsWithin promise (h ∷ history) (with_more name b old)
keeps_pays promise name h old b history s w = record {
  placed = omega (arith, w.placed, length-append old.bases ((name, b) ∷ []));
  absent = λ other none. gone other (bytes_eq other name) refl none;
  present = λ other e n is told. here other e n (bytes_eq other name) refl is told;
}
  where
    unused : (other : List ℕ) → bytes_eq other name ≡ true → find_named other old.bases ≡ None
    unused other same = ap (λ k. find_named k old.bases) (bytes_same other name same) ∙ s.free

    gone : (other : List ℕ) (c : Bool) → bytes_eq other name ≡ c →
        find_named other (old.bases ++ (name, b) ∷ []) ≡ None → failures other (h ∷ history) ≡ 0
    gone other true same none = some_none b (sym (behind_new other name b old.bases same (unused other same)) ∙ none)
    gone other false differ none =
        failures_there name other h s.failed history s.tells differ
        ∙ w.absent other (sym (behind_other other name b old.bases differ) ∙ none)

    here : (other : List ℕ) (e : Base) (n : ℕ) (c : Bool) → bytes_eq other name ≡ c →
        find_named other (old.bases ++ (name, b) ∷ []) ≡ Some e →
        (promise (place_of other (old.bases ++ (name, b) ∷ []))).can_fail ≡ Some n →
        Leaves (failures other (h ∷ history)) n e.kept.can_fail
    here other e n true same is told =
        let it : b ≡ e = one_found b e (sym (behind_new other name b old.bases same (unused other same)) ∙ is) in
        let bound : (promise (length old.bases)).can_fail ≡ Some n =
        ap (λ k. (promise k).can_fail) (sym (place_new other name b old.bases same (unused other same))) ∙ told in
        let none : failures other history ≡ 0 = w.absent other (unused other same) in
        subst (λ (k : Base). Leaves (failures other (h ∷ history)) n k.kept.can_fail) it
        (subst (λ told. Leaves told n b.kept.can_fail) (sym (failures_here name other h s.failed history s.tells same))
        (more_left s.failed (failures other history) n s.kept.can_fail b.kept.can_fail s.still s.spends
        (n, omega (arith, none), promised_most n (promise (length old.bases)) s.kept s.promised bound)))
    here other e n false differ is told =
        let found : find_named other old.bases ≡ Some e = sym (behind_other other name b old.bases differ) ∙ is in
        subst (λ told. Leaves told n e.kept.can_fail)
        (sym (failures_there name other h s.failed history s.tells differ))
        (w.present other e n found (ap (λ k. (promise k).can_fail) (sym (place_old other name b e old.bases found))
        ∙ told))

-- the store is as it was promised and begins empty, and the name is free
pub record MayMake (promise : ℕ → Promise) (name : List ℕ) (kept : Kept) (old : Clustered) : Type 0 where
  pub promised : IsAsPromised (promise old.given) kept
  pub empty : kept.held ≡ Some nothing
  pub free : find_named name old.bases ≡ None

pub adopts_pays : (promise : ℕ → Promise) (name : List ℕ) (kept : Kept) (old : Clustered) (reply : Reply)
    (new : Clustered) →
    MayMake promise name kept old → Adopts name kept old reply new → Pays promise (Database name) old reply new
adopts_pays promise name kept old reply new may (Rejects b made told same) armless choice history w =
    absurd (never_empty kept b made.founds may.empty)
adopts_pays promise name kept old reply new may (Keeps b result made memory kept_it told same) armless choice history w
    =
    subst (IsWithin promise (happened (Database name) reply choice ∷ history)) (sym same)
    (keeps_pays promise name (happened (Database name) reply choice) old b history (record {
      failed = is_failure (trouble (settled result));
      tells = record {
        tells = λ other. ap (tells_of other) told
            ∙ reply_tells other (words_of (OnNew name)) (settled result);
      };
      free = may.free;
      kept = kept;
      promised = subst (λ place. IsAsPromised (promise place) kept) w.placed may.promised;
      still = made.founds.still;
      spends = made.founds.spends;
    }) w)

-- a database that was granted and is made
pub granted_free : (name : List ℕ) (old mid : Clustered) → IsGranted name old mid → find_named name mid.bases ≡ None
granted_free name old mid was = ap (λ (c : Clustered). find_named name c.bases) was.same ∙ was.free

pub made_pays : (promise : ℕ → Promise) (name : List ℕ) (old mid : Clustered) (reply : Reply) (new : Clustered) →
    IsGranted name old mid →
    Pays promise (Database name) mid reply new → Pays promise (Database name) old reply new
made_pays promise name old mid reply new was pays = subst (λ c. Pays promise (Database name) c reply new) was.same pays
