-- What a statement promises of the one database that it works at, by the calls that it makes on it.
use Rattle.std.proofs.Common.{◌≡◌, ◌∙◌, ℕ, ◌++◌, ◌==◌, Bool, true, false, cond, List, [], ◌∷◌, Option, Some, None}
use Rattle.std.proofs.Common.{Result, Ok, Err, refl, sym, ap, subst}
use Rattle.std.specs.Prelude.{unwrap_or, IfOk}
use Rattle.slon_base.specs.declared.fault.Halt.{Halt as HaltOf}
use Rattle.slon_base.specs.declared.fault.Halt.TheVariants.{Fault, Doubt}
use Rattle.slon_model.specs.declared.fault.DbFault.{DbFault}
use Rattle.slon_model.specs.declared.reply.Answer.{Answer}
use Rattle.slon_model.specs.declared.reply.Answered.{Answered}
use Rattle.slon_model.specs.declared.reply.Refusal.{Refusal}
use Rattle.slon_model.specs.declared.reply.Reply.{Reply}
use Rattle.slon_model.specs.declared.reply.Reply.TheVariants.{Refused}
use Rattle.slon_model.specs.Deeds.{Node}
use Rattle.slon_model.specs.Place.{Place}
use Rattle.slon_model.specs.Sessions.{Seat, Stated, Commit, checked, unless_refused, seat, first_refusal}
use Rattle.slon_model.specs.World.{refusal_of, reply_of, halt_in}
use Rattle.slon_model.proofs.Names.{bytes_itself}
use Rattle.app_store.specs.Base.{Base}
use Rattle.app_store.specs.Fits.{Fits, Ready}
use Rattle.app_store.specs.Parts.{FellTo, Fell, Looks, Remembers}
use Rattle.app_store.specs.Serves.{halts, is_memory, trouble}
use Rattle.node_store.specs.Acting.{Acts, ActsAs, Stood, Wavered, Burst, Broke}
use Rattle.node_store.proofs.Chaining.{acts_then}
use Rattle.slonik_exec.specs.Databases.{told_by, trouble_here}
use Rattle.slonik_exec.specs.Telling.{failure_of, troubled}
use Rattle.slonik_exec.specs.Answering.{trouble_in, Answers, OneCommit, ComesAt, RefusesAt, StandsAt, BurstsAt}
use Rattle.slonik_exec.specs.Answering.{is_id, BreaksAt}
use Rattle.slonik_exec.specs.Answering.{WaversAt, AtNode, EndsAt, RefusedAt, BrokenAt, ChecksAt, AtSeat, Checks}
use Rattle.node_state.specs.Known.{identity_of}
use Rattle.slonik_exec.proofs.Seats.{same_up, known_up}
use Rattle.slonik_exec.proofs.Telling.{words_at, told_reply}
use Rattle.slonik_exec.proofs.Trying.{acts_tried}
use Rattle.slonik_exec.proofs.Asking.{one_place}

-- ---- over every store

-- what is told of the database itself
here_own : (name : List ℕ) (o : Option HaltOf) → trouble_here (troubled name o) name ≡ o
here_own name None = refl
here_own name (Some halt) = ap (λ b. cond b (Some halt) None) (bytes_itself name)

own_name : (name other : List ℕ) (o : Option HaltOf) (halt : HaltOf) → troubled name o ≡ Some (other, halt) →
    other ≡ name
own_name name other None halt is = absurd cc
own_name name other (Some found) halt is = ap (λ (o : Option (List ℕ × HaltOf)). (unwrap_or o (name, halt)).0) (sym is)

-- a stop that is no failure of the store is not told
acts_failure : (t : Option HaltOf) (old new : Base) → Acts t old new → Acts (failure_of t) old new
acts_failure None old new acts = acts
acts_failure (Some (Fault count)) old new acts = acts
acts_failure (Some Doubt) old new acts = acts
acts_failure (Some others) old new acts =
    record { tries = (acts_tried (Some others) old new acts).tries; quiet = λ calm. acts.quiet refl }

-- the reply to a call
replied_by : (name : List ℕ) (result : Result Answered DbFault) (old new : Base) → Acts (trouble result) old new →
    Answers name old (reply_of (words_at name) result) new
replied_by name result old new acts =
    let told = told_reply (words_at name) result in
    let t = trouble result in
    record {
      acts = subst (λ o. Acts o old new)
          (sym (ap (λ o. trouble_here o name) told ∙ here_own name (failure_of t))) (acts_failure t old new acts);
      own = λ other halt is. own_name name other (failure_of t) halt (sym told ∙ is);
    }

pub replied : {name : List ℕ} {reply : Reply} (result : Result Answered DbFault) (old new : Base) →
    reply ≡ reply_of (words_at name) result → Acts (trouble result) old new → Answers name old reply new
replied {name} result old new is acts =
    subst (λ r. Answers name old r new) (sym is) (replied_by name result old new acts)

-- a refusal that tells of no store
pub refused_calm : {name : List ℕ} {reply : Reply} (old new : Base) → told_by reply ≡ None → Acts None old new →
    Answers name old reply new
refused_calm {name} old new none acts = record {
  acts = subst (λ o. Acts (trouble_here o name) old new) (sym none) acts;
  own = λ other halt is. absurd cc;
}

-- work after a check that let the statement go on
pub answers_then : {name : List ℕ} {reply : Reply} {old mid new : Base} → Acts None old mid →
    Answers name mid reply new → Answers name old reply new
answers_then {name} {reply} {old} {mid} {new} one two =
    record { acts = acts_then (trouble_in name reply) old mid new one two.acts; own = two.own }

checks_then : (name : List ℕ) (old mid new : Base) (found : Option Reply) → Checks name old None mid →
    Checks name mid found new → Checks name old found new
checks_then name old mid new None one two = (acts_then None old mid new one.0 two.0, two.1 ∙ one.1)
checks_then name old mid new (Some reply) one two = answers_then one.0 two

-- ---- what a check looked at

-- the memory of a database that is up says which node it is
pub own_identity : (p : Place) (n : Node) (old : Base) → Ready p old → old.memory.up ≡ true → p.node ≡ Some n →
    old.memory.identity ≡ identity_of (Some n)
own_identity p n old ready up is =
    (known_up p old ready.fits (sym (same_up p old ready.fits) ∙ up)).identity_is ∙ ap identity_of is

-- it is this node or not, by the code and by the rules
pub own_test : (p : Place) (n : Node) (old : Base) (id : ℕ) (is_it : Bool) → Ready p old × (p.node ≡ Some n) →
    old.memory.up ≡ true → is_id id old.memory.identity ≡ is_it → (id == n.id) ≡ is_it
own_test p n old id is_it (ready, is) up own = sym (ap (is_id id) (own_identity p n old ready up is)) ∙ own

-- A check of a statement: what is promised over every store, and by the rules.
pub record Checked (name : List ℕ) (due : Seat → List (Option Refusal)) (old : Base) (found : Option Reply)
    (new : Base) : Type 0 where
  pub checks : Checks name old found new
  pub refuses : AtSeat name due old found new

-- A look at a database.
pub record Looked {T : Type 0} (says : Place → T → Type 0) (old : Base) (result : Result T DbFault) (new : Base) :
    Type 0 where
  pub acts : Acts (halts result) old new
  pub looks : Looks says old result new
  pub same : Remembers old result new

pub looked_by : {T : Type 0} (says : Place → T → Type 0) {old new : Base} {was result : Result T DbFault} →
    was ≡ result → Acts (halts was) old new → Looks says old was new × Remembers old was new →
    Looked says old result new
looked_by says {old} {new} is acts looks =
    subst (λ r. Looked says old r new) is (record { acts = acts; looks = looks.0; same = looks.1 })

-- what a check makes of what it found
abbrev pub Finds : {T : Type 0} → List ℕ → Base → (Place → T → Type 0) → T → (Seat → List (Option Refusal)) →
    Option Refusal → Type 0
Finds name old says x checks found =
    (p : Place) (n : Node) → Ready p old → p.node ≡ Some n → says p x →
    first_refusal (checks (seat name p n)) ≡ found

-- it lets the statement go on
pub passes : {T : Type 0} {says : Place → T → Type 0} {x : T} {old new : Base} (name : List ℕ)
    (checks : Seat → List (Option Refusal)) → Looked says old (Ok x) new → Finds name old says x checks None →
    Checked name checks old None new
passes name checks look finds = record {
  checks = (look.acts, look.same);
  refuses = λ p n ready is.
      let seen = look.looks p ready refl in (finds p n ready is seen.0, seen.1);
}

-- or refuses it
pub refuses : {T : Type 0} {says : Place → T → Type 0} {x : T} {old new : Base} (name : List ℕ)
    (checks : Seat → List (Option Refusal)) (refusal : Refusal) → told_by (Refused refusal) ≡ None →
    Looked says old (Ok x) new → Finds name old says x checks (Some refusal) →
    Checked name checks old (Some (Refused refusal)) new
refuses {old = old} {new = new} name checks refusal none look finds = record {
  checks = refused_calm old new none look.acts;
  refuses = λ p n ready is.
      let seen = look.looks p ready refl in RefusedAt refusal (finds p n ready is seen.0) refl seen.1;
}

-- the store stopped, and there was memory to tell
pub record Stopped (name : List ℕ) (fault : DbFault) (reply : Reply) : Type 0 where
  pub is : reply ≡ refusal_of (words_at name) fault
  pub memory : is_memory (halt_in fault) ≡ false

broken_at_seat : (name : List ℕ) (fault : DbFault) (reply : Reply) (p : Place) (checks : List (Option Refusal))
    (new : Base) → reply ≡ refusal_of (words_at name) fault → FellTo p p fault new → EndsAt name p checks reply new
broken_at_seat name fault reply p checks new told (Fell count stands is rose fits) =
    BrokenAt count (told ∙ ap (refusal_of (words_at name)) is) rose (one_place p count stands new fits)

pub stops : {T : Type 0} {says : Place → T → Type 0} {fault : DbFault} {reply : Reply} {old new : Base}
    (name : List ℕ) (checks : Seat → List (Option Refusal)) → Looked says old (Err fault) new →
    Stopped name fault reply → Checked name checks old (Some reply) new
stops {fault = fault} {reply} {old} {new} name checks look stop = record {
  checks = replied (Err fault) old new stop.is look.acts;
  refuses = λ p n ready is.
      broken_at_seat name fault reply p (checks (seat name p n)) new stop.is (look.looks p ready stop.memory);
}

-- ---- one check after another

pub first_more : (xs ys : List (Option Refusal)) → first_refusal xs ≡ None →
    first_refusal (xs ++ ys) ≡ first_refusal ys
first_more [] ys none = refl
first_more (None ∷ xs) ys none = first_more xs ys none
first_more (Some refusal ∷ xs) ys none = absurd cc

pub first_told : (xs ys : List (Option Refusal)) (refusal : Refusal) → first_refusal xs ≡ Some refusal →
    first_refusal (xs ++ ys) ≡ Some refusal
first_told [] ys refusal is = absurd cc
first_told (None ∷ xs) ys refusal is = first_told xs ys refusal is
first_told (Some found ∷ xs) ys refusal is = is

-- the place stays as it was behind a check
pub ready_still : {p : Place} {old mid : Base} → Ready p old → Fits p mid → Ready p mid
ready_still ready fits = record { fits = fits; sound = ready.sound; spelled = ready.spelled }

pub ends_more : {name : List ℕ} {p : Place} {reply : Reply} {new : Base} (xs ys : List (Option Refusal)) →
    EndsAt name p xs reply new → EndsAt name p (xs ++ ys) reply new
ends_more xs ys (RefusedAt refusal first is fits) = RefusedAt refusal (first_told xs ys refusal first) is fits
ends_more xs ys (BrokenAt count is rose fits) = BrokenAt count is rose fits

pub ends_behind : {name : List ℕ} {p : Place} {reply : Reply} {new : Base} (xs ys : List (Option Refusal)) →
    first_refusal xs ≡ None → EndsAt name p ys reply new → EndsAt name p (xs ++ ys) reply new
ends_behind xs ys none (RefusedAt refusal first is fits) =
    RefusedAt refusal (first_more xs ys none ∙ first) is fits
ends_behind xs ys none (BrokenAt count is rose fits) = BrokenAt count is rose fits

-- the first one ends the statement
pub ended : {name : List ℕ} {one : Seat → List (Option Refusal)} {old new : Base} {reply : Reply}
    (two : Seat → List (Option Refusal)) → Checked name one old (Some reply) new →
    Checked name (λ s. one s ++ two s) old (Some reply) new
ended {name} {one} two first = record {
  checks = first.checks;
  refuses = λ p n ready is. ends_more (one (seat name p n)) (two (seat name p n)) (first.refuses p n ready is);
}

-- or lets it go on to the second
pub chained : {name : List ℕ} {one two : Seat → List (Option Refusal)} {old mid new : Base} (found : Option Reply) →
    Checked name one old None mid → Checked name two mid found new → Checked name (λ s. one s ++ two s) old found new
chained {name} {one} {two} {old} {mid} {new} found first second = record {
  checks = checks_then name old mid new found first.checks second.checks;
  refuses = λ p n ready is.
      let here = first.refuses p n ready is in
      by p found (one (seat name p n)) (two (seat name p n)) here.0 (second.refuses p n (ready_still ready here.1) is);
}
  where
    by : (p : Place) (found : Option Reply) (xs ys : List (Option Refusal)) → first_refusal xs ≡ None →
        ChecksAt name p ys found new → ChecksAt name p (xs ++ ys) found new
    by p None xs ys none at = (first_more xs ys none ∙ at.0, at.1)
    by p (Some reply) xs ys none at = ends_behind xs ys none at

-- the same of a check under another name of its database
pub checked_at : {was name : List ℕ} {one : Seat → List (Option Refusal)} {old new : Base} {found : Option Reply} →
    was ≡ name → Checked was one old found new → Checked name one old found new
checked_at {one = one} {old} {new} {found} same first = subst (λ n. Checked n one old found new) same first

pub checked_if : {E : Type 0} (name : List ℕ) (one : Seat → List (Option Refusal)) (old new : Base)
    (r : Result (Option Reply) E) → IfOk r (λ found. Checks name old found new) →
    IfOk r (λ found. AtSeat name one old found new) → IfOk r (λ found. Checked name one old found new)
checked_if name one old new (Ok found) checks refuses = record { checks = checks; refuses = refuses }
checked_if name one old new (Err e) checks refuses = tt

-- What checks promise behind a call that may fail.
pub record CheckedIf {E : Type 0} (name : List ℕ) (due : Seat → List (Option Refusal)) (old new : Base)
    (r : Result (Option Reply) E) : Type 0 where
  pub checks : IfOk r (λ found. Checks name old found new)
  pub refuses : IfOk r (λ found. AtSeat name due old found new)

-- two that let the statement go on to the third
pub checked_thrice : {E : Type 0} {name last : List ℕ} {one two : Seat → List (Option Refusal)}
    {old next mid new : Base} (three : Seat → List (Option Refusal)) (r : Result (Option Reply) E) →
    Checked name one old None next → Checked name two next None mid → last ≡ name →
    IfOk r (λ found. Checks last mid found new) × IfOk r (λ found. AtSeat last three mid found new) →
    CheckedIf name (λ s. one s ++ two s ++ three s) old new r
checked_thrice three (Ok found) first second same (checks, refuses) =
    let third = checked_at {one = three} same (record { checks = checks; refuses = refuses }) in
    let all = chained found (chained None first second) third in
    record { checks = all.checks; refuses = all.refuses }
checked_thrice three (Err e) first second same last = record { checks = tt; refuses = tt }

-- ---- what the statement comes to

-- a check ended it
pub ends_due : {name : List ℕ} {p : Place} {reply : Reply} {new : Base} (checks : List (Option Refusal))
    (stated : Stated) → EndsAt name p checks reply new → ComesAt name p (checked checks stated) reply new
ends_due checks stated (RefusedAt refusal first is fits) =
    RefusesAt refusal (ap (λ o. unless_refused o stated) first) is fits
ends_due checks stated (BrokenAt count is rose fits) = BreaksAt count is rose fits

pub ended_due : {name : List ℕ} {one : Seat → List (Option Refusal)} {old new : Base} {reply : Reply}
    (stated : Seat → Stated) → Checked name one old (Some reply) new →
    AtNode name (λ s. checked (one s) (stated s)) old reply new
ended_due {name} {one} stated first p n ready is =
    ends_due (one (seat name p n)) (stated (seat name p n)) (first.refuses p n ready is)

-- a check that did not end it, or did
pub none_left : {T : Type 0} (found : Option T) → ((x : T) → found ≡ Some x → ⊥) → found ≡ None
none_left None none = refl
none_left (Some x) none = absurd (none x refl)

pub checked_as : {name : List ℕ} {one : Seat → List (Option Refusal)} {old new : Base} {was found : Option Reply} →
    was ≡ found → Checked name one old was new → Checked name one old found new
checked_as {name} {one} {old} {new} is first = subst (λ o. Checked name one old o new) is first

-- no check did, and it goes on
pub passed_due : {name : List ℕ} {p : Place} {reply : Reply} {new : Base} (checks : List (Option Refusal))
    (stated : Stated) → first_refusal checks ≡ None → ComesAt name p (Ok stated) reply new →
    ComesAt name p (checked checks stated) reply new
passed_due {name} {p} {reply} {new} checks stated none comes =
    subst (λ due. ComesAt name p due reply new) (sym (ap (λ o. unless_refused o stated) none)) comes

-- the same from every place that is the node
pub passed_behind : {name : List ℕ} {one : Seat → List (Option Refusal)} {old mid new : Base} {reply : Reply}
    (stated : Seat → Stated) → Checked name one old None mid → AtNode name (λ s. Ok (stated s)) mid reply new →
    AtNode name (λ s. checked (one s) (stated s)) old reply new
passed_behind {name} {one} stated first comes p n ready is =
    let here = first.refuses p n ready is in
    let s = seat name p n in
    passed_due (one s) (stated s) here.0 (comes p n (ready_still ready here.1) is)

-- a commit was made, or not
pub commits_due : {name : List ℕ} {p : Place} {reply : Reply} {new : Base} {due : Result Stated Refusal} {c : Commit}
    {answer : Answer} {result : Result Answered DbFault} → reply ≡ reply_of (words_at name) result →
    OneCommit name due answer c → ActsAs c answer p result new → ComesAt name p due reply new
commits_due {name} {c = c} {answer} told one (Stood is last fits) =
    StandsAt answer c one last (told ∙ ap (reply_of (words_at name)) is) fits
commits_due {name} {c = c} {answer} told one (Wavered stands is last fits) =
    WaversAt answer c stands one last (told ∙ ap (reply_of (words_at name)) is) fits
commits_due {name} {c = c} {answer} told one (Burst space is last fits) =
    BurstsAt answer c space one last (told ∙ ap (reply_of (words_at name)) is) fits
commits_due {name} {p} {new = new} told one (Broke fault is last (Fell count stands why rose fits)) =
    BreaksAt count (told ∙ ap (reply_of (words_at name)) is ∙ ap (refusal_of (words_at name)) why) rose
    (one_place p count stands new fits)
