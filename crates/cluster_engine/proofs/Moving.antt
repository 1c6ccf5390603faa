-- What the calls on the databases of a session do, from what their parts do.
use Rattle.std.proofs.Common.{◌+◌, ◌≡◌, ◌∙◌, ℕ, ◌<◌, ◌≤◌, Bool, true, false, cond, List, [], length, map, set, is_some}
use Rattle.std.proofs.Common.{nat_lt, Option, Some, None, Result, Ok, Err, IfOk, IfErr, OnErr, is_err, refl, sym, ap}
use Rattle.std.proofs.Common.{subst, true≢false, unwrap_or}
use Rattle.std.specs.List.{position}
use Rattle.std.specs.Str.{bytes_eq}
use Rattle.std.proofs.lemmas.Bool.{lt-ltb, le-ltb, false≢true}
use Rattle.std.proofs.lemmas.List.{length-map}
use Rattle.slon_base.specs.Keeper.{Kept}
use Rattle.slon_base.specs.declared.fault.Halt.TheVariants.{Doubt}
use Rattle.slon_model.specs.declared.fault.DbFault.{DbFault}
use Rattle.slon_model.specs.declared.fault.DbFault.TheVariants.{NotEmpty, Halt}
use Rattle.slon_model.specs.declared.command.Command.{Command}
use Rattle.slon_model.specs.declared.command.Command.TheVariants.{Database, Slonik, Step, Kill, Start, Stop, Cut, Join}
use Rattle.slon_model.specs.declared.command.Command.TheVariants.{Sync, Listen, Fetch, Work}
use Rattle.slon_model.specs.declared.command.Delivery.{Delivery}
use Rattle.slon_model.specs.declared.reading.Reading.{Reading}
use Rattle.slon_model.specs.declared.reply.Answer.TheVariants.{Done}
use Rattle.slon_model.specs.declared.reply.Answered.{Answered}
use Rattle.slon_model.specs.declared.reply.Answered.TheVariants.{Sure, InDoubt as AnsweredInDoubt}
use Rattle.slon_model.specs.declared.reply.Refusal.TheVariants as refused
use Rattle.slon_model.specs.declared.reply.Reply.{Reply}
use Rattle.slon_model.specs.declared.reply.Reply.TheVariants.{Accepted, Refused}
use Rattle.slon_model.specs.Names.{find_named}
use Rattle.slon_model.specs.Tasks.{Act, Subject, OnNew, OnOne, OnAll, subject_of, subject_name, transaction_named}
use Rattle.slon_model.specs.Tasks.{table_named, Words, words_of}
use Rattle.slon_model.specs.World.{halt_in, refusal_of, reply_of, is_accepted}
use Rattle.app_store.specs.Base.{Base}
use Rattle.app_store.specs.Handed.{HandsOn}
use Rattle.app_store.specs.Serves.{ServesOn, Founds, is_memory, trouble, settled}
use Rattle.slon_turns.specs.Holding.{Holdings}
use Rattle.cluster_engine.specs.Agreed.{Clustered}
use Rattle.cluster_engine.specs.Calls.{is_one, is_reading, takes_none, IsActed, recalled, with_base, with_base_behind}
use Rattle.cluster_engine.specs.Calls.{with_given, with_more, fused, grant, Moves}
use Rattle.cluster_engine.specs.Calls.{Grants, Misses, Asks, Acts, Made, making_reply, is_not_empty, Adopts, Rejects}
use Rattle.cluster_engine.specs.Calls.{Keeps}
use Rattle.slonik_exec.proofs.Lists.{IsAt, find_position, put_position}
use Rattle.cluster_engine.proofs.Lifting.{find_some}

-- what follows of the reply of a call
pub if_ok : {E : Type 0} (P Q : Reply → Type 0) (result : Result Reply E) → ((reply : Reply) → P reply → Q reply) →
    IfOk result P → IfOk result Q
if_ok P Q (Ok reply) from holds = from reply holds
if_ok P Q (Err e) from holds = tt

-- what holds of the reply that is told
pub if_told : {E : Type 0} (P : Reply → Type 0) (result : Result Reply E) (reply : Reply) →
    IfOk result (λ r. r ≡ reply) → P reply → IfOk result P
if_told P result reply told holds = if_ok (λ r. r ≡ reply) P result (λ r is. subst P (sym is) holds) told

pub if_err : {T E : Type 0} (P Q : E → Type 0) (result : Result T E) → ((e : E) → P e → Q e) → IfErr result P →
    IfErr result Q
if_err P Q (Ok x) from holds = tt
if_err P Q (Err e) from holds = from e holds

pub not_so : (b : Bool) → (b ≡ true → false ≡ true) → b ≡ false
not_so false no_error = refl
not_so true no_error = sym (no_error refl)

-- what holds where a result is no want of memory holds of a call that fails there
pub if_memory : {E : Type 0} (P : Reply → Type 0) (result : Result Reply E) (fault : DbFault) (reply : Reply) →
    IfOk result (λ r. r ≡ reply) →
    (is_memory (halt_in fault) ≡ true → is_err result ≡ true) → (is_memory (halt_in fault) ≡ false → P reply) →
    IfOk result P
if_memory P (Ok r) fault reply is memory holds = subst P (sym is) (holds (not_so (is_memory (halt_in fault)) memory))
if_memory P (Err e) fault reply is memory holds = tt

-- ---- the words of a command

pub same_words : (s : Subject) (database : List ℕ) (transaction table : Option (List ℕ)) →
    Some database ≡ subject_name s → transaction ≡ transaction_named s → table ≡ table_named s →
    record { database = database; transaction = transaction; table = table } ≡ words_of s
same_words s database transaction table named by on = λ i.
    record { database = unwrap_or (named i) []; transaction = by i; table = on i }

-- an answer names the database alone
pub same_answer : (words : Words) (database : List ℕ) (done : Answered) → database ≡ words.database →
    reply_of (record { database = database; transaction = None; table = None }) (Ok done) ≡ reply_of words (Ok done)
same_answer words database (Sure answer) is = refl
same_answer words database (AnsweredInDoubt answer) is = ap
    (λ w. reply_of (record { database = w; transaction = None; table = None }) (Ok (AnsweredInDoubt answer))) is

pub answer_memory : (done : Answered) → is_memory (trouble (Ok done)) ≡ false
answer_memory (Sure answer) = refl
answer_memory (AnsweredInDoubt answer) = refl

-- ---- the database that a command names

-- the word by which a command names its one database
pub record Names (command : Command) (word : List ℕ) : Type 0 where
  pub is : Some word ≡ subject_name (subject_of command)
  pub one : is_one (subject_of command) ≡ true

-- a command for one database names it
pub unnamed : (command : Command) → is_one (subject_of command) ≡ true → None ≡ subject_name (subject_of command) → ⊥
unnamed command one none = go (subject_of command) one none
  where
    go : (s : Subject) → is_one s ≡ true → None ≡ subject_name s → ⊥
    go (OnOne name task) one none = cc
    go others one none = false≢true one

pub moves_none : (command : Command) (c : Clustered) (word name : List ℕ) → Names command word → name ≡ word →
    find_named word c.bases ≡ None →
    Moves command c (Refused (refused.NoDatabase name)) c
moves_none command c word name names same none = go (subject_of command) refl names.is names.one
  where
    go : (s : Subject) → subject_of command ≡ s → Some word ≡ subject_name s → is_one s ≡ true →
        Moves command c (Refused (refused.NoDatabase name)) c
    go (OnOne one task) about named other =
        let is : word ≡ one = cc in
        Misses one task about (ap (λ w. find_named w c.bases) (sym is) ∙ none)
        (ap (λ w. Refused (refused.NoDatabase w)) (same ∙ is)) refl
    go others about named other = absurd (false≢true other)

-- the element x at an index, which a word names, became y, with an answer
pub record Turn (X : Type 0) : Type 0 where
  pub word : List ℕ
  pub i : ℕ
  pub x : X
  pub y : X
  pub result : Result Answered DbFault

-- an element of a list is the database of that word, and served a command
pub record Asked {X : Type 0} (f : X → List ℕ × Base) (command : Command) (items : List X) (t : Turn X) : Type 0
  where
    pub names : Names command t.word
    pub at : IsAt f t.word items t.i t.x
    pub same : (f t.y).0 ≡ (f t.x).0
    pub serves : ServesOn (subject_of command) (f t.x).1 t.result (f t.y).1
    pub hands : HandsOn (subject_of command) (f t.x).1 t.result
    pub memory : is_memory (trouble t.result) ≡ false

moves_at : {X : Type 0} (f : X → List ℕ × Base) (command : Command) (c : Clustered) (items : List X)
    (t : Turn X) → Asked f command items t →
    Moves command (record c { bases = map f items }) (reply_of (words_of (subject_of command)) t.result)
    (record c { bases = map f (set items t.i t.y); memory = recalled t.word (f t.x).1 (f t.y).1 c.memory })
moves_at f command c items t asked = go
    (subject_of command) refl asked.names.is asked.names.one asked.serves asked.hands
  where
    old : Clustered
    old = record c { bases = map f items }

    new : Clustered
    new = record c { bases = map f (set items t.i t.y); memory = recalled t.word (f t.x).1 (f t.y).1 c.memory }

    go : (s : Subject) → subject_of command ≡ s → Some t.word ≡ subject_name s → is_one s ≡ true →
        ServesOn s (f t.x).1 t.result (f t.y).1 → HandsOn s (f t.x).1 t.result →
        Moves command old (reply_of (words_of s) t.result) new
    go (OnOne one task) about named other serves hands =
        let is : t.word ≡ one = cc in
        Asks (record {
          name = one;
          task = task;
          before = (f t.x).1;
          behind = (f t.y).1;
          result = t.result;
          about = about;
          found = ap (λ w. find_named w old.bases) (sym is)
              ∙ find_position f t.word items t.i t.x asked.at;
          serves = serves;
          hands = hands;
          memory = asked.memory;
          told = refl;
          same = ap (λ bs. record c { bases = bs; memory = recalled t.word (f t.x).1 (f t.y).1 c.memory })
              (put_position f t.word items t.i t.x t.y (asked.at, asked.same))
              ∙ ap (λ w. with_base w (f t.x).1 (f t.y).1 old) is;
        })
    go others about named other serves hands = absurd (false≢true other)

-- the same where this is held
pub moves_with : {X : Type 0} (f : X → List ℕ × Base) (command : Command) (c : Clustered) (items : List X)
    (t : Turn X) → Asked f command items t → {held : Holdings} →
    held ≡ (recalled t.word (f t.x).1 (f t.y).1 c.memory).held →
    Moves command (record c { bases = map f items }) (reply_of (words_of (subject_of command)) t.result)
    (record c { bases = map f (set items t.i t.y); memory = record c.memory { held = held } })
moves_with f command c items t asked left =
    subst (λ q. Moves command (record c { bases = map f items }) (reply_of (words_of (subject_of command)) t.result)
    (record c { bases = map f (set items t.i t.y); memory = record c.memory { held = q } })) (sym left)
    (moves_at f command c items t asked)

-- ---- whether there may be a new one

pub grants_taken : {X : Type 0} (f : X → List ℕ × Base) (name : List ℕ) (c : Clustered) (items : List X) →
    is_some (position (λ x. bytes_eq name (f x).0) items) ≡ true →
    Refused (refused.NameUsed name) ≡ grant name (record c { bases = map f items })
grants_taken f name c items is = rw (find_some f name items ∙ is) refl

pub grants_more : {X : Type 0} (f : X → List ℕ × Base) (name : List ℕ) (c : Clustered) (items : List X) →
    is_some (position (λ x. bytes_eq name (f x).0) items) ≡ false →
    length items < c.limit → Accepted Done ≡ grant name (record c { bases = map f items })
grants_more f name c items is less = rw (
  find_some f name items ∙ is,
  length-map items f,
  lt-ltb (length items) c.limit less,
) refl

pub grants_none : {X : Type 0} (f : X → List ℕ × Base) (name : List ℕ) (c : Clustered) (items : List X) →
    is_some (position (λ x. bytes_eq name (f x).0) items) ≡ false →
    c.limit ≤ length items →
    Refused (refused.Full c.limit) ≡ grant name (record c { bases = map f items })
grants_none f name c items is full = rw (
  find_some f name items ∙ is,
  length-map items f,
  le-ltb (length items) c.limit full,
) refl

pub granted_moves : {E : Type 0} (result : Result Reply E) (command : Command) (name : List ℕ) (c : Clustered) →
    command ≡ Database name →
    IfOk result (λ r. r ≡ grant name c) → IfOk result (λ r. Moves command c r c)
granted_moves result command name c is told =
    if_ok (λ r. r ≡ grant name c) (λ r. Moves command c r c) result
    (λ r same. Grants name (ap subject_of is) same refl) told

-- ---- which command it is

pub acts_moves : {E : Type 0} (result : Result Reply E) (command : Command) (act : Act) (old new : Clustered) →
    subject_of command ≡ OnAll act → IfOk result (λ reply. IsActed act old reply new) →
    IfOk result (λ reply. Moves command old reply new)
acts_moves result command act old new about acted =
    if_ok (λ r. IsActed act old r new) (λ r. Moves command old r new) result (λ r is. Acts act about is) acted

pub unread : (c : Command) → ((script : List ℕ) (reading : Reading) → c ≡ Slonik script reading → ⊥) →
    is_reading (subject_of c) ≡ false
unread (Slonik script reading) other = absurd (other script reading refl)
unread others other = refl

-- a command that makes no database, and is about no script, no slon and no cut
pub record IsOther (c : Command) : Type 0 where
  pub database : (name : List ℕ) → c ≡ Database name → ⊥
  pub slonik : (script : List ℕ) (reading : Reading) → c ≡ Slonik script reading → ⊥
  pub step : (script : List ℕ) → c ≡ Step script → ⊥
  pub kill : (script : List ℕ) → c ≡ Kill script → ⊥
  pub start : (node : ℕ) → c ≡ Start node → ⊥
  pub stop : (node : ℕ) → c ≡ Stop node → ⊥
  pub cut : (node other : ℕ) → c ≡ Cut node other → ⊥
  pub join : (node other : ℕ) → c ≡ Join node other → ⊥
  pub sync : (node : ℕ) → c ≡ Sync node → ⊥
  pub listen : (node server : ℕ) (delivery : Delivery) → c ≡ Listen node server delivery → ⊥
  pub fetch : (node origin : ℕ) → c ≡ Fetch node origin → ⊥
  pub work : (node origin : ℕ) → c ≡ Work node origin → ⊥

pub one_left : (c : Command) → IsOther c → is_one (subject_of c) ≡ true
one_left (Database name) other = absurd (other.database name refl)
one_left (Slonik script reading) other = absurd (other.slonik script reading refl)
one_left (Step script) other = absurd (other.step script refl)
one_left (Kill script) other = absurd (other.kill script refl)
one_left (Start node) other = absurd (other.start node refl)
one_left (Stop node) other = absurd (other.stop node refl)
one_left (Cut a b) other = absurd (other.cut a b refl)
one_left (Join a b) other = absurd (other.join a b refl)
one_left (Sync node) other = absurd (other.sync node refl)
one_left (Listen node server delivery) other = absurd (other.listen node server delivery refl)
one_left (Fetch node origin) other = absurd (other.fetch node origin refl)
one_left (Work node origin) other = absurd (other.work node origin refl)
one_left others other = refl

-- and takes memory
pub none_left : (c : Command) → IsOther c → takes_none (subject_of c) ≡ false
none_left (Stop node) other = absurd (other.stop node refl)
none_left (Join a b) other = absurd (other.join a b refl)
none_left others other = refl

-- nothing is promised where a command takes memory
pub spared : (c : Command) (b : Bool) → takes_none (subject_of c) ≡ false → takes_none (subject_of c) ≡ true → b ≡ true
spared c b takes none = absurd (false≢true (sym takes ∙ none))

-- what was granted: all is as it was, and the name is free
pub record IsGranted (name : List ℕ) (old mid : Clustered) : Type 0 where
  pub same : mid ≡ old
  pub done : grant name old ≡ Accepted Done
  pub free : find_named name old.bases ≡ None

granted_as : (name : List ℕ) (old : Clustered) → is_accepted (grant name old) ≡ true → IsGranted name old old
granted_as name old accepted = by (find_named name old.bases) (nat_lt (length old.bases) old.limit) refl refl accepted
  where
    by : (o : Option Base) (room : Bool) → find_named name old.bases ≡ o → nat_lt (length old.bases) old.limit ≡ room →
        is_accepted (cond (is_some o) (Refused (refused.NameUsed name))
        (cond room (Accepted Done) (Refused (refused.Full old.limit)))) ≡ true → IsGranted name old old
    by (Some b) room is has accepted = absurd (true≢false (sym accepted))
    by None false is has accepted = absurd (true≢false (sym accepted))
    by None true is has accepted = record { same = refl; done = rw (is, has) refl; free = is }

one_name : (name made : List ℕ) → OnNew name ≡ OnNew made → name ≡ made
one_name name made is = cc

pub granted : (name : List ℕ) (command : Command) (old mid : Clustered) (reply : Reply) → command ≡ Database name →
    Moves command old reply mid →
    is_accepted reply ≡ true → IsGranted name old mid
granted name command old mid reply is (Grants made about told same) accepted =
    let named : made ≡ name = one_name made name (sym about ∙ ap subject_of is) in
    subst (IsGranted name old) (sym same) (granted_as name old
    (ap (λ n. is_accepted (grant n old)) (sym named) ∙ sym (ap is_accepted told) ∙ accepted))
granted name command old mid reply is (Misses one task about none told same) accepted =
    let bad : OnOne one task ≡ OnNew name = sym about ∙ ap subject_of is in absurd cc
granted name command old mid reply is (Asks s) accepted =
    let bad : OnOne s.name s.task ≡ OnNew name = sym s.about ∙ ap subject_of is in absurd cc
granted name command old mid reply is (Acts act about acted) accepted =
    let bad : OnAll act ≡ OnNew name = sym about ∙ ap subject_of is in absurd cc

-- ---- the making of a database

is_it : (fault : DbFault) → is_not_empty fault ≡ true → fault ≡ NotEmpty
is_it NotEmpty is = refl
is_it others is = absurd (true≢false (sym is))

-- what the making of a database made of its store, behind a fuse that lets all pass
pub made_by : (kept fused : Kept) (result outcome : Result (Unit {0}) DbFault) (b : Base) →
    Founds fused (settled result) b →
    OnErr result (b.memory.up ≡ false) → (fused ≡ kept) × (result ≡ outcome) → Made kept outcome b
made_by kept fused result outcome b founds down (same, is) =
    subst (λ r. Made kept r b) is (subst (λ k. Made k result b) same (record { founds = founds; down = down }))

pub rejects : (name : List ℕ) (kept : Kept) (old new : Clustered) (b : Base) (fault : DbFault) →
    Made (fused kept) (Err fault) b × (is_not_empty fault ≡ true) → new ≡ with_given old →
    Adopts name kept old (Refused (refused.NotEmpty name)) new
rejects name kept old new b fault (made, empty) same = Rejects b
    (subst (λ f. Made (fused kept) (Err f) b) (is_it fault empty) made) refl same

-- a database is kept behind the others, over a store that was given
pub given_more : (c : Clustered) (given : ℕ) → given ≡ c.given + 1 →
    record c { given = given } ≡ with_given c
given_more c given is = ap (λ n. record c { given = n }) is

pub kept_more : (name : List ℕ) (b : Base) (old mid new : Clustered) → mid ≡ with_given old →
    new ≡ with_base_behind name b mid → new ≡ with_more name b old
kept_more name b old mid new given same = same ∙ ap (with_base_behind name b) given

pub keeps_ok : (name : List ℕ) (kept : Kept) (old new : Clustered) (b : Base) (u : Unit {0}) →
    Made (fused kept) (Ok u) b → new ≡ with_more name b old → Adopts name kept old (Accepted Done) new
keeps_ok name kept old new b u made same = Keeps b (Ok u) made refl refl refl same

-- the making stopped by a fault that is no want of memory, over a store that was empty
pub record Fell (name : List ℕ) (kept : Kept) (old : Clustered) (reply : Reply) (new : Clustered) : Type 0 where
  pub b : Base
  pub fault : DbFault
  pub made : Made (fused kept) (Err fault) b
  pub empty : is_not_empty fault ≡ false
  pub memory : is_memory (halt_in fault) ≡ false
  pub told : reply ≡ refusal_of (words_of (OnNew name)) fault
  pub same : new ≡ with_more name b old

fell_reply : (name : List ℕ) (fault : DbFault) → refusal_of (words_of (OnNew name)) fault ≡ making_reply name
    (Err fault)
fell_reply name (Halt Doubt) = refl
fell_reply name others = refl

fell_memory : (fault : DbFault) → is_memory (halt_in fault) ≡ false → is_memory (trouble (settled (Err fault))) ≡ false
fell_memory (Halt Doubt) memory = refl
fell_memory others memory = memory

pub keeps_err : (name : List ℕ) (kept : Kept) (old : Clustered) (reply : Reply) (new : Clustered) →
    Fell name kept old reply new → Adopts name kept old reply new
keeps_err name kept old reply new fell =
    Keeps fell.b (Err fell.fault) fell.made (fell_memory fell.fault fell.memory) fell.empty
    (fell.told ∙ fell_reply name fell.fault) fell.same
