-- A step of a script is one that the rules allow.
use Rattle.std.proofs.Common.{◌≡◌, ◌∙◌, ◌+◌, ◌<◌, ℕ, zero, suc, Bool, true, false, cond, List, [], ◌∷◌, length, take}
use Rattle.std.proofs.Common.{get_or}
use Rattle.std.proofs.Common.{drop}
use Rattle.std.proofs.Common.{Option, Some, None, is_some, Result, Ok, Err, IfOk, refl, sym, ap, subst, arith}
use Rattle.std.specs.Prelude.{unwrap_or}
use Rattle.std.proofs.lemmas.List.{drop_more}
use Rattle.std.specs.Str.{bytes_eq}
use Rattle.std.specs.FinMap.{get, insert, remove, empty, contains_key, get-empty}
use Rattle.slonik_script.specs.declared.script.Command.{Command as Order}
use Rattle.slonik_script.specs.declared.script.Command.TheVariants as order
use Rattle.slonik_script.specs.declared.script.Script.{Script}
use Rattle.slonik_script.specs.declared.script.Statement.{Statement}
use Rattle.slonik_script.specs.declared.script.Statement.TheVariants.{Single}
use Rattle.slon_model.specs.declared.reading.Reading.{Reading}
use Rattle.slon_model.specs.declared.reading.Reading.TheVariants.{Read}
use Rattle.slon_model.specs.declared.reply.Answer.{Answer}
use Rattle.slon_model.specs.declared.reply.Answer.TheVariants.{Done, Statements}
use Rattle.slon_model.specs.declared.reply.Refusal.{Refusal}
use Rattle.slon_model.specs.declared.reply.Refusal.TheVariants as refused
use Rattle.slon_model.specs.declared.reply.Reply.{Reply}
use Rattle.slon_model.specs.declared.reply.Reply.TheVariants.{Accepted, Refused}
use Rattle.slon_model.specs.Names.{Named, find_named, without}
use Rattle.slon_model.specs.Tasks.{Act, ToRead, ToStep, ToForget}
use Rattle.slon_model.specs.Place.{Place, is_running, fallen}
use Rattle.slon_model.specs.Deciding.{AllStand, Breaks, DoubtsAt}
use Rattle.slon_model.specs.Sessions.{World, Memory, Running, Commit, Stated, Outcome, no_change, stand, with_memory}
use Rattle.slon_model.specs.Sessions.{no_memory, in_doubt, changed, felled, felled_at, after_outcome}
use Rattle.slon_model.specs.Turns.{switches_of}
use Rattle.slon_model.specs.Scripts.{Stepping, going_on, without_script, running, ending, single, done_by}
use Rattle.slon_model.specs.Scripts.{order_step, ordered, step_of, step_todo, read_as, kill_of}
use Rattle.slon_model.specs.World.{outcome, has_todo, is_left, is_accepted, broken_at, wavering, wavering_at}
use Rattle.slon_model.specs.World.{doubt_reply}
use Rattle.slon_model.proofs.Names.{bytes_same, find-without}
use Rattle.slon_base.specs.Keeper.{key_cmp}
use Rattle.slon_laws.proofs.Memories.{down_kept}
use Rattle.app_store.specs.Base.{Base}
use Rattle.slonik_exec.specs.Databases.{FitsAll, AreReady, TriesAll, Runs, told_by, is_calm}
use Rattle.slonik_exec.specs.Executing as executing
use Rattle.slonik_exec.specs.Executing.{Comes, Executes}
use Rattle.slonik_exec.proofs.Trying.{tries_itself}
use Rattle.slon_turns.specs.declared.held.Held.{Held}
use Rattle.slon_turns.specs.Holding.{Holdings, IsUpIn, KeepsIn, WaitsIn}
use Rattle.slon_turns.proofs.Waiting.{found_in, found_put, keeps_at}
use Rattle.cluster_engine.specs.Agreed.{Scripts, Remembered, Clustered, FitsRun, FitsFound, FitsScripts, FitsMemory}
use Rattle.cluster_engine.specs.Agreed.{AllKnown, Follows, Matches}
use Rattle.cluster_engine.specs.Calls.{ActsOn, IsActed}
use Rattle.cluster_engine.specs.Walking.{IsQuietly, KeepsTo, Keeps, Fares, Stood, Broke, Wavered, Walks, stepping}
use Rattle.cluster_engine.specs.Walking.{IsPutBack, WalksOn}
use Rattle.cluster_engine.specs.declared.scripts.Started.{Started}
use Rattle.cluster_engine.specs.declared.scripts.Walked.{Walked}
use Rattle.cluster_engine.proofs.Rising.{WereUp, downed_stops, fares_up}

-- ---- a world with another memory

-- what is kept of a world v, where a step on its databases leads to x, and with another memory to y
pub record Moves (m : Memory) (v x y : World) : Type 0 where
  pub limit : y.limit ≡ v.limit
  pub places : x.places ≡ y.places
  pub memory : y.memory ≡ m

-- a database that goes down
changed_moves : (name : List ℕ) (q : Place) (m : Memory) (v : World) → is_running q.standing ≡ false →
    Moves m v (changed name q v) (changed name q (with_memory m v))
changed_moves name q m v down =
    record { limit = refl; places = refl; memory = down_kept name (find_named name v.places) q m down }

same_moves : (m : Memory) (v : World) → Moves m v v (with_memory m v)
same_moves m v = record { limit = refl; places = refl; memory = refl }

pub felled_moves : (falls : Option (List ℕ)) (m : Memory) (v : World) →
    Moves m v (felled falls v) (felled falls (with_memory m v))
felled_moves None m v = same_moves m v
felled_moves (Some name) m v = by (find_named name v.places)
  where
    by : (found : Option Place) → Moves m v (felled_at name found v) (felled_at name found (with_memory m v))
    by None = same_moves m v
    by (Some p) = changed_moves name (fallen p.told p) m v (downed_stops p.standing)

pub broken_moves : (name : List ℕ) (count : ℕ) (found : Option Place) (m : Memory) (v : World) →
    Moves m v (broken_at name count found v) (broken_at name count found (with_memory m v))
broken_moves name count None m v = same_moves m v
broken_moves name count (Some p) m v = changed_moves name (fallen count p) m v (downed_stops p.standing)

pub wavering_moves : (cs : List Commit) (stands : Bool) (m : Memory) (v : World) →
    Moves m v (wavering cs stands v) (wavering cs stands (with_memory m v))
wavering_moves [] stands m v = same_moves m v
wavering_moves (c ∷ cs) stands m v = by (find_named c.name v.places)
  where
    by : (found : Option Place) →
        Moves m v (wavering_at c stands found v) (wavering_at c stands found (with_memory m v))
    by None = same_moves m v
    by (Some p) = changed_moves c.name (in_doubt c stands p) m v refl

-- What is in memory agrees, and so does what was fetched where no database of the name is down.
pub record Remembers (m : Memory) (c : Clustered) : Type 0 where
  pub fits : FitsMemory m c.memory
  pub keeps : (name : List ℕ) → IsUpIn name c.bases → KeepsIn name m (get c.memory.held name)

-- what agrees with a memory agrees with the same one
pub fits_kept : (m n : Memory) (c : Clustered) → n ≡ m → Remembers m c → Remembers n c
fits_kept m n c kept remembers = subst (λ x. Remembers x c) (sym kept) remembers

-- what was fetched in a memory was fetched in one with the same fetches
pub fetched_as : (name : List ℕ) (m n : Memory) (held : Option Held) → n.fetches ≡ m.fetches → KeepsIn name m held →
    KeepsIn name n held
fetched_as name m n held same keeps =
    keeps_at name m n held (ap (λ fs. unwrap_or (find_named name fs) []) same) keeps

-- ---- scripts by their names

fits_removed : (name : List ℕ) (runs : Named Running) (scripts : Scripts) → FitsScripts runs scripts →
    FitsScripts (without name runs) (remove scripts name)
fits_removed name runs scripts fits other =
    subst (FitsFound (find_named other (without name runs))) (sym (found_in other name scripts))
    (subst (λ o. FitsFound o (cond (bytes_eq other name) None (get scripts other)))
    (sym (find-without other name runs)) (by (bytes_eq other name)))
  where
    by : (b : Bool) → FitsFound (cond b None (find_named other runs)) (cond b None (get scripts other))
    by true = tt
    by false = fits other

-- another script under a name
fits_put : (name : List ℕ) (run : Running) (s : Started) (runs : Named Running) (scripts : Scripts) → FitsRun run s →
    ((other : List ℕ) → bytes_eq other name ≡ false → FitsFound (find_named other runs) (get scripts other)) →
    FitsScripts ((name, run) ∷ runs) (insert scripts name s)
fits_put name run s runs scripts here others other =
    subst (FitsFound (find_named other ((name, run) ∷ runs))) (sym (found_put other name s scripts))
    (by (bytes_eq other name) refl)
  where
    by : (b : Bool) → bytes_eq other name ≡ b →
        FitsFound (cond b (Some run) (find_named other runs)) (cond b (Some s) (get scripts other))
    by true is = here
    by false is = others other is

-- a script that the code has not is none of the rules
none_found : (name : List ℕ) (runs : Named Running) (scripts : Scripts) → FitsScripts runs scripts →
    get scripts name ≡ None → find_named name runs ≡ None
none_found name runs scripts fits none =
    by (find_named name runs) (subst (FitsFound (find_named name runs)) none (fits name))
  where
    by : (o : Option Running) → FitsFound o None → o ≡ None
    by None f = refl
    by (Some run) f = absurd f

-- to take away what is not there changes nothing
fits_lacking : (name : List ℕ) (runs : Named Running) (scripts : Scripts) → FitsScripts runs scripts →
    get scripts name ≡ None → FitsScripts runs (remove scripts name)
fits_lacking name runs scripts fits none other =
    subst (FitsFound (find_named other runs)) (sym (found_in other name scripts)) (by (bytes_eq other name) refl)
  where
    by : (b : Bool) → bytes_eq other name ≡ b →
        FitsFound (find_named other runs) (cond b None (get scripts other))
    by false is = fits other
    by true is =
        subst (λ o. FitsFound o None) (sym (ap (λ n. find_named n runs) (bytes_same other name is)
        ∙ none_found name runs scripts fits none)) tt

-- ---- what concerns no database

pub quietly_acted : (act : Act) (old : Clustered) (reply : Reply) (r : Remembered) →
    ((w : World) → Follows w old →
    IsQuietly (outcome act w) reply (λ m. Remembers m (record old { memory = r }))) → told_by reply ≡ None →
    ((w : World) → AllKnown w old.memory.held → AllKnown w r.held) → IsActed act old reply (record old { memory = r })
quietly_acted act old reply r quietly calm stays = record {
  runs = subst (λ t. TriesAll (is_calm reply) t old.bases old.bases) (sym calm)
      (tries_itself (is_calm reply) old.bases);
  limit = refl;
  given = refl;
  goes = λ w follows.
      let o = outcome act w in
      let kept = quietly w follows in
      let after : after_outcome o w ≡ with_memory o.memory w =
      ap (λ f. felled f (stand o.commits (with_memory o.memory w))) kept.falls
      ∙ ap (λ cs. stand cs (with_memory o.memory w)) kept.commits in
      record {
        fate = AllStand;
        may = tt;
        told = kept.told;
        agrees = subst (λ v. Matches v (record old { memory = r })) (sym after)
            (record {
              limit = follows.agrees.limit;
              fits = follows.agrees.fits;
              memory = kept.memory.fits;
              keeps = kept.memory.keeps;
            });
      };
  learns = λ w follows. stays w follows.agrees.known;
}

-- what waits in a memory waits in one with the same queues
pub waits_as : (m n : Memory) (queues : Holdings) → m.queues ≡ n.queues →
    ((name : List ℕ) → WaitsIn name m (get queues name)) → (name : List ℕ) → WaitsIn name n (get queues name)
waits_as m n queues same waits name =
    subst (λ q. WaitsIn name (record m { queues = q }) (get queues name)) same (waits name)

-- the code has other scripts
abbrev pub with_scripts : Scripts → Clustered → Clustered
with_scripts scripts c = record c { memory = record c.memory { scripts = scripts } }

pub keeps_acted : (act : Act) (old : Clustered) (reply : Reply) (scripts : Scripts) →
    Keeps act old.memory.scripts reply scripts → told_by reply ≡ None →
    IsActed act old reply (with_scripts scripts old)
keeps_acted act old reply scripts keeps calm =
    quietly_acted act old reply (record old.memory { scripts = scripts })
    (λ w follows. let kept = keeps w follows.agrees.memory.scripts in record {
      told = kept.told;
      commits = kept.commits;
      falls = kept.falls;
      memory = record {
        fits = record {
          scripts = kept.memory.agree;
          switches = kept.memory.switches ∙ follows.agrees.memory.switches;
          waits = waits_as w.memory (outcome act w).memory old.memory.held (sym kept.memory.queues)
              follows.agrees.memory.waits;
        };
        keeps = λ name up. fetched_as name w.memory (outcome act w).memory (get old.memory.held name)
            kept.memory.fetches (follows.agrees.keeps name up);
      };
    }) calm (λ w known. known)

same_known : (o : Option Running) (s : Option Started) → FitsFound o s → is_some o ≡ is_some s
same_known None None fits = refl
same_known None (Some s) fits = absurd fits
same_known (Some run) None fits = absurd fits
same_known (Some run) (Some s) fits = refl

-- what a text comes to that a script is read of, by whether the name is taken
read_if : (taken : Bool) (name : List ℕ) (reading : Reading) (w : World) (scripts : Scripts) →
    FitsScripts w.memory.scripts scripts → contains_key scripts name ≡ taken →
    outcome (ToRead name reading) w
    ≡ cond taken (no_change w (Refused (refused.ScriptUsed name))) (read_as name reading w)
read_if taken name reading w scripts fits is =
    ap (λ b. cond b (no_change w (Refused (refused.ScriptUsed name))) (read_as name reading w))
    (same_known (find_named name w.memory.scripts) (get scripts name) (fits name) ∙ is)

-- a name that is taken
pub keeps_used : (name : List ℕ) (reading : Reading) (scripts : Scripts) → contains_key scripts name ≡ true →
    Keeps (ToRead name reading) scripts (Refused (refused.ScriptUsed name)) scripts
keeps_used name reading scripts has w fits =
    subst (λ o. KeepsTo w.memory o (Refused (refused.ScriptUsed name)) scripts)
    (sym (read_if true name reading w scripts fits has))
    (record {
      told = refl;
      commits = refl;
      falls = refl;
      memory = record { agree = fits; switches = refl; queues = refl; fetches = refl };
    })

pub keeps_read : (name : List ℕ) (script : Script) (scripts : Scripts) → contains_key scripts name ≡ false →
    Keeps (ToRead name (Read script)) scripts (Accepted (Statements (length script.statements)))
    (insert scripts name (record { script = script; done = 0 }))
keeps_read name script scripts lacks w fits =
    subst (λ o. KeepsTo w.memory o (Accepted (Statements (length script.statements)))
    (insert scripts name (record { script = script; done = 0 })))
    (sym (read_if false name (Read script) w scripts fits lacks)) (record {
      told = refl;
      commits = refl;
      falls = refl;
      memory = record {
        agree = fits_put name (running script) (record { script = script; done = 0 })
            (without name w.memory.scripts) scripts (record { cluster = refl; lines = refl; todo = refl })
            (λ other apart. subst (λ o. FitsFound o (get scripts other))
            (sym (find-without other name w.memory.scripts
            ∙ ap (λ b. cond b None (find_named other w.memory.scripts)) apart)) (fits other));
        switches = refl;
        queues = refl;
        fetches = refl;
      };
    })

-- a script that is ended
pub keeps_killed : (name : List ℕ) (s : Started) (scripts : Scripts) → get scripts name ≡ Some s →
    Keeps (ToForget name) scripts (Accepted Done) (remove scripts name)
keeps_killed name s scripts has w fits =
    by (find_named name w.memory.scripts) refl (subst (FitsFound (find_named name w.memory.scripts)) has (fits name))
  where
    by : (o : Option Running) → find_named name w.memory.scripts ≡ o →
        FitsFound (find_named name w.memory.scripts) (Some s) →
        KeepsTo w.memory (outcome (ToForget name) w) (Accepted Done) (remove scripts name)
    by None is f = absurd (subst (λ o. FitsFound o (Some s)) is f)
    by (Some run) is f =
        subst (λ o. KeepsTo w.memory o (Accepted Done) (remove scripts name))
        (sym (ap (λ o. kill_of name o w) is)) (record {
          told = refl;
          commits = refl;
          falls = refl;
          memory = record {
            agree = fits_removed name w.memory.scripts scripts fits;
            switches = refl;
            queues = refl;
            fetches = refl;
          };
        })

-- no script of the name
missed_as : (name : List ℕ) (w : World) (scripts : Scripts) (o : Outcome) → FitsScripts w.memory.scripts scripts →
    get scripts name ≡ None → o ≡ no_change w (Refused (refused.NoScript name)) →
    KeepsTo w.memory o (Refused (refused.NoScript name)) (remove scripts name)
missed_as name w scripts o fits none is =
    subst (λ o. KeepsTo w.memory o (Refused (refused.NoScript name)) (remove scripts name)) (sym is) (record {
      told = refl;
      commits = refl;
      falls = refl;
      memory = record {
        agree = fits_lacking name w.memory.scripts scripts fits none;
        switches = refl;
        queues = refl;
        fetches = refl;
      };
    })

pub keeps_missed : (name : List ℕ) (scripts : Scripts) → get scripts name ≡ None →
    Keeps (ToForget name) scripts (Refused (refused.NoScript name)) (remove scripts name)
keeps_missed name scripts none w fits =
    missed_as name w scripts (outcome (ToForget name) w) fits none
    (ap (λ o. kill_of name o w) (none_found name w.memory.scripts scripts fits none))

pub keeps_unstepped : (name : List ℕ) (scripts : Scripts) → get scripts name ≡ None →
    Keeps (ToStep name) scripts (Refused (refused.NoScript name)) (remove scripts name)
keeps_unstepped name scripts none w fits =
    missed_as name w scripts (outcome (ToStep name) w) fits none
    (ap (λ o. step_of name o w) (none_found name w.memory.scripts scripts fits none))

-- ---- a statement

abbrev walked : Reply → Walked
walked reply = record { reply = reply; goes_on = is_accepted reply }

-- a doubt of one of these commits is no acceptance
pub denied_doubt : (before : ℕ) (cs : List Commit) (answer : Answer) → before < length cs →
    is_accepted (doubt_reply (drop before cs) (Accepted answer)) ≡ false
denied_doubt before [] answer less = absurd (omega (arith, less))
denied_doubt zero (c ∷ cs) answer less = refl
denied_doubt (suc n) (c ∷ cs) answer less = denied_doubt n cs answer (omega (arith, less))

-- what a command of a script comes to, as a step of it
pub comes_fares : (s : Stepping) (w : World) (due : Result Stated Refusal) (reply : Reply) (new : Named Base) →
    is_left s.run.todo ≡ true → Comes w due reply new →
    Fares s w (single s w due) (record { reply = reply; goes_on = is_accepted reply }) new
comes_fares s w due reply new left (executing.Refuses refusal is told fits) =
    subst (λ r. Fares s w (single s w r) (walked reply) new) (sym is)
    (subst (λ r. Fares s w (ending s.name w (Refused refusal)) (walked r) new) (sym told) (Stood refl refl fits))
comes_fares s w due reply new left (executing.Stands stated is beyond told fits) =
    subst (λ r. Fares s w (single s w r) (walked reply) new) (sym is)
    (subst (λ o. Fares s w (done_by s w stated o) (walked reply) new) (sym beyond)
    (subst (λ r. Fares s w (done_by s w stated None) (walked r) new) (sym told) (Stood refl refl fits)))
comes_fares s w due reply new left (executing.Bursts stated e is beyond told fits) =
    subst (λ r. Fares s w (single s w r) (walked reply) new) (sym is)
    (subst (λ o. Fares s w (done_by s w stated o) (walked reply) new) (sym beyond)
    (subst (λ r. Fares s w (done_by s w stated (Some e)) (walked r) new) (sym told)
    (Stood refl refl (subst (λ ps. FitsAll ps new)
    (felled_moves (Some e.name) (without_script s.name w.memory) w).places fits))))
comes_fares s w due reply new left (executing.Breaks name count told can fits) =
    Broke name count (ap is_accepted told) told left can fits
comes_fares s w due reply new left (executing.Wavers stated before stands is beyond less told fits) =
    subst (λ r. Fares s w (single s w r) (walked reply) new) (sym is)
    (subst (λ o. Fares s w (done_by s w stated o) (walked reply) new) (sym beyond)
    (Wavered before stands
    (ap is_accepted told ∙ denied_doubt before stated.commits stated.answer less) less told fits))

-- a command that speaks to nodes
pub plain_step : (o : Order) → ((text : List ℕ) → o ≡ order.Echo text → ⊥) →
    ((status : ℕ) → o ≡ order.Exit status → ⊥) → (s : Stepping) (w : World) →
    order_step s w o ≡ single s w (ordered o s.run w)
plain_step (order.Echo text) echo exit s w = absurd (echo text refl)
plain_step (order.Exit status) echo exit s w = absurd (exit status refl)
plain_step others echo exit s w = refl

-- ---- the script behind it

-- the scripts as the code leaves them
abbrev pub scripts_behind : Bool → List ℕ → Started → Scripts → Scripts
scripts_behind goes_on name s scripts =
    cond goes_on (insert (remove scripts name) name (record { script = s.script; done = s.done + 1 }))
    (remove scripts name)

-- and as the rules do
fits_behind : (goes_on : Bool) (name : List ℕ) (run : Running) (started : Started) (commits : List Commit) (w : World)
    (scripts : Scripts) → FitsRun run started × FitsScripts w.memory.scripts scripts →
    FitsScripts (cond goes_on (going_on (stepping name run started) commits w.memory)
    (without_script name w.memory)).scripts
    (scripts_behind goes_on name started scripts)
fits_behind false name run started commits w scripts (here, fits) = fits_removed name w.memory.scripts scripts fits
fits_behind true name run started commits w scripts (here, fits) =
    fits_put name _ (record { script = started.script; done = started.done + 1 }) (without name w.memory.scripts)
    (remove scripts name) (record { cluster = here.cluster; lines = here.lines; todo = refl })
    (λ other apart. fits_removed name w.memory.scripts scripts fits other)

same_switches : (goes_on : Bool) (s : Stepping) (commits : List Commit) (m : Memory) →
    switches_of (cond goes_on (going_on s commits m) (without_script s.name m)) ≡ switches_of m
same_switches true s commits m = refl
same_switches false s commits m = refl

same_queues : (goes_on : Bool) (s : Stepping) (commits : List Commit) (m : Memory) →
    m.queues ≡ (cond goes_on (going_on s commits m) (without_script s.name m)).queues
same_queues true s commits m = refl
same_queues false s commits m = refl

same_fetches : (goes_on : Bool) (s : Stepping) (commits : List Commit) (m : Memory) →
    (cond goes_on (going_on s commits m) (without_script s.name m)).fetches ≡ m.fetches
same_fetches true s commits m = refl
same_fetches false s commits m = refl

-- a step of a script that runs, with the databases after it
pub record Walk (name : List ℕ) (old : Clustered) (w : Walked) (new : Clustered) : Type 0 where
  pub started : Started
  pub found : get old.memory.scripts name ≡ Some started
  pub walks : WalksOn started old.bases w new.bases
  pub limit : new.limit ≡ old.limit
  pub given : new.given ≡ old.given
  pub scripts : new.memory.scripts ≡ scripts_behind w.goes_on name started old.memory.scripts
  pub switches : new.memory.switches ≡ old.memory.switches
  pub held : new.memory.held ≡ old.memory.held

pub ready_of : (w : World) (c : Clustered) → Follows w c → AreReady w c.bases
ready_of w c follows = record { fits = follows.agrees.fits; sound = follows.sound; spelled = follows.spelled }

walk_goes : (name : List ℕ) (old : Clustered) (went : Walked) (new : Clustered) → Walk name old went new →
    (w : World) → Follows w old → ActsOn (ToStep name) w went.reply new
walk_goes name old went new walk w follows =
    go (find_named name w.memory.scripts) refl
    (subst (FitsFound (find_named name w.memory.scripts)) walk.found (follows.agrees.memory.scripts name))
  where
    left : (goes_on : Bool) (run : Running) (commits : List Commit) → went.goes_on ≡ goes_on →
        FitsRun run walk.started × WereUp old.bases new.bases →
        Remembers (cond goes_on (going_on (stepping name run walk.started) commits w.memory)
        (without_script name w.memory)) new
    left goes_on run commits is (here, were_up) =
        let s = stepping name run walk.started in
        let m = cond goes_on (going_on s commits w.memory) (without_script name w.memory) in
        record {
          fits = record {
            scripts = subst (FitsScripts m.scripts)
                (sym (walk.scripts ∙ ap (λ b. scripts_behind b name walk.started old.memory.scripts) is))
                (fits_behind goes_on name run walk.started commits w old.memory.scripts
                (here, follows.agrees.memory.scripts));
            switches = same_switches goes_on s commits w.memory ∙ follows.agrees.memory.switches ∙ sym walk.switches;
            waits = subst (λ q. (other : List ℕ) → WaitsIn other m (get q other)) (sym walk.held)
                (waits_as w.memory m old.memory.held (same_queues goes_on s commits w.memory)
                follows.agrees.memory.waits);
          };
          keeps = λ other up. subst (λ (q : Holdings). KeepsIn other m (get q other)) (sym walk.held)
              (fetched_as other w.memory m (get old.memory.held other) (same_fetches goes_on s commits w.memory)
              (follows.agrees.keeps other (were_up other up)));
        }

    from : (run : Running) (o : Outcome) → outcome (ToStep name) w ≡ o →
        has_todo (find_named name w.memory.scripts) ≡ is_left run.todo →
        FitsRun run walk.started × WereUp old.bases new.bases →
        Fares (stepping name run walk.started) w o went new.bases → ActsOn (ToStep name) w went.reply new
    from run o is todo here (Stood told memory fits) =
        let after = felled_moves o.falls o.memory (stand o.commits w) in
        let kept = fits_kept o.memory (after_outcome o w).memory new after.memory
        (subst (λ m. Remembers m new) (sym memory) (left went.goes_on run o.commits refl here)) in
        record {
          fate = AllStand;
          may = tt;
          told = told ∙ sym (ap (λ (x : Outcome). x.reply) is);
          agrees = subst (λ x. Matches (after_outcome x w) new) (sym is) (record {
            limit = after.limit ∙ follows.agrees.limit ∙ sym walk.limit;
            fits = fits;
            memory = kept.fits;
            keeps = kept.keeps;
          });
        }
    from run o is todo here (Broke other count ends told some can fits) =
        let m = without_script name w.memory in
        let after = broken_moves other count (find_named other w.places) m w in
        let kept = fits_kept m (broken_at other count (find_named other w.places) (with_memory m w)).memory new
        after.memory (left false run [] ends here) in
        record {
          fate = Breaks other count;
          may = (todo ∙ some, can);
          told = told;
          agrees = record {
            limit = after.limit ∙ follows.agrees.limit ∙ sym walk.limit;
            fits = subst (λ ps. FitsAll ps new.bases) after.places fits;
            memory = kept.fits;
            keeps = kept.keeps;
          };
        }
    from run o is todo here (Wavered before stands ends less told fits) =
        let m = without_script name w.memory in
        let cs = o.commits in
        let after = wavering_moves (drop before cs) stands m (stand (take before cs) w) in
        let kept = fits_kept m (wavering (drop before cs) stands (stand (take before cs) (with_memory m w))).memory new
        after.memory (left false run [] ends here) in
        record {
          fate = DoubtsAt before stands;
          may = subst (λ (x : Outcome). before < length x.commits) (sym is) less;
          told = told ∙ sym (ap (λ (x : Outcome). doubt_reply (drop before x.commits) x.reply) is);
          agrees = subst (λ (x : Outcome). Matches (wavering (drop before x.commits) stands
              (stand (take before x.commits) (with_memory m w))) new) (sym is) (record {
                limit = after.limit ∙ follows.agrees.limit ∙ sym walk.limit;
                fits = subst (λ ps. FitsAll ps new.bases) after.places fits;
                memory = kept.fits;
                keeps = kept.keeps;
              });
        }

    go : (o : Option Running) → find_named name w.memory.scripts ≡ o → FitsFound o (Some walk.started) →
        ActsOn (ToStep name) w went.reply new
    go None is f = absurd f
    go (Some run) is f =
        let o = step_todo name run run.todo w in
        let fares = walk.walks w name run (ready_of w old follows) f in
        from run o (ap (λ o. step_of name o w) is) (ap has_todo is)
        (f, fares_up (stepping name run walk.started) w o old.bases went new.bases follows.agrees.fits fares) fares

pub walk_acted : (name : List ℕ) (old : Clustered) (went : Walked) (new : Clustered) → Walk name old went new →
    Runs old.bases went.reply new.bases → IsActed (ToStep name) old went.reply new
walk_acted name old went new walk runs = record {
  runs = runs;
  limit = walk.limit;
  given = walk.given;
  goes = walk_goes name old went new walk;
  learns = λ w follows. subst (AllKnown w) (sym walk.held) follows.agrees.known;
}

-- ---- the beginning

pub none_fit : (scripts : Scripts) → scripts ≡ empty → FitsScripts [] scripts
none_fit scripts is name =
    subst (FitsFound None) (sym (ap (λ (m : Scripts). get m name) is ∙ get-empty key_cmp name)) tt

pub none_wait : (queues : Holdings) → queues ≡ empty → (name : List ℕ) → WaitsIn name no_memory (get queues name)
none_wait queues is name =
    subst (WaitsIn name no_memory) (sym (ap (λ (m : Holdings). get m name) is ∙ get-empty key_cmp name))
    (λ origin. refl)

pub none_kept : (held : Holdings) → held ≡ empty → (name : List ℕ) → KeepsIn name no_memory (get held name)
none_kept held is name =
    subst (KeepsIn name no_memory) (sym (ap (λ (m : Holdings). get m name) is ∙ get-empty key_cmp name))
    (λ origin. refl)

-- ---- what the calls did

-- a script began
pub record Began (name : List ℕ) (reading : Reading) (count : ℕ) (old new : Scripts) : Type 0 where
  pub script : Script
  pub is : reading ≡ Read script
  pub lacks : contains_key old name ≡ false
  pub counted : count ≡ length script.statements
  pub begun : new ≡ insert old name (record { script = script; done = 0 })

pub began_keeps : (name : List ℕ) (reading : Reading) (count : ℕ) (old new : Scripts) →
    Began name reading count old new → Keeps (ToRead name reading) old (Accepted (Statements count)) new
began_keeps name reading count old new b =
    subst (λ r. Keeps (ToRead name r) old (Accepted (Statements count)) new) (sym b.is)
    (subst (λ n. Keeps (ToRead name (Read b.script)) old (Accepted (Statements n)) new) (sym b.counted)
    (subst (Keeps (ToRead name (Read b.script)) old (Accepted (Statements (length b.script.statements)))) (sym b.begun)
    (keeps_read name b.script old b.lacks)))

-- a script was taken away, or there was none
pub record Took (name key : List ℕ) (found : Option Started) (old new : Scripts) : Type 0 where
  pub same : key ≡ name
  pub value : found ≡ get old key
  pub map : new ≡ remove old key

took_found : (name key : List ℕ) (found : Option Started) (old new : Scripts) → Took name key found old new →
    get old name ≡ found
took_found name key found old new t = ap (get old) (sym t.same) ∙ sym t.value

took_map : (name key : List ℕ) (found : Option Started) (old new : Scripts) → Took name key found old new →
    remove old name ≡ new
took_map name key found old new t = ap (remove old) (sym t.same) ∙ sym t.map

pub ended_keeps : (name key : List ℕ) (s : Started) (old new : Scripts) → Took name key (Some s) old new →
    Keeps (ToForget name) old (Accepted Done) new
ended_keeps name key s old new t =
    subst (Keeps (ToForget name) old (Accepted Done)) (took_map name key (Some s) old new t)
    (keeps_killed name s old (took_found name key (Some s) old new t))

pub none_ended : (name key copy : List ℕ) (old new : Scripts) → copy ≡ name → Took name key None old new →
    Keeps (ToForget name) old (Refused (refused.NoScript copy)) new
none_ended name key copy old new same t =
    subst (λ n. Keeps (ToForget name) old (Refused (refused.NoScript n)) new) (sym same)
    (subst (Keeps (ToForget name) old (Refused (refused.NoScript name))) (took_map name key None old new t)
    (keeps_missed name old (took_found name key None old new t)))

pub none_stepped : (name key copy : List ℕ) (old : Clustered) (new : Scripts) → copy ≡ name →
    Took name key None old.memory.scripts new →
    IsActed (ToStep name) old (Refused (refused.NoScript copy)) (with_scripts new old)
none_stepped name key copy old new same t =
    let scripts = old.memory.scripts in
    keeps_acted (ToStep name) old (Refused (refused.NoScript copy)) new
    (subst (λ n. Keeps (ToStep name) scripts (Refused (refused.NoScript n)) new) (sym same)
    (subst (Keeps (ToStep name) scripts (Refused (refused.NoScript name))) (took_map name key None scripts new t)
    (keeps_unstepped name scripts (took_found name key None scripts new t)))) refl

-- what concerns no database, where there was memory
pub kept_acted : {E : Type 0} (act : Act) (old : Clustered) (scripts : Scripts) (result : Result Reply E) →
    IfOk result (λ reply. Keeps act old.memory.scripts reply scripts) → IfOk result (λ reply. told_by reply ≡ None) →
    IfOk result (λ reply. IsActed act old reply (with_scripts scripts old))
kept_acted act old scripts (Ok reply) keeps calm = keeps_acted act old reply scripts keeps calm
kept_acted act old scripts (Err e) keeps calm = tt

-- a command that speaks to nodes was run
pub record OrderRan (script : Script) (o : Order) (old : Named Base) (went : Walked) (new : Named Base) : Type 0 where
  pub echo : (text : List ℕ) → o ≡ order.Echo text → ⊥
  pub exit : (status : ℕ) → o ≡ order.Exit status → ⊥
  pub goes_on : went.goes_on ≡ is_accepted went.reply
  pub executes : Executes (record { lines = script.nodes; cluster = script.cluster }) (ordered o) old went.reply new

pub order_walks : (script : Script) (o : Order) (old : Named Base) (went : Walked) (new : Named Base) →
    OrderRan script o old went new → Walks script (Single o) old went new
order_walks script o old went new ran w s ready next =
    subst (λ b. Fares s w (order_step s w o) (record { reply = went.reply; goes_on = b }) new) (sym ran.goes_on)
    (subst (λ x. Fares s w x (walked went.reply) new) (sym (plain_step o ran.echo ran.exit s w))
    (comes_fares s w (ordered o s.run w) went.reply new (ap is_left next.todo)
    (ran.executes w s.run ready next.lines next.cluster)))

-- nothing was done on the databases
pub calm_runs : (reply : Reply) (bases : Named Base) → told_by reply ≡ None → Runs bases reply bases
calm_runs reply bases calm =
    subst (λ t. TriesAll (is_calm reply) t bases bases) (sym calm) (tries_itself (is_calm reply) bases)

-- a script has this statement next, in its statements as they are read
pub record HasNext (started : Started) (statement : Statement) : Type 0 where
  pub items : List Statement
  pub same : items ≡ started.script.statements
  pub inside : started.done < length items
  pub is : statement ≡ get_or items started.done statement

left_next : (started : Started) (statement : Statement) → HasNext started statement →
    drop started.done started.script.statements ≡ statement ∷ drop (started.done + 1) started.script.statements
left_next started statement next =
    ap (drop started.done) (sym next.same) ∙ drop_more next.items started.done statement next.inside
    ∙ ap (λ x. x ∷ drop (started.done + 1) next.items) (sym next.is)
    ∙ ap (λ xs. statement ∷ drop (started.done + 1) xs) next.same

pub walks_next : {E : Type 0} (started : Started) (statement : Statement) (old new : Named Base)
    (result : Result Walked E) → HasNext started statement →
    IfOk result (λ went. Walks started.script statement old went new) →
    IfOk result (λ went. WalksOn started old went new)
walks_next started statement old new (Err e) next walks = tt
walks_next started statement old new (Ok went) next walks = λ w name run ready here.
    let todo : run.todo ≡ statement ∷ drop (started.done + 1) started.script.statements =
    here.todo ∙ left_next started statement next in
    subst (λ t. Fares (stepping name run started) w (step_todo name run t w) went new) (sym todo)
    (walks w (stepping name run started) ready
    (record { cluster = here.cluster; lines = here.lines; todo = todo }))

-- a script was taken out, and its next statement run
pub record Stepped (name : List ℕ) (old : Clustered) (went : Walked) (left : Scripts) (news : Named Base) : Type 0
  where
    pub started : Started
    pub key : List ℕ
    pub took : Took name key (Some started) old.memory.scripts left
    pub bases : Named Base
    pub same : bases ≡ old.bases
    pub runs : Runs bases went.reply news
    pub walks : WalksOn started bases went news

stepped_acted : (name : List ℕ) (old : Clustered) (went : Walked) (left : Scripts) (news : Named Base)
    (scripts : Scripts) → (s : Stepped name old went left news) →
    scripts ≡ scripts_behind went.goes_on name s.started old.memory.scripts →
    IsActed (ToStep name) old went.reply (record (with_scripts scripts old) { bases = news })
stepped_acted name old went left news scripts s is =
    walk_acted name old went (record (with_scripts scripts old) { bases = news }) (record {
      started = s.started;
      found = took_found name s.key (Some s.started) old.memory.scripts left s.took;
      walks = subst (λ bs. WalksOn s.started bs went news) s.same s.walks;
      limit = refl;
      given = refl;
      scripts = is;
      switches = refl;
      held = refl;
    }) (subst (λ bs. Runs bs went.reply news) s.same s.runs)

-- the script ends
pub stops_acted : (name : List ℕ) (old : Clustered) (went : Walked) (left : Scripts) (news : Named Base) →
    Stepped name old went left news → went.goes_on ≡ false →
    IsActed (ToStep name) old went.reply (record (with_scripts left old) { bases = news })
stops_acted name old went left news s off =
    stepped_acted name old went left news left s
    (sym (took_map name s.key (Some s.started) old.memory.scripts left s.took)
    ∙ sym (ap (λ b. scripts_behind b name s.started old.memory.scripts) off))

-- or goes on behind the statement
pub goes_acted : (name : List ℕ) (old : Clustered) (went : Walked) (left : Scripts) (news : Named Base)
    (scripts : Scripts) → (s : Stepped name old went left news) → (went.goes_on ≡ true)
    × (scripts ≡ insert left name (record { script = s.started.script; done = s.started.done + 1 })) →
    IsActed (ToStep name) old went.reply (record (with_scripts scripts old) { bases = news })
goes_acted name old went left news scripts s (on, put) =
    stepped_acted name old went left news scripts s
    (put ∙ ap (λ m. insert m name (record { script = s.started.script; done = s.started.done + 1 }))
    (sym (took_map name s.key (Some s.started) old.memory.scripts left s.took))
    ∙ sym (ap (λ b. scripts_behind b name s.started old.memory.scripts) on))

-- this script was taken out, and its next statement run
pub record SteppedAs (started : Started) (name : List ℕ) (old : Clustered) (went : Walked) (left : Scripts)
    (news : Named Base) : Type 0 where
  pub stepped : Stepped name old went left news
  pub same : stepped.started ≡ started

-- what stands behind a statement of a script that was taken out
pub record PutBack (E : Type 0) (name : List ℕ) (started : Started) (left scripts : Scripts) : Type 0 where
  pub walked : Result Walked E
  pub reply : Reply
  pub is : IsPutBack name started left walked reply scripts

-- the script was put back where it goes on
pub put_acted : {E : Type 0} {name : List ℕ} {started : Started} {left scripts : Scripts} (old : Clustered)
    (news : Named Base) (p : PutBack E name started left scripts) → ((went : Walked) → p.walked ≡ Ok went →
    SteppedAs started name old went left news) →
    IsActed (ToStep name) old p.reply (record (with_scripts scripts old) { bases = news })
put_acted {E} {name} {started} {left} {scripts} old news p steps = by p.walked refl p.is
  where
    new : Scripts → Clustered
    new kept = record (with_scripts kept old) { bases = news }

    gone : (went : Walked) (s : Stepped name old went left news) → s.started ≡ started →
        (went.goes_on ≡ false → scripts ≡ left) × (went.goes_on ≡ true →
        scripts ≡ insert left name (record { script = started.script; done = started.done + 1 })) →
        IsActed (ToStep name) old went.reply (new scripts)
    gone went s same (stops, goes) =
        elim went.goes_on as (λ b. went.goes_on ≡ b → IsActed (ToStep name) old went.reply (new scripts)) [
          | true ↦ λ on. goes_acted name old went left news scripts s (
            on,
            goes on
                ∙ ap (λ (x : Started). insert left name (record { script = x.script; done = x.done + 1 })) (sym same),
          )
          | false ↦ λ off. subst (λ kept. IsActed (ToStep name) old went.reply (new kept)) (sym (stops off))
              (stops_acted name old went left news s off)
        ] refl

    by : (r : Result Walked E) → p.walked ≡ r → IsPutBack name started left r p.reply scripts →
        IsActed (ToStep name) old p.reply (new scripts)
    by (Ok went) at (told, stops, goes) =
        let s = steps went at in
        subst (λ reply. IsActed (ToStep name) old reply (new scripts)) (sym told)
        (gone went s.stepped s.same (stops, goes))
    by (Err short) at none = absurd none
