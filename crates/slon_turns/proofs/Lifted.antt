-- A poll at two databases of a session, as a turn on all of them.
use Rattle.std.proofs.Common.{◌≡◌, ◌∙◌, ℕ, ◌||◌, Bool, true, false, List, [], Some, None, Result}
use Rattle.std.proofs.Common.{refl}
use Rattle.std.proofs.Common.{sym, ap, subst}
use Rattle.std.specs.Str.{bytes_eq}
use Rattle.slon_base.specs.declared.fault.Halt.{Halt as HaltOf}
use Rattle.slon_model.specs.declared.reply.Refusal.{Refusal}
use Rattle.slon_model.specs.declared.reply.Refusal.TheVariants as refused
use Rattle.slon_model.specs.declared.reply.Reply.{Reply}
use Rattle.slon_model.specs.declared.reply.Reply.TheVariants.{Refused}
use Rattle.slon_model.specs.Names.{Named, find_named, put_named}
use Rattle.slon_model.specs.Place.{Place, is_running, fallen}
use Rattle.slon_model.specs.Sessions.{World, Stated}
use Rattle.slon_model.specs.Polls.{Poll, stated_of}
use Rattle.slon_model.specs.World.{broken_at, CanFail}
use Rattle.slon_model.proofs.Names.{bytes_itself, bytes_turned_false, put_other}
use Rattle.event_store.specs.declared.queue.Queue.{Queue}
use Rattle.app_store.specs.Base.{Base}
use Rattle.app_store.specs.Fits.{Fits}
use Rattle.node_store.specs.Joining.{Pair}
use Rattle.slonik_exec.specs.Databases.{FitsAll, Runs, told_by}
use Rattle.slonik_exec.specs.Executing.{Comes, Stands, Breaks}
use Rattle.slonik_exec.specs.Stored.{Couple}
use Rattle.slonik_exec.proofs.Couples.{TwoNamed, put_both, put_turned}
use Rattle.slonik_exec.proofs.Hearing.{put_itself}
use Rattle.slonik_exec.proofs.Lifting.{comes_at, runs_at}
use Rattle.slonik_exec.proofs.Lists.{fits_put}
use Rattle.slonik_exec.proofs.Trying.{runs_then, tries_at}
use Rattle.slon_turns.specs.Polling.{CanFall, Spot, GoesAt, Once, Never, ListensBetween, AtOwn, AtServer}
use Rattle.slon_turns.specs.Polling.{RunsBetween, OwnRuns, ServerRuns}

-- ---- over every store

-- one of the two is told of, and the other one did not fail
pub runs_between : (bases : Named Base) (c : Couple) (reply : Reply) (new : Pair) → TwoNamed bases c →
    RunsBetween c reply new → Runs bases reply (put_both c.names new bases)
runs_between bases c reply new two (OwnRuns answers still) =
    let mids = put_named c.names.to new.to bases in
    subst (Runs bases reply) (put_turned c.names.from c.names.to new.from new.to bases two.apart)
    (runs_then reply bases mids (put_named c.names.from new.from mids)
    (tries_at c.names.to None c.bases.to new.to bases two.to still)
    (runs_at mids (put_other c.names.from c.names.to new.to bases two.apart ∙ two.from) answers))
runs_between bases c reply new two (ServerRuns still answers) =
    let mids = put_named c.names.from new.from bases in
    runs_then reply bases mids (put_both c.names new bases)
    (tries_at c.names.from None c.bases.from new.from bases two.from still)
    (runs_at mids (put_other c.names.to c.names.from new.from bases
    (bytes_turned_false c.names.from c.names.to two.apart) ∙ two.to) answers)

-- so one of the two is told of
pub told_of_two : (c : Couple) (reply : Reply) (new : Pair) (name : List ℕ) (halt : HaltOf) → RunsBetween c reply new →
    told_by reply ≡ Some (name, halt) →
    (bytes_eq name c.names.from || bytes_eq name c.names.to) ≡ true
told_of_two c reply new name halt (OwnRuns answers still) told =
    ap (λ n. bytes_eq n c.names.from || bytes_eq n c.names.to) (answers.own name halt told)
    ∙ ap (λ b. b || bytes_eq c.names.from c.names.to) (bytes_itself c.names.from)
told_of_two c reply new name halt (ServerRuns still answers) told =
    ap (λ n. bytes_eq n c.names.from || bytes_eq n c.names.to) (answers.own name halt told)
    ∙ ap (λ b. bytes_eq c.names.to c.names.from || b) (bytes_itself c.names.to)
    ∙ or_true (bytes_eq c.names.to c.names.from)
  where
    or_true : (b : Bool) → (b || true) ≡ true
    or_true true = refl
    or_true false = refl

-- ---- by the rules

-- The places of both databases in a world that agrees; that of the node is up.
pub record Stage (w : World) (bases : Named Base) (c : Couple) (s : Spot) (q : Place) : Type 0 where
  pub fits : FitsAll w.places bases
  pub named : s.name ≡ c.names.from
  pub from : find_named c.names.from w.places ≡ Some s.place
  pub to : find_named c.names.to w.places ≡ Some q
  pub running : is_running s.place.standing ≡ true
  pub apart : bytes_eq c.names.from c.names.to ≡ false

-- a database is another one, and its place is as it was
same_place : (w : World) (name : List ℕ) (p : Place) (bases : Named Base) (new : Base) →
    find_named name w.places ≡ Some p → FitsAll w.places bases × Fits p new →
    FitsAll w.places (put_named name new bases)
same_place w name p bases new found (all, fits) =
    subst (λ ps. FitsAll ps (put_named name new bases)) (put_itself name p w.places found)
    (fits_put name p new w.places bases all fits)

pub goes_between : {w : World} {bases : Named Base} {c : Couple} {s : Spot} {q : Place} {due : Result Stated Refusal}
    {reply : Reply} (new : Pair) → Stage w bases c s q → GoesAt c.names.from s.place due reply new.from →
    Fits q new.to → Comes w due reply (put_both c.names new bases)
goes_between {w} {bases} {c} {s} {q} {due} {reply} new st goes still =
    subst (Comes w due reply) (put_turned c.names.from c.names.to new.from new.to bases st.apart) (by goes)
  where
    mids : Named Base
    mids = put_named c.names.to new.to bases

    fits : FitsAll w.places mids
    fits = same_place w c.names.to q bases new.to st.to (st.fits, still)

    by : GoesAt c.names.from s.place due reply new.from → Comes w due reply (put_named c.names.from new.from mids)
    by (Once comes) = comes_at (record { found = st.from; running = st.running; fits = fits }) comes
    by (Never answer is told same) =
        Stands (record { answer = answer; commits = [] }) is refl told
        (same_place w c.names.from s.place mids new.from st.from (fits, same))

-- the store of the second one failed
pub breaks_between : {w : World} {bases : Named Base} {c : Couple} {s : Spot} {q : Place} {due : Result Stated Refusal}
    {reply : Reply} (new : Pair) → Stage w bases c s q → (count : ℕ) →
    reply ≡ Refused (refused.Fault c.names.to count) → CanFall count q → Fits (fallen count q) new.to →
    Fits s.place new.from → Comes w due reply (put_both c.names new bases)
breaks_between {w} {bases} {c} {s} {q} new st count told can fell fits =
    let mids = put_named c.names.from new.from bases in
    Breaks c.names.to count told (subst (CanFail count) (sym st.to) can)
    (subst (λ o. FitsAll (broken_at c.names.to count o w).places (put_both c.names new bases)) (sym st.to)
    (fits_put c.names.to (fallen count q) new.to w.places mids
    (same_place w c.names.from s.place bases new.from st.from (st.fits, fits)) fell))

-- what the poll comes to at both is what it comes to
pub comes_between : {w : World} {bases : Named Base} {c : Couple} {s : Spot} {q : Place} (due : Result Poll Refusal)
    (reply : Reply) (new : Pair) (queue : Queue) → Stage w bases c s q →
    ListensBetween s (c.names.to, q) due reply new queue →
    Comes w (stated_of s.delivery due) reply (put_both c.names new bases)
comes_between {s = s} due reply new queue st (AtOwn listens still) =
    goes_between new st
    (subst (λ n. GoesAt n s.place (stated_of s.delivery due) reply new.from) st.named listens.goes) still
comes_between due reply new queue st (AtServer count told can fell fits waits) =
    breaks_between new st count told can fell fits
