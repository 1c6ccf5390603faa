-- CREATE SET and SET ADD TABLE at the node that they reached, on all databases.
use Rattle.std.proofs.Common.{◌≡◌, ◌∙◌, ℕ, ◌++◌, Bool, true, false, not, List, [], ◌∷◌, Option, Some, None, refl, sym}
use Rattle.std.proofs.Common.{ap, subst}
use Rattle.std.proofs.Common.{Result, Ok, Err, is_some}
use Rattle.std.specs.Prelude.{is_none, option_map}
use Rattle.std.specs.List.{list_any}
use Rattle.std.specs.Str.{bytes_eq}
use Rattle.node_rows.specs.declared.body.Body.TheVariants.{StoreSet}
use Rattle.slon_model.specs.declared.reply.Refusal.{Refusal}
use Rattle.slon_model.specs.declared.reply.Refusal.TheVariants as refused
use Rattle.slon_model.specs.declared.reply.Reply.{Reply}
use Rattle.slon_model.specs.declared.reply.Reply.TheVariants as replied
use Rattle.slon_model.specs.Names.{Named, find_named, put_named}
use Rattle.slon_model.specs.Maps.{entry_at}
use Rattle.slon_model.specs.Config.{is_origin, set_row}
use Rattle.slon_model.specs.Deeds.{knowledge}
use Rattle.slon_model.specs.Reaching.{reach, any_down, known_somewhere, emitting, origin_checks, receiver_with}
use Rattle.slon_model.specs.Sessions.{World, Running, Seat, Stated, bind, when, checked, first_refusal, unless_refused}
use Rattle.slon_model.specs.Sessions.{tells, seat, writer_of}
use Rattle.slon_model.specs.Sets as rules
use Rattle.node_state.proofs.Learning.{set_learns}
use Rattle.app_store.specs.Base.{Base}
use Rattle.slonik_exec.specs.declared.knowing.Heard.TheVariants.{Known}
use Rattle.slonik_exec.specs.declared.knowing.Question.TheVariants as asks
use Rattle.slonik_exec.specs.declared.sets.NewTable.{NewTable}
use Rattle.slonik_exec.specs.Databases.{AreReady, FitsAll}
use Rattle.slonik_exec.specs.Emitting.{Emits}
use Rattle.slonik_exec.specs.Executing.{Comes, Refuses, EndsIn, RefusedIn, BrokenIn}
use Rattle.slonik_exec.specs.Statements.{set_checks, new_checks, IsAddable, AddsTable}
use Rattle.slonik_exec.proofs.Lifting.{comes_at, still_all}
use Rattle.slonik_exec.proofs.Seating.{Called, ready_mids, ready_sat, sits_among}
use Rattle.slonik_exec.proofs.Sitting.{Asked, breaks_so, homes_at, unknown_at}
use Rattle.slonik_exec.proofs.Works.{Checked, ends_more, ends_due, passed_due, first_more, first_told}

-- ---- CREATE SET

-- what it says, and what is checked before
abbrev pub SetSays : ℕ → ℕ → List ℕ → Seat → Stated
SetSays id origin comment s = emitting s (tells (StoreSet id origin comment) ∷ [])

abbrev pub set_known : ℕ → World → Bool
set_known id w = known_somewhere (λ c. is_some (entry_at id c.sets)) w

abbrev pub SetDoes : ℕ → ℕ → List ℕ → Running → World → Seat → Result Stated Refusal
SetDoes id origin comment run w s =
    checked (any_down w ∷ when (set_known id w) (refused.IdUsed id) ∷ []) (SetSays id origin comment s)

-- no node of a world that agrees is down
abbrev pub AreAwake : Named Base → Type 0
AreAwake bases = (w : World) → FitsAll w.places bases → any_down w ≡ None

-- a node is down
pub set_down : {name : List ℕ} {origin : ℕ} {run : Running} {w : World} {bases : Named Base} (id : ℕ)
    (comment : List ℕ) (refusal : Refusal) (call : Called name origin run w bases) → any_down w ≡ Some refusal →
    Comes w (SetDoes id origin comment run w (seat name call.sits.place call.sits.node)) (replied.Refused refusal) bases
set_down {name} {origin} {w = w} id comment refusal call down =
    Refuses refusal (ap (λ o. checked (o ∷ when (set_known id w) (refused.IdUsed id) ∷ [])
    (SetSays id origin comment (seat name call.sits.place call.sits.node))) down) refl call.ready.fits

-- a set of the id is known
pub set_used : {name : List ℕ} {origin : ℕ} {run : Running} {w : World} {olds mids : Named Base} (id : ℕ)
    (comment : List ℕ) (call : Called name origin run w olds) → AreAwake olds →
    Asked (asks.Set id) olds (Known true) mids →
    Comes w (SetDoes id origin comment run w (seat name call.sits.place call.sits.node))
    (replied.Refused (refused.IdUsed id)) mids
set_used {name} {origin} {w = w} id comment call awake asked =
    let says = SetSays id origin comment (seat name call.sits.place call.sits.node) in
    let down = awake w call.ready.fits in
    let heard = asked.hears w call.ready down in
    Refuses (refused.IdUsed id) (ap (λ o. checked (o ∷ when (set_known id w) (refused.IdUsed id) ∷ []) says) down
    ∙ ap (λ b. checked (when b (refused.IdUsed id) ∷ []) says) (sym heard.0)) refl heard.1

-- it is emitted
pub set_made : {name : List ℕ} {origin : ℕ} {run : Running} {w : World} {olds mids : Named Base} {base new : Base}
    {reply : Reply} (id : ℕ) (comment : List ℕ) (call : Called name origin run w olds) → AreAwake olds →
    Asked (asks.Set id) olds (Known false) mids → find_named name mids ≡ Some base →
    Emits name (StoreSet id origin comment) base reply new →
    Comes w (SetDoes id origin comment run w (seat name call.sits.place call.sits.node)) reply
    (put_named name new mids)
set_made {name} {origin} {w = w} {mids = mids} {base} id comment call awake asked found emits =
    let sits = call.sits in
    let p = sits.place in
    let n = sits.node in
    let down = awake w call.ready.fits in
    let heard = asked.hears w call.ready down in
    let ready = ready_sat mids sits (ready_mids call.ready heard.1) found in
    let free = unknown_at (λ k. is_some (entry_at id k.sets)) name p n w sits.found sits.is (sym heard.0) in
    let none = ap (λ o. first_refusal (o ∷ when (set_known id w) (refused.IdUsed id) ∷ [])) down
    ∙ ap (λ b. first_refusal (when b (refused.IdUsed id) ∷ [])) (sym heard.0) in
    comes_at (sits_among mids sits heard.1)
    (passed_due (any_down w ∷ when (set_known id w) (refused.IdUsed id) ∷ [])
    (SetSays id origin comment (seat name p n)) none
    (emits p n [] ready sits.is (set_learns n _ refl (record {
      free = free;
      homes = homes_at p n base ready sits.is;
    }))))

-- ---- SET ADD TABLE

-- a table of a call, as the rules name it
abbrev pub table_as : NewTable → rules.NewTable
table_as t = record { set_id = t.set_id; id = t.id; name = t.name.now; comment = t.comment.now }

abbrev pub TableSays : rules.NewTable → Seat → Stated
TableSays t s = emitting s (rules.adding s t ∷ [])

abbrev pub busy_with : rules.NewTable → Seat → Option Refusal
busy_with t s = option_map refused.Busy (writer_of (t.name ∷ []) s.place)

-- what is checked behind the checks at the origin
abbrev pub later_checks : rules.NewTable → World → Seat → List (Option Refusal)
later_checks t w s = any_down w ∷ (new_checks t.id t.name w ++ busy_with t s ∷ [])

abbrev pub TableDoes : rules.NewTable → Running → World → Seat → Result Stated Refusal
TableDoes t run w s = checked (set_checks t.set_id t.name s ++ later_checks t w s) (TableSays t s)

-- checks one after the other are one list of checks
joined : (xs : List (Option Refusal)) (ys : Seat → List (Option Refusal)) (stated : Seat → Stated) (s : Seat) →
    bind (checked xs s) (λ t. checked (ys t) (stated t)) ≡ checked (xs ++ ys s) (stated s)
joined [] ys stated s = refl
joined (None ∷ xs) ys stated s = joined xs ys stated s
joined (Some refusal ∷ xs) ys stated s = refl

-- the rules say so
pub table_due : (origin : ℕ) (t : rules.NewTable) (run : Running) (w : World) →
    rules.set_add_table origin t run w ≡ bind (reach run origin w) (TableDoes t run w)
table_due origin t run w = by (reach run origin w)
  where
    more : Seat → List (Option Refusal)
    more s =
        option_map refused.HasReceivers (receiver_with (λ e. true) t.set_id s.known.config)
        ∷ when (is_none (find_named t.name s.place.tables)) (refused.NoTable t.name) ∷ later_checks t w s

    by : (r : Result Seat Refusal) →
        bind (bind r (λ s. checked (origin_checks s t.set_id) s)) (λ s. checked (more s) (TableSays t s))
        ≡ bind r (TableDoes t run w)
    by (Ok s) = joined (origin_checks s t.set_id) more (TableSays t) s
    by (Err refusal) = refl

-- a check at the origin ended it
pub table_ended : {name : List ℕ} {origin : ℕ} {run : Running} {w : World} {olds : Named Base} {base new : Base}
    {reply : Reply} (t : rules.NewTable) (call : Called name origin run w olds) → find_named name olds ≡ Some base →
    Checked name (set_checks t.set_id t.name) base (Some reply) new →
    Comes w (TableDoes t run w (seat name call.sits.place call.sits.node)) reply (put_named name new olds)
table_ended {name} {w = w} {olds} t call found first =
    let sits = call.sits in
    let s = seat name sits.place sits.node in
    let ready = ready_sat olds sits call.ready found in
    let xs = set_checks t.set_id t.name s in
    comes_at (sits_among olds sits call.ready.fits) (ends_due (xs ++ later_checks t w s) (TableSays t s)
    (ends_more xs (later_checks t w s) (first.refuses sits.place sits.node ready sits.is)))

-- It goes on behind these checks: the databases now, of which one was asked.
pub record Passed (name : List ℕ) (t : rules.NewTable) (olds mids : Named Base) : Type 0 where
  pub base : Base
  pub new : Base
  pub found : find_named name olds ≡ Some base
  pub first : Checked name (set_checks t.set_id t.name) base None new
  pub put : put_named name new olds ≡ mids

-- what they found
pub record Origin (t : rules.NewTable) (w : World) (s : Seat) (mids : Named Base) : Type 0 where
  pub none : first_refusal (set_checks t.set_id t.name s) ≡ None
  pub fits : FitsAll w.places mids

pub passed_at : {name : List ℕ} {origin : ℕ} {run : Running} {w : World} {olds mids : Named Base}
    (t : rules.NewTable) (call : Called name origin run w olds) → Passed name t olds mids →
    Origin t w (seat name call.sits.place call.sits.node) mids
passed_at {w = w} {olds} t call passed =
    let sits = call.sits in
    let at = passed.first.refuses sits.place sits.node (ready_sat olds sits call.ready passed.found) sits.is in
    record {
      none = at.0;
      fits = subst (FitsAll w.places) passed.put (still_all (sits_among olds sits call.ready.fits) at.1);
    }

-- what is due behind checks that found nothing
due_later : (t : rules.NewTable) (run : Running) (w : World) (s : Seat) →
    first_refusal (set_checks t.set_id t.name s) ≡ None →
    TableDoes t run w s ≡ checked (later_checks t w s) (TableSays t s)
due_later t run w s none =
    ap (λ o. unless_refused o (TableSays t s)) (first_more (set_checks t.set_id t.name s) (later_checks t w s) none)

due_last : (t : rules.NewTable) (run : Running) (w : World) (s : Seat) →
    first_refusal (set_checks t.set_id t.name s) ≡ None → any_down w ≡ None →
    TableDoes t run w s ≡ checked (new_checks t.id t.name w ++ busy_with t s ∷ []) (TableSays t s)
due_last t run w s none down =
    due_later t run w s none
    ∙ ap (λ o. checked (o ∷ (new_checks t.id t.name w ++ busy_with t s ∷ [])) (TableSays t s)) down

-- a node is down
pub table_down : {name : List ℕ} {origin : ℕ} {run : Running} {w : World} {olds mids : Named Base} (t : rules.NewTable)
    (refusal : Refusal) (call : Called name origin run w olds) → Passed name t olds mids →
    ((v : World) → FitsAll v.places mids → any_down v ≡ Some refusal) →
    Comes w (TableDoes t run w (seat name call.sits.place call.sits.node)) (replied.Refused refusal) mids
table_down {name} {run = run} {w} t refusal call passed due =
    let s = seat name call.sits.place call.sits.node in
    let origin = passed_at t call passed in
    Refuses refusal (due_later t run w s origin.none
    ∙ ap (λ o. checked (o ∷ (new_checks t.id t.name w ++ busy_with t s ∷ [])) (TableSays t s)) (due w origin.fits))
    refl origin.fits

-- a check at all nodes ended it
known_ends : {w : World} {reply : Reply} {news : Named Base} (t : rules.NewTable) (run : Running) (s : Seat) →
    TableDoes t run w s ≡ checked (new_checks t.id t.name w ++ busy_with t s ∷ []) (TableSays t s) →
    EndsIn w (new_checks t.id t.name w) reply news → Comes w (TableDoes t run w s) reply news
known_ends {w} t run s due (RefusedIn refusal first is fits) =
    Refuses refusal (due ∙ ap (λ o. unless_refused o (TableSays t s))
    (first_told (new_checks t.id t.name w) (busy_with t s ∷ []) refusal first)) is fits
known_ends t run s due (BrokenIn broken) = breaks_so broken

pub table_used : {name : List ℕ} {origin : ℕ} {run : Running} {w : World} {olds mids news : Named Base}
    {reply : Reply} (t : rules.NewTable) (call : Called name origin run w olds) → Passed name t olds mids →
    AreAwake mids → (AreReady w mids → any_down w ≡ None → EndsIn w (new_checks t.id t.name w) reply news) →
    Comes w (TableDoes t run w (seat name call.sits.place call.sits.node)) reply news
table_used {name} {run = run} {w} t call passed awake ends =
    let s = seat name call.sits.place call.sits.node in
    let origin = passed_at t call passed in
    let down = awake w origin.fits in
    known_ends t run s (due_last t run w s origin.none down) (ends (ready_mids call.ready origin.fits) down)

-- ---- the table comes into the set

-- of two tests that refuse nothing neither holds
none_of : (a b : Bool) (one two : Refusal) (more : List (Option Refusal)) →
    first_refusal (when a one ∷ when b two ∷ more) ≡ None → (a ≡ false) × (b ≡ false)
none_of true b one two more none = absurd cc
none_of false true one two more none = absurd cc
none_of false false one two more none = (refl, refl)

of_not : (b : Bool) → not b ≡ false → b ≡ true
of_not true is = refl
of_not false is = absurd cc

addable_at : {name : List ℕ} {origin : ℕ} {run : Running} {w : World} {olds : Named Base} (t : rules.NewTable)
    (call : Called name origin run w olds) →
    first_refusal (set_checks t.set_id t.name (seat name call.sits.place call.sits.node)) ≡ None →
    first_refusal (new_checks t.id t.name w) ≡ None → IsAddable call.sits.node t
addable_at {name} {w = w} t call none_here none_there =
    let sits = call.sits in
    let p = sits.place in
    let n = sits.node in
    let here = none_of (is_none (set_row t.set_id (knowledge n).config))
    (not (is_origin n.id t.set_id (knowledge n).config)) (refused.NoSet t.set_id) (refused.NotOrigin t.set_id)
    _ none_here in
    let there = none_of _ _ (refused.IdUsed t.id) (refused.TableUsed t.name) [] none_there in
    record {
      live = here.0;
      leads = of_not (is_origin n.id t.set_id (knowledge n).config) here.1;
      fresh = unknown_at (λ k. is_some (entry_at t.id k.tables)) name p n w sits.found sits.is there.0;
      free = unknown_at (λ k. list_any (λ e. bytes_eq t.name e.1.name) k.tables) name p n w sits.found sits.is there.1;
    }

-- All nodes were asked, and the database of the origin is this one now.
pub record Awaits (name : List ℕ) (t : rules.NewTable) (w : World) (mids news : Named Base) (base : Base) :
    Type 0 where
  pub awake : AreAwake mids
  pub known : AreReady w mids → any_down w ≡ None →
      (first_refusal (new_checks t.id t.name w) ≡ None) × FitsAll w.places news
  pub found : find_named name news ≡ Some base

pub table_made : {name : List ℕ} {origin : ℕ} {run : Running} {w : World} {olds mids news : Named Base}
    {base new : Base} {reply : Reply} (t : rules.NewTable) (call : Called name origin run w olds) →
    Passed name t olds mids → Awaits name t w mids news base → AddsTable name t base reply new →
    Comes w (TableDoes t run w (seat name call.sits.place call.sits.node)) reply (put_named name new news)
table_made {name} {run = run} {w} {news = news} {base} {new} {reply} t call passed waits adds =
    let sits = call.sits in
    let s = seat name sits.place sits.node in
    let origin = passed_at t call passed in
    let down = waits.awake w origin.fits in
    let there = waits.known (ready_mids call.ready origin.fits) down in
    let ready = ready_sat news sits (ready_mids call.ready there.1) waits.found in
    let comes = adds sits.place sits.node ready sits.is (addable_at t call origin.none there.0) in
    subst (λ due. Comes w due reply (put_named name new news))
    (sym (due_last t run w s origin.none down
    ∙ ap (λ o. unless_refused o (TableSays t s)) (first_more (new_checks t.id t.name w) (busy_with t s ∷ []) there.0)))
    (comes_at (sits_among news sits there.1) comes)
